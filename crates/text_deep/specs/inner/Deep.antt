-- A unit in open brackets, without its tree: where the outermost bracket ends, and what a reader keeps to find that.
use Rattle.std.specs.Prelude.{◌≡◌, List, [], ◌∷◌, Bool, true, false, ℕ, zero, suc, ◌+◌, ◌<◌, ◌≤◌, eqb, length, get_or, MatchOption}
use Rattle.std.specs.Prelude as std
use Rattle.std.proofs.Math.Option.{Option, none, some}
use Rattle.logic.specs.Formula.{isin}
use Rattle.text_tree.specs.Tree.{leaf_of}
use Rattle.text_tokens.specs.Tokens.{pick}
use Rattle.text_grammar.specs.Grammar.{unit, conjunction, disjunction, formula}
use Rattle.text_grammar.specs.Parser.{Part, missing, found, join_sign, joined, closed}
use Rattle.text_grammar.specs.inner.Contract.{part_at}
use Rattle.text_deep.specs.declared.Passing.{Passing}

-- Where a part ends: it without its tree.
abbrev pub end_of : Part → Option ℕ
end_of missing = none
end_of (found a i) = some i

-- A unit with the units that `&` joins to it, a conjunction with the conjunctions that `|` joins to it.
abbrev pub conjoined : List ℕ → Part → Part
conjoined s p = joined s (join_sign conjunction) (part_at conjunction s) p

abbrev pub disjoined : List ℕ → Part → Part
disjoined s p = joined s (join_sign disjunction) (part_at disjunction s) p

-- A disjunction with the one that an arrow joins to it, where the mark b of its formula says that no arrow was met.
abbrev pub arrowed : List ℕ → ℕ → Part → Part
arrowed s b p = pick (eqb b 0) (joined s (join_sign formula) (part_at disjunction s) p) p

-- The bracket of mark b whose formula goes on with the disjunction p, or with the unit p.
abbrev pub closing : List ℕ → ℕ → Part → Part
closing s b p = closed s (arrowed s b p)

abbrev pub bracket : List ℕ → ℕ → Part → Part
bracket s b p = closing s b (disjoined s (conjoined s p))

-- The outermost of the open brackets around the unit p, by their marks, the innermost first.
unfoldable pub outward : List ℕ → List ℕ → Part → Part
outward s [] p = p
outward s (b ∷ bs) p = outward s bs (bracket s b p)

-- The marks of k open brackets behind the first n numbers of a table, the innermost first: 0 until an arrow was met.
unfoldable pub marks : List ℕ → ℕ → ℕ → List ℕ
marks t n zero = []
marks t n (suc k) = get_or t (n + k) 0 ∷ marks t n k

-- The unit at position i: it is due there, or it has ended there, whatever its tree.
abbrev pub unit_at : List ℕ → Bool → ℕ → Part
unit_at s true i = part_at unit s i
unit_at s false i = found (leaf_of (isin 0 0)) i

-- Where the outermost bracket ends, or the unit itself where none is open.
abbrev pub end_from : List ℕ → List ℕ → Bool → ℕ → Option ℕ
end_from s bs due i = end_of (outward s bs (unit_at s due i))

-- One token or literal is passed, from p to r: the end stays what it was. A bracket more costs a byte at least, so there is room
-- for its mark.
pub record Onward (s before after : List ℕ) (n : ℕ) (p r : Passing) : Type 0 where
  pub onward : p.next < r.next
  pub within : r.next ≤ length s
  pub few : r.brackets + p.next ≤ p.brackets + r.next
  pub kept : (i : ℕ) → i < n → get_or after i 0 ≡ get_or before i 0
  pub same : end_from s (marks before n p.brackets) p.due p.next ≡ end_from s (marks after n r.brackets) r.due r.next

-- What a step ensures: it refuses where no bracket that is open ends.
abbrev pub Step : List ℕ → List ℕ → List ℕ → ℕ → Passing → std.Option Passing → Type 0
Step s before after n p r = MatchOption r (end_from s (marks before n p.brackets) p.due p.next ≡ none) (λ q. Onward s before after n p q)
