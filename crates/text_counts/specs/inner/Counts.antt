-- How many nodes and cells the core of a part has, without making it: grounds 8 and 9 of paper 01. Internal to the crate: the
-- public calls promise the node count and the cell total of the core itself.
use Rattle.std.specs.Prelude.{◌≡◌, Bool, true, false, not, List, ℕ, ◌+◌, ◌*◌, ◌≤◌, min}
use Rattle.logic.specs.Formula.{node_count}
use Rattle.logic.specs.Cells.{cell_count}
use Rattle.text_tree.specs.Tree.{Join, Tree, leaf, neg, par, bind, join}
use Rattle.text_tree.specs.inner.Stored.{Stored, join_operator}
use Rattle.text_counts.specs.declared.Totals.{Totals}
use Rattle.text_counts.specs.declared.Total.{Total}
use Rattle.text_core.specs.Core.{Above, alone, inside, join_with, core_of}

-- The cells of a part of the core for each cell of its depth, by what stands above it; with one port, its nodes.
abbrev pub PartTotal : Type 0
PartTotal = Above → ℕ

-- A joint inside its like is merged.
unfoldable pub joint_total : Bool → PartTotal
joint_total j alone = 1
joint_total true (inside true) = 0
joint_total false (inside true) = 1
joint_total true (inside false) = 1
joint_total false (inside false) = 0

-- An "and" of two parts, or their "or".
unfoldable pub two_total : Bool → PartTotal → PartTotal → PartTotal
two_total j f g above = joint_total j above + f (inside j) + g (inside j)

-- A part of the text, or its negation where p is false; a quantifier has u cells below each of its own.
unfoldable pub part_total : ℕ → Bool → Tree → PartTotal
part_total u p (leaf l) above = 1
part_total u p (neg a) above = part_total u (not p) a above
part_total u p (par a) above = part_total u p a above
part_total u p (bind q v a) above = 1 + u * part_total u p a alone
part_total u p (join j a b) above = join_with two_total j p (λ i. part_total u i a) (λ i. part_total u i b) above

-- Totals up to a limit: of one polarity, and of both.
pub record Held (limit : ℕ) (w : PartTotal) (h : Total) : Type 0 where
  pub is-alone : h.alone ≡ min limit (w alone)
  pub is-and : h.and ≡ min limit (w (inside true))
  pub is-or : h.or ≡ min limit (w (inside false))

unfoldable pub total_at : Totals → Bool → Total
total_at w true = w.plus
total_at w false = w.minus

unfoldable pub HeldBoth : ℕ → (Bool → PartTotal) → Totals → Type 0
HeldBoth limit w r = (i : Bool) → Held limit (w i) (total_at r i)

-- u is 1 to 64, so that a limit's multiple fits 32 bits.
pub record Scale (u limit : ℕ) : Type 0 where
  pub low : 1 ≤ u
  pub high : u ≤ 64
  pub limited : limit ≤ 1048577

-- Whatever the totals of two parts are, these are the totals of their "and" or "or", and of the two joined by an operator.
unfoldable pub PairHeld : ℕ → Bool → Total → Total → Total → Type 0
PairHeld limit j f g r = (w x : PartTotal) → Held limit w f → Held limit x g → Held limit (two_total j w x) r

unfoldable pub JoinHeld : ℕ → ℕ → Bool → Totals → Totals → Total → Type 0
JoinHeld limit operator p a b r =
    (j : Join) → operator ≡ join_operator j → (w x : Bool → PartTotal) → HeldBoth limit w a → HeldBoth limit x b → Held limit (join_with two_total j p w x) r

unfoldable pub BothJoined : ℕ → ℕ → Totals → Totals → Totals → Type 0
BothJoined limit operator a b r = (i : Bool) → JoinHeld limit operator i a b (total_at r i)

-- One more than u times a total w, of which x is known.
unfoldable pub Scaled : ℕ → ℕ → ℕ → ℕ → Type 0
Scaled limit u x r = (w : ℕ) → x ≡ min limit w → r ≡ min limit (1 + u * w)

unfoldable pub Quantified : ℕ → ℕ → Totals → Totals → Type 0
Quantified limit u b r = (w : Bool → PartTotal) → HeldBoth limit w b → HeldBoth limit (λ i above. 1 + u * w i alone) r

-- The totals of the tree whose records end at place e.
unfoldable pub HasTotals : List ℕ → ℕ → ℕ → ℕ → Totals → Type 0
HasTotals t e u limit r = (a : Tree) → Stored t e a → HeldBoth limit (λ i. part_total u i a) r

-- Ground 8 is "core over 512 nodes", ground 9 "too many cells", which is more than 1,048,576.
unfoldable pub CountsNodes : List ℕ → ℕ → ℕ → Type 0
CountsNodes t e r = (sets : List ℕ) (a : Tree) → Stored t e a → r ≡ min 513 (node_count (core_of sets a))

unfoldable pub CountsCells : List ℕ → ℕ → ℕ → ℕ → Type 0
CountsCells t e u r = (sets : List ℕ) (a : Tree) → Stored t e a → r ≡ min 1048577 (cell_count u (core_of sets a) 0)
