-- The loop of the reader of a deep unit, and what it ends with. Assumes nothing.
use mathlib.Core.Path.{◌≡◌, refl, sym, ap, ◌∙◌}
use mathlib.Core.List.{List}
use mathlib.Core.Bool.{true, false, ◌||◌}
use mathlib.Core.Option.{none, some}
use Prim.Native.Nat.{ℕ, suc, ◌+◌, ◌≤◌, ◌<◌}
use native.Mathlib.Omega.{arith}
use lib.Dec.{ltb}
use lib.ListN.{length, get_or}
use borrow.Author.Tests.{lt-ltb, ltb-false}
use Rattle.logic.proofs.Lists.{or_left, or_right, or-true-left}
use Rattle.text_tree.specs.Tree.{Tree, leaf, neg, par, bind, join, too_deep}
use Rattle.std.specs.Prelude.{Some, None}
use Rattle.text_grammar.specs.Grammar.{unit}
use Rattle.text_grammar.specs.Parser.{Part, missing, found}
use Rattle.text_grammar.specs.inner.Contract.{ReaderRoom, Reads, part_at}
use Rattle.text_grammar.proofs.Readers.{clash}
use Rattle.text_grammar.proofs.Calls.{every}
use Rattle.text_deep.specs.declared.Passing.{Passing}
use Rattle.text_deep.specs.inner.Deep.{end_of, outward, marks, end_from, Step}

-- a tree with more than 64 around it is too deep
too-deep : (d : ℕ) (a : Tree) → 64 < d → too_deep d a ≡ true
unfolding too_deep
too-deep d (leaf l) h = lt-ltb 64 d h
too-deep d (neg a) h = too-deep (suc d) a (omega arith)
too-deep d (par a) h = too-deep (suc d) a (omega arith)
too-deep d (bind q v a) h = too-deep (suc d) a (omega arith)
too-deep d (join j a b) h = or-true-left _ _ (too-deep d a h)

-- a part by its end
no_end : (p : Part) → end_of p ≡ none → p ≡ missing
no_end missing e = refl
no_end (found a i) e = let z : ◌≡◌ {A = ℕ} 0 1 = cc in absurd (omega arith)

an-end : (p : Part) (j : ℕ) → end_of p ≡ some j → (a : Tree) × (p ≡ found a j)
an-end missing j e = let z : ◌≡◌ {A = ℕ} 0 1 = cc in absurd (omega arith)
an-end (found a i) j e = (a, ap (found a) (cc))

-- what holds at the loop's test: the end of the unit at `at` is what the reader still comes to
pub record Along (s before t : List ℕ) (at n : ℕ) (p : Passing) : Type 0 where
  pub within : p.next ≤ length s
  pub few : p.brackets + at ≤ p.next
  pub past : p.due ≡ false → at < p.next
  pub kept : (i : ℕ) → i < n → get_or t i 0 ≡ get_or before i 0
  pub long : length t ≡ length before
  pub same : end_from s (marks t n p.brackets) p.due p.next ≡ end_of (part_at unit s at)

module _ (s before : List ℕ) (at n d : ℕ) (room : ReaderRoom s before at n d) where
  pub along-start : Along s before before at n (record { due = true; next = at; brackets = 0 })
  unfolding marks outward
  along-start = record { within = room.within; few = omega arith; past = λ y. clash true refl y; kept = λ i l. refl; long = refl; same = refl }

  module _ (t : List ℕ) (p : Passing) (A : Along s before t at n p) where
    pub along-refused : Step s t t n p None → Reads unit s before before at n d None
    along-refused z f h = every s unit at room.within f h ∙ no_end (part_at unit s at) (sym A.same ∙ z)

    pub along-end : 64 < d → (p.due || ltb 0 p.brackets) ≡ false → Reads unit s before t at n d (Some (record { deep = true; next = p.next; count = n }))
    unfolding marks outward
    along-end deep z f h =
        let ended : p.due ≡ false = or_left p.due (ltb 0 p.brackets) z in
        let none_left : p.brackets ≡ 0 = omega (arith, ltb-false 0 p.brackets (or_right p.due (ltb 0 p.brackets) z)) in
        let place : end_from s (marks t n p.brackets) p.due p.next ≡ some p.next =
        (λ i. end_from s (marks t n (none_left i)) (ended i) p.next) in
        let w = an-end (part_at unit s at) p.next (sym A.same ∙ place) in
        record {
          tree = w.0;
          is = every s unit at room.within f h ∙ w.1;
          stored = λ y. clash true refl y;
          deeper = sym (too-deep d w.0 deep);
          kept = A.kept;
          count = omega arith;
          onward = A.past ended;
          within = A.within;
          short = omega (arith, A.past ended);
        }
