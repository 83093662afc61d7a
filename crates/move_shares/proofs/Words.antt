-- Some sets that change: what they flip, their sizes after, and their words, as the sums for all ports ask it. Assumes nothing.
use mathlib.Core.Path.{◌≡◌, refl, sym, ap, ◌∙◌}
use mathlib.Core.Logic.{◌≢◌}
use mathlib.Core.Bool.{Bool, true, false, cond, not, ◌&&◌, ◌||◌, true≢false, false≢true}
use mathlib.Core.List.{List, [], ◌∷◌}
use Prim.Native.Nat.{ℕ, ◌+◌, ◌*◌, ◌<◌, ◌≤◌}
use native.Mathlib.Omega.{arith}
use lib.Bits.{bit_or}
use lib.Dec.{eqb}
use lib.ListN.{get_or}
use borrow.Author.Tests.{eqb-true, ne_eqb}
use Rattle.logic.specs.Configuration.{Sets, in_mask, in_masks}
use Rattle.logic.specs.Moves.{flip, flips}
use Rattle.logic.specs.Change.{some_of}
use Rattle.logic.specs.inner.Agreement.{listed}
use Rattle.logic.proofs.Lists.{or-false}
use Rattle.cells_touch.specs.inner.Hits.{variable_bits, size_bit, change_at}
use Rattle.cells_touch.proofs.Bits.{in-or}
use Rattle.cells_touch.proofs.Telling.{says_at}
use Rattle.cells_atoms.specs.inner.Ports.{at_one}
use Rattle.cells_flip.specs.inner.Flips.{Flipped}
use Rattle.cells_ports.specs.inner.Ports.{Words, Resizes, FlipsAt}
use Rattle.move_shares.specs.inner.Shares.{Outcome, changing, sized_as, pairs_of, resizing, flipping, resized_to, flipped_to}

-- No set is named twice, and each outcome is one of the three.
unfoldable pub Proper : List Outcome → Type 0
Proper [] = Unit {0}
Proper (z ∷ zs) = (z.1 ≤ 2) × (changing zs z.0 ≡ false) × Proper zs

pub proper-one : (s j : ℕ) → j ≤ 2 → Proper ((s, j) ∷ [])
unfolding Proper changing some_of
proper-one s j h = (h, refl, tt)

pub proper-two : (s j t l : ℕ) → s ≢ t → j ≤ 2 → l ≤ 2 → Proper ((s, j) ∷ (t, l) ∷ [])
unfolding Proper changing some_of
proper-two s j t l n h i = (h, or-false (eqb s t) false (ne_eqb s t n) refl, (i, refl, tt))

-- the pairs are those of the sets at x
listed_of : (zs : List Outcome) (x S p : ℕ) → listed (pairs_of zs x) S p ≡ (changing zs S && eqb p x)
unfolding listed pairs_of changing some_of
listed_of [] x S p = refl
listed_of (z ∷ zs) x S p = ap (λ (a : Bool). (eqb S z.0 && eqb p x) || a) (listed_of zs x S p) ∙ apart (eqb S z.0) (changing zs S) (eqb p x)
  where
    apart : (a b c : Bool) → ((a && c) || (b && c)) ≡ ((a || b) && c)
    apart true b true = refl
    apart true true false = refl
    apart true false false = refl
    apart false b c = refl

-- and these are flipped, each once
pub flips-are : (zs : List Outcome) (x : ℕ) → Proper zs → (k : Sets) (S p : ℕ)
    → flips (pairs_of zs x) k S p ≡ cond (changing zs S && eqb p x) (not (k S p)) (k S p)
unfolding flips flip pairs_of changing some_of Proper
flips-are [] x h k S p = refl
flips-are (z ∷ zs) x h k S p =
    flips-are zs x h.2 (flip (z.0, x) k) S p
    ∙ once (eqb S z.0) (changing zs S) (eqb p x) (k S p) (λ e. ap (changing zs) (eqb-true S z.0 e) ∙ h.1)
  where
    once : (a b c y : Bool) → (a ≡ true → b ≡ false)
        → cond (b && c) (not (cond (a && c) (not y) y)) (cond (a && c) (not y) y) ≡ cond ((a || b) && c) (not y) y
    once true true c y i = absurd (true≢false (i refl))
    once true false true y i = refl
    once true false false y i = refl
    once false true c y i = refl
    once false false c y i = refl

-- no size grows by more than one
pub sized-low : (sizes : List ℕ) (zs : List Outcome) → Proper zs → (S : ℕ) → get_or sizes S 0 ≤ 64 → sized_as sizes zs S ≤ 65
unfolding sized_as Proper
sized-low sizes [] h S l = omega arith
sized-low sizes (z ∷ zs) h S l = either (eqb S z.0) _ _ (omega (arith, h.0)) (sized-low sizes zs h.2 S l)
  where
    either : (a : Bool) (x y : ℕ) → x ≤ 65 → y ≤ 65 → cond a x y ≤ 65
    either true x y i j = i
    either false x y i j = j

-- The changes by their sets.
pub resizes-so : (zs : List Outcome) → Resizes (changing zs) (resizing zs)
unfolding Resizes resizing listed some_of
resizes-so zs = record { listed-are = λ S p. refl; resized-are = λ S. refl }

pub flips-so : (zs : List Outcome) (x : ℕ) → FlipsAt (changing zs) (changing zs) x (flipping zs x)
unfolding FlipsAt flipping at_one
flips-so zs x = record { listed-are = λ S p. listed_of zs x S p; resized-are = λ S. refl }

-- What is asked of the configurations, where a list has the sizes after of the sets that a tree uses.
module _ (used : ℕ) (own sizes asked : List ℕ) (zs : List Outcome) (proper : Proper zs) (few : (S : ℕ) → get_or sizes S 0 ≤ 64)
    (asked-are : (S : ℕ) → S < 16 → in_mask used (4 * S + 3) ≡ true → changing zs S ≡ true → get_or asked S 0 ≡ sized_as sizes zs S) where
  pub resized-flipped : Flipped used own asked (resizing zs) (resized_to own sizes zs)
  unfolding resizing resized_to listed some_of
  resized-flipped = record {
    members = λ S p h. absurd (false≢true h);
    sizes-are = λ S l i h. sym (asked-are S l i h);
    low = λ S. sized-low sizes zs proper S (few S);
  }

  pub flipped-flipped : (x : ℕ) → Flipped used own asked (flipping zs x) (flipped_to own sizes zs x)
  unfolding flipping flipped_to
  flipped-flipped x = record {
    members = λ S p h. flips-are zs x proper (in_masks own) S p
        ∙ ap (λ (a : Bool). cond a (not (in_masks own S p)) (in_masks own S p)) (sym (listed_of zs x S p) ∙ h);
    sizes-are = λ S l i h. sym (asked-are S l i h);
    low = λ S. sized-low sizes zs proper S (few S);
  }

-- The words of two sets, and of one.
pub words-two : (s j t l : ℕ) → Words (changing ((s, j) ∷ (t, l) ∷ [])) (changing ((s, j) ∷ (t, l) ∷ [])) (bit_or (variable_bits s) (variable_bits t)) (bit_or (size_bit s) (size_bit t))
unfolding changing some_of flipping change_at
words-two s j t l =
    let zs : List Outcome = (s, j) ∷ (t, l) ∷ [] in
    let told = says_at 1 s t 0 0 (flipping zs 0) record {
      p-below = omega arith;
      q-below = omega arith;
      pairs-are = λ S x. listed_of zs 0 S x ∙ both (eqb S s) (eqb S t) (eqb x 0);
      resized-are = λ S. ap (λ (a : Bool). eqb S s || a) (or-none (eqb S t));
    } in
    record {
      members-are = λ S v h i. told.at-p-is S v h i ∙ listed_of zs 0 S 0 ∙ and_one (changing zs S);
      members-high = told.p-high;
      resized-are = told.resized-is;
      resized-low = told.resized-low;
    }
  where
    or-none : (a : Bool) → (a || false) ≡ a
    or-none true = refl
    or-none false = refl

    and_one : (a : Bool) → (a && true) ≡ a
    and_one true = refl
    and_one false = refl

    both : (a b c : Bool) → ((a || (b || false)) && c) ≡ ((a || b) && (c || c))
    both true b true = refl
    both true b false = refl
    both false true true = refl
    both false true false = refl
    both false false c = refl

pub words-one : (s j : ℕ) → s < 16 → Words (changing ((s, j) ∷ [])) (changing ((s, j) ∷ [])) (variable_bits s) (size_bit s)
unfolding changing some_of
words-one s j h =
    let two = words-two s j s j in
    record {
      members-are = λ S v k i. twice (variable_bits s) (4 * S + v) ∙ two.members-are S v k i ∙ again (eqb S s);
      members-high = λ S k. twice (variable_bits s) (4 * S + 3) ∙ two.members-high S k;
      resized-are = λ S k. twice (size_bit s) (4 * S + 3) ∙ two.resized-are S k ∙ again (eqb S s);
      resized-low = λ S v k i. twice (size_bit s) (4 * S + v) ∙ two.resized-low S v k i;
    }
  where
    again : (a : Bool) → (a || (a || false)) ≡ (a || false)
    again true = refl
    again false = refl

    same : (a : Bool) → a ≡ (a || a)
    same true = refl
    same false = refl

    twice : (w i : ℕ) → in_mask w i ≡ in_mask (bit_or w w) i
    twice w i = same (in_mask w i) ∙ sym (in-or w w i)
