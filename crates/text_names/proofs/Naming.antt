-- Letters: their places, the mask of the bound ones, and the faults of a literal's record. Assumes nothing.
use mathlib.Core.Path.{◌≡◌, refl, sym, ap, ap₂, ◌∙◌}
use mathlib.Core.Bool.{Bool, true, false, cond, not, ◌||◌, true≢false, false≢true}
use mathlib.Core.List.{List, [], ◌∷◌}
use Prim.Native.Nat.{ℕ, suc, ◌+◌, ◌*◌, ◌-◌, ◌/◌, ◌%◌, ◌^◌, ◌≤◌, ◌<◌}
use native.Mathlib.Decide.{ℕ_discrete}
use native.Mathlib.Nat.{zero-div}
use native.Mathlib.Omega.{arith}
use lib.Dec.{eqb, leb, ltb}
use lib.ListN.{length, get_or}
use borrow.Author.Tests.{ne_eqb, eq-eqb, leb-true, leb-false, le-leb, lt-leb}
use Rattle.std.specs.List.{position_or_len, list_any}
use Rattle.std.specs.Option.{unwrap_or}
use Rattle.std.specs.Prelude.{Option, Some, None}
use Rattle.std.proofs.lemmas.Bool.Decides.{nat_tests}
use Rattle.std.proofs.lemmas.List.Recursion.{is_position_or_len, or_is}
use Rattle.std.proofs.lemmas.List.Sums.{position_or_len_is}
use Rattle.logic.specs.Formula.{isin, notin, port, size}
use Rattle.logic.specs.Configuration.{in_mask}
use Rattle.logic.specs.inner.Flip.{flip_port}
use Rattle.logic.specs.Change.{some_of}
use Rattle.logic.proofs.Lists.{or-true-left}
use Rattle.logic.proofs.Masks.{in-flip-same, in-flip-other}
use Rattle.logic.proofs.Relations.{relation-number-le}
use Rattle.text_tree.specs.inner.Stored.{test_operator, test_payload}
use Rattle.text_core.specs.Names.{among, set_number, misnamed_test, high_constant, Variable, SetLetter, LetteredTest}
use Rattle.text_names.specs.inner.Faults.{Marks, IsBound, Binds, NamesLiteral, HighLiteral}

-- the place of a letter, as the library finds it
number_place : (sets : List ℕ) (s : ℕ) → set_number sets s ≡ position_or_len (λ x. eqb s x) sets
unfolding set_number
number_place sets s = is_position_or_len (λ l. set_number l s) (λ x. eqb s x) refl (λ x l. let e : suc (set_number l s) ≡ 1 + set_number l s = omega arith in ap (cond (eqb s x) 0) e) sets

-- what `position` found, or the length
pub number_is : (sets : List ℕ) (s : ℕ) (o : Option ℕ)
    → ((i : ℕ) → o ≡ Some i → (i < length sets) × (eqb s (get_or sets i 0) ≡ true) × ((k : ℕ) → k < i → eqb s (get_or sets k 0) ≡ false))
    → (o ≡ None → (k : ℕ) → k < length sets → eqb s (get_or sets k 0) ≡ false) → unwrap_or o (length sets) ≡ set_number sets s
number_is sets s (Some i) here nowhere =
    let f = here i refl in sym (number_place sets s ∙ position_or_len_is (λ x. eqb s x) sets i 0 (omega (arith, f.0)) f.2 (λ _. f.1))
number_is sets s None here nowhere =
    sym (number_place sets s ∙ position_or_len_is (λ x. eqb s x) sets (length sets) 0 (omega arith) (nowhere refl) (λ l. absurd (omega arith)))

-- whether a letter is in a list: what `any` and `contains` answer
pub among_is : (sets : List ℕ) (s : ℕ) (r : Bool) → (r ≡ true → (i : ℕ) × (i < length sets) × (eqb s (get_or sets i 0) ≡ true))
    → (r ≡ false → (i : ℕ) → i < length sets → eqb s (get_or sets i 0) ≡ false) → r ≡ among sets s
unfolding among some_of
among_is sets s r = or_is (λ l. among l s) (λ x. eqb s x) refl (λ x l. refl) sets 0 r

pub among_contains : (sets : List ℕ) (s : ℕ) → among sets s ≡ list_any (λ x. eqb x s) sets
unfolding among some_of
among_contains [] s = refl
among_contains (x ∷ xs) s =
    let e : eqb s x ≡ eqb x s = grind (arith, nat_tests) in
    ap₂ ◌||◌ e (among_contains xs s)

module _ (bound v : ℕ) where
  pub binds-flip : (r : ℕ) → r ≡ flip_port bound (v - 97) → Binds bound v r
  unfolding Binds Marks among some_of Variable
  binds-flip r h vars M l f x lx = go (ℕ_discrete x v)
    where
      go : Dec (x ≡ v) → in_mask r (x - 97) ≡ (eqb x v || some_of (eqb x) vars)
      go (yes e) = rw (h, e) (in-flip-same bound (v - 97) ∙ ap not (M v l ∙ f) ∙ sym (or-true-left _ _ (eq-eqb v v refl)))
      go (no n) = rw h (in-flip-other bound (v - 97) (x - 97) (λ e. n (omega arith)) ∙ M x lx ∙ sym (ap (λ (b : Bool). b || some_of (eqb x) vars) (ne_eqb x v n)))

pub no_bits : Marks 0 []
unfolding Marks in_mask among some_of
no_bits v l = rw (zero-div (2 ^ (v - 97)))

-- the two parts of a payload
high_part : (x v s : ℕ) → x ≡ 256 * v + s → s < 256 → x / 256 ≡ v
high_part x v s h l = omega arith

low_part : (x v s : ℕ) → x ≡ 256 * v + s → s < 256 → x % 256 ≡ s
low_part x v s h l = omega arith

set-low : (S : ℕ) → SetLetter S → S < 256
unfolding SetLetter
set-low S l = omega arith

variable-low : (v : ℕ) → Variable v → v < 256
unfolding Variable
variable-low v l = omega arith

bound-read : (bound x v : ℕ) (b : Bool) (vars : List ℕ) → IsBound bound x b → x ≡ v → Marks bound vars → Variable v → b ≡ among vars v
unfolding IsBound
bound-read bound x v b vars B e M l = B vars M (rw e l) ∙ ap (among vars) e

unbound-read : (a b c : Bool) → b ≡ false → b ≡ a → true ≡ (not a || c)
unbound-read true b c h e = absurd (true≢false (sym e ∙ h))
unbound-read false b c h e = refl

bound-left : (a b c : Bool) → b ≡ true → b ≡ a → c ≡ (not a || c)
bound-left true b c h e = refl
bound-left false b c h e = absurd (false≢true (sym e ∙ h))

module _ (sets : List ℕ) (operator x bound : ℕ) where
  pub names-size : (r : Bool) → 24 ≤ operator → r ≡ not (among sets (x / 256)) → NamesLiteral sets operator x bound r
  unfolding NamesLiteral test_operator test_payload LetteredTest misnamed_test
  names-size r h e (isin v S) R vars M = absurd (omega (arith, R.operator-is))
  names-size r h e (notin v S) R vars M = absurd (omega (arith, R.operator-is))
  names-size r h e (port q v w) R vars M = absurd (omega (arith, R.operator-is, relation-number-le q))
  names-size r h e (size q S c) R vars M = e ∙ ap (λ (n : ℕ). not (among sets n)) (high_part x S c R.payload-is (omega (arith, R.lettered.1)))

  module _ (b : Bool) (B : IsBound bound (x / 256) b) (low : operator < 24) where
    pub names-unbound : b ≡ false → NamesLiteral sets operator x bound true
    unfolding NamesLiteral test_operator test_payload LetteredTest misnamed_test
    names-unbound h (isin v S) R vars M =
        unbound-read _ b _ h (bound-read bound _ v b vars B (high_part x v S R.payload-is (set-low S R.lettered.1)) M R.lettered.0)
    names-unbound h (notin v S) R vars M =
        unbound-read _ b _ h (bound-read bound _ v b vars B (high_part x v S R.payload-is (set-low S R.lettered.1)) M R.lettered.0)
    names-unbound h (port q v w) R vars M =
        unbound-read _ b _ h (bound-read bound _ v b vars B (high_part x v w R.payload-is (variable-low w R.lettered.1)) M R.lettered.0)
    names-unbound h (size q S c) R vars M = absurd (omega (arith, R.operator-is))

    pub names-member : (r : Bool) → b ≡ true → operator < 2 → r ≡ not (among sets (x % 256)) → NamesLiteral sets operator x bound r
    unfolding NamesLiteral test_operator test_payload LetteredTest misnamed_test
    names-member r h l e (isin v S) R vars M =
        (e ∙ ap (λ (n : ℕ). not (among sets n)) (low_part x v S R.payload-is (set-low S R.lettered.1)))
        ∙ bound-left _ b _ h (bound-read bound _ v b vars B (high_part x v S R.payload-is (set-low S R.lettered.1)) M R.lettered.0)
    names-member r h l e (notin v S) R vars M =
        (e ∙ ap (λ (n : ℕ). not (among sets n)) (low_part x v S R.payload-is (set-low S R.lettered.1)))
        ∙ bound-left _ b _ h (bound-read bound _ v b vars B (high_part x v S R.payload-is (set-low S R.lettered.1)) M R.lettered.0)
    names-member r h l e (port q v w) R vars M = absurd (omega (arith, R.operator-is))
    names-member r h l e (size q S c) R vars M = absurd (omega (arith, R.operator-is))

    pub names-port : (r d : Bool) → b ≡ true → 2 ≤ operator → IsBound bound (x % 256) d → r ≡ not d → NamesLiteral sets operator x bound r
    unfolding NamesLiteral test_operator test_payload LetteredTest misnamed_test
    names-port r d h l D e (isin v S) R vars M = absurd (omega (arith, R.operator-is))
    names-port r d h l D e (notin v S) R vars M = absurd (omega (arith, R.operator-is))
    names-port r d h l D e (port q v w) R vars M =
        (e ∙ ap not (bound-read bound _ w d vars D (low_part x v w R.payload-is (variable-low w R.lettered.1)) M R.lettered.1))
        ∙ bound-left _ b _ h (bound-read bound _ v b vars B (high_part x v w R.payload-is (variable-low w R.lettered.1)) M R.lettered.0)
    names-port r d h l D e (size q S c) R vars M = absurd (omega (arith, R.operator-is))

  pub low-constant : operator < 24 → HighLiteral operator x false
  unfolding HighLiteral high_constant test_operator
  low-constant h (isin v S) R = refl
  low-constant h (notin v S) R = refl
  low-constant h (port q v w) R = refl
  low-constant h (size q S c) R = absurd (omega (arith, R.operator-is))

  pub high-constant : (r : Bool) → 24 ≤ operator → r ≡ ltb 64 (x % 256) → HighLiteral operator x r
  unfolding HighLiteral high_constant test_operator test_payload LetteredTest
  high-constant r h e (isin v S) R = absurd (omega (arith, R.operator-is))
  high-constant r h e (notin v S) R = absurd (omega (arith, R.operator-is))
  high-constant r h e (port q v w) R = absurd (omega (arith, R.operator-is, relation-number-le q))
  high-constant r h e (size q S c) R = e ∙ ap (ltb 64) (low_part x S c R.payload-is (omega (arith, R.lettered.1)))

leb-suc : (a b : ℕ) → leb (suc a) (suc b) ≡ leb a b
leb-suc a b = go (leb a b) refl
  where
    go : (t : Bool) → leb a b ≡ t → leb (suc a) (suc b) ≡ t
    go true h = le-leb (suc a) (suc b) (omega (arith, leb-true a b h))
    go false h = lt-leb (suc a) (suc b) (omega (arith, leb-false a b h))

-- a letter is undeclared if its place is past the list
pub undeclared-place : (sets : List ℕ) (S : ℕ) → leb (length sets) (set_number sets S) ≡ not (among sets S)
unfolding set_number among some_of
undeclared-place [] S = refl
undeclared-place (x ∷ xs) S = go (eqb S x) (undeclared-place xs S)
  where
    go : (b : Bool) → leb (length xs) (set_number xs S) ≡ not (some_of (eqb S) xs)
        → leb (suc (length xs)) (cond b 0 (suc (set_number xs S))) ≡ not (b || some_of (eqb S) xs)
    go true h = lt-leb (suc (length xs)) 0 (omega arith)
    go false h = leb-suc (length xs) (set_number xs S) ∙ h
