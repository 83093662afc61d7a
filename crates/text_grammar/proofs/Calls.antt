-- The parser finds the same with every number of nested calls that suffices. Assumes nothing.
use mathlib.Core.Path.{◌≡◌, refl, sym, ap, ◌∙◌}
use mathlib.Core.List.{List}
use mathlib.Core.Bool.{Bool, true, false}
use mathlib.Core.Option.{Option, none, some}
use Prim.Native.Nat.{ℕ, zero, suc, ◌+◌, ◌*◌, ◌-◌, ◌≤◌, ◌<◌}
use native.Mathlib.Omega.{arith}
use lib.Dec.{eqb}
use lib.ListN.{length}
use borrow.Author.Tests.{eqb-true}
use Rattle.text_tree.specs.Tree.{Quantifier, neg, bind, join}
use Rattle.text_grammar.specs.Grammar.{Level, unit, conjunction, disjunction, formula, kind_at, next_at, value_at}
use Rattle.text_grammar.specs.Parser.{Part, missing, found, test, follow, nothing, map_part, quantifier_of, join_sign, quantifier_sign, joined, closed, bound, variable_literal, size_literal, rank, parse_at}
use Rattle.text_grammar.specs.inner.Contract.{calls, part_at}
use Rattle.text_grammar.proofs.Signs.{of-stands, join-sign-some}
use Rattle.text_grammar.proofs.Readers.{Joins, joins-conjunction, joins-disjunction, joins-formula}
use Rattle.text_grammar.proofs.Positions.{token-span, span}
use Rattle.text_grammar.proofs.Sound.{sound}

test-same : {A : Type 0} (b : Bool) (f g f' g' : ℕ → A) (i : ℕ) → (b ≡ true → f i ≡ f' i) → (b ≡ false → g i ≡ g' i) → test b f g i ≡ test b f' g' i
test-same true f g f' g' i p q = p refl
test-same false f g f' g' i p q = q refl

follow-same : {A : Type 0} (o : Option A) (f : A → ℕ → Part) (g : ℕ → Part) (f' : A → ℕ → Part) (g' : ℕ → Part) (i : ℕ) → ((a : A) → o ≡ some a → f a i ≡ f' a i) → g i ≡ g' i → follow o f g i ≡ follow o f' g' i
follow-same none f g f' g' i p q = q
follow-same (some a) f g f' g' i p q = p a refl

abbrev Same : ℕ → ℕ → List ℕ → Type 0
Same f g s = (l : Level) (i : ℕ) → i ≤ length s → 4 * (length s - i) + rank l ≤ f → 4 * (length s - i) + rank l ≤ g → parse_at f l s i ≡ parse_at g l s i

-- one level, where fewer nested calls find the same
module _ (f g : ℕ) (s : List ℕ) (S : Same f g s) (i : ℕ) (h : i ≤ length s) where
  joined_same : (l m k : Level) → Joins l m k → 4 * (length s - i) + rank l ≤ suc f → 4 * (length s - i) + rank l ≤ suc g → parse_at (suc f) l s i ≡ parse_at (suc g) l s i
  joined_same l m k J p q =
      J.step f s i ∙ go (parse_at f m s i) refl ∙ ap (joined s (join_sign l) (parse_at g k s)) (S m i h (omega (arith, J.below)) (omega (arith, J.below))) ∙ sym (J.step g s i)
    where
      go : (r : Part) → parse_at f m s i ≡ r → joined s (join_sign l) (parse_at f k s) r ≡ joined s (join_sign l) (parse_at g k s) r
      go missing e = refl
      go (found a j) e =
          let w = sound f s m i a j e in
          let x = span s i w.symbols j h w.are in
          follow-same (join_sign l (kind_at s j)) (λ y n. map_part (join y a) (parse_at f k s n)) (λ n. found a j) (λ y n. map_part (join y a) (parse_at g k s n)) (λ n. found a j) (next_at s j)
          (λ y z.
          let t = token-span s j x.within (join-sign-some l (kind_at s j) y z) in
          ap (map_part (join y a)) (S k (next_at s j) t.1 (omega (arith, J.above, J.below, x.on, t.0, t.1)) (omega (arith, J.above, J.below, x.on, t.0, t.1))))
          refl

  module _ (p : 4 * (length s - i) + 1 ≤ suc f) (q : 4 * (length s - i) + 1 ≤ suc g) where
    -- at a position behind i
    later : (l : Level) (n : ℕ) → rank l ≤ 4 → i < n → n ≤ length s → parse_at f l s n ≡ parse_at g l s n
    later l n r on within = S l n within (omega arith) (omega arith)

    bound-same : (y : Quantifier) → quantifier_sign (kind_at s i) ≡ some y → bound s (parse_at f unit s) y (next_at s i) ≡ bound s (parse_at g unit s) y (next_at s i)
    bound-same y z =
        let k = next_at s i in
        let w = of-stands 5 6 quantifier_of (kind_at s i) y z in
        let t = token-span s i h (omega (arith, w.low)) in
        let make = bind y (value_at s k) in
        test-same (eqb (kind_at s k) 22) (λ n. map_part make (parse_at f unit s n)) nothing (λ n. map_part make (parse_at g unit s n)) nothing (next_at s k)
        (λ e.
        let v = eqb-true (kind_at s k) 22 e in
        let u = token-span s k t.1 (omega arith) in
        ap (map_part make) (later unit (next_at s k) (omega arith) (omega (arith, t.0, u.0)) u.1))
        (λ e. refl)

    unit-same : parse_at (suc f) unit s i ≡ parse_at (suc g) unit s i
    unfolding parse_at
    unit-same =
        let k = kind_at s i in
        let n = next_at s i in
        let literal-on : ℕ → Part = test (eqb k 22) (variable_literal s (value_at s i)) (test (eqb k 15) (size_literal s) nothing) in
        let quantifier-on : ℕ → ℕ → Part = λ c. follow (quantifier_sign k) (bound s (parse_at c unit s)) literal-on in
        let tilde-on : ℕ → ℕ → Part = λ c. test (eqb k 7) (λ j. map_part neg (parse_at c unit s j)) (quantifier-on c) in
        test-same (eqb k 3) (λ j. closed s (parse_at f formula s j)) (tilde-on f) (λ j. closed s (parse_at g formula s j)) (tilde-on g) n
        (λ e.
        let v = eqb-true k 3 e in
        let t = token-span s i h (omega arith) in
        ap (closed s) (later formula n (omega arith) t.0 t.1))
        (λ _. test-same (eqb k 7) (λ j. map_part neg (parse_at f unit s j)) (quantifier-on f) (λ j. map_part neg (parse_at g unit s j)) (quantifier-on g) n
        (λ e.
        let v = eqb-true k 7 e in
        let t = token-span s i h (omega arith) in
        ap (map_part neg) (later unit n (omega arith) t.0 t.1))
        (λ _. follow-same (quantifier_sign k) (bound s (parse_at f unit s)) literal-on (bound s (parse_at g unit s)) literal-on n bound-same refl))

pub rank-range : (l : Level) → (1 ≤ rank l) × (rank l ≤ 4)
rank-range unit = omega arith
rank-range conjunction = omega arith
rank-range disjunction = omega arith
rank-range formula = omega arith

pub same-calls : (f g : ℕ) (s : List ℕ) → Same f g s
same-calls zero g s l i h p q = let r = rank-range l in absurd (omega (arith, r.0))
same-calls (suc f) zero s l i h p q = let r = rank-range l in absurd (omega (arith, r.0))
same-calls (suc f) (suc g) s unit i h p q = unit-same f g s (same-calls f g s) i h p q
same-calls (suc f) (suc g) s conjunction i h p q = joined_same f g s (same-calls f g s) i h conjunction unit conjunction joins-conjunction p q
same-calls (suc f) (suc g) s disjunction i h p q = joined_same f g s (same-calls f g s) i h disjunction conjunction disjunction joins-disjunction p q
same-calls (suc f) (suc g) s formula i h p q = joined_same f g s (same-calls f g s) i h formula disjunction disjunction joins-formula p q

-- with calls enough for every position

module _ (s : List ℕ) where
  pub one_more : (l : Level) (i : ℕ) → i ≤ length s → part_at l s i ≡ parse_at (suc (calls s)) l s i
  one_more l i h = let r = rank-range l in same-calls (calls s) (suc (calls s)) s l i h (omega (arith, r.1)) (omega (arith, r.1))

  pub joined_at : (l m k : Level) → Joins l m k → (i : ℕ) → i ≤ length s → part_at l s i ≡ joined s (join_sign l) (part_at k s) (part_at m s i)
  joined_at l m k J i h = one_more l i h ∙ J.step (calls s) s i

  -- the parser with any number of calls that suffices
  pub every : (l : Level) (i : ℕ) → i ≤ length s → (f : ℕ) → 4 * (length s - i) + rank l ≤ f → parse_at f l s i ≡ part_at l s i
  every l i h f q = let r = rank-range l in same-calls f (calls s) s l i h q (omega (arith, r.1))
