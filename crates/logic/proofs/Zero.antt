-- A penalty is 0 exactly when the formula is true (Proposition 1 of document 000, demand 2). Assumes nothing.
use mathlib.Core.Path.{◌≡◌, refl, ap, subst}
use mathlib.Core.Logic.{◌⊎◌, inl, inr, ◌↔◌}
use mathlib.Core.Bool.{Bool, true, false, not, true≢false}
use mathlib.Core.List.{List, [], ◌∷◌, ◌++◌}
use Prim.Native.Nat.{ℕ, zero, suc, ◌<◌}
use native.Mathlib.Nat.{min-le_left, min-le_right}
use native.Mathlib.Decide.{dec_lt}
use native.Mathlib.Omega.{arith}
use borrow.Author.Tests.{leb-true, lt-ltb, ltb-true, le-leb, eqb-true, eqb-false, ne_eqb, eq-eqb, not-true, not-false}
use Rattle.logic.specs.Formula.{Relation, lt, le, eq, ne, ge, gt, Test, isin, notin, port, size, Node, root, all, any, and, or, lit, Forest, none, tree}
use Rattle.logic.specs.Configuration.{Configuration, indicator}
use Rattle.logic.specs.Truth.{Tuple, Related, TestTrue, Asked, every, some, first, NodeTrue, ForestTrue}
use Rattle.logic.specs.Penalty.{compare, size_penalty, test_penalty, literal_penalty, sum, least, copy, combine, each_port, below, penalties, penalty}
use Rattle.logic.proofs.Lists.{sum-append}

pub indicator-zero : (b : Bool) → indicator b ≡ 0 ↔ b ≡ false
unfolding indicator
indicator-zero true = (λ h. let z : ◌≡◌ {A = ℕ} 1 0 = h in absurd (omega arith), λ h. absurd (true≢false h))
indicator-zero false = (λ h. refl, λ h. refl)

indicator-not : (b : Bool) → indicator (not b) ≡ 0 ↔ b ≡ true
indicator-not b = (λ h. not-false b ((indicator-zero (not b)).0 h), λ h. (indicator-zero (not b)).1 (ap not h))

pub size-zero : (r : Relation) (s c : ℕ) → size_penalty r s c ≡ 0 ↔ Related r s c
unfolding size_penalty Related
size-zero lt s c = (λ h. omega arith, λ h. omega arith)
size-zero le s c = (λ h. omega arith, λ h. omega arith)
size-zero eq s c = (λ h. omega arith, λ h. omega arith)
size-zero ne s c = (λ h. eqb-false s c ((indicator-zero _).0 h), λ h. (indicator-zero _).1 (ne_eqb s c h))
size-zero ge s c = (λ h. omega arith, λ h. omega arith)
size-zero gt s c = (λ h. omega arith, λ h. omega arith)

pub compare-true : (r : Relation) (a b : ℕ) → compare r a b ≡ true ↔ Related r a b
unfolding compare Related
compare-true lt a b = (ltb-true a b, lt-ltb a b)
compare-true le a b = (leb-true a b, le-leb a b)
compare-true eq a b = (eqb-true a b, eq-eqb a b)
compare-true ne a b = (λ h. eqb-false a b (not-true _ h), λ h. ap not (ne_eqb a b h))
compare-true ge a b = (leb-true b a, le-leb b a)
compare-true gt a b = (ltb-true b a, lt-ltb b a)

test_zero : (k : Configuration) (t : Test) (e : Tuple) → test_penalty k t e ≡ 0 ↔ TestTrue k t e
unfolding test_penalty TestTrue
test_zero k (isin v S) e = indicator-not _
test_zero k (notin v S) e = indicator-zero _
test_zero k (port r v w) e =
    (λ h. (compare-true r _ _).0 ((indicator-not _).0 h), λ h. (indicator-not _).1 ((compare-true r _ _).1 h))
test_zero k (size r S c) e = size-zero r _ c

-- what is asked of the trees of a forest, as a number that is to be 0
abbrev join : Asked → List ℕ → ℕ
join every vs = sum vs
join some vs = least vs
join first vs = copy vs

least-cons : (x : ℕ) (xs : List ℕ) → least (x ∷ xs) ≡ 0 ↔ ((x ≡ 0) ⊎ (least xs ≡ 0))
unfolding least
least-cons x [] = (λ h. inl h, λ h. elim h [ inl a ↦ a | inr a ↦ absurd (omega arith) ])
least-cons zero (y ∷ ys) = (λ h. inl refl, λ h. omega (arith, min-le_left 0 (least (y ∷ ys))))
least-cons (suc x) (y ∷ ys) =
    (λ h. inr (omega arith), λ h. elim h [ inl a ↦ absurd (omega arith) | inr a ↦ omega (arith, min-le_right (suc x) (least (y ∷ ys))) ])

least-nil : least [] ≡ 0 → ⊥
unfolding least
least-nil a = omega arith

least-append : (xs ys : List ℕ) → least (xs ++ ys) ≡ 0 ↔ ((least xs ≡ 0) ⊎ (least ys ≡ 0))
least-append [] ys = (λ h. inr h, λ h. elim h [ inl a ↦ absurd (least-nil a) | inr a ↦ a ])
least-append (x ∷ xs) ys = (
  (λ h. elim ((least-cons x (xs ++ ys)).0 h) [
    | inl a ↦ inl ((least-cons x xs).1 (inl a))
    | inr a ↦ elim ((least-append xs ys).0 a) [ inl b ↦ inl ((least-cons x xs).1 (inr b)) | inr b ↦ inr b ]
  ]),
  (λ h. (least-cons x (xs ++ ys)).1 (elim h [
    | inl a ↦ elim ((least-cons x xs).0 a) [ inl b ↦ inl b | inr b ↦ inr ((least-append xs ys).1 (inl b)) ]
    | inr a ↦ inr ((least-append xs ys).1 (inr a))
  ])),
)

-- p below suc u: below u, or u
last : (u p : ℕ) (P : ℕ → Type 0) → P u → (p < u → P p) → p < suc u → P p
last u p P h f l = go (dec_lt p u)
  where
    go : Dec (p < u) → P p
    go (yes a) = f a
    go (no a) = let e : u ≡ p = omega arith in subst P e h

sum-ports : (u : ℕ) (g : ℕ → List ℕ) → sum (each_port u g) ≡ 0 ↔ ((p : ℕ) → p < u → sum (g p) ≡ 0)
unfolding each_port sum
sum-ports zero g = (λ h p l. omega arith, λ h. refl)
sum-ports (suc u) g = (
  (λ h p. last u p (λ x. sum (g x) ≡ 0) (omega (arith, sum-append (each_port u g) (g u)))
      ((sum-ports u g).0 (omega (arith, sum-append (each_port u g) (g u))) p)),
  (λ h. omega (arith, sum-append (each_port u g) (g u), h u (omega arith), (sum-ports u g).1 (λ p l. h p (omega arith)))),
)

least-ports : (u : ℕ) (g : ℕ → List ℕ) → least (each_port u g) ≡ 0 ↔ ((p : ℕ) × (p < u) × (least (g p) ≡ 0))
unfolding each_port
least-ports zero g = (λ h. absurd (least-nil h), λ h. let l = h.1 in absurd (omega arith))
least-ports (suc u) g = (
  (λ h. elim ((least-append (each_port u g) (g u)).0 h) [
    | inl a ↦ let r = (least-ports u g).0 a in (r.0, (omega arith), r.2)
    | inr a ↦ (u, (omega arith), a)
  ]),
  (λ h. (least-append (each_port u g) (g u)).1
      (last u h.0 (λ x. least (g x) ≡ 0 → (least (each_port u g) ≡ 0) ⊎ (least (g u) ≡ 0)) (λ a. inr a)
      (λ l a. inl ((least-ports u g).1 (h.0, l, a))) h.1 h.2)),
)

module _ (u : ℕ) (k : Configuration) where
  node-zero : (n : Node) (e : Tuple) (g : Tuple → List ℕ) (H : Asked → Tuple → Type 0) → ((m : Asked) (x : Tuple) → join m (g x) ≡ 0 ↔ H m x)
      → combine k n e (below u n e g) ≡ 0 ↔ NodeTrue u k n H e
  unfolding combine below NodeTrue literal_penalty
  node-zero root e g H I = I first e
  node-zero all e g H I = (
    (λ h p l. (I every (p ∷ e)).0 ((sum-ports u (λ p. g (p ∷ e))).0 h p l)),
    (λ h. (sum-ports u (λ p. g (p ∷ e))).1 (λ p l. (I every (p ∷ e)).1 (h p l))),
  )
  node-zero any e g H I = (
    (λ h. let r = (least-ports u (λ p. g (p ∷ e))).0 h in (r.0, r.1, (I some (r.0 ∷ e)).0 r.2)),
    (λ h. (least-ports u (λ p. g (p ∷ e))).1 (h.0, h.1, (I some (h.0 ∷ e)).1 h.2)),
  )
  node-zero and e g H I = I every e
  node-zero or e g H I = I some e
  node-zero (lit l) e g H I = test_zero k l.test e

  forest-zero : (f : Forest) (m : Asked) (e : Tuple) → join m (penalties u k f e) ≡ 0 ↔ ForestTrue u k f m e
  unfolding penalties ForestTrue sum least copy
  forest-zero none every e = (λ h. tt, λ h. refl)
  forest-zero none some e = (λ h. omega arith, λ h. absurd h)
  forest-zero none first e = (λ h. omega arith, λ h. absurd h)
  forest-zero (tree n c s) every e =
      let a = node-zero n e (penalties u k c) (ForestTrue u k c) (λ m x. forest-zero c m x) in
      let b = forest-zero s every e in
      ((λ h. (a.0 (omega arith), b.0 (omega arith))), (λ h. omega (arith, a.1 h.0, b.1 h.1)))
  forest-zero (tree n c s) some e =
      let a = node-zero n e (penalties u k c) (ForestTrue u k c) (λ m x. forest-zero c m x) in
      let b = forest-zero s some e in
      let j = least-cons (combine k n e (below u n e (penalties u k c))) (penalties u k s e) in (
        (λ h. elim (j.0 h) [ inl x ↦ inl (a.0 x) | inr x ↦ inr (b.0 x) ]),
        (λ h. j.1 (elim h [ inl x ↦ inl (a.1 x) | inr x ↦ inr (b.1 x) ])),
      )
  forest-zero (tree n c s) first e = node-zero n e (penalties u k c) (ForestTrue u k c) (λ m x. forest-zero c m x)

  -- of every node at every tuple
  pub penalty-zero : (n : Node) (c : Forest) (e : Tuple) → penalty u k n c e ≡ 0 ↔ NodeTrue u k n (ForestTrue u k c) e
  unfolding penalty
  penalty-zero n c e = node-zero n e (penalties u k c) (ForestTrue u k c) (forest-zero c)
