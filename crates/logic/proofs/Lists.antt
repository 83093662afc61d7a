-- Booleans, and lists over the cells below a cell. Assumes nothing.
use mathlib.Core.Path.{◌≡◌, refl, sym, ap, ap₂, ◌∙◌}
use mathlib.Core.Bool.{Bool, true, false, ◌&&◌, ◌||◌, true≢false, false≢true}
use mathlib.Core.List.Memᴰ
use mathlib.Core.List.{List, [], ◌∷◌, ◌++◌, map, map-append, Memᴰ}
use mathlib.Core.Logic.{◌⊎◌, inl, inr}
use Prim.Native.Nat.{ℕ, zero, suc, ◌+◌, ◌≤◌, ◌<◌}
use native.Mathlib.Omega.{arith}
use Rattle.logic.specs.Formula.{Node, root, all, any, and, or, lit, child_depth}
use Rattle.logic.specs.Configuration.{indicator}
use Rattle.logic.specs.Truth.{Tuple}
use Rattle.logic.specs.Penalty.{each_port, below, sum}
use Rattle.logic.specs.Change.{some_of}

pub or_left : (a b : Bool) → (a || b) ≡ false → a ≡ false
or_left true b h = h
or_left false b h = refl

pub or_right : (a b : Bool) → (a || b) ≡ false → b ≡ false
or_right true b h = absurd (true≢false h)
or_right false b h = h

pub or-false : (a b : Bool) → a ≡ false → b ≡ false → (a || b) ≡ false
or-false true b h k = h
or-false false b h k = k

pub or_cases : (a b : Bool) → (a || b) ≡ true → (a ≡ true) ⊎ (b ≡ true)
or_cases true b h = inl refl
or_cases false b h = inr h

pub or-true-left : (a b : Bool) → a ≡ true → (a || b) ≡ true
or-true-left true b h = refl
or-true-left false b h = absurd (false≢true h)

pub or_true_right : (a b : Bool) → b ≡ true → (a || b) ≡ true
or_true_right true b h = refl
or_true_right false b h = h

pub and_left : (a b : Bool) → (a && b) ≡ true → a ≡ true
and_left true b h = refl
and_left false b h = absurd (false≢true h)

pub and_right : (a b : Bool) → (a && b) ≡ true → b ≡ true
and_right true b h = h
and_right false b h = absurd (false≢true h)

pub and-true : (a b : Bool) → a ≡ true → b ≡ true → (a && b) ≡ true
and-true true b h k = k
and-true false b h k = h

pub and-false : (a b : Bool) → (a ≡ true → b ≡ false) → (a && b) ≡ false
and-false true b h = h refl
and-false false b h = refl

pub and_at : (a b : Bool) → (a && b) ≡ false → a ≡ true → b ≡ false
and_at true b h e = h
and_at false b h e = absurd (false≢true e)

-- two tests that imply each other are one
pub same_test : (a b : Bool) → (a ≡ true → b ≡ true) → (b ≡ true → a ≡ true) → a ≡ b
same_test true true h k = refl
same_test true false h k = absurd (false≢true (h refl))
same_test false true h k = absurd (false≢true (k refl))
same_test false false h k = refl

pub indicator-le : (b : Bool) → indicator b ≤ 1
unfolding indicator
indicator-le true = omega arith
indicator-le false = omega arith

module _ {A : Type 0} where
  -- a list that passes no test passes none that asks more
  pub none_of : (f g : A → Bool) → ((x : A) → f x ≡ false → g x ≡ false) → (xs : List A) → some_of f xs ≡ false → some_of g xs ≡ false
  unfolding some_of
  none_of f g H [] h = refl
  none_of f g H (x ∷ xs) h = or-false _ _ (H x (or_left _ _ h)) (none_of f g H xs (or_right (f x) _ h))

  pub some-append : (f : A → Bool) (xs ys : List A) → some_of f (xs ++ ys) ≡ (some_of f xs || some_of f ys)
  unfolding some_of
  some-append f [] ys = refl
  some-append f (x ∷ xs) ys = go (f x) (some-append f xs ys)
    where
      go : (b : Bool) → some_of f (xs ++ ys) ≡ (some_of f xs || some_of f ys) → (b || some_of f (xs ++ ys)) ≡ ((b || some_of f xs) || some_of f ys)
      go true e = refl
      go false e = e

  -- two tests that agree on a list pass alike
  pub some_same : (f g : A → Bool) (xs : List A) → ((x : A) → Memᴰ x xs → f x ≡ g x) → some_of f xs ≡ some_of g xs
  unfolding some_of
  some_same f g [] H = refl
  some_same f g (x ∷ xs) H = ap₂ ◌||◌ (H x (Memᴰ.head refl)) (some_same f g xs (λ y d. H y (Memᴰ.tail d)))

  -- a list passes no test exactly when none of its entries does
  pub none-fails : (f : A → Bool) (xs : List A) → some_of f xs ≡ false → (x : A) → Memᴰ x xs → f x ≡ false
  unfolding some_of
  none-fails f [] h x d = absurd (Memᴰ.not-nil d)
  none-fails f (y ∷ xs) h x d = go (Memᴰ.cases_cons d) (none-fails f xs (or_right (f y) _ h) x)
    where
      go : (x ≡ y) ⊎ Memᴰ x xs → (Memᴰ x xs → f x ≡ false) → f x ≡ false
      go (inl e) rest = ap f e ∙ or_left (f y) _ h
      go (inr l) rest = rest l

  pub fails-none : (f : A → Bool) (xs : List A) → ((x : A) → Memᴰ x xs → f x ≡ false) → some_of f xs ≡ false
  unfolding some_of
  fails-none f [] h = refl
  fails-none f (x ∷ xs) h = or-false _ _ (h x (Memᴰ.head refl)) (fails-none f xs (λ y d. h y (Memᴰ.tail d)))

  pub one-some : (f : A → Bool) (xs : List A) (x : A) → Memᴰ x xs → f x ≡ true → some_of f xs ≡ true
  one-some f xs x d h = go (some_of f xs) refl
    where
      go : (b : Bool) → some_of f xs ≡ b → b ≡ true
      go true e = refl
      go false e = absurd (true≢false (sym h ∙ none-fails f xs e x d))

-- the tuples of length d of ports below u
pub data TupleOf (u : ℕ) : ℕ → Tuple → Type 0 where
  empty : TupleOf u zero []
  more : {d p : ℕ} {e : Tuple} → p < u → TupleOf u d e → TupleOf u (suc d) (p ∷ e)

module _ {A : Type 0} where
  pub each-port-cong : (u : ℕ) (g h : ℕ → List A) → ((p : ℕ) → p < u → g p ≡ h p) → each_port u g ≡ each_port u h
  unfolding each_port
  each-port-cong zero g h H = refl
  each-port-cong (suc u) g h H = ap₂ ◌++◌ (each-port-cong u g h (λ p l. H p (omega arith))) (H u (omega arith))

  pub below-cong : (u : ℕ) (n : Node) {d : ℕ} {e : Tuple} (t : TupleOf u d e) (g h : Tuple → List A)
      → ((x : Tuple) → TupleOf u (child_depth n d) x → g x ≡ h x) → below u n e g ≡ below u n e h
  unfolding below child_depth
  below-cong u root {e} t g h H = H e t
  below-cong u all {e} t g h H = each-port-cong u (λ p. g (p ∷ e)) (λ p. h (p ∷ e)) (λ p l. H (p ∷ e) (more l t))
  below-cong u any {e} t g h H = each-port-cong u (λ p. g (p ∷ e)) (λ p. h (p ∷ e)) (λ p l. H (p ∷ e) (more l t))
  below-cong u and {e} t g h H = H e t
  below-cong u or {e} t g h H = H e t
  below-cong u (lit l) {e} t g h H = H e t

  -- the same where nothing is known of the tuple
  pub below-same : (u : ℕ) (n : Node) (e : Tuple) (g h : Tuple → List A)
      → g e ≡ h e → ((p : ℕ) → g (p ∷ e) ≡ h (p ∷ e)) → below u n e g ≡ below u n e h
  unfolding below
  below-same u root e g h H K = H
  below-same u all e g h H K = each-port-cong u (λ p. g (p ∷ e)) (λ p. h (p ∷ e)) (λ p l. K p)
  below-same u any e g h H K = each-port-cong u (λ p. g (p ∷ e)) (λ p. h (p ∷ e)) (λ p l. K p)
  below-same u and e g h H K = H
  below-same u or e g h H K = H
  below-same u (lit l) e g h H K = H

module _ {A B : Type 0} (f : A → B) where
  pub map-each-port : (u : ℕ) (g : ℕ → List A) → map f (each_port u g) ≡ each_port u (λ p. map f (g p))
  unfolding each_port
  map-each-port zero g = refl
  map-each-port (suc u) g = map-append f (each_port u g) (g u) ∙ ap (λ (l : List B). l ++ map f (g u)) (map-each-port u g)

  pub map_below : (u : ℕ) (n : Node) (e : Tuple) (g : Tuple → List A) → map f (below u n e g) ≡ below u n e (λ x. map f (g x))
  unfolding below
  map_below u root e g = refl
  map_below u all e g = map-each-port u (λ p. g (p ∷ e))
  map_below u any e g = map-each-port u (λ p. g (p ∷ e))
  map_below u and e g = refl
  map_below u or e g = refl
  map_below u (lit l) e g = refl

  pub map-below-is : (u : ℕ) (n : Node) {d : ℕ} {e : Tuple} (t : TupleOf u d e) (g : Tuple → List A) (h : Tuple → List B)
      → ((x : Tuple) → TupleOf u (child_depth n d) x → map f (g x) ≡ h x) → map f (below u n e g) ≡ below u n e h
  map-below-is u n {e} t g h H = map_below u n e g ∙ below-cong u n t (λ x. map f (g x)) h H

pub sum-append : (xs ys : List ℕ) → sum (xs ++ ys) ≡ sum xs + sum ys
unfolding sum
sum-append [] ys = omega arith
sum-append (x ∷ xs) ys = omega (arith, sum-append xs ys)
