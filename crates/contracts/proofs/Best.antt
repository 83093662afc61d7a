-- The moves of a list that leave the least root: what is among them, and how one move more changes them. Assumes nothing.
use mathlib.Core.Path.{◌≡◌, refl, sym, ap, ap₂, ◌∙◌, subst}
use mathlib.Core.Logic.{◌⊎◌, inl, inr}
use mathlib.Core.Bool.{Bool, true, false, cond, not}
use mathlib.Core.List.Memᴰ
use mathlib.Core.List.{List, [], ◌∷◌, ◌++◌, append-nil, Memᴰ}
use Prim.Native.Nat.{ℕ, ◌≤◌, ◌<◌}
use native.Mathlib.Omega.{arith}
use native.Mathlib.Decide.{dec_le, dec_lt}
use lib.Dec.{eqb, ltb}
use lib.ListN.{length}
use borrow.Author.Tests.{ltb-false, lt-ltb, le-ltb, eq-eqb, ne_eqb}
use Rattle.logic.specs.declared.Move.{Move}
use Rattle.logic.proofs.Lists.{some_same, none-fails, fails-none, one-some}
use Rattle.contracts.specs.MoveOrder.{kept, none_smaller, best_of, Earlier, Rising}
use Rattle.contracts.proofs.Candidates.{kept-is, keep, kept_in, kept_same, kept_append, kept-none, kept-shorter}

module _ (f : Move → ℕ) where
  smaller-none : (ms : List Move) (x : ℕ) → none_smaller f ms x ≡ true → (n : Move) → Memᴰ n ms → x ≤ f n
  unfolding none_smaller
  smaller-none ms x h n d = ltb-false (f n) x (none-fails (λ m. ltb (f m) x) ms (not-true-of _ h) n d)
    where
      not-true-of : (b : Bool) → not b ≡ true → b ≡ false
      not-true-of true e = sym e
      not-true-of false e = refl

  none-smaller : (ms : List Move) (x : ℕ) → ((n : Move) → Memᴰ n ms → x ≤ f n) → none_smaller f ms x ≡ true
  unfolding none_smaller
  none-smaller ms x h = ap not (fails-none (λ m. ltb (f m) x) ms (λ n d. le-ltb (f n) x (h n d)))

  -- One of the best stands in the list, and no move of the list leaves less; and the other way round.
  pub best-is : (ms : List Move) (m : Move) → Memᴰ m (best_of f ms) → Memᴰ m ms × ((n : Move) → Memᴰ n ms → f m ≤ f n)
  unfolding best_of
  best-is ms m d = (kept_in _ m ms d, smaller-none ms (f m) (kept-is (λ n. none_smaller f ms (f n)) m ms d))

  pub is-best : (ms : List Move) (m : Move) → Memᴰ m ms → ((n : Move) → Memᴰ n ms → f m ≤ f n) → Memᴰ m (best_of f ms)
  unfolding best_of
  is-best ms m d h = keep (λ n. none_smaller f ms (f n)) m ms (none-smaller ms (f m) h) d

  pub best-shorter : (ms : List Move) → length (best_of f ms) ≤ length ms
  unfolding best_of
  best-shorter ms = kept-shorter _ ms

  -- a list that is not empty has one that leaves the least
  record Least (ms : List Move) : Type 0 where
    pub one : Move
    pub among : Memᴰ one ms
    pub least : (n : Move) → Memᴰ n ms → f one ≤ f n

  least-of : (m : Move) (ms : List Move) → Least (m ∷ ms)
  least-of m [] = record {
    one = m;
    among = Memᴰ.head refl;
    least = λ n d. let e : f n ≡ f m = ap f (Memᴰ.eq_of_singleton d) in omega arith;
  }
  least-of m (n ∷ ms) = choose (least-of n ms) (dec_le (f m) (f (least-of n ms).one))
    where
      earlier : (b : Least (n ∷ ms)) → f m ≤ f b.one → (x : Move) → (x ≡ m) ⊎ Memᴰ x (n ∷ ms) → f m ≤ f x
      earlier b l x (inl e) = let q : f x ≡ f m = ap f e in omega arith
      earlier b l x (inr d) = omega (arith, b.least x d)

      later : (b : Least (n ∷ ms)) → f b.one ≤ f m → (x : Move) → (x ≡ m) ⊎ Memᴰ x (n ∷ ms) → f b.one ≤ f x
      later b l x (inl e) = let q : f x ≡ f m = ap f e in omega arith
      later b l x (inr d) = b.least x d

      choose : (b : Least (n ∷ ms)) → Dec (f m ≤ f b.one) → Least (m ∷ n ∷ ms)
      choose b (yes l) = record { one = m; among = Memᴰ.head refl; least = λ x d. earlier b l x (Memᴰ.cases_cons d) }
      choose b (no l) =
          record { one = b.one; among = Memᴰ.tail b.among; least = λ x d. later b (omega arith) x (Memᴰ.cases_cons d) }

  -- none is best only where there is none
  pub best_none : (ms : List Move) → best_of f ms ≡ [] → ms ≡ []
  best_none [] e = refl
  best_none (m ∷ ms) e =
      let b = least-of m ms in
      absurd (Memᴰ.not-nil (subst (Memᴰ b.one) e (is-best (m ∷ ms) b.one b.among b.least)))

  -- the best are those that leave what one of them leaves
  best-by : (ms : List Move) (x : Move) → Memᴰ x ms → ((n : Move) → Memᴰ n ms → f x ≤ f n) → best_of f ms ≡ kept (λ m. eqb (f m) (f x)) ms
  unfolding best_of none_smaller
  best-by ms x d h = kept_same _ _ ms (λ m e. go m e (dec_lt (f x) (f m)))
    where
      some : (m : Move) → f x < f m → none_smaller f ms (f m) ≡ false
      some m l = ap not (one-some (λ n. ltb (f n) (f m)) ms x d (lt-ltb (f x) (f m) l))

      go : (m : Move) → Memᴰ m ms → Dec (f x < f m) → none_smaller f ms (f m) ≡ eqb (f m) (f x)
      go m e (yes l) = some m l ∙ sym (ne_eqb (f m) (f x) (λ q. omega (arith, l, q)))
      go m e (no l) =
          let q : f m ≡ f x = omega (arith, h m e, l) in
          none-smaller ms (f m) (λ n w. omega (arith, h n w, q)) ∙ sym (eq-eqb (f m) (f x) q)

  -- One move more at the end of a list: it is the best of all, or one of the best, or none of them.
  pub best-first : (m : Move) → best_of f (m ∷ []) ≡ m ∷ []
  unfolding kept
  best-first m =
      best-by (m ∷ []) m (Memᴰ.head refl) (λ n d. let e : f n ≡ f m = ap f (Memᴰ.eq_of_singleton d) in omega arith)
      ∙ ap (λ (b : Bool). cond b (m ∷ []) []) (eq-eqb (f m) (f m) refl)

  module _ (ms : List Move) (x : Move) (xs : List Move) (e : best_of f ms ≡ x ∷ xs) (m : Move) where
    there : Memᴰ x ms × ((n : Move) → Memᴰ n ms → f x ≤ f n)
    there = best-is ms x (subst (Memᴰ x) (sym e) (Memᴰ.head refl))

    -- a number that none of the list and its last falls below
    all_above : (l : ℕ) → l ≤ f x → l ≤ f m → (n : Move) → Memᴰ n (ms ++ m ∷ []) → l ≤ f n
    all_above l a b n d = go (split ms d)
      where
        split : (ks : List Move) → Memᴰ n (ks ++ m ∷ []) → Memᴰ n ks ⊎ (n ≡ m)
        split [] q = inr (Memᴰ.eq_of_singleton q)
        split (k ∷ ks) q = here (Memᴰ.cases_cons q) (split ks)
          where
            on : Memᴰ n ks ⊎ (n ≡ m) → Memᴰ n (k ∷ ks) ⊎ (n ≡ m)
            on (inl w) = inl (Memᴰ.tail w)
            on (inr w) = inr w

            here : (n ≡ k) ⊎ Memᴰ n (ks ++ m ∷ []) → (Memᴰ n (ks ++ m ∷ []) → Memᴰ n ks ⊎ (n ≡ m)) → Memᴰ n (k ∷ ks) ⊎ (n ≡ m)
            here (inl w) below = inl (Memᴰ.head w)
            here (inr w) below = on (below w)

        go : Memᴰ n ms ⊎ (n ≡ m) → l ≤ f n
        go (inl q) = let h = there.1 n q in omega (arith, h, a)
        go (inr q) = let h : f n ≡ f m = ap f q in omega (arith, h, b)

    pub best-lower : f m < f x → best_of f (ms ++ m ∷ []) ≡ m ∷ []
    unfolding kept
    best-lower l =
        best-by (ms ++ m ∷ []) m (Memᴰ.append_right ms (Memᴰ.head refl)) (all_above (f m) (omega (arith, l)) (omega arith))
        ∙ kept_append _ ms (m ∷ [])
        ∙ ap₂ ◌++◌ (kept-none (λ n. eqb (f n) (f m)) ms (λ n d. ne_eqb (f n) (f m) (λ q. let h = there.1 n d in absurd (omega (arith, h, q, l)))))
        (ap (λ (b : Bool). cond b (m ∷ []) []) (eq-eqb (f m) (f m) refl))

    -- it leaves no less
    more : f x ≤ f m → best_of f (ms ++ m ∷ []) ≡ (x ∷ xs) ++ cond (eqb (f m) (f x)) (m ∷ []) []
    unfolding kept
    more l =
        best-by (ms ++ m ∷ []) x (Memᴰ.append_left (m ∷ []) there.0) (all_above (f x) (omega arith) l)
        ∙ kept_append _ ms (m ∷ [])
        ∙ ap (λ (ks : List Move). ks ++ cond (eqb (f m) (f x)) (m ∷ []) []) (sym (best-by ms x there.0 there.1) ∙ e)

    pub best-equal : f m ≡ f x → best_of f (ms ++ m ∷ []) ≡ (x ∷ xs) ++ m ∷ []
    best-equal q = more (omega arith) ∙ ap (λ (b : Bool). (x ∷ xs) ++ cond b (m ∷ []) []) (eq-eqb (f m) (f x) q)

    pub best-higher : f x < f m → best_of f (ms ++ m ∷ []) ≡ x ∷ xs
    best-higher l =
        more (omega (arith, l)) ∙ ap (λ (b : Bool). (x ∷ xs) ++ cond b (m ∷ []) []) (ne_eqb (f m) (f x) (λ q. absurd (omega (arith, l, q))))
        ∙ append-nil (x ∷ xs)

-- where two ways to say what a move leaves agree on a list, the same are best
pub best-same : (f g : Move → ℕ) (ms : List Move) → ((n : Move) → Memᴰ n ms → f n ≡ g n) → best_of f ms ≡ best_of g ms
unfolding best_of none_smaller
best-same f g ms e =
    kept_same _ _ ms (λ n d.
    ap not (some_same (λ m. ltb (f m) (f n)) (λ m. ltb (g m) (g n)) ms (λ m l. ap₂ ltb (e m l) (e n d))))

-- what is kept of a list that rises, rises
rising-one : (b : Bool) (m : Move) (ms : List Move) → ((n : Move) → Memᴰ n ms → Earlier m n) → Rising ms → Rising (cond b (m ∷ ms) ms)
unfolding Rising
rising-one true m ms e r = (e, r)
rising-one false m ms e r = r

kept-rising : (f : Move → Bool) (ms : List Move) → Rising ms → Rising (kept f ms)
unfolding kept Rising
kept-rising f [] r = tt
kept-rising f (m ∷ ms) r = rising-one (f m) m (kept f ms) (λ n d. r.0 n (kept_in f n ms d)) (kept-rising f ms r.1)

pub best-in-order : (f : Move → ℕ) (ms : List Move) → Rising ms → Rising (best_of f ms)
unfolding best_of
best-in-order f ms r = kept-rising _ ms r
