-- The list of candidates has exactly the legal moves of the kinds; what is kept of a list of moves. Assumes nothing.
use mathlib.Core.Path.{◌≡◌, refl, sym, ap, ◌∙◌, subst}
use mathlib.Core.Logic.{◌⊎◌, inl, inr, ◌↔◌}
use mathlib.Core.Bool.{Bool, true, false, cond, true≢false}
use mathlib.Core.List.Memᴰ
use mathlib.Core.List.{List, [], ◌∷◌, ◌++◌, Memᴰ}
use Prim.Native.Nat.{ℕ, zero, suc, ◌≤◌, ◌<◌}
use native.Mathlib.Omega.{arith}
use native.Mathlib.Decide.{dec_lt}
use lib.Dec.{eqb}
use lib.ListN.{length}
use Rattle.logic.specs.declared.Move.{Move}
use Rattle.logic.specs.Formula.{Plan}
use Rattle.logic.specs.Configuration.{Sets}
use Rattle.logic.specs.Penalty.{each_port}
use Rattle.logic.specs.Moves.{known, fits, legal, of_kinds}
use Rattle.logic.proofs.Lists.{and_left, and_right, and-true}
use Rattle.logic.specs.inner.MoveFields.{t_end, q_end, Fields}
use Rattle.logic.proofs.MoveFields.{known-fields}
use Rattle.contracts.specs.MoveOrder.{fields_are, all_moves, kept, candidates, Candidate}

-- what is kept of a list
kept-head : (f : Move → Bool) (m n : Move) (ms : List Move) → (Memᴰ m ms → f m ≡ true) → f n ≡ true → (m ≡ n) ⊎ Memᴰ m ms → f m ≡ true
kept-head f m n ms below e (inl h) = ap f h ∙ e
kept-head f m n ms below e (inr h) = below h

kept-one : (f : Move → Bool) (m n : Move) (ms : List Move) → (Memᴰ m ms → f m ≡ true)
    → (b : Bool) → f n ≡ b → Memᴰ m (cond b (n ∷ ms) ms) → f m ≡ true
kept-one f m n ms below true e d = kept-head f m n ms below e (Memᴰ.cases_cons d)
kept-one f m n ms below false e d = below d

pub kept-is : (f : Move → Bool) (m : Move) (ms : List Move) → Memᴰ m (kept f ms) → f m ≡ true
unfolding kept
kept-is f m [] d = absurd (Memᴰ.not-nil d)
kept-is f m (n ∷ ms) d = kept-one f m n (kept f ms) (kept-is f m ms) (f n) refl d

keep_one : (f : Move → Bool) (m n : Move) (ms ks : List Move) → f m ≡ true → (Memᴰ m ms → Memᴰ m ks)
    → (b : Bool) → f n ≡ b → (m ≡ n) ⊎ Memᴰ m ms → Memᴰ m (cond b (n ∷ ks) ks)
keep_one f m n ms ks t below true e (inl h) = Memᴰ.head h
keep_one f m n ms ks t below true e (inr h) = Memᴰ.tail (below h)
keep_one f m n ms ks t below false e (inl h) = absurd (true≢false (sym t ∙ ap f h ∙ e))
keep_one f m n ms ks t below false e (inr h) = below h

pub keep : (f : Move → Bool) (m : Move) (ms : List Move) → f m ≡ true → Memᴰ m ms → Memᴰ m (kept f ms)
unfolding kept
keep f m [] t d = absurd (Memᴰ.not-nil d)
keep f m (n ∷ ms) t d = keep_one f m n ms (kept f ms) t (keep f m ms t) (f n) refl (Memᴰ.cases_cons d)

-- what stands in one of some lists in a row
in-each : (n : ℕ) (f : ℕ → List Move) (m : Move) (i : ℕ) → i < n → Memᴰ m (f i) → Memᴰ m (each_port n f)
unfolding each_port
in-each zero f m i h d = absurd (omega arith)
in-each (suc n) f m i h d = go (dec_lt i n) (λ (l : i < n). in-each n f m i l d)
  where
    go : Dec (i < n) → (i < n → Memᴰ m (each_port n f)) → Memᴰ m (each_port n f ++ f n)
    go (yes l) below = Memᴰ.append_left (f n) (below l)
    go (no l) below =
        let e : i ≡ n = omega arith in
        Memᴰ.append_right (each_port n f) (subst (λ (j : ℕ). Memᴰ m (f j)) e d)

pub end-over : (b : Bool) (x y n : ℕ) → y < n → x < cond b n 1 → x < n
end-over true x y n h l = l
end-over false x y n h l = omega arith

in_all : (P : Plan) (m : Move) → Fields P.ports P.sets m → Memᴰ m (all_moves P)
unfolding all_moves fields_are t_end q_end
in_all P m F =
    in-each _ _ m m.kind (omega (arith, F.kind-high))
    (in-each P.sets _ m m.s F.s-below
    (in-each P.sets _ m m.t (end-over (eqb m.kind 3) m.t m.s P.sets F.s-below F.t-below)
    (in-each P.ports _ m m.p F.p-below
    (in-each P.ports _ m m.q (end-over (eqb m.kind 4) m.q m.p P.ports F.p-below F.q-below)
    (Memᴰ.head refl)))))

-- The list has exactly the legal moves of the kinds.
pub candidates-are : (P : Plan) (kinds : ℕ) (k : Sets) (m : Move)
    → Memᴰ m (candidates P kinds k) ↔ ((of_kinds kinds m ≡ true) × (legal P k m ≡ true))
unfolding candidates legal
candidates-are P kinds k m = (
  (λ d. let h = kept-is _ m (all_moves P) d in (and_left (of_kinds kinds m) (legal P k m) h, and_right (of_kinds kinds m) (legal P k m) h)),
  (λ h. keep _ m (all_moves P) (and-true (of_kinds kinds m) (legal P k m) h.0 h.1)
      (in_all P m (known-fields P m (and_left (known P m) (fits k m) h.1)))),
)

pub candidate-in : (P : Plan) (kinds : ℕ) (k : Sets) (m : Move) → Candidate P kinds k m → Memᴰ m (candidates P kinds k)
candidate-in P kinds k m c = (candidates-are P kinds k m).1 (c.of-kinds, c.is-legal)

pub in-candidate : (P : Plan) (kinds : ℕ) (k : Sets) (m : Move) → Memᴰ m (candidates P kinds k) → Candidate P kinds k m
in-candidate P kinds k m d =
    let h = (candidates-are P kinds k m).0 d in
    record { of-kinds = h.0; is-legal = h.1 }

-- what is kept stands in the list
kept-among : (m n : Move) (ms ks : List Move) → (Memᴰ m ks → Memᴰ m ms) → (b : Bool) → Memᴰ m (cond b (n ∷ ks) ks) → Memᴰ m (n ∷ ms)
kept-among m n ms ks below true d = go (Memᴰ.cases_cons d)
  where
    go : (m ≡ n) ⊎ Memᴰ m ks → Memᴰ m (n ∷ ms)
    go (inl e) = Memᴰ.head e
    go (inr h) = Memᴰ.tail (below h)
kept-among m n ms ks below false d = Memᴰ.tail (below d)

pub kept_in : (f : Move → Bool) (m : Move) (ms : List Move) → Memᴰ m (kept f ms) → Memᴰ m ms
unfolding kept
kept_in f m [] d = d
kept_in f m (n ∷ ms) d = kept-among m n ms (kept f ms) (kept_in f m ms) (f n) d

pub kept_same : (f g : Move → Bool) (ms : List Move) → ((n : Move) → Memᴰ n ms → f n ≡ g n) → kept f ms ≡ kept g ms
unfolding kept
kept_same f g [] h = refl
kept_same f g (m ∷ ms) h = λ i.
    cond (h m (Memᴰ.head refl) i) (m ∷ kept_same f g ms (λ n d. h n (Memᴰ.tail d)) i) (kept_same f g ms (λ n d. h n (Memᴰ.tail d)) i)

kept-joined : (b : Bool) (m : Move) (ks ls : List Move) → cond b (m ∷ (ks ++ ls)) (ks ++ ls) ≡ cond b (m ∷ ks) ks ++ ls
kept-joined true m ks ls = refl
kept-joined false m ks ls = refl

pub kept_append : (f : Move → Bool) (ms ns : List Move) → kept f (ms ++ ns) ≡ kept f ms ++ kept f ns
unfolding kept
kept_append f [] ns = refl
kept_append f (m ∷ ms) ns =
    ap (λ (ks : List Move). cond (f m) (m ∷ ks) ks) (kept_append f ms ns) ∙ kept-joined (f m) m (kept f ms) (kept f ns)

pub kept-none : (f : Move → Bool) (ms : List Move) → ((n : Move) → Memᴰ n ms → f n ≡ false) → kept f ms ≡ []
unfolding kept
kept-none f [] h = refl
kept-none f (m ∷ ms) h =
    ap (λ (b : Bool). cond b (m ∷ kept f ms) (kept f ms)) (h m (Memᴰ.head refl)) ∙ kept-none f ms (λ n d. h n (Memᴰ.tail d))

-- no more is kept than there is
shorter-one : (b : Bool) (m : Move) (ms ks : List Move) → length ks ≤ length ms → length (cond b (m ∷ ks) ks) ≤ suc (length ms)
shorter-one true m ms ks h = omega arith
shorter-one false m ms ks h = omega arith

pub kept-shorter : (f : Move → Bool) (ms : List Move) → length (kept f ms) ≤ length ms
unfolding kept
kept-shorter f [] = omega arith
kept-shorter f (m ∷ ms) = shorter-one (f m) m ms (kept f ms) (kept-shorter f ms)
