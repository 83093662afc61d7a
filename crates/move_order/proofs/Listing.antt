-- The list of candidates: its order, and the walk through it. Assumes nothing.
use mathlib.Core.Path.{◌≡◌, refl, sym, ap, ap₂, subst}
use mathlib.Core.Logic.{◌⊎◌, inl, inr}
use mathlib.Core.Bool.{Bool, true, false, cond}
use mathlib.Core.List.Memᴰ
use mathlib.Core.List.{List, [], ◌∷◌, ◌++◌, Memᴰ}
use Prim.Native.Nat.{ℕ, zero, suc, ◌+◌, ◌*◌, ◌≤◌, ◌<◌}
use native.Mathlib.Omega.{arith}
use native.Mathlib.Decide.{dec_lt}
use lib.Dec.{eqb}
use Rattle.std.specs.Prelude.{Option, Some, None}
use Rattle.logic.specs.declared.Move.{Move}
use Rattle.logic.specs.Formula.{Plan}
use Rattle.logic.specs.Configuration.{Sets, in_masks}
use Rattle.logic.specs.Penalty.{each_port}
use Rattle.logic.specs.Moves.{no_move, known, fits, legal}
use Rattle.logic.proofs.Lists.{and_left}
use Rattle.contracts.specs.MoveOrder.{fields_are, all_moves, kept, candidates, Candidate, Rising, Once}
use Rattle.contracts.proofs.Candidates.{candidates-are, end-over}
use Rattle.logic.specs.inner.MoveFields.{t_end, q_end, Fields, Sized}
use Rattle.move_order.specs.inner.Stepping.{place, Begins, Follows, NextOr, outset, Walked, Stands, Low}
use Rattle.logic.proofs.MoveFields.{known-fields}
use Rattle.move_order.proofs.Order.{fields-low, place_same, place-earlier}

-- numbers that rise, from a on and below b
unfoldable RisingIn : ℕ → ℕ → List Move → Type 0
RisingIn a b [] = a ≤ b
RisingIn a b (m ∷ ms) = (a ≤ place m) × RisingIn (suc (place m)) b ms

rise-lower : (a c b : ℕ) (ms : List Move) → a ≤ c → RisingIn c b ms → RisingIn a b ms
unfolding RisingIn
rise-lower a c b [] h r = omega arith
rise-lower a c b (m ∷ ms) h r = let x = r.0 in (omega arith, r.1)

rise-upper : (a b c : ℕ) (ms : List Move) → b ≤ c → RisingIn a b ms → RisingIn a c ms
unfolding RisingIn
rise-upper a b c [] h r = omega arith
rise-upper a b c (m ∷ ms) h r = (r.0, rise-upper (suc (place m)) b c ms h r.1)

rise-append : (a b c : ℕ) (ms ns : List Move) → RisingIn a b ms → RisingIn b c ns → RisingIn a c (ms ++ ns)
unfolding RisingIn
rise-append a b c [] ns r q = rise-lower a b c ns r q
rise-append a b c (m ∷ ms) ns r q = (r.0, rise-append (suc (place m)) b c ms ns r.1 q)

rise_one : (m : Move) (a b : ℕ) (ms : List Move) → a ≤ place m → RisingIn (suc (place m)) b ms → (t : Bool) → RisingIn a b (cond t (m ∷ ms) ms)
unfolding RisingIn
rise_one m a b ms h r true = (h, r)
rise_one m a b ms h r false = rise-lower a (suc (place m)) b ms (omega arith) r

rise-kept : (f : Move → Bool) (a b : ℕ) (ms : List Move) → RisingIn a b ms → RisingIn a b (kept f ms)
unfolding RisingIn kept
rise-kept f a b [] r = r
rise-kept f a b (m ∷ ms) r = rise_one m a b (kept f ms) r.0 (rise-kept f (suc (place m)) b ms r.1) (f m)

rise-each : (n : ℕ) (f : ℕ → List Move) (g : ℕ → ℕ) → ((i : ℕ) → i < n → RisingIn (g i) (g (suc i)) (f i)) → RisingIn (g 0) (g n) (each_port n f)
unfolding RisingIn each_port
rise-each zero f g h = omega arith
rise-each (suc n) f g h = rise-append (g 0) (g n) (g (suc n)) (each_port n f) (f n) (rise-each n f g (λ i l. h i (omega arith))) (h n (omega arith))

-- lists in a row, each in its own stretch of numbers
rise-row : (n a b : ℕ) (f : ℕ → List Move) (g : ℕ → ℕ) → a ≤ g 0 → g n ≤ b → ((i : ℕ) → i < n → RisingIn (g i) (g (suc i)) (f i)) → RisingIn a b (each_port n f)
rise-row n a b f g l h r = rise-lower a (g 0) b (each_port n f) l (rise-upper (g 0) (g n) b (each_port n f) h (rise-each n f g r))

module _ (P : Plan) (Z : Sized P.ports P.sets) where
  rise-q : (k s t p : ℕ) → let x = ((k * 16 + s) * 16 + t) * 64 + p in
      RisingIn (x * 64) (suc x * 64) (each_port P.ports (λ q. fields_are k s t p q ∷ []))
  unfolding RisingIn fields_are place
  rise-q k s t p =
      let x = ((k * 16 + s) * 16 + t) * 64 + p in
      rise-row P.ports (x * 64) (suc x * 64) (λ q. fields_are k s t p q ∷ []) (λ q. x * 64 + q) (omega arith) (omega (arith, Z.ports-high))
      (λ q h. (omega arith, omega arith))

  rise-p : (k s t : ℕ) → let x = (k * 16 + s) * 16 + t in
      RisingIn (x * 4096) (suc x * 4096) (each_port P.ports (λ p. each_port P.ports (λ q. fields_are k s t p q ∷ [])))
  rise-p k s t =
      let x = (k * 16 + s) * 16 + t in
      rise-row P.ports (x * 4096) (suc x * 4096) (λ p. each_port P.ports (λ q. fields_are k s t p q ∷ [])) (λ p. (x * 64 + p) * 64)
      (omega arith) (omega (arith, Z.ports-high))
      (λ p h. rise-upper _ _ ((x * 64 + suc p) * 64) _ (omega arith) (rise-q k s t p))

  rise-t : (k s : ℕ) → let x = k * 16 + s in
      RisingIn (x * 65536) (suc x * 65536) (each_port P.sets (λ t. each_port P.ports (λ p. each_port P.ports (λ q. fields_are k s t p q ∷ []))))
  rise-t k s =
      let x = k * 16 + s in
      rise-row P.sets (x * 65536) (suc x * 65536) (λ t. each_port P.ports (λ p. each_port P.ports (λ q. fields_are k s t p q ∷ []))) (λ t. (x * 16 + t) * 4096)
      (omega arith) (omega (arith, Z.sets-high))
      (λ t h. rise-upper _ _ ((x * 16 + suc t) * 4096) _ (omega arith) (rise-p k s t))

  rise-s : (k : ℕ) → RisingIn (k * 1048576) (suc k * 1048576)
      (each_port P.sets (λ s. each_port P.sets (λ t. each_port P.ports (λ p. each_port P.ports (λ q. fields_are k s t p q ∷ [])))))
  rise-s k =
      rise-row P.sets (k * 1048576) (suc k * 1048576)
      (λ s. each_port P.sets (λ t. each_port P.ports (λ p. each_port P.ports (λ q. fields_are k s t p q ∷ [])))) (λ s. (k * 16 + s) * 65536)
      (omega arith) (omega (arith, Z.sets-high))
      (λ s h. rise-upper _ _ ((k * 16 + suc s) * 65536) _ (omega arith) (rise-t k s))

  rise-all : RisingIn 0 5242880 (all_moves P)
  unfolding all_moves
  rise-all = rise-row 5 0 5242880 _ (λ k. k * 1048576) (omega arith) (omega arith) (λ k h. rise-s k)

  rise-candidates : (kinds : ℕ) (k : Sets) → RisingIn 0 5242880 (candidates P kinds k)
  unfolding candidates
  rise-candidates kinds k = rise-kept _ 0 5242880 (all_moves P) rise-all

-- numbers of a list that rises
rise-in : (a b : ℕ) (ms : List Move) → RisingIn a b ms → (m : Move) → Memᴰ m ms → a ≤ place m
unfolding RisingIn
rise-in a b [] r m d = absurd (Memᴰ.not-nil d)
rise-in a b (n ∷ ms) r m d = go (Memᴰ.cases_cons d) (rise-in (suc (place n)) b ms r.1 m)
  where
    go : (m ≡ n) ⊎ Memᴰ m ms → (Memᴰ m ms → suc (place n) ≤ place m) → a ≤ place m
    go (inl e) below = subst (λ (x : Move). a ≤ place x) (sym e) r.0
    go (inr h) below = let x = below h in let y = r.0 in omega (arith, x, y)

rise-once : (a b : ℕ) (ms : List Move) → RisingIn a b ms → Once ms
unfolding RisingIn Once
rise-once a b [] r = tt
rise-once a b (m ∷ ms) r = (
  (λ d. let x = rise-in (suc (place m)) b ms r.1 m d in absurd (omega (arith, x))),
  rise-once (suc (place m)) b ms r.1,
)

rise-order : (a b : ℕ) (ms : List Move) → ((m : Move) → Memᴰ m ms → Low m) → RisingIn a b ms → Rising ms
unfolding RisingIn Rising
rise-order a b [] L r = tt
rise-order a b (m ∷ ms) L r = (
  (λ n d. place-earlier m n (L m (Memᴰ.head refl)) (L n (Memᴰ.tail d)) (rise-in (suc (place m)) b ms r.1 n d)),
  rise-order (suc (place m)) b ms (λ n d. L n (Memᴰ.tail d)) r.1,
)

pub candidate-fields : (P : Plan) (k : Sets) (m : Move) → legal P k m ≡ true → Fields P.ports P.sets m
unfolding legal
candidate-fields P k m h = known-fields P m (and_left (known P m) (fits k m) h)

module _ (P : Plan) (Z : Sized P.ports P.sets) where
  pub candidate-low : (k : Sets) (m : Move) → legal P k m ≡ true → Low m
  candidate-low k m h = fields-low P.ports P.sets m Z (candidate-fields P k m h)

  -- No move is in the list twice.
  pub candidates-once : (kinds : ℕ) (k : Sets) → Once (candidates P kinds k)
  candidates-once kinds k = rise-once 0 5242880 (candidates P kinds k) (rise-candidates P Z kinds k)

  -- Each stands before all that follow it, in the order kind, S, T, p, q.
  pub candidates-rising : (kinds : ℕ) (k : Sets) → Rising (candidates P kinds k)
  candidates-rising kinds k =
      rise-order 0 5242880 (candidates P kinds k) (λ m d. candidate-low k m ((candidates-are P kinds k m).0 d).1) (rise-candidates P Z kinds k)

  -- a list that rises and has all candidates after m is the walk from m
  walk_of : (kinds : ℕ) (own : List ℕ) (b : ℕ) (ms : List Move) (m : Move) → RisingIn (suc (place m)) b ms
      → ((n : Move) → Memᴰ n ms → Candidate P kinds (in_masks own) n)
      → ((n : Move) → Candidate P kinds (in_masks own) n → place m < place n → Memᴰ n ms) → Walked P kinds own m ms
  unfolding RisingIn Walked
  walk_of kinds own b [] m r C all = record { all-passed = λ n c. go n c (dec_lt (place m) (place n)) }
    where
      go : (n : Move) → Candidate P kinds (in_masks own) n → Dec (place m < place n) → place n ≤ place m
      go n c (yes h) = absurd (Memᴰ.not-nil (all n c h))
      go n c (no h) = omega arith
  walk_of kinds own b (x ∷ ms) m r C all = (
    record {
      candidate = C x (Memᴰ.head refl);
      later = r.0;
      nearest = λ n c h. rise-in (place x) b (x ∷ ms) (omega arith, r.1) n (all n c h);
    },
    walk_of kinds own b ms x r.1 (λ n d. C n (Memᴰ.tail d)) (λ n c h. go n h (Memᴰ.cases_cons (all n c (let y = r.0 in omega (arith, h, y))))),
  )
    where
      go : (n : Move) → place x < place n → (n ≡ x) ⊎ Memᴰ n ms → Memᴰ n ms
      go n h (inl e) = let f = ap place e in absurd (omega (arith, h, f))
      go n h (inr d) = d

  -- the candidates stand after the outset
  raise : (b : ℕ) (ms : List Move) → 1 ≤ b → ((n : Move) → Memᴰ n ms → 1 ≤ place n) → RisingIn 0 b ms → RisingIn 1 b ms
  unfolding RisingIn
  raise b [] h L r = h
  raise b (m ∷ ms) h L r = (L m (Memᴰ.head refl), r.1)

  pub past-outset : (n : Move) → 1 ≤ n.kind → 1 ≤ place n
  unfolding place
  past-outset n h = omega arith

  -- The list is what steps to the next candidate, from the outset until there is none, go through ..
  pub candidates-walked : (kinds : ℕ) (own : List ℕ) → Walked P kinds own outset (candidates P kinds (in_masks own))
  unfolding outset no_move place
  candidates-walked kinds own =
      walk_of kinds own 5242880 (candidates P kinds (in_masks own)) outset
      (raise 5242880 (candidates P kinds (in_masks own)) (omega arith)
      (λ n d. past-outset n (candidate-fields P (in_masks own) n ((candidates-are P kinds (in_masks own) n).0 d).1).kind-low)
      (rise-candidates P Z kinds (in_masks own)))
      (λ n d. let h = (candidates-are P kinds (in_masks own) n).0 d in record { of-kinds = h.0; is-legal = h.1 })
      (λ n c h. (candidates-are P kinds (in_masks own) n).1 (c.of-kinds, c.is-legal))

  follows_same : (kinds : ℕ) (own : List ℕ) (m x y : Move) → Follows P kinds own m x → Follows P kinds own m y → x ≡ y
  follows_same kinds own m x y F G =
      let a = F.nearest y G.candidate G.later in
      let b = G.nearest x F.candidate F.later in
      place_same x y (candidate-low (in_masks own) x F.candidate.is-legal) (candidate-low (in_masks own) y G.candidate.is-legal) (omega (arith, a, b))

  -- .. and nothing else is: a walk gives each candidate once, in order, and misses none.
  walked_same : (kinds : ℕ) (own : List ℕ) (m : Move) (xs ys : List Move) → Walked P kinds own m xs → Walked P kinds own m ys → xs ≡ ys
  unfolding Walked
  walked_same kinds own m [] [] v w = refl
  walked_same kinds own m [] (y ∷ ys) v w =
      let a = v.all-passed y w.0.candidate in let b = w.0.later in absurd (omega (arith, a, b))
  walked_same kinds own m (x ∷ xs) [] v w =
      let a = w.all-passed x v.0.candidate in let b = v.0.later in absurd (omega (arith, a, b))
  walked_same kinds own m (x ∷ xs) (y ∷ ys) v w =
      let e = follows_same kinds own m x y v.0 w.0 in
      ap₂ ◌∷◌ e (walked_same kinds own y xs ys (subst (λ (z : Move). Walked P kinds own z xs) e v.1) w.1)

  pub walked-candidates : (kinds : ℕ) (own : List ℕ) (ms : List Move) → Walked P kinds own outset ms → ms ≡ candidates P kinds (in_masks own)
  walked-candidates kinds own ms w = walked_same kinds own outset ms (candidates P kinds (in_masks own)) w (candidates-walked kinds own)

  -- a step from m goes to the first of what is left
  pub stands-next : (kinds : ℕ) (own : List ℕ) (m : Move) (r : Option Move) (ms : List Move) → Walked P kinds own m ms → NextOr P kinds own m r → Stands P kinds own r ms
  unfolding Walked NextOr Stands
  stands-next kinds own m (Some x) [] v F = let a = v.all-passed x F.candidate in let b = F.later in absurd (omega (arith, a, b))
  stands-next kinds own m None [] v N = refl
  stands-next kinds own m (Some x) (n ∷ ms) v F =
      let e = follows_same kinds own m x n F v.0 in
      (e, subst (λ (y : Move). Walked P kinds own y ms) (sym e) v.1)
  stands-next kinds own m None (n ∷ ms) v N =
      let a = N.all-passed n v.0.candidate in let b = v.0.later in absurd (omega (arith, a, b))

  -- how far the candidates go
  pub candidate-high : (k : Sets) (m : Move) → legal P k m ≡ true → place m < 6291456
  unfolding place
  candidate-high k m h =
      let F = candidate-fields P k m h in
      omega (arith, candidate-low k m h, F.kind-high)

  -- the search can go on from a candidate
  pub candidate-begins : (k : Sets) (m : Move) → legal P k m ≡ true → Begins P.ports P.sets m
  unfolding t_end q_end
  candidate-begins k m h =
      let F = candidate-fields P k m h in
      record {
        position = record {
          sized = Z;
          kind-high = omega (arith, F.kind-high);
          s-below = F.s-below;
          t-below = end-over (eqb m.kind 3) m.t m.s P.sets F.s-below F.t-below;
          p-below = F.p-below;
          q-below = end-over (eqb m.kind 4) m.q m.p P.ports F.p-below F.q-below;
        };
        not-past = omega (arith, F.kind-high);
      }
