-- The steps of the odometer, and what a walk by them has passed. Assumes nothing.
use mathlib.Core.Path.{◌≡◌, refl, sym, ap, ◌∙◌, subst}
use mathlib.Core.Bool.{Bool, true, false, cond, not, ◌&&◌, true≢false, false≢true}
use mathlib.Core.List.{List}
use Prim.Native.Nat.{ℕ, suc, ◌+◌, ◌*◌, ◌/◌, ◌%◌, ◌≤◌, ◌<◌}
use native.Mathlib.Omega.{arith}
use native.Mathlib.Decide.{dec_lt, ℕ_discrete}
use lib.Dec.{eqb}
use lib.ListN.{take}
use borrow.Author.Tests.{eqb-true}
use Rattle.std.specs.Prelude.{Some, None}
use Rattle.logic.specs.declared.Move.{Move}
use Rattle.logic.specs.Configuration.{in_masks, mask_count}
use Rattle.logic.specs.Moves.{of_kinds, move_kind, kind_weight}
use Rattle.logic.proofs.Lists.{and_left}
use Rattle.contracts.specs.MoveOrder.{fields_are}
use Rattle.move_order.specs.inner.Stepping.{place, Position, Begins, BeginsOver, SizedOver, Suits, NextOr, GivesNext, q_end_at, StepsOn, Low}
use Rattle.logic.specs.inner.MoveFields.{t_end, q_end}
use Rattle.move_legal.proofs.Fitting.{in-own, fits-swap}
use Rattle.move_order.proofs.Known.{suits-candidate, candidate-suits}
use Rattle.move_order.proofs.Order.{end_low, fields-low, position-low, place_same}

-- a last digit that cannot rise carries into the digits before it
carry-64 : (a b x y : ℕ) → a * 64 + x < b * 64 + y → y ≤ x → suc a ≤ b
carry-64 a b x y h l = omega arith

carry-16 : (a b x y : ℕ) → a * 16 + x < b * 16 + y → y ≤ x → suc a ≤ b
carry-16 a b x y h l = omega arith

-- the digits before q, before p and before T
abbrev to-p : Move → ℕ
to-p m = ((m.kind * 16 + m.s) * 16 + m.t) * 64 + m.p

abbrev to-t : Move → ℕ
to-t m = (m.kind * 16 + m.s) * 16 + m.t

abbrev to-s : Move → ℕ
to-s m = m.kind * 16 + m.s

-- q's end is 0 where a swap's p is not in S, which is so of no candidate
swap-end-below : (swap inside : Bool) (q end : ℕ) → (swap ≡ true → inside ≡ true) → q < end → q < cond (swap && not inside) 0 end
swap-end-below true true q end h l = l
swap-end-below true false q end h l = absurd (false≢true (h refl))
swap-end-below false inside q end h l = l

swap-end-high : (b : Bool) (n end : ℕ) → end ≤ n → cond b 0 end ≤ n
swap-end-high true n end h = omega arith
swap-end-high false n end h = h

module _ (ports sets kinds : ℕ) (masks : List ℕ) (m : Move) (B : Begins ports sets m) where
  low : Low m
  low = position-low ports sets m B.position

  low_of : (n : Move) → Suits ports sets kinds masks n → Low n
  low_of n S = fields-low ports sets n B.position.sized S.fields

  -- a candidate of another kind stands past all of this kind
  past-kind : (n : Move) → Suits ports sets kinds masks n → (n.kind ≡ m.kind → ⊥) → place m < place n → suc m.kind * 1048576 ≤ place n
  unfolding place
  past-kind n S ne l =
      let K = low_of n S in
      let h : m.kind ≤ n.kind = omega (arith, low, K, l) in
      omega (arith, h, ne)

  steps_of : (r : Move) → Position ports sets r → place m < place r → place r ≤ suc m.kind * 1048576
      → ((n : Move) → Suits ports sets kinds masks n → n.kind ≡ m.kind → place m < place n → place r ≤ place n)
      → StepsOn ports sets kinds masks m r
  steps_of r X l h same = record {
    position = X;
    later = l;
    none_between = λ n S g. go n S g (ℕ_discrete n.kind m.kind);
  }
    where
      go : (n : Move) → Suits ports sets kinds masks n → place m < place n → Dec (n.kind ≡ m.kind) → place r ≤ place n
      go n S g (yes e) = same n S e g
      go n S g (no ne) = let x = past-kind n S ne g in omega (arith, h, x)

  q-end-high : q_end_at ports masks m ≤ ports
  unfolding q_end_at q_end
  q-end-high =
      swap-end-high (eqb m.kind 4 && not (in_masks masks m.s m.p)) ports (q_end m.kind ports)
      (end_low (eqb m.kind 4) ports B.position.sized.ports-low)

  -- a candidate's q is below its end ..
  below_end : (n : Move) → Suits ports sets kinds masks n → n.q < q_end_at ports masks n
  unfolding q_end_at
  below_end n S =
      swap-end-below (eqb n.kind 4) (in_masks masks n.s n.p) n.q _
      (λ e. sym (in-own (mask_count sets) masks n.s n.p (omega (arith, S.fields.s-below)))
      ∙ and_left _ _ (sym (fits-swap (in_masks (take (mask_count sets) masks)) n (eqb-true _ _ e)) ∙ S.fitting))
      S.fields.q-below

  -- .. which is that of m if only q differs
  same_end : (n : Move) → Suits ports sets kinds masks n → to-p n ≡ to-p m → n.q < q_end_at ports masks m
  unfolding place fields_are q_end_at
  same_end n S e =
      let K = low_of n S in
      let x = fields_are m.kind m.s m.t m.p n.q in
      let L : Low x = record { s-low = low.s-low; t-low = low.t-low; p-low = low.p-low; q-low = K.q-low } in
      subst (λ (y : Move). n.q < q_end_at ports masks y) (place_same n x K L (omega (arith, e))) (below_end n S)

  t-end : (n : Move) → Suits ports sets kinds masks n → n.kind ≡ m.kind → n.t < t_end m.kind sets
  t-end n S e = subst (λ (j : ℕ). n.t < t_end j sets) e S.fields.t-below

  -- q cannot rise: the digits before it do
  over-q : q_end_at ports masks m ≤ m.q + 1 → (n : Move) → Suits ports sets kinds masks n → place m < place n → suc (to-p m) ≤ to-p n
  unfolding place
  over-q h n S l = go (dec_lt (to-p m) (to-p n))
    where
      go : Dec (to-p m < to-p n) → suc (to-p m) ≤ to-p n
      go (yes g) = g
      go (no g) =
          let K = low_of n S in
          let e : to-p n ≡ to-p m = omega (arith, K.q-low, l, g) in
          let q = same_end n S e in
          absurd (omega (arith, h, l, e, q))

  over-p : ports ≤ m.p + 1 → (n : Move) → Suits ports sets kinds masks n → suc (to-p m) ≤ to-p n → suc (to-t m) ≤ to-t n
  over-p h n S l = let p = S.fields.p-below in carry-64 (to-t m) (to-t n) m.p n.p l (omega arith)

  over-t : t_end m.kind sets ≤ m.t + 1 → (n : Move) → Suits ports sets kinds masks n → n.kind ≡ m.kind → suc (to-t m) ≤ to-t n → suc (to-s m) ≤ to-s n
  over-t h n S e l = let t = t-end n S e in carry-16 (to-s m) (to-s n) m.t n.t l (omega arith)

  over-s : sets ≤ m.s + 1 → (n : Move) → Suits ports sets kinds masks n → suc (to-s m) ≤ to-s n → suc m.kind ≤ n.kind
  over-s h n S l = let s = S.fields.s-below in carry-16 m.kind n.kind m.s n.s l (omega arith)

  one-kind : (n : Move) → Suits ports sets kinds masks n → n.kind ≡ m.kind → suc (to-s m) ≤ to-s n → sets ≤ m.s + 1 → ⊥
  one-kind n S e l h = let x = over-s h n S l in omega (arith, x, e)

  -- the five ways of a step
  pub step-q : m.q + 1 < q_end_at ports masks m → StepsOn ports sets kinds masks m (fields_are m.kind m.s m.t m.p (m.q + 1))
  unfolding fields_are place
  step-q h = steps_of _ (record {
    sized = B.position.sized;
    kind-high = B.position.kind-high;
    s-below = B.position.s-below;
    t-below = B.position.t-below;
    p-below = B.position.p-below;
    q-below = omega (arith, h, q-end-high);
  }) (omega arith) (omega (arith, low)) (λ n S e g. omega (arith, g))

  pub step-p : q_end_at ports masks m ≤ m.q + 1 → m.p + 1 < ports → StepsOn ports sets kinds masks m (fields_are m.kind m.s m.t (m.p + 1) 0)
  unfolding fields_are place
  step-p h l = steps_of _ (record {
    sized = B.position.sized;
    kind-high = B.position.kind-high;
    s-below = B.position.s-below;
    t-below = B.position.t-below;
    p-below = l;
    q-below = B.position.sized.ports-low;
  }) (omega (arith, low)) (omega (arith, low, B.position.sized)) (λ n S e g. let x = over-q h n S g in omega (arith, x))

  pub step-t : q_end_at ports masks m ≤ m.q + 1 → ports ≤ m.p + 1 → m.t + 1 < t_end m.kind sets
      → StepsOn ports sets kinds masks m (fields_are m.kind m.s (m.t + 1) 0 0)
  unfolding fields_are place t_end
  step-t h i l = steps_of _ (record {
    sized = B.position.sized;
    kind-high = B.position.kind-high;
    s-below = B.position.s-below;
    t-below = omega (arith, l, end_low (eqb m.kind 3) sets B.position.sized.sets-low);
    p-below = B.position.sized.ports-low;
    q-below = B.position.sized.ports-low;
  }) (omega (arith, low)) (omega (arith, low, B.position.sized)) (λ n S e g. let x = over-p i n S (over-q h n S g) in omega (arith, x))

  pub step-s : q_end_at ports masks m ≤ m.q + 1 → ports ≤ m.p + 1 → t_end m.kind sets ≤ m.t + 1 → m.s + 1 < sets
      → StepsOn ports sets kinds masks m (fields_are m.kind (m.s + 1) 0 0 0)
  unfolding fields_are place
  step-s h i j l = steps_of _ (record {
    sized = B.position.sized;
    kind-high = B.position.kind-high;
    s-below = l;
    t-below = B.position.sized.sets-low;
    p-below = B.position.sized.ports-low;
    q-below = B.position.sized.ports-low;
  }) (omega (arith, low)) (omega (arith, low, B.position.sized)) (λ n S e g. let x = over-t j n S e (over-p i n S (over-q h n S g)) in omega (arith, x))

  -- the first position of the next kind
  next-kind : ((n : Move) → Suits ports sets kinds masks n → n.kind ≡ m.kind → place m < place n → ⊥)
      → StepsOn ports sets kinds masks m (fields_are (m.kind + 1) 0 0 0 0)
  unfolding fields_are place
  next-kind none = steps_of _ (record {
    sized = B.position.sized;
    kind-high = omega (arith, B.not-past);
    s-below = B.position.sized.sets-low;
    t-below = B.position.sized.sets-low;
    p-below = B.position.sized.ports-low;
    q-below = B.position.sized.ports-low;
  }) (omega (arith, low)) (omega arith) (λ n S e g. absurd (none n S e g))

  pub step-kind : q_end_at ports masks m ≤ m.q + 1 → ports ≤ m.p + 1 → t_end m.kind sets ≤ m.t + 1 → sets ≤ m.s + 1
      → StepsOn ports sets kinds masks m (fields_are (m.kind + 1) 0 0 0 0)
  step-kind h i j l = next-kind (λ n S e g. one-kind n S e (over-t j n S e (over-p i n S (over-q h n S g))) l)

  pub skip-kind : of_kinds kinds m ≡ false → StepsOn ports sets kinds masks m (fields_are (m.kind + 1) 0 0 0 0)
  unfolding of_kinds
  skip-kind h = next-kind (λ n S e g. true≢false (sym S.of-kinds ∙ ap (λ (j : ℕ). eqb (kinds / kind_weight (move_kind j) % 2) 1) e ∙ h))

-- What a walk from at₀ to at has passed: no candidate.
pub record Passed (ports sets kinds : ℕ) (masks : List ℕ) (at₀ at : Move) : Type 0 where
  pub position : Position ports sets at
  pub later : place at₀ ≤ place at
  pub none_between : (n : Move) → Suits ports sets kinds masks n → place at₀ ≤ place n → place at ≤ place n

pub passed_none : (ports sets kinds : ℕ) (masks : List ℕ) (at₀ : Move) → Position ports sets at₀ → Passed ports sets kinds masks at₀ at₀
passed_none ports sets kinds masks at₀ X = record { position = X; later = omega arith; none_between = λ n S g. g }

pub passed-one : (ports sets kinds : ℕ) (masks : List ℕ) (at₀ at r : Move) → Passed ports sets kinds masks at₀ at
    → (Suits ports sets kinds masks at → ⊥) → StepsOn ports sets kinds masks at r → Passed ports sets kinds masks at₀ r
passed-one ports sets kinds masks at₀ at r D n T = record {
  position = T.position;
  later = omega (arith, D.later, T.later);
  none_between = λ x S g. go x S (D.none_between x S g) (dec_lt (place at) (place x));
}
  where
    go : (x : Move) → Suits ports sets kinds masks x → place at ≤ place x → Dec (place at < place x) → place r ≤ place x
    go x S l (yes h) = T.none_between x S h
    go x S l (no h) =
        let e : place x ≡ place at = omega arith in
        let K = fields-low ports sets x D.position.sized S.fields in
        absurd (n (subst (Suits ports sets kinds masks) (place_same x at K (position-low ports sets at D.position) e) S))

-- the walk ends at a candidate
pub gives_found : (ports sets kinds : ℕ) (masks : List ℕ) (m at₀ at : Move) → StepsOn ports sets kinds masks m at₀ → Passed ports sets kinds masks at₀ at
    → Suits ports sets kinds masks at → GivesNext ports sets kinds masks m (Some at)
unfolding GivesNext NextOr
gives_found ports sets kinds masks m at₀ at T D S = λ P e f. record {
  candidate = suits-candidate P ports sets kinds masks at e f S;
  later = omega (arith, T.later, D.later);
  nearest = λ n C g.
      let K = candidate-suits P ports sets kinds masks n e f C in
      D.none_between n K (T.none_between n K g);
}

-- or past the last kind
pub gives_none : (ports sets kinds : ℕ) (masks : List ℕ) (m at₀ at : Move) → StepsOn ports sets kinds masks m at₀ → Passed ports sets kinds masks at₀ at
    → 5 ≤ at.kind → GivesNext ports sets kinds masks m None
unfolding GivesNext NextOr place
gives_none ports sets kinds masks m at₀ at T D h = λ P e f. record {
  all-passed = λ n C. go n (candidate-suits P ports sets kinds masks n e f C) (dec_lt (place m) (place n));
}
  where
    beyond : (n : Move) → Suits ports sets kinds masks n → place n < place at
    beyond n S =
        let K = fields-low ports sets n D.position.sized S.fields in
        let l = S.fields.kind-high in
        omega (arith, K, l, h)

    go : (n : Move) → Suits ports sets kinds masks n → Dec (place m < place n) → place n ≤ place m
    go n S (yes g) =
        let x = D.none_between n S (T.none_between n S g) in
        let y = beyond n S in
        absurd (omega (arith, x, y))
    go n S (no g) = omega arith

-- how far the order goes
pub place-high : (ports sets : ℕ) (m : Move) → Position ports sets m → place m < 6291456
unfolding place
place-high ports sets m X = omega (arith, position-low ports sets m X, X.kind-high)

-- the walk can begin before the first move of a kind
pub zeros-begin : (kind ports sets : ℕ) (masks : List ℕ) → kind < 5 → SizedOver ports sets masks → BeginsOver ports sets (fields_are kind 0 0 0 0) masks
unfolding fields_are
zeros-begin kind ports sets masks h Z = record {
  begins = record {
    position = record {
      sized = Z.sized;
      kind-high = omega arith;
      s-below = Z.sized.sets-low;
      t-below = Z.sized.sets-low;
      p-below = Z.sized.ports-low;
      q-below = Z.sized.ports-low;
    };
    not-past = h;
  };
  masks-enough = Z.masks-enough;
}
