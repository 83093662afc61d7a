-- The change of a move, told by its sets and ports. Assumes nothing.
use mathlib.Core.Path.{◌≡◌, refl, sym, ap, ap₂, ◌∙◌}
use mathlib.Core.Logic.{◌≢◌}
use mathlib.Core.Bool.{Bool, true, false, ◌&&◌, ◌||◌, false≢true}
use mathlib.Core.List.{[], ◌∷◌}
use Prim.Native.Nat.{ℕ, zero, suc, ◌+◌, ◌*◌, ◌^◌, ◌≤◌, ◌<◌, min, max}
use native.Mathlib.Omega.{arith}
use native.Mathlib.Decide.{ℕ_discrete, dec_le}
use lib.Bits.{bit_or}
use lib.Dec.{eqb, ltb}
use borrow.Author.Tests.{eq-eqb, ne_eqb, ltb-true}
use Rattle.logic.specs.declared.Move.{Move}
use Rattle.logic.specs.Formula.{Plan}
use Rattle.logic.specs.Configuration.{in_mask}
use Rattle.logic.specs.Moves.{MoveKind, add, drop, transfer, swap, unknown, move_kind, fields_known, known, kind_pairs, named_pairs, move_pairs}
use Rattle.logic.specs.Change.{Change, some_of, pairs_change}
use Rattle.logic.specs.inner.Agreement.{listed}
use Rattle.logic.proofs.Lists.{and_left, and_right, or-true-left, or_true_right, or-false}
use Rattle.cells_touch.specs.inner.Hits.{Describes, variable_bits, size_bit, change_at, Tells}
use Rattle.cells_touch.proofs.Bits.{in-or, in-power}

same_place : (S S' v v' : ℕ) → v < 4 → v' < 4 → eqb (4 * S' + v) (4 * S + v') ≡ (eqb S' S && eqb v v')
same_place S S' v v' l l' = go (ℕ_discrete S' S) (ℕ_discrete v v')
  where
    go : Dec (S' ≡ S) → Dec (v ≡ v') → eqb (4 * S' + v) (4 * S + v') ≡ (eqb S' S && eqb v v')
    go (yes a) (yes b) = rw (eq-eqb S' S a, eq-eqb v v' b) (eq-eqb (4 * S' + v) (4 * S + v') (omega arith))
    go (yes a) (no b) = rw (eq-eqb S' S a, ne_eqb v v' b) (ne_eqb (4 * S' + v) (4 * S + v') (λ z. b (omega arith)))
    go (no a) b = rw (ne_eqb S' S a) (ne_eqb (4 * S' + v) (4 * S + v') (λ z. a (omega arith)))

in-variables : (S S' v : ℕ) → v < 4 → in_mask (variable_bits S) (4 * S' + v) ≡ (eqb S' S && (eqb v 0 || eqb v 1 || eqb v 2))
unfolding variable_bits
in-variables S S' v l =
    in-or (bit_or (2 ^ (4 * S)) (2 ^ (4 * S + 1))) (2 ^ (4 * S + 2)) (4 * S' + v)
    ∙ ap₂ ◌||◌ (in-or (2 ^ (4 * S)) (2 ^ (4 * S + 1)) (4 * S' + v) ∙ ap₂ ◌||◌ (in-power (4 * S) (4 * S' + v)) (in-power (4 * S + 1) (4 * S' + v))) (in-power (4 * S + 2) (4 * S' + v))
    ∙ ap₂ ◌||◌ (ap₂ ◌||◌ (ap (eqb (4 * S' + v)) (let e : 4 * S ≡ 4 * S + 0 = omega arith in e) ∙ same_place S S' v 0 l (omega arith)) (same_place S S' v 1 l (omega arith))) (same_place S S' v 2 l (omega arith))
    ∙ go (eqb S' S) (eqb v 0) (eqb v 1) (eqb v 2)
  where
    go : (a x y z : Bool) → (((a && x) || (a && y)) || (a && z)) ≡ (a && (x || y || z))
    go true x y z = refl
    go false x y z = refl

and_one : (a : Bool) → (a && true) ≡ a
and_one true = refl
and_one false = refl

and_none : (a : Bool) → (a && false) ≡ false
and_none true = refl
and_none false = refl

variables-low : (S S' v : ℕ) → v < 3 → in_mask (variable_bits S) (4 * S' + v) ≡ eqb S' S
variables-low S S' zero l = in-variables S S' 0 (omega arith) ∙ and_one (eqb S' S)
variables-low S S' (suc zero) l = in-variables S S' 1 (omega arith) ∙ and_one (eqb S' S)
variables-low S S' (suc (suc zero)) l = in-variables S S' 2 (omega arith) ∙ and_one (eqb S' S)
variables-low S S' (suc (suc (suc v))) l = absurd (omega arith)

variables-high : (S S' : ℕ) → in_mask (variable_bits S) (4 * S' + 3) ≡ false
variables-high S S' = in-variables S S' 3 (omega arith) ∙ and_none (eqb S' S)

in_size : (S S' v : ℕ) → v < 4 → in_mask (size_bit S) (4 * S' + v) ≡ (eqb S' S && eqb v 3)
unfolding size_bit
in_size S S' v l = in-power (4 * S + 3) (4 * S' + v) ∙ same_place S S' v 3 l (omega arith)

-- A change of two sets at two ports, each set at each port.
pub record AtBoth (u s t p q : ℕ) (ch : Change) : Type 0 where
  pub p-below : p < u
  pub q-below : q < u
  pub pairs-are : (S x : ℕ) → listed ch.pairs S x ≡ ((eqb S s || eqb S t) && (eqb x p || eqb x q))
  pub resized-are : (S : ℕ) → ch.resized S ≡ (eqb S s || eqb S t)

pub says_at : (u s t p q : ℕ) (ch : Change) → AtBoth u s t p q ch → Describes u ch (change_at s t p q)
unfolding change_at
says_at u s t p q ch a = record {
  order = omega arith;
  below = omega (arith, a.p-below, a.q-below);
  at-p-is = λ S v k l. low S v l ∙ sym (a.pairs-are S (min p q) ∙ ap (λ (b : Bool). (eqb S s || eqb S t) && b) (lower (dec_le p q)) ∙ and_one _);
  at-q-is = λ S v k l. low S v l ∙ sym (a.pairs-are S (max p q) ∙ ap (λ (b : Bool). (eqb S s || eqb S t) && b) (upper (dec_le p q)) ∙ and_one _);
  others = λ S x n m. a.pairs-are S x ∙ ap (λ (b : Bool). (eqb S s || eqb S t) && b) (neither x n m (dec_le p q)) ∙ and_none (eqb S s || eqb S t);
  resized-is = λ S k. in-or (size_bit s) (size_bit t) (4 * S + 3) ∙ ap₂ ◌||◌ (in_size s S 3 (omega arith) ∙ and_one (eqb S s)) (in_size t S 3 (omega arith) ∙ and_one (eqb S t)) ∙ sym (a.resized-are S);
  p-high = λ S k. high S;
  q-high = λ S k. high S;
  resized-low = λ S v k l. in-or (size_bit s) (size_bit t) (4 * S + v)
      ∙ ap₂ ◌||◌ (in_size s S v (omega arith) ∙ ap (λ (b : Bool). eqb S s && b) (ne_eqb v 3 (λ z. omega arith)) ∙ and_none (eqb S s))
      (in_size t S v (omega arith) ∙ ap (λ (b : Bool). eqb S t && b) (ne_eqb v 3 (λ z. omega arith)) ∙ and_none (eqb S t));
}
  where
    low : (S v : ℕ) → v < 3 → in_mask (bit_or (variable_bits s) (variable_bits t)) (4 * S + v) ≡ (eqb S s || eqb S t)
    low S v l = in-or (variable_bits s) (variable_bits t) (4 * S + v) ∙ ap₂ ◌||◌ (variables-low s S v l) (variables-low t S v l)

    high : (S : ℕ) → in_mask (bit_or (variable_bits s) (variable_bits t)) (4 * S + 3) ≡ false
    high S = in-or (variable_bits s) (variable_bits t) (4 * S + 3) ∙ ap₂ ◌||◌ (variables-high s S) (variables-high t S)

    lower : Dec (p ≤ q) → (eqb (min p q) p || eqb (min p q) q) ≡ true
    lower (yes h) = or-true-left _ _ (eq-eqb (min p q) p (omega arith))
    lower (no h) = or_true_right (eqb (min p q) p) _ (eq-eqb (min p q) q (omega arith))

    upper : Dec (p ≤ q) → (eqb (max p q) p || eqb (max p q) q) ≡ true
    upper (yes h) = or_true_right (eqb (max p q) p) _ (eq-eqb (max p q) q (omega arith))
    upper (no h) = or-true-left _ _ (eq-eqb (max p q) p (omega arith))

    neither : (x : ℕ) → x ≢ min p q → x ≢ max p q → Dec (p ≤ q) → (eqb x p || eqb x q) ≡ false
    neither x n m (yes h) = or-false _ _ (ne_eqb x p (λ z. n (omega arith))) (ne_eqb x q (λ z. m (omega arith)))
    neither x n m (no h) = or-false _ _ (ne_eqb x p (λ z. m (omega arith))) (ne_eqb x q (λ z. n (omega arith)))

or-none : (a : Bool) → (a || false) ≡ a
or-none true = refl
or-none false = refl

or_same : (a : Bool) → (a || a) ≡ a
or_same true = refl
or_same false = refl

-- the pairs of each kind
module _ (m : Move) where
  one-pair : (u : ℕ) → m.p < u → AtBoth u m.s m.s m.p m.p (pairs_change ((m.s, m.p) ∷ []))
  unfolding listed some_of pairs_change
  one-pair u h = record {
    p-below = h;
    q-below = h;
    pairs-are = λ S x. or-none _ ∙ sym (ap₂ ◌&&◌ (or_same (eqb S m.s)) (or_same (eqb x m.p)));
    resized-are = λ S. or-none _ ∙ sym (or_same (eqb S m.s));
  }

  transferred : (u : ℕ) → m.p < u → AtBoth u m.s m.t m.p m.p (pairs_change ((m.s, m.p) ∷ (m.t, m.p) ∷ []))
  unfolding listed some_of pairs_change
  transferred u h = record {
    p-below = h;
    q-below = h;
    pairs-are = λ S x. go (eqb S m.s) (eqb S m.t) (eqb x m.p);
    resized-are = λ S. ap (λ (b : Bool). eqb S m.s || b) (or-none _);
  }
    where
      go : (a b y : Bool) → ((a && y) || ((b && y) || false)) ≡ ((a || b) && (y || y))
      go true b true = refl
      go true true false = refl
      go true false false = refl
      go false true true = refl
      go false true false = refl
      go false false y = refl

  swapped : (u : ℕ) → m.p < u → m.q < u → AtBoth u m.s m.s m.p m.q (pairs_change ((m.s, m.p) ∷ (m.s, m.q) ∷ []))
  unfolding listed some_of pairs_change
  swapped u h k = record {
    p-below = h;
    q-below = k;
    pairs-are = λ S x. go (eqb S m.s) (eqb x m.p) (eqb x m.q);
    resized-are = λ S. ap (λ (b : Bool). eqb S m.s || b) (or-none _);
  }
    where
      go : (a y z : Bool) → ((a && y) || ((a && z) || false)) ≡ ((a || a) && (y || z))
      go true y z = ap (λ (b : Bool). y || b) (or-none z)
      go false y z = refl

port-known : (kind : MoveKind) (P : Plan) (m : Move) → fields_known kind P m ≡ true → m.p < P.ports
unfolding fields_known
port-known add P m h = ltb-true _ _ (and_right (ltb m.s P.sets && eqb m.t 0) _ (and_left (ltb m.s P.sets && eqb m.t 0 && ltb m.p P.ports) _ h))
port-known drop P m h = ltb-true _ _ (and_right (ltb m.s P.sets && eqb m.t 0) _ (and_left (ltb m.s P.sets && eqb m.t 0 && ltb m.p P.ports) _ h))
port-known transfer P m h = ltb-true _ _ (and_right (ltb m.s P.sets && ltb m.t P.sets) _ (and_left (ltb m.s P.sets && ltb m.t P.sets && ltb m.p P.ports) _ h))
port-known swap P m h = ltb-true _ _ (and_right (ltb m.s P.sets && eqb m.t 0) _ (and_left (ltb m.s P.sets && eqb m.t 0 && ltb m.p P.ports) _ h))
port-known unknown P m h = absurd (false≢true h)

-- what the code tells of each kind
pub tells-transfer : (m : Move) → m.kind ≡ 3 → Tells m (change_at m.s m.t m.p m.p)
unfolding Tells known named_pairs move_pairs kind_pairs move_kind
tells-transfer m e P k few h =
    rw e (says_at P.ports m.s m.t m.p m.p _ (transferred m P.ports (port-known (move_kind m.kind) P m h)))

other-known : (P : Plan) (m : Move) → fields_known swap P m ≡ true → m.q < P.ports
unfolding fields_known
other-known P m h = ltb-true _ _ (and_right (ltb m.s P.sets && eqb m.t 0 && ltb m.p P.ports) _ h)

pub tells-swap : (m : Move) → m.kind ≡ 4 → Tells m (change_at m.s m.s m.p m.q)
unfolding Tells known named_pairs move_pairs kind_pairs move_kind
tells-swap m e P k few h =
    rw e (says_at P.ports m.s m.s m.p m.q _
    (swapped m P.ports (port-known (move_kind m.kind) P m h) (other-known P m (ap (λ (k : ℕ). fields_known (move_kind k) P m) (sym e) ∙ h))))

-- of a kind that has one pair, or none
one_kind : MoveKind → Type 0
one_kind add = Unit {0}
one_kind drop = Unit {0}
one_kind transfer = ⊥
one_kind swap = ⊥
one_kind unknown = Unit {0}

one-kind : (k : ℕ) → k ≢ 3 → k ≢ 4 → one_kind (move_kind k)
unfolding one_kind move_kind
one-kind zero n n' = Prim.tt
one-kind (suc zero) n n' = Prim.tt
one-kind (suc (suc zero)) n n' = Prim.tt
one-kind (suc (suc (suc zero))) n n' = n refl
one-kind (suc (suc (suc (suc zero)))) n n' = n' refl
one-kind (suc (suc (suc (suc (suc k))))) n n' = Prim.tt

one-says : (kind : MoveKind) (P : Plan) (m : Move) → one_kind kind → fields_known kind P m ≡ true
    → Describes P.ports (pairs_change (kind_pairs kind m)) (change_at m.s m.s m.p m.p)
unfolding one_kind kind_pairs fields_known
one-says add P m o h = says_at P.ports m.s m.s m.p m.p _ (one-pair m P.ports (port-known add P m h))
one-says drop P m o h = says_at P.ports m.s m.s m.p m.p _ (one-pair m P.ports (port-known drop P m h))
one-says transfer P m o h = absurd o
one-says swap P m o h = absurd o
one-says unknown P m o h = absurd (false≢true h)

pub tells-one : (m : Move) → m.kind ≢ 3 → m.kind ≢ 4 → Tells m (change_at m.s m.s m.p m.p)
unfolding Tells known named_pairs move_pairs
tells-one m n n' P k few h = one-says (move_kind m.kind) P m (one-kind m.kind n n') h
