-- Ground 14 by the fields of a move. Assumes nothing.
use mathlib.Core.Path.{◌≡◌, refl, sym, subst}
use mathlib.Core.Bool.{Bool, true, ◌&&◌, false≢true}
use mathlib.Core.Logic.{◌≢◌}
use Prim.Native.Nat.{ℕ, zero, suc, ◌≤◌, ◌<◌}
use native.Mathlib.Omega.{arith}
use borrow.Author.Tests.{ltb-true, eqb-true, lt-ltb, eq-eqb}
use Rattle.logic.specs.declared.Move.{Move}
use Rattle.logic.specs.Formula.{Plan}
use Rattle.logic.specs.Moves.{move_kind, fields_known, known}
use Rattle.logic.specs.inner.MoveFields.{t_end, q_end, Fields}
use Rattle.logic.proofs.Lists.{and_left, and_right, and-true}

four : (a b c d : Bool) → (a && b && c && d) ≡ true → (a ≡ true) × (b ≡ true) × (c ≡ true) × (d ≡ true)
four a b c d h =
    let x = and_left (a && b && c) d h in
    let y = and_left (a && b) c x in
    (and_left a b y, and_right a b y, and_right (a && b) c x, and_right (a && b && c) d h)

all-four : (a b c d : Bool) → a ≡ true → b ≡ true → c ≡ true → d ≡ true → (a && b && c && d) ≡ true
all-four a b c d x y z w = and-true (a && b && c) d (and-true (a && b) c (and-true a b x y) z) w

fields-of : (ports sets : ℕ) (m : Move) (κ : ℕ) → m.kind ≡ κ → 1 ≤ κ → κ ≤ 4
    → m.s < sets → m.t < t_end κ sets → m.p < ports → m.q < q_end κ ports → Fields ports sets m
fields-of ports sets m κ e l h s t p q = record {
  kind-low = omega arith;
  kind-high = omega arith;
  s-below = s;
  t-below = subst (λ (j : ℕ). m.t < t_end j sets) (sym e) t;
  p-below = p;
  q-below = subst (λ (j : ℕ). m.q < q_end j ports) (sym e) q;
}

fields_at : (P : Plan) (m : Move) (κ : ℕ) → m.kind ≡ κ → fields_known (move_kind κ) P m ≡ true → Fields P.ports P.sets m
unfolding move_kind fields_known t_end q_end
fields_at P m zero e h = absurd (false≢true h)
fields_at P m (suc zero) e h =
    let r = four _ _ _ _ h in
    let t : m.t ≡ 0 = eqb-true _ _ r.1 in
    let q : m.q ≡ 0 = eqb-true _ _ r.3 in
    fields-of P.ports P.sets m 1 e (omega arith) (omega arith) (ltb-true _ _ r.0) (omega arith) (ltb-true _ _ r.2) (omega arith)
fields_at P m (suc (suc zero)) e h =
    let r = four _ _ _ _ h in
    let t : m.t ≡ 0 = eqb-true _ _ r.1 in
    let q : m.q ≡ 0 = eqb-true _ _ r.3 in
    fields-of P.ports P.sets m 2 e (omega arith) (omega arith) (ltb-true _ _ r.0) (omega arith) (ltb-true _ _ r.2) (omega arith)
fields_at P m (suc (suc (suc zero))) e h =
    let r = four _ _ _ _ h in
    let q : m.q ≡ 0 = eqb-true _ _ r.3 in
    fields-of P.ports P.sets m 3 e (omega arith) (omega arith) (ltb-true _ _ r.0) (ltb-true _ _ r.1) (ltb-true _ _ r.2) (omega arith)
fields_at P m (suc (suc (suc (suc zero)))) e h =
    let r = four _ _ _ _ h in
    let t : m.t ≡ 0 = eqb-true _ _ r.1 in
    fields-of P.ports P.sets m 4 e (omega arith) (omega arith) (ltb-true _ _ r.0) (omega arith) (ltb-true _ _ r.2) (ltb-true _ _ r.3)
fields_at P m (suc (suc (suc (suc (suc j))))) e h = absurd (false≢true h)

known_at : (P : Plan) (m : Move) (κ : ℕ) → m.kind ≡ κ → Fields P.ports P.sets m → fields_known (move_kind κ) P m ≡ true
unfolding move_kind fields_known t_end q_end
known_at P m zero e F = let l = F.kind-low in absurd (omega arith)
known_at P m (suc zero) e F =
    let t : m.t < 1 = subst (λ (j : ℕ). m.t < t_end j P.sets) e F.t-below in
    let q : m.q < 1 = subst (λ (j : ℕ). m.q < q_end j P.ports) e F.q-below in
    all-four _ _ _ _ (lt-ltb _ _ F.s-below) (eq-eqb m.t 0 (omega arith)) (lt-ltb _ _ F.p-below) (eq-eqb m.q 0 (omega arith))
known_at P m (suc (suc zero)) e F =
    let t : m.t < 1 = subst (λ (j : ℕ). m.t < t_end j P.sets) e F.t-below in
    let q : m.q < 1 = subst (λ (j : ℕ). m.q < q_end j P.ports) e F.q-below in
    all-four _ _ _ _ (lt-ltb _ _ F.s-below) (eq-eqb m.t 0 (omega arith)) (lt-ltb _ _ F.p-below) (eq-eqb m.q 0 (omega arith))
known_at P m (suc (suc (suc zero))) e F =
    let t : m.t < P.sets = subst (λ (j : ℕ). m.t < t_end j P.sets) e F.t-below in
    let q : m.q < 1 = subst (λ (j : ℕ). m.q < q_end j P.ports) e F.q-below in
    all-four _ _ _ _ (lt-ltb _ _ F.s-below) (lt-ltb _ _ t) (lt-ltb _ _ F.p-below) (eq-eqb m.q 0 (omega arith))
known_at P m (suc (suc (suc (suc zero)))) e F =
    let t : m.t < 1 = subst (λ (j : ℕ). m.t < t_end j P.sets) e F.t-below in
    let q : m.q < P.ports = subst (λ (j : ℕ). m.q < q_end j P.ports) e F.q-below in
    all-four _ _ _ _ (lt-ltb _ _ F.s-below) (eq-eqb m.t 0 (omega arith)) (lt-ltb _ _ F.p-below) (lt-ltb _ _ q)
known_at P m (suc (suc (suc (suc (suc j))))) e F = let h = F.kind-high in absurd (omega arith)

-- 14 does not apply to a move exactly when its fields are below their ends
pub known-fields : (P : Plan) (m : Move) → known P m ≡ true → Fields P.ports P.sets m
unfolding known
known-fields P m h = fields_at P m m.kind refl h

pub fields-known : (P : Plan) (m : Move) → Fields P.ports P.sets m → known P m ≡ true
unfolding known
fields-known P m F = known_at P m m.kind refl F

-- the same by a plan's ports and sets
pub fields-here : (P : Plan) (ports sets : ℕ) (m : Move) → P.ports ≡ ports → P.sets ≡ sets → Fields ports sets m → Fields P.ports P.sets m
fields-here P ports sets m e f F =
    subst (λ (u : ℕ). Fields u P.sets m) (sym e) (subst (λ (n : ℕ). Fields ports n m) (sym f) F)

pub fields-there : (P : Plan) (ports sets : ℕ) (m : Move) → P.ports ≡ ports → P.sets ≡ sets → Fields P.ports P.sets m → Fields ports sets m
fields-there P ports sets m e f F = subst (λ (u : ℕ). Fields u sets m) e (subst (λ (n : ℕ). Fields P.ports n m) f F)

-- the fields that a kind uses
pub t-used : (ports sets : ℕ) (m : Move) → Fields ports sets m → m.kind ≡ 3 → m.t < sets
unfolding t_end
t-used ports sets m F e = subst (λ (j : ℕ). m.t < t_end j sets) e F.t-below

pub q-used : (ports sets : ℕ) (m : Move) → Fields ports sets m → m.kind ≡ 4 → m.q < ports
unfolding q_end
q-used ports sets m F e = subst (λ (j : ℕ). m.q < q_end j ports) e F.q-below

pub last-kind : (ports sets : ℕ) (m : Move) → Fields ports sets m → m.kind ≢ 1 → m.kind ≢ 2 → m.kind ≢ 3 → m.kind ≡ 4
last-kind ports sets m F a b c = let l = F.kind-low in let h = F.kind-high in omega (arith, l, h, a, b, c)
