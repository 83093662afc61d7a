-- The order of moves, by fields and as one number. Assumes nothing.
use mathlib.Core.Path.{◌≡◌, ap, ◌∙◌}
use mathlib.Core.Logic.{◌⊎◌, inl, inr}
use mathlib.Core.Bool.{Bool, true, false, cond}
use Prim.Native.Nat.{ℕ, ◌+◌, ◌*◌, ◌≤◌, ◌<◌}
use native.Mathlib.Omega.{arith}
use native.Mathlib.Decide.{dec_lt}
use lib.Dec.{eqb}
use Rattle.logic.specs.declared.Move.{Move}
use Rattle.logic.specs.inner.MoveFields.{t_end, q_end, Fields, Sized}
use Rattle.move_order.specs.inner.Stepping.{place, Low, Position}
use Rattle.contracts.specs.MoveOrder.{fields_are, Earlier}

pub end_low : (b : Bool) (n : ℕ) → 1 ≤ n → cond b n 1 ≤ n
end_low true n h = omega arith
end_low false n h = h

pub fields-low : (ports sets : ℕ) (m : Move) → Sized ports sets → Fields ports sets m → Low m
unfolding t_end q_end
fields-low ports sets m Z F =
    let t = F.t-below in
    let q = F.q-below in
    let a = end_low (eqb m.kind 3) sets Z.sets-low in
    let b = end_low (eqb m.kind 4) ports Z.ports-low in
    record {
      s-low = omega (arith, F.s-below, Z.sets-high);
      t-low = omega (arith, t, a, Z.sets-high);
      p-low = omega (arith, F.p-below, Z.ports-high);
      q-low = omega (arith, q, b, Z.ports-high);
    }

pub position-low : (ports sets : ℕ) (m : Move) → Position ports sets m → Low m
position-low ports sets m X = record {
  s-low = omega (arith, X.s-below, X.sized.sets-high);
  t-low = omega (arith, X.t-below, X.sized.sets-high);
  p-low = omega (arith, X.p-below, X.sized.ports-high);
  q-low = omega (arith, X.q-below, X.sized.ports-high);
}

digit-64 : (a b x y : ℕ) → x < 64 → y < 64 → a * 64 + x ≡ b * 64 + y → (a ≡ b) × (x ≡ y)
digit-64 a b x y h l e = let i : a ≡ b = omega arith in (i, omega arith)

digit-16 : (a b x y : ℕ) → x < 16 → y < 16 → a * 16 + x ≡ b * 16 + y → (a ≡ b) × (x ≡ y)
digit-16 a b x y h l e = let i : a ≡ b = omega arith in (i, omega arith)

same-fields : (m n : Move) → m.kind ≡ n.kind → m.s ≡ n.s → m.t ≡ n.t → m.p ≡ n.p → m.q ≡ n.q → m ≡ n
unfolding fields_are
same-fields m n a b c d e =
    ap (λ (x : ℕ). fields_are x m.s m.t m.p m.q) a
    ∙ ap (λ (x : ℕ). fields_are n.kind x m.t m.p m.q) b
    ∙ ap (λ (x : ℕ). fields_are n.kind n.s x m.p m.q) c
    ∙ ap (λ (x : ℕ). fields_are n.kind n.s n.t x m.q) d
    ∙ ap (λ (x : ℕ). fields_are n.kind n.s n.t n.p x) e

-- no two moves have one number
pub place_same : (m n : Move) → Low m → Low n → place m ≡ place n → m ≡ n
unfolding place
place_same m n L K e =
    let q = digit-64 _ _ m.q n.q L.q-low K.q-low e in
    let p = digit-64 _ _ m.p n.p L.p-low K.p-low q.0 in
    let t = digit-16 _ _ m.t n.t L.t-low K.t-low p.0 in
    let s = digit-16 _ _ m.s n.s L.s-low K.s-low t.0 in
    same-fields m n s.0 s.1 t.1 p.1 q.1

-- The number's order is the order kind, S, T, p, q.
pub earlier-place : (m n : Move) → Low m → Low n → Earlier m n → place m < place n
unfolding place Earlier
earlier-place m n L K (inl h) = omega (arith, L, K, h)
earlier-place m n L K (inr (a, inl h)) = omega (arith, L, K, a, h)
earlier-place m n L K (inr (a, inr (b, inl h))) = omega (arith, L, K, a, b, h)
earlier-place m n L K (inr (a, inr (b, inr (c, inl h)))) = omega (arith, L, K, a, b, c, h)
earlier-place m n L K (inr (a, inr (b, inr (c, inr (d, h))))) = omega (arith, L, K, a, b, c, d, h)

less-or : (a b : ℕ) → a ≤ b → (a < b) ⊎ (a ≡ b)
less-or a b h = go (dec_lt a b)
  where
    go : Dec (a < b) → (a < b) ⊎ (a ≡ b)
    go (yes l) = inl l
    go (no n) = inr (omega arith)

pub place-earlier : (m n : Move) → Low m → Low n → place m < place n → Earlier m n
unfolding place Earlier
place-earlier m n L K l = by_kind (less-or m.kind n.kind (omega (arith, L, K, l)))
  where
    by-p : m.kind ≡ n.kind → m.s ≡ n.s → m.t ≡ n.t → (m.p < n.p) ⊎ (m.p ≡ n.p)
        → (m.p < n.p) ⊎ ((m.p ≡ n.p) × (m.q < n.q))
    by-p a b c (inl h) = inl h
    by-p a b c (inr d) = inr (d, omega (arith, L, K, l, a, b, c, d))

    by-t : m.kind ≡ n.kind → m.s ≡ n.s → (m.t < n.t) ⊎ (m.t ≡ n.t)
        → (m.t < n.t) ⊎ ((m.t ≡ n.t) × ((m.p < n.p) ⊎ ((m.p ≡ n.p) × (m.q < n.q))))
    by-t a b (inl h) = inl h
    by-t a b (inr c) = inr (c, by-p a b c (less-or m.p n.p (omega (arith, L, K, l, a, b, c))))

    by-s : m.kind ≡ n.kind → (m.s < n.s) ⊎ (m.s ≡ n.s)
        → (m.s < n.s) ⊎ ((m.s ≡ n.s) × ((m.t < n.t) ⊎ ((m.t ≡ n.t) × ((m.p < n.p) ⊎ ((m.p ≡ n.p) × (m.q < n.q))))))
    by-s a (inl h) = inl h
    by-s a (inr b) = inr (b, by-t a b (less-or m.t n.t (omega (arith, L, K, l, a, b))))

    by_kind : (m.kind < n.kind) ⊎ (m.kind ≡ n.kind) → Earlier m n
    by_kind (inl h) = inl h
    by_kind (inr a) = inr (a, by-s a (less-or m.s n.s (omega (arith, L, K, l, a))))
