-- How many outer tuples there are, and the digits of each by its number: at most two variables stand outside a row. Assumes nothing.
use Rattle.std.proofs.Common.{◌≡◌, ℕ, ◌+◌, ◌*◌, ◌/◌, ◌%◌, ◌^◌, ◌<◌, ◌≤◌, sym, ap, ◌∙◌, mod-lt, mod-eq_of_lt, div-lt_iff_lt-mul, pow-suc, arith}
use native.Mathlib.Nat.{pow-zero}
use Rattle.logic.specs.Cells.{tuple_at}
use Rattle.cells_walk.specs.inner.Visit.{packed}

module _ (u : ℕ) where
  power-one : u ^ 1 ≡ u
  power-one = pow-suc u 0 ∙ ap (λ (x : ℕ). x * u) (pow-zero u) ∙ omega arith

  power-two : u ^ 2 ≡ u * u
  power-two = pow-suc u 1 ∙ ap (λ (x : ℕ). x * u) power-one

  pub count-one : (d : ℕ) → d ≡ 1 → u ≡ u ^ d
  count-one d h = sym (ap (λ (x : ℕ). u ^ x) h ∙ power-one)

  pub count-two : (d : ℕ) → d ≡ 2 → u * u ≡ u ^ d
  count-two d h = sym (ap (λ (x : ℕ). u ^ x) h ∙ power-two)

  pub digits-none : (d i : ℕ) → d ≡ 0 → 0 ≡ packed (tuple_at u d i)
  unfolding tuple_at packed
  digits-none d i h = sym (ap (λ (x : ℕ). packed (tuple_at u x i)) h)

  module _ (i d : ℕ) (l : i < u ^ d) where
    pub digits-one : d ≡ 1 → i ≡ packed (tuple_at u d i)
    unfolding tuple_at packed
    digits-one h =
        let q : i % u ≡ i = mod-eq_of_lt (let k : i < u = omega (arith, count-one d h) in k) in
        (let e : i ≡ 0 + i % u * 1 = omega arith in e) ∙ sym (ap (λ (x : ℕ). packed (tuple_at u x i)) h)

    module _ (u1 : 1 ≤ u) (h : d ≡ 2) where
      first-low : i / u < u
      first-low = (div-lt_iff_lt-mul u1).1 (let k : i < u * u = omega (arith, count-two d h) in k)

      pub digits-two : i / u + i % u * 256 ≡ packed (tuple_at u d i)
      unfolding tuple_at packed
      digits-two =
          let q : i / u % u ≡ i / u = mod-eq_of_lt first-low in
          (let e : i / u + i % u * 256 ≡ 0 + i / u % u * 1 + i % u * 256 = omega arith in e) ∙ sym (ap (λ (x : ℕ). packed (tuple_at u x i)) h)

      pub digits_low : u ≤ 64 → (i / u ≤ 63) × (i % u ≤ 63)
      digits_low u64 = (omega (arith, first-low), omega (arith, mod-lt i u1))
