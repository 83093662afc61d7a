-- Which ports a walk visits below a quantifier: all of them, or those of the change alone. Assumes nothing.
use mathlib.Core.Path.{◌≡◌, refl, sym, ap, ap₂, ◌∙◌}
use mathlib.Core.Logic.{◌≢◌}
use mathlib.Core.Bool.{Bool, true, false, cond, true≢false}
use Prim.Native.Nat.{ℕ, suc, ◌+◌, ◌≤◌, ◌<◌}
use native.Mathlib.Numerals.{add-one}
use native.Mathlib.Omega.{arith}
use lib.Dec.{ltb}
use borrow.Author.Tests.{ltb-true, ltb-false}
use Rattle.cells_touch.specs.declared.Changed.{Changed}

-- The ports below x are done, which is what S says of x; where only those of the change are visited, the first of them is done
-- or next.
pub record Reached (u : ℕ) (c : Changed) (every : Bool) (S : ℕ → Type 0) (x : ℕ) : Type 0 where
  pub below : x ≤ u
  pub so : S x
  pub late : every ≡ false → c.p ≤ x

pub reached-all : (u : ℕ) (c : Changed) (every : Bool) (S : ℕ → Type 0) (x : ℕ) → Reached u c every S x → u ≤ x → S u
reached-all u c every S x r h = let e : x ≡ u = omega (arith, r.below) in rw e at r.so

-- S passes over ports that are not of the change, where only those of the change are visited.
module _ (u : ℕ) (c : Changed) (order : c.p ≤ c.q) (last : c.q < u) (every : Bool) (S : ℕ → Type 0)
    (pass : every ≡ false → (x x' : ℕ) → x ≤ x' → x' ≤ u → ((y : ℕ) → x ≤ y → y < x' → (y ≢ c.p) × (y ≢ c.q)) → S x → S x') where
  pub reached-first : (x : ℕ) → x ≡ cond every 0 c.p → S 0 → Reached u c every S x
  reached-first x q none = go every refl
    where
      go : (a : Bool) → every ≡ a → Reached u c every S x
      go true h =
          let z : x ≡ 0 = q ∙ ap (λ (y : Bool). cond y 0 c.p) h in
          record {
            below = omega arith;
            so = rw z none;
            late = λ g. absurd (true≢false (sym h ∙ g));
          }
      go false h =
          let z : x ≡ c.p = q ∙ ap (λ (y : Bool). cond y 0 c.p) h in
          record {
            below = omega arith;
            so = rw z (pass h 0 c.p (omega arith) (omega arith) (λ y g k. (λ e. omega arith, λ e. omega arith)) none);
            late = λ g. omega arith;
          }

  pub reached-next : (x x' : ℕ) → (every ≡ false → c.p ≤ x) → x < u → S (suc x) → x' ≡ cond every (x + 1) (cond (ltb x c.q) c.q u)
      → (x < x') × Reached u c every S x'
  reached-next x x' late l so q = go every refl (ltb x c.q) refl
    where
      at : (a b : Bool) → every ≡ a → ltb x c.q ≡ b → x' ≡ cond a (x + 1) (cond b c.q u)
      at a b h k = q ∙ ap₂ (λ (y z : Bool). cond y (x + 1) (cond z c.q u)) h k

      go : (a : Bool) → every ≡ a → (b : Bool) → ltb x c.q ≡ b → (x < x') × Reached u c every S x'
      go true h b k =
          let z : x' ≡ x + 1 = at true b h k in (
            omega arith,
            record {
              below = omega arith;
              so = rw (z ∙ add-one x) so;
              late = λ g. absurd (true≢false (sym h ∙ g));
            },
          )
      go false h true k =
          let z : x' ≡ c.q = at false true h k in
          let before = ltb-true x c.q k in
          let first = late h in (
            omega arith,
            record {
              below = omega arith;
              so = rw z (pass h (suc x) c.q (omega arith) (omega arith) (λ y g m. (λ e. omega arith, λ e. omega arith)) so);
              late = λ g. omega arith;
            },
          )
      go false h false k =
          let z : x' ≡ u = at false false h k in
          let past = ltb-false x c.q k in
          let first = late h in (
            omega arith,
            record {
              below = omega arith;
              so = rw z (pass h (suc x) u (omega arith) (omega arith) (λ y g m. (λ e. omega arith, λ e. omega arith)) so);
              late = λ g. omega arith;
            },
          )
