-- A row written port by port, from one port of a mask to the next. Assumes nothing.
use mathlib.Core.Path.{◌≡◌, refl, sym, ap, ◌∙◌}
use mathlib.Core.Bool.{Bool, true, false, cond}
use mathlib.Core.List.{List, ◌++◌}
use Prim.Native.Nat.{ℕ, zero, suc, ◌+◌, ◌-◌, ◌/◌, ◌%◌, ◌^◌, ◌≤◌, ◌<◌}
use native.Mathlib.Decide.{dec_lt}
use native.Mathlib.Nat.{div-one, div-div-eq-div-mul, mod-lt}
use native.Mathlib.Omega.{arith}
use lib.Count.{count_trailing_zeros, under}
use lib.Dec.{eqb}
use lib.ListN.{length, get_or, drop, set, length-append, length-drop, length-set, get_or-append}
use lib.Pow.{pow-add}
use lib.Seq.{ext_get_or, get_or-append-add, get_or-drop, get_or-set_other, get_or-set_same}
use borrow.Author.Tests.{eq-eqb, ne_eqb}
use Rattle.logic.specs.Configuration.{in_mask}
use Rattle.logic.specs.Cells.{tabulate}
use Rattle.logic.proofs.Tables.{length-tabulate, get_d_tabulate, tabulate-cong}
use Rattle.logic.proofs.Written.{written, from_first, behind-first, length-written}
use Rattle.cells_runs.specs.inner.Ports.{digit_at}
use Rattle.cells_runs.proofs.Rounds.{row-port}

shifted : (mask p z : ℕ) → mask / 2 ^ p / 2 ^ z ≡ mask / 2 ^ (p + z)
shifted mask p z = div-div-eq-div-mul mask (2 ^ p) (2 ^ z) ∙ ap (λ (x : ℕ). mask / x) (sym (pow-add 2 p z))

pub in-shifted : (mask p t : ℕ) → in_mask (mask / 2 ^ p) t ≡ in_mask mask (p + t)
unfolding in_mask
in-shifted mask p t = ap (λ (x : ℕ). eqb (x % 2) 1) (shifted mask p t)

in-half : (n j : ℕ) → in_mask n (suc j) ≡ in_mask (n / 2) j
in-half n j = let e : suc j ≡ 1 + j = omega arith in ap (in_mask n) e ∙ sym (in-shifted n 1 j)

in-lowest : (n : ℕ) → in_mask n 0 ≡ eqb (n % 2) 1
unfolding in_mask
in-lowest n = ap (λ (x : ℕ). eqb (x % 2) 1) (div-one n)

-- the ports below the lowest of a mask are not in it
clear_step : (n t d j : ℕ) → n % 2 ≡ d → ((i : ℕ) → i < t → in_mask (n / 2) i ≡ false) → j < under d t → in_mask n j ≡ false
clear_step n t zero zero e r q = in-lowest n ∙ ne_eqb (n % 2) 1 (λ z. absurd (omega (arith, e, z)))
clear_step n t zero (suc i) e r q = in-half n i ∙ r i (omega arith)
clear_step n t (suc d) j e r q = absurd (omega arith)

trailing-clear : (k n j : ℕ) → j < count_trailing_zeros k n → in_mask n j ≡ false
unfolding count_trailing_zeros
trailing-clear zero n j h = absurd (omega arith)
trailing-clear (suc k) n j h = clear_step n (count_trailing_zeros k (n / 2)) (n % 2) j refl (trailing-clear k (n / 2)) h

-- and the lowest is
set-step : (n t d k : ℕ) → n % 2 ≡ d → (t < k → in_mask (n / 2) t ≡ true) → under d t < suc k → in_mask n (under d t) ≡ true
set-step n t zero k e r q = in-half n t ∙ r (omega arith)
set-step n t (suc d) k e r q = let two : 0 < 2 = omega arith in in-lowest n ∙ eq-eqb (n % 2) 1 (omega (arith, e, mod-lt n two))

trailing-set : (k n : ℕ) → count_trailing_zeros k n < k → in_mask n (count_trailing_zeros k n) ≡ true
unfolding count_trailing_zeros
trailing-set zero n h = absurd (omega arith)
trailing-set (suc k) n h = set-step n (count_trailing_zeros k (n / 2)) (n % 2) k refl (trailing-set k (n / 2)) h

-- What is written at port p: the ports before it as they are, all others of the row as outside the set, and what is left of the mask.
pub record Sparse (inside outside mask row : ℕ) (xs cells : List ℕ) (p rest : ℕ) : Type 0 where
  pub within : p ≤ row
  pub rest-is : rest ≡ mask / 2 ^ p
  pub same_length : length cells ≡ length xs
  pub before : (t : ℕ) → t < p → get_or cells t 0 ≡ cond (in_mask mask t) inside outside
  pub ahead : (t : ℕ) → p ≤ t → t < row → get_or cells t 0 ≡ outside
  pub behind : (t : ℕ) → row ≤ t → get_or cells t 0 ≡ get_or xs t 0

pub sparse-start : (inside outside mask row : ℕ) (xs cells : List ℕ) → cells ≡ written (λ _. outside) 0 row xs → Sparse inside outside mask row cells cells 0 mask
sparse-start inside outside mask row xs cells e = record {
  within = omega arith;
  rest-is = sym (div-one mask);
  same_length = refl;
  before = λ t h. absurd (omega arith);
  ahead = λ t _ h.
      ap (λ (l : List ℕ). get_or l t 0) (e ∙ from_first (λ _. outside) row xs)
      ∙ get_or-append (tabulate row (λ _. outside)) (drop row xs) 0 t (rw length-tabulate h) ∙ get_d_tabulate row (λ _. outside) t h;
  behind = λ t _. refl;
}

module _ (inside outside mask row : ℕ) (xs cells : List ℕ) (p rest : ℕ) (s : Sparse inside outside mask row xs cells p rest) (z : ℕ) (ze : z ≡ count_trailing_zeros 64 rest) where
  -- the ports from p on to the next are not in the mask
  pub gap-clear : (t : ℕ) → p ≤ t → t < p + z → in_mask mask t ≡ false
  gap-clear t h q =
      let e : p + (t - p) ≡ t = omega arith in
      ap (in_mask mask) (sym e) ∙ sym (in-shifted mask p (t - p)) ∙ ap (λ (m : ℕ). in_mask m (t - p)) (sym s.rest-is) ∙ trailing-clear 64 rest (t - p) (omega (arith, ze))

  next-in : z < 64 → in_mask mask (p + z) ≡ true
  next-in h = sym (in-shifted mask p z) ∙ ap (λ (m : ℕ). in_mask m z) (sym s.rest-is) ∙ ap (in_mask rest) ze ∙ trailing-set 64 rest (omega (arith, ze))

  -- one port more
  pub sparse-more : row ≤ 64 → row ≤ length xs → p + z < row → Sparse inside outside mask row xs (set cells (p + z) inside) (p + z + 1) (rest / 2 ^ z / 2)
  sparse-more few room h = record {
    within = omega arith;
    rest-is = ap (λ (m : ℕ). m / 2 ^ z / 2) s.rest-is ∙ ap (λ (m : ℕ). m / 2) (shifted mask p z) ∙ shifted mask (p + z) 1;
    same_length = length-set {A = ℕ} cells (p + z) inside ∙ s.same_length;
    before = λ t q. written_at t q (dec_lt t (p + z));
    ahead = λ t q l. get_or-set_other cells (p + z) t inside 0 (λ e. absurd (omega arith)) ∙ s.ahead t (omega arith) l;
    behind = λ t q. get_or-set_other cells (p + z) t inside 0 (λ e. absurd (omega arith)) ∙ s.behind t q;
  }
    where
      ahead-clear : (t : ℕ) → t < p + z → Dec (t < p) → get_or cells t 0 ≡ cond (in_mask mask t) inside outside
      ahead-clear t q (yes l) = s.before t l
      ahead-clear t q (no f) = rw (gap-clear t (omega (arith, f)) q) (s.ahead t (omega (arith, f)) (omega arith))

      written_at : (t : ℕ) → t < p + z + 1 → Dec (t < p + z) → get_or (set cells (p + z) inside) t 0 ≡ cond (in_mask mask t) inside outside
      written_at t q (yes l) = get_or-set_other cells (p + z) t inside 0 (λ e. absurd (omega arith)) ∙ ahead-clear t l (dec_lt t p)
      written_at t q (no f) =
          let e : t ≡ p + z = omega (arith, f) in
          ap (λ (m : ℕ). get_or (set cells (p + z) inside) m 0) e ∙ get_or-set_same cells (p + z) inside 0 (omega (arith, s.same_length))
          ∙ ap (λ (b : Bool). cond b inside outside) (sym (ap (in_mask mask) e ∙ next-in (omega arith)))

-- the row once no port is left
module _ (inside outside mask row : ℕ) (entry xs cells : List ℕ) (p rest : ℕ) (room : row ≤ length entry) (filled : xs ≡ written (λ _. outside) 0 row entry)
    (s : Sparse inside outside mask row xs cells p rest) (clear : (t : ℕ) → p ≤ t → t < row → in_mask mask t ≡ false) where
  abbrev f : ℕ → ℕ
  f t = cond (in_mask mask t) inside outside

  long : length cells ≡ length entry
  long = s.same_length ∙ ap length filled ∙ length-written (λ _. outside) 0 row entry (omega arith)

  at : (i : ℕ) → Dec (i < p) → Dec (i < row) → get_or cells i 0 ≡ get_or (tabulate row f ++ drop row entry) i 0
  at i (yes l) (yes h) = s.before i l ∙ sym (get_or-append (tabulate row f) (drop row entry) 0 i (rw length-tabulate h) ∙ get_d_tabulate row f i h)
  at i (no n) (yes h) =
      s.ahead i (omega (arith, n)) h ∙ ap (λ (b : Bool). cond b inside outside) (sym (clear i (omega (arith, n)) h))
      ∙ sym (get_or-append (tabulate row f) (drop row entry) 0 i (rw length-tabulate h) ∙ get_d_tabulate row f i h)
  at i _ (no n) =
      let e : i ≡ row + (i - row) = omega (arith, n) in
      let k : length (tabulate row f) + (i - row) ≡ i = omega (arith, n, length-tabulate row f) in
      s.behind i (omega (arith, n)) ∙ ap (λ (m : ℕ). get_or xs m 0) e ∙ sym (get_or-drop row xs (i - row) 0)
      ∙ ap (λ (l : List ℕ). get_or l (i - row) 0) (ap (drop row) filled ∙ behind-first (λ _. outside) row row entry (omega arith))
      ∙ sym (get_or-append-add (tabulate row f) (drop row entry) (i - row) 0) ∙ ap (λ (m : ℕ). get_or (tabulate row f ++ drop row entry) m 0) k

  pub sparse-all : cells ≡ tabulate row f ++ drop row entry
  sparse-all =
      ext_get_or 0 cells (tabulate row f ++ drop row entry) (long ∙ simp (length-append, length-tabulate, length-drop) (omega arith)) (λ i _. at i (dec_lt i p) (dec_lt i row))

-- each cell of a row has a port of its own
pub few-row : (inside outside mask ports row : ℕ) (xs ys : List ℕ) → row ≤ ports → ys ≡ tabulate row (λ t. cond (in_mask mask t) inside outside) ++ drop row xs
    → ys ≡ tabulate row (λ t. cond (in_mask mask (digit_at ports 1 t)) inside outside) ++ drop row xs
few-row inside outside mask ports row xs ys few e =
    e ∙ ap (λ (l : List ℕ). l ++ drop row xs) (tabulate-cong row _ _ (λ t q. ap (λ (p : ℕ). cond (in_mask mask p) inside outside) (row-port ports t (omega arith))))
