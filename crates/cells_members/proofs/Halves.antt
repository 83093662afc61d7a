-- The two halves of a mask hold its ports below 32 and from 32 on. Assumes nothing.
use mathlib.Core.Path.{◌≡◌, sym, ap, ap₂, ◌∙◌}
use mathlib.Core.Bool.{Bool, cond}
use mathlib.Core.List.{List, [], ◌++◌, append_assoc, append-nil}
use Prim.Native.Nat.{ℕ, ◌+◌, ◌-◌, ◌*◌, ◌/◌, ◌%◌, ◌^◌, ◌≤◌, ◌<◌, min}
use native.Mathlib.Nat.{mod-lt, one-le-pow}
use native.Mathlib.Omega.{arith}
use lib.Arith.{digits_div, mod-mul}
use lib.Dec.{eqb}
use lib.ListN.{length, take, drop, length-drop, drop_of_length-le}
use lib.Pow.{pow-add, mod-mod-pow}
use lib.Seq.{take_at, length-take-le, drop-drop}
use Rattle.logic.specs.Configuration.{in_mask}
use Rattle.logic.specs.Cells.{tabulate}
use Rattle.logic.proofs.Tables.{length-tabulate, tabulate-cong}
use Rattle.logic.proofs.Written.{Written, written, from_first, behind-first, all_first}
use Rattle.cells_runs.specs.inner.Ports.{digit_at}
use Rattle.cells_runs.proofs.Rounds.{row-port}
use Rattle.cells_runs.proofs.Runs.{tabulate-add}
use Rattle.cells_members.proofs.Few.{in-shifted}

pub part-length : (from len : ℕ) (cells : List ℕ) → from + len ≤ length cells → length (take (from + len - from) (drop from cells)) ≡ len
part-length from len cells h =
    let n : from + len - from ≡ len = omega arith in
    ap (λ (m : ℕ). length (take m (drop from cells))) n ∙ length-take-le len (drop from cells) (rw (length-drop from cells) (omega arith))

-- a part of the cells that is written whole
pub part-written : (f : ℕ → ℕ) (from len t : ℕ) (cells part : List ℕ) → from + len ≤ length cells
    → Written f 0 len (take (from + len - from) (drop from cells)) part t → len ≤ t
    → take from cells ++ (part ++ drop (from + len - from) (drop from cells)) ≡ written f from len cells
part-written f from len t cells part h w l =
    let n : from + len - from ≡ len = omega arith in
    let P = take (from + len - from) (drop from cells) in
    let e : drop len P ≡ [] = drop_of_length-le P {i = len} (omega (arith, part-length from len cells h)) in
    let r : part ≡ tabulate len f = all_first f len P part t w l ∙ ap (λ (k : List ℕ). tabulate len f ++ k) e ∙ append-nil (tabulate len f) in
    let d : drop (from + len - from) (drop from cells) ≡ drop (from + len) cells = ap (λ (m : ℕ). drop m (drop from cells)) n ∙ drop-drop len from cells in
    ap₂ (λ (x y : List ℕ). take from cells ++ (x ++ y)) r d

low_half : (mask t : ℕ) → t < 32 → in_mask (mask % 4294967296) t ≡ in_mask mask t
unfolding in_mask
low_half mask t h =
    let c : 0 < 2 ^ t = one-le-pow t 2 (omega arith) in
    let m : 0 < 2 ^ (32 - t) = one-le-pow (32 - t) 2 (omega arith) in
    let j : 32 - t ≡ 31 - t + 1 = omega arith in
    let whole : 4294967296 ≡ 2 ^ (32 - t) * 2 ^ t = (let e : 32 ≡ 32 - t + t = omega arith in ap (λ (x : ℕ). 2 ^ x) e ∙ pow-add 2 (32 - t) t) in
    let quotient : mask % 4294967296 / 2 ^ t ≡ mask / 2 ^ t % 2 ^ (32 - t) =
    ap (λ (x : ℕ). mask % x / 2 ^ t) whole ∙ ap (λ (x : ℕ). x / 2 ^ t) (mod-mul mask m c) ∙ digits_div (mask / 2 ^ t % 2 ^ (32 - t)) (mod-lt mask c) in
    ap (λ (x : ℕ). eqb x 1) (ap (λ (x : ℕ). x % 2) (quotient ∙ ap (λ (x : ℕ). mask / 2 ^ t % 2 ^ x) j) ∙ mod-mod-pow (mask / 2 ^ t) (31 - t) 1)

-- A row in two runs, the ports below 32 and the others, where there are any.
pub halves-row : (inside outside mask ports row low : ℕ) (xs ys zs : List ℕ) → row ≤ ports → low ≡ min row 32
    → ys ≡ written (λ t. cond (in_mask (mask % 4294967296) t) inside outside) 0 low xs
    → zs ≡ written (λ t. cond (in_mask (mask / 4294967296) t) inside outside) low (row - low) ys
    → zs ≡ tabulate row (λ t. cond (in_mask mask (digit_at ports 1 t)) inside outside) ++ drop row xs
halves-row inside outside mask ports row low xs ys zs few low-is first second =
    let f : ℕ → ℕ = λ t. cond (in_mask (mask % 4294967296) t) inside outside in
    let g : ℕ → ℕ = λ t. cond (in_mask (mask / 4294967296) t) inside outside in
    let h : ℕ → ℕ = λ t. cond (in_mask mask (digit_at ports 1 t)) inside outside in
    let whole : low + (row - low) ≡ row = omega arith in
    let number : (p : ℕ) → p < ports → in_mask mask p ≡ in_mask mask (digit_at ports 1 p) = λ p q. ap (in_mask mask) (row-port ports p q) in
    let low_part : take low ys ≡ tabulate low h =
    ap (take low) (first ∙ from_first f low xs) ∙ take_at (tabulate low f) (drop low xs) low (length-tabulate low f)
    ∙ tabulate-cong low f h (λ t q. ap (λ (b : Bool). cond b inside outside) (low_half mask t (omega arith) ∙ number t (omega arith))) in
    let high_part : tabulate (row - low) g ≡ tabulate (row - low) (λ t. h (low + t)) =
    tabulate-cong (row - low) g (λ t. h (low + t)) (λ t q.
    let e : 32 + t ≡ low + t = omega arith in
    ap (λ (b : Bool). cond b inside outside) (in-shifted mask 32 t ∙ ap (in_mask mask) e ∙ number (low + t) (omega arith))) in
    let rest : drop (low + (row - low)) ys ≡ drop row xs =
    ap₂ drop whole first ∙ behind-first f low row xs (omega arith) in
    second ∙ (λ j. low_part j ++ (high_part j ++ rest j)) ∙ sym (append_assoc (tabulate low h) (tabulate (row - low) (λ t. h (low + t))) (drop row xs))
    ∙ ap (λ (l : List ℕ). l ++ drop row xs) (sym (tabulate-add low (row - low) h) ∙ ap (λ (n : ℕ). tabulate n h) whole)
