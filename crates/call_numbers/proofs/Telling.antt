-- Ten numbers written at the front of a table. Assumes nothing.
use mathlib.Core.Path.{◌≡◌, refl, sym, ap, ◌∙◌}
use mathlib.Core.List.{List, [], ◌∷◌, ◌++◌}
use Prim.Native.Nat.{ℕ, ◌≤◌}
use native.Mathlib.Omega.{arith}
use lib.ListN.{length, set, drop}
use Rattle.std.specs.Prelude.{Result}
use Rattle.logic.specs.declared.Move.{Move}
use Rattle.logic.specs.declared.refusal.Refusal.{Refusal}
use Rattle.contracts.specs.declared.Moved.{Moved}
use Rattle.contracts.specs.declared.Improved.{Improved}
use Rattle.contracts.specs.MoveCall.{move_values}
use Rattle.logic.specs.Moves.{no_move}
use Rattle.contracts.specs.ImproveCall.{improve_values}
use Rattle.contracts.specs.Counting.{count_values}
use Rattle.call_numbers.specs.Encoding.{ten_numbers, moved_numbers, improved_numbers, counted_numbers}

-- ten stores leave the ten numbers and what stood behind them
pub ten-set : (xs : List ℕ) (a b c d e f g h i j : ℕ) → 10 ≤ length xs
    → set (set (set (set (set (set (set (set (set (set xs 0 a) 1 b) 2 c) 3 d) 4 e) 5 f) 6 g) 7 h) 8 i) 9 j
    ≡ (a ∷ b ∷ c ∷ d ∷ e ∷ f ∷ g ∷ h ∷ i ∷ j ∷ []) ++ drop 10 xs
ten-set [] a b c d e f g h i j l = absurd (omega arith)
ten-set (x0 ∷ []) a b c d e f g h i j l = absurd (omega arith)
ten-set (x0 ∷ x1 ∷ []) a b c d e f g h i j l = absurd (omega arith)
ten-set (x0 ∷ x1 ∷ x2 ∷ []) a b c d e f g h i j l = absurd (omega arith)
ten-set (x0 ∷ x1 ∷ x2 ∷ x3 ∷ []) a b c d e f g h i j l = absurd (omega arith)
ten-set (x0 ∷ x1 ∷ x2 ∷ x3 ∷ x4 ∷ []) a b c d e f g h i j l = absurd (omega arith)
ten-set (x0 ∷ x1 ∷ x2 ∷ x3 ∷ x4 ∷ x5 ∷ []) a b c d e f g h i j l = absurd (omega arith)
ten-set (x0 ∷ x1 ∷ x2 ∷ x3 ∷ x4 ∷ x5 ∷ x6 ∷ []) a b c d e f g h i j l = absurd (omega arith)
ten-set (x0 ∷ x1 ∷ x2 ∷ x3 ∷ x4 ∷ x5 ∷ x6 ∷ x7 ∷ []) a b c d e f g h i j l = absurd (omega arith)
ten-set (x0 ∷ x1 ∷ x2 ∷ x3 ∷ x4 ∷ x5 ∷ x6 ∷ x7 ∷ x8 ∷ []) a b c d e f g h i j l = absurd (omega arith)
ten-set (x0 ∷ x1 ∷ x2 ∷ x3 ∷ x4 ∷ x5 ∷ x6 ∷ x7 ∷ x8 ∷ x9 ∷ xs) a b c d e f g h i j l = refl

-- the ten numbers of an answer of either kind, where it is known which
pub told_moved : (r known : Result Moved Refusal) (m : Move) (xs ys : List ℕ) → r ≡ known → m ≡ no_move
    → (let v = move_values known in ys ≡ ten_numbers v.number 0 m v.before v.after v.changed ++ drop 10 xs)
    → ys ≡ moved_numbers (move_values r) ++ drop 10 xs
unfolding moved_numbers
told_moved r known m xs ys e f h =
    let v = move_values known in
    h ∙ ap (λ (x : Move). ten_numbers v.number 0 x v.before v.after v.changed ++ drop 10 xs) f
    ∙ ap (λ (x : Result Moved Refusal). moved_numbers (move_values x) ++ drop 10 xs) (sym e)

pub told-improved : (r known : Result Improved Refusal) (m : Move) (xs ys : List ℕ) → r ≡ known → m ≡ (improve_values known).chosen
    → (let v = improve_values known in ys ≡ ten_numbers v.number v.found m v.before v.after v.changed ++ drop 10 xs)
    → ys ≡ improved_numbers (improve_values r) ++ drop 10 xs
unfolding improved_numbers
told-improved r known m xs ys e f h =
    let v = improve_values known in
    h ∙ ap (λ (x : Move). ten_numbers v.number v.found x v.before v.after v.changed ++ drop 10 xs) f
    ∙ ap (λ (x : Result Improved Refusal). improved_numbers (improve_values x) ++ drop 10 xs) (sym e)

pub told-counted : (r known : Result ℕ Refusal) (m : Move) (xs ys : List ℕ) → r ≡ known → m ≡ no_move
    → (let v = count_values known in ys ≡ ten_numbers v.number v.count m 0 0 0 ++ drop 10 xs)
    → ys ≡ counted_numbers (count_values r) ++ drop 10 xs
unfolding counted_numbers
told-counted r known m xs ys e f h =
    let v = count_values known in
    h ∙ ap (λ (x : Move). ten_numbers v.number v.count x 0 0 0 ++ drop 10 xs) f
    ∙ ap (λ (x : Result ℕ Refusal). counted_numbers (count_values x) ++ drop 10 xs) (sym e)
