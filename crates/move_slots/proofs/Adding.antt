-- A row added to a table from a place on, place by place. Assumes nothing.
use Rattle.std.proofs.Common.{◌≡◌, ℕ, ◌+◌, ◌%◌, ◌<◌, ◌≤◌, List, length, get_or, set, ap, ◌∙◌, arith}
use Rattle.logic.specs.Change.{modulus}
use Rattle.logic.proofs.Written.{Written, one_more}
use Rattle.cells_walk.proofs.Wrote.{run-behind}

-- what stands at the row's place x after
abbrev pub added : List ℕ → ℕ → List ℕ → ℕ → ℕ
added row at table x = (get_or table (at + x) 0 + get_or row x 0) % modulus

-- one more number: it is not written yet
pub added_more : (row : List ℕ) (u at x v : ℕ) (table cells : List ℕ) → Written (added row at table) at u table cells x → x < u → at + u ≤ length table
    → v ≡ (get_or cells (at + x) 0 + get_or row x 0) % modulus → Written (added row at table) at u table (set cells (at + x) v) (x + 1)
added_more row u at x v table cells i l h e =
    let f = added row at table in
    one_more f at u table cells x v i l h
    (e ∙ ap (λ (m : ℕ). (m + get_or row x 0) % modulus)
    (ap (λ (c : List ℕ). get_or c (at + x) 0) i.is ∙ run-behind f at x (at + x) table (omega arith) (omega arith)))
