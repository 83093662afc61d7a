-- The least value among the moves of which something holds: what a call over candidates says of its choice, said once.
use Rattle.std.specs.Prelude.{ℕ, ◌≤◌}
use Rattle.logic.specs.declared.Move.{Move}

-- "leaves the least": no move of which it holds has a smaller value. Which moves these are is the caller's: the legal moves of some
-- kinds today (paper 01, section One move).
abbrev pub NoneBelow : (Move → Type 0) → (Move → ℕ) → ℕ → Type 0
NoneBelow Is value least = (m : Move) → Is m → least ≤ value m
