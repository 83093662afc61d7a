-- What the tables say of a move, read by its fields.
use Rattle.std.specs.Prelude.{◌≡◌, ℕ, ◌<◌, ◌≤◌, List, length}
use Rattle.logic.specs.declared.Move.{Move}

-- The fields of a move of some plan: a known kind, sets below 16, ports below 64.
pub record Readable (m : Move) : Type 0 where
  pub kind-low : 1 ≤ m.kind
  pub kind-high : m.kind ≤ 4
  pub s-low : m.s < 16
  pub t-low : m.t < 16
  pub p-low : m.p < 64
  pub q-low : m.q < 64

-- A set, what becomes of its size, and a port: all of them have a place in the tables.
pub record SlotFits (s outcome p : ℕ) : Type 0 where
  pub s-low : s < 16
  pub outcome-low : outcome ≤ 2
  pub p-low : p < 64

-- The tables are as long as their slots ask.
pub record ReadRoom (one still : List ℕ) : Type 0 where
  pub one-long : length one ≡ 4096
  pub still-long : length still ≡ 64
