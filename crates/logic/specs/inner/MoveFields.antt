-- The fields of a move to which 14 does not apply, by the numbers of ports and sets. Paper 01, section One move.
use Rattle.std.specs.Prelude.{cond, ℕ, ◌≤◌, ◌<◌, eqb}
use Rattle.logic.specs.declared.Move.{Move}

-- "a field that its kind doesn't use is 0": T and q stay below these.
unfoldable pub t_end : ℕ → ℕ → ℕ
t_end kind sets = cond (eqb kind 3) sets 1

unfoldable pub q_end : ℕ → ℕ → ℕ
q_end kind ports = cond (eqb kind 4) ports 1

-- The fields of a move to which 14 does not apply.
pub record Fields (ports sets : ℕ) (m : Move) : Type 0 where
  pub kind-low : 1 ≤ m.kind
  pub kind-high : m.kind ≤ 4
  pub s-below : m.s < sets
  pub t-below : m.t < t_end m.kind sets
  pub p-below : m.p < ports
  pub q-below : m.q < q_end m.kind ports

-- "u is the number of ports, 1 to 64"; "n is the number of sets, 1 to 16".
pub record Sized (ports sets : ℕ) : Type 0 where
  pub ports-low : 1 ≤ ports
  pub ports-high : ports ≤ 64
  pub sets-low : 1 ≤ sets
  pub sets-high : sets ≤ 16
