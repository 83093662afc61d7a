-- The port of a variable from cell to cell, and what the loops over cells ask: internal to the crate.
use Rattle.std.specs.Prelude.{◌≡◌, cond, List, ◌++◌, ℕ, ◌+◌, ◌-◌, ◌*◌, ◌/◌, ◌%◌, ◌^◌, ◌≤◌, ◌<◌, min, eqb, ltb, length, get_or, drop}
use Rattle.logic.specs.Cells.{tabulate}
use Rattle.cells_runs.specs.declared.Digit.{Digit}

-- "the outermost variable counting most": the port of variable v in the t-th tuple stays for as many cells as the variables
-- inside it have tuples, and then goes on to the next.
unfoldable pub block_of : ℕ → ℕ → ℕ → ℕ
block_of ports depth v = ports ^ (depth - 1 - v)

unfoldable pub digit_at : ℕ → ℕ → ℕ → ℕ
digit_at ports block t = t / block % ports

-- The port at cell t, and how many cells of its run are left, t the first of them.
pub record DigitIs (ports block t : ℕ) (d : Digit) : Type 0 where
  pub port-is : d.port ≡ digit_at ports block t
  pub left_is : d.left + t % block ≡ block

-- A number by whether port a is less than port b, the same or more.
unfoldable pub by_order : ℕ → ℕ → ℕ → ℕ → ℕ → ℕ
by_order less same more a b = cond (ltb a b) less (cond (eqb a b) same more)

-- The first `width` cells are whole runs of `block` cells.
pub record RunsPlaced (ports block width : ℕ) (cells : List ℕ) : Type 0 where
  pub ports1 : 1 ≤ ports
  pub ports64 : ports ≤ 64
  pub block1 : 1 ≤ block
  pub whole : width % block ≡ 0
  pub room : width ≤ length cells

-- The first `period` cells again and again, up to `width`.
unfoldable pub repeated : ℕ → ℕ → List ℕ → List ℕ
repeated period width l = tabulate width (λ t. get_or l (t % period) 0) ++ drop width l

-- So many cells that the port at each of the first `width` is that at one of them, in turn.
pub record Round (ports block width r : ℕ) : Type 0 where
  pub some : min 1 width ≤ r
  pub within : r ≤ width
  pub again : (t : ℕ) → t < width → digit_at ports block t ≡ digit_at ports block (t % r)

-- Two variables, of which the outer stays over whole rounds of the inner's ports, and the cells, which have every port of both.
pub record NestedPlaced (ports block other width : ℕ) (cells : List ℕ) : Type 0 where
  pub ports1 : 1 ≤ ports
  pub ports64 : ports ≤ 64
  pub block1 : 1 ≤ block
  pub other1 : 1 ≤ other
  pub nested : block % (ports * other) ≡ 0
  pub once : ports * block ≤ width
  pub room : width ≤ length cells

-- Two variables of a tuple, whichever is the outer; the same one has the same block.
pub record BlocksPlaced (ports block other width : ℕ) (cells : List ℕ) : Type 0 where
  pub first-outer : other < block → NestedPlaced ports block other width cells
  pub second-outer : block < other → NestedPlaced ports other block width cells
  pub room : width ≤ length cells
