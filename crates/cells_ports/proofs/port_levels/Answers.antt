use mathlib.Core.Path.{ap₂}
use lib.Bits.{bit_or}
use Rattle.cells_ports.specs.inner.Rows.{port_levels}
use Rattle.cells_ports.proofs.port_levels.Goals as goal

pub returns : goal.returns
unfolding port_levels
returns c =
    ap₂ bit_or c.level_if.ensures c.level_if-2.ensures
