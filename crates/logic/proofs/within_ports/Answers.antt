use mathlib.Core.Path.{sym}
use native.Mathlib.Omega.{arith}
use Rattle.logic.proofs.Masks.{within_all, within-shift}
use Rattle.logic.proofs.within_ports.Goals as goal

pub returns-then-u-ge64 : goal.returns-then-u-ge64
returns-then-u-ge64 c = sym (within_all c.args.u c.args.mask (omega arith) (omega arith))

pub returns-else-u-ge64 : goal.returns-else-u-ge64
returns-else-u-ge64 c = within-shift c.args.u c.args.mask
