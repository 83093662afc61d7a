use mathlib.Core.Path.{◌∙◌}
use Prim.Native.Nat.{◌≤◌}
use native.Mathlib.Omega.{arith}
use lib.ListN.{length}
use Rattle.logic.proofs.Written.{start, one_more, done, copied}
use Rattle.cells_runs.proofs.Copying.{copy_more}
use Rattle.cells_runs.proofs.copy_first.Goals as goal

pub loop-i-init : goal.loop-i-init
loop-i-init c =
    start _ _ _ _

pub loop-i-preserved : goal.loop-i-preserved
loop-i-preserved c =
    one_more _ _ _ _ _ _ _ c.loop-i.invariant c.loop-i-test.true c.requires.1 (copy_more c.args.to c.args.len c.args.cells.now c.loop-i.cells c.loop-i.i c.loop-i.invariant c.loop-i-test.true c.requires.0 c.requires.1)

pub returns : goal.returns
returns c =
    let h : c.args.len ≤ length c.args.cells.now = omega (arith, c.requires.1) in
    done _ _ _ _ _ _ c.loop-i.invariant c.loop-i-test.false ∙ copied c.args.to c.args.len c.args.cells.now c.args.cells.now h
