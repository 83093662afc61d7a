use native.Mathlib.Omega.{arith}
use Rattle.logic.proofs.Written.{start, one-more-first}
use Rattle.cells_members.proofs.Halves.{part-length, part-written}
use Rattle.cells_members.proofs.put_half.Goals as goal

pub loop-t-init : goal.loop-t-init
loop-t-init c =
    start _ _ _ _

pub loop-t-preserved : goal.loop-t-preserved
loop-t-preserved c =
    one-more-first _ _ _ _ _ _ c.loop-t.invariant
    (omega (arith, part-length c.args.from c.args.len c.args.cells.now c.requires.1))
    (omega (arith, part-length c.args.from c.args.len c.args.cells.now c.requires.1)) c.bit_penalty.ensures

pub returns : goal.returns
returns c =
    part-written _ c.args.from c.args.len c.loop-t.t c.args.cells.now _ c.requires.1 c.loop-t.invariant
    (omega (arith, part-length c.args.from c.args.len c.args.cells.now c.requires.1))
