use Rattle.std.proofs.Common.{refl}
use Rattle.std.proofs.Common.{◌-◌}
use Rattle.logic.specs.Change.{modulus}
use Rattle.logic.proofs.Written.{start, done}
use Rattle.move_slots.specs.inner.Taking.{added_at}
use Rattle.move_slots.proofs.Adding.{added_more}
use Rattle.move_slots.proofs.add_at.Goals as goal

pub loop-x-init : goal.loop-x-init
loop-x-init c =
    (start _ _ _ _, c.requires.0, c.requires.1)

pub loop-x-preserved : goal.loop-x-preserved
unfolding modulus
loop-x-preserved c =
    (added_more c.args.row.now _ _ _ _ _ _ c.loop-x.invariant.0 c.loop-x-test.true c.loop-x.invariant.2 refl, c.loop-x.invariant.1, c.loop-x.invariant.2)

pub returns : goal.returns
unfolding added_at
returns c =
    done _ _ _ _ _ _ c.loop-x.invariant.0 c.loop-x-test.false
