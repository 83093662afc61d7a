use Prim.Native.Nat.{◌-◌}
use native.Mathlib.Omega.{arith}
use Rattle.cells_zero.proofs.Telling.{tree-in, onward-first, onward-next, onward-found, found_none}
use Rattle.cells_zero.proofs.zero_among.Goals as goal

pub loop-j-init : goal.loop-j-init
loop-j-init c =
    onward-first _ _ _ _ _ _ _ _ c.requires

pub zero_kept-requires : goal.zero_kept-requires
zero_kept-requires c =
    tree-in _ _ _ _ _ _ _ c.loop-j.invariant.ready c.loop-j-test.true

pub returns-then-zero_kept : goal.returns-then-zero_kept
returns-then-zero_kept c =
    onward-found _ _ _ _ _ _ _ _ _ _ c.loop-j.invariant c.loop-j-test.true c.zero_kept.ensures c.if-zero_kept.true

pub end_at-j-requires : goal.end_at-j-requires
end_at-j-requires c =
    (tree-in _ _ _ _ _ _ _ c.loop-j.invariant.ready c.loop-j-test.true).0

pub loop-j-smaller : goal.loop-j-smaller
loop-j-smaller c =
    let n = onward-next _ _ _ _ _ _ _ _ _ _ c.loop-j.invariant c.loop-j-test.true c.end_at-j.ensures in omega (arith, n.0, c.loop-j-test.true)

pub loop-j-preserved : goal.loop-j-preserved
loop-j-preserved c =
    (onward-next _ _ _ _ _ _ _ _ _ _ c.loop-j.invariant c.loop-j-test.true c.end_at-j.ensures).1

pub returns : goal.returns
returns c =
    found_none _ _ _ _ _ _ _ _
