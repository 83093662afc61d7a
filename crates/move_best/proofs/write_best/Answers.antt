use native.Mathlib.Omega.{arith}
use Rattle.call_open.proofs.OpenPlan.{ports-fit, sets-fit}
use Rattle.move_best.proofs.Candidates.{sized-over}
use Rattle.move_best.proofs.Searching.{here-asks, here-begins, here-less, write-starts, write-room, write-goes-on, write-ends, writing-at}
use Rattle.move_best.proofs.write_best.Goals as goal

pub narrow-u-requires : goal.narrow-u-requires
narrow-u-requires c =
    ports-fit c.requires.room.told.tables-open.opened

pub narrow-n-requires : goal.narrow-n-requires
narrow-n-requires c =
    let h = sets-fit c.requires.room.told.tables-open.opened in omega (arith, h)

pub first_candidate-here-requires : goal.first_candidate-here-requires
first_candidate-here-requires c =
    sized-over c.requires.room.told.tables-open.opened _ _ c.narrow-u.ensures c.narrow-n.ensures

pub loop-here-init : goal.loop-here-init
loop-here-init c =
    write-starts c.requires.room.told.tables-open _ _ _ c.narrow-u.ensures c.narrow-n.ensures _ _ _ c.requires.work-long c.first_candidate-here.ensures

pub move_root-value-requires : goal.move_root-value-requires
move_root-value-requires c =
    let r = c.requires.room.told.tables-open in here-asks r _ _ _ c.narrow-u.ensures c.narrow-n.ensures _ _ ((writing-at c.loop-here.invariant c.in-Some.is).written r.opened.plan r.opened.decodes).walk _ _ _ _ _ c.requires.room.told _ c.loop-here.invariant.work-long

pub put_best-i-requires : goal.put_best-i-requires
put_best-i-requires c =
    write-room c.requires.room.told.tables-open _ _ _ c.narrow-u.ensures c.narrow-n.ensures _ _ _ _ _ (writing-at c.loop-here.invariant c.in-Some.is) _ c.requires.room.chooses c.requires.room.list-long _ c.move_root-value.ensures

pub next_candidate-here-requires : goal.next_candidate-here-requires
next_candidate-here-requires c =
    let r = c.requires.room.told.tables-open in here-begins r _ _ _ c.narrow-u.ensures c.narrow-n.ensures _ _ ((writing-at c.loop-here.invariant c.in-Some.is).written r.opened.plan r.opened.decodes).walk

pub loop-here-smaller : goal.loop-here-smaller
loop-here-smaller c =
    let r = c.requires.room.told.tables-open in here-less r _ _ _ c.narrow-u.ensures c.narrow-n.ensures _ _ ((writing-at c.loop-here.invariant c.in-Some.is).written r.opened.plan r.opened.decodes).walk _ _ c.in-Some.is c.next_candidate-here.ensures

pub loop-here-preserved : goal.loop-here-preserved
loop-here-preserved c =
    write-goes-on c.requires.room.told.tables-open _ _ _ c.narrow-u.ensures c.narrow-n.ensures _ _ _ _ _ (writing-at c.loop-here.invariant c.in-Some.is) _ c.requires.room.chooses c.requires.room.list-long _ c.move_root-value.ensures _ _ _ _ c.move_root-value.auto.work c.put_best-i.auto.list c.put_best-i.ensures c.next_candidate-here.ensures

pub returns : goal.returns
returns c =
    write-ends _ _ _ _ _ _ _ _ _ (writing-at c.loop-here.invariant c.in_default.is)
