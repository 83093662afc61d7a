use native.Mathlib.Omega.{arith}
use Rattle.call_open.proofs.OpenPlan.{ports-fit, sets-fit}
use Rattle.move_best.proofs.Candidates.{sized-over}
use Rattle.move_best.proofs.Searching.{here-asks, here-begins, here-less, search-starts, search-few, search-goes-on, search-ends, searching-at}
use Rattle.move_best.proofs.search.Goals as goal

pub narrow-u-requires : goal.narrow-u-requires
narrow-u-requires c =
    ports-fit c.requires.told.tables-open.opened

pub narrow-n-requires : goal.narrow-n-requires
narrow-n-requires c =
    let h = sets-fit c.requires.told.tables-open.opened in omega (arith, h)

pub first_candidate-at-requires : goal.first_candidate-at-requires
first_candidate-at-requires c =
    sized-over c.requires.told.tables-open.opened _ _ c.narrow-u.ensures c.narrow-n.ensures

pub loop-at-init : goal.loop-at-init
loop-at-init c =
    search-starts c.requires.told.tables-open _ _ _ c.narrow-u.ensures c.narrow-n.ensures _ _ _ c.requires.work-long c.none_yet-best.ensures c.first_candidate-at.ensures

pub move_root-value-requires : goal.move_root-value-requires
move_root-value-requires c =
    let r = c.requires.told.tables-open in here-asks r _ _ _ c.narrow-u.ensures c.narrow-n.ensures _ _ ((searching-at c.loop-at.invariant c.in-Some.is).sought r.opened.plan r.opened.decodes).walk _ _ _ _ _ c.requires.told _ c.loop-at.invariant.work-long

pub ranked-best-requires : goal.ranked-best-requires
ranked-best-requires c =
    search-few c.requires.told.tables-open _ _ _ c.narrow-u.ensures c.narrow-n.ensures _ _ _ c.loop-at.invariant

pub next_candidate-at-requires : goal.next_candidate-at-requires
next_candidate-at-requires c =
    let r = c.requires.told.tables-open in here-begins r _ _ _ c.narrow-u.ensures c.narrow-n.ensures _ _ ((searching-at c.loop-at.invariant c.in-Some.is).sought r.opened.plan r.opened.decodes).walk

pub loop-at-smaller : goal.loop-at-smaller
loop-at-smaller c =
    let r = c.requires.told.tables-open in here-less r _ _ _ c.narrow-u.ensures c.narrow-n.ensures _ _ ((searching-at c.loop-at.invariant c.in-Some.is).sought r.opened.plan r.opened.decodes).walk _ _ c.in-Some.is c.next_candidate-at.ensures

pub loop-at-preserved : goal.loop-at-preserved
loop-at-preserved c =
    search-goes-on c.requires.told.tables-open _ _ _ c.narrow-u.ensures c.narrow-n.ensures _ _ _ (searching-at c.loop-at.invariant c.in-Some.is) _ _ _ _ c.move_root-value.auto.work c.move_root-value.ensures c.ranked-best.ensures c.next_candidate-at.ensures

pub returns : goal.returns
returns c =
    search-ends _ _ _ _ _ _ _ (searching-at c.loop-at.invariant c.in_default.is)
