use mathlib.Core.Path.{refl}
use native.Mathlib.Omega.{arith}
use lib.Count.{count_trailing_zeros, trailing_le}
use Rattle.cells_members.proofs.Few.{sparse-start, gap-clear, sparse-more, sparse-all}
use Rattle.cells_members.proofs.put_few.Goals as goal

pub put_run-requires : goal.put_run-requires
put_run-requires c =
    omega (arith, c.requires.1)

pub loop-p-init : goal.loop-p-init
loop-p-init c =
    sparse-start _ _ _ _ _ _ c.put_run.ensures

pub overflow_cast-gap : goal.overflow_cast-gap
overflow_cast-gap c =
    omega (arith, trailing_le 64 c.loop-p.rest)

pub overflow_add-next : goal.overflow_add-next
overflow_add-next c =
    omega (arith, trailing_le 64 c.loop-p.rest, c.loop-p.invariant.within, c.requires.0)

pub returns-then-row-next : goal.returns-then-row-next
returns-then-row-next c =
    let z = count_trailing_zeros 64 c.loop-p.rest in
    sparse-all c.args.inside c.args.outside c.args.mask c.args.row c.args.cells.now c.put_run.new.cells c.loop-p.cells c.loop-p.p c.loop-p.rest c.requires.1 c.put_run.ensures c.loop-p.invariant (λ t a b. gap-clear c.args.inside c.args.outside c.args.mask c.args.row c.put_run.new.cells c.loop-p.cells c.loop-p.p c.loop-p.rest c.loop-p.invariant z refl t a (omega (arith, c.if-row-next.true)))

pub bounds-cells-next : goal.bounds-cells-next
bounds-cells-next c =
    omega (arith, c.if-row-next.false, c.loop-p.invariant.same_length, c.put_run.auto.cells, c.requires.1)

pub overflow_shr-rest : goal.overflow_shr-rest
overflow_shr-rest c =
    omega (arith, c.if-row-next.false, c.requires.0)

pub overflow_add-p : goal.overflow_add-p
overflow_add-p c =
    omega (arith, c.if-row-next.false, c.requires.0)

pub loop-p-smaller : goal.loop-p-smaller
loop-p-smaller c =
    omega (arith, c.if-row-next.false, c.loop-p-test.true)

pub loop-p-preserved : goal.loop-p-preserved
loop-p-preserved c =
    sparse-more c.args.inside c.args.outside c.args.mask c.args.row c.put_run.new.cells c.loop-p.cells c.loop-p.p c.loop-p.rest c.loop-p.invariant (count_trailing_zeros 64 c.loop-p.rest) refl c.requires.0 (omega (arith, c.put_run.auto.cells, c.requires.1)) (omega (arith, c.if-row-next.false))

pub returns : goal.returns
returns c =
    sparse-all c.args.inside c.args.outside c.args.mask c.args.row c.args.cells.now c.put_run.new.cells c.loop-p.cells c.loop-p.p c.loop-p.rest c.requires.1 c.put_run.ensures c.loop-p.invariant (λ t a b. absurd (omega (arith, c.loop-p-test.false)))
