use native.Mathlib.Omega.{arith}
use Rattle.cells_runs.proofs.Rounds.{round-row}
use Rattle.cells_members.proofs.Few.{few-row}
use Rattle.cells_members.proofs.Halves.{halves-row}
use Rattle.cells_members.proofs.put_row.Goals as goal

pub put_few-requires : goal.put_few-requires
put_few-requires c =
    (omega (arith, c.min-row.ensures, c.requires.ports64), omega (arith, c.min-row.ensures, c.requires.room))

pub returns-then-is_sparse : goal.returns-then-is_sparse
returns-then-is_sparse c =
    (round-row c.requires c.min-row.result (omega (arith, c.min-row.ensures)), few-row c.args.inside c.args.outside c.args.mask c.args.ports c.min-row.result c.args.cells.now _ (omega (arith, c.min-row.ensures)) c.put_few.ensures)

pub returns : goal.returns
returns c =
    (round-row c.requires c.min-row.result (omega (arith, c.min-row.ensures)), halves-row c.args.inside c.args.outside c.args.mask c.args.ports c.min-row.result c.min-low.result c.args.cells.now c.put_half.new.cells c.put_half-2.new.cells (omega (arith, c.min-row.ensures)) c.min-low.ensures c.put_half.ensures c.put_half-2.ensures)
