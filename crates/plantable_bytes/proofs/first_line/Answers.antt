use mathlib.Core.Path.{sym}
use native.Mathlib.Omega.{arith}
use lib.Seq.{length-take-le}
use Rattle.plantable_bytes.proofs.Passing.{line-within, no-line, wrong-line, line-found}
use Rattle.plantable_bytes.proofs.first_line.Goals as goal

pub returns-in_err-end : goal.returns-in_err-end
returns-in_err-end c =
    rw c.from_residual.ensures (no-line _ c.in_err-end.ensures)

pub slice_bounds-word_of-end : goal.slice_bounds-word_of-end
slice_bounds-word_of-end c =
    sym (length-take-le _ _ (omega (arith, c.in_ok-end.ensures.1, line-within c.args.input.now c.in_ok-end.ensures.0)))

pub returns-in_err-ports : goal.returns-in_err-ports
returns-in_err-ports c =
    rw c.from_residual-in_err-ports.ensures (wrong-line _ c.in_ok-end.ensures.0 _ c.in_ok-end.ensures.1 _ c.word_of.ensures c.in_err-ports.ensures)

pub overflow_add-result : goal.overflow_add-result
overflow_add-result c =
    omega (arith, c.in_ok-end.ensures.1, line-within c.args.input.now c.in_ok-end.ensures.0)

pub returns : goal.returns
returns c =
    line-found _ c.in_ok-end.ensures.0 _ c.in_ok-end.ensures.1 _ c.word_of.ensures _ c.in_ok-ports.ensures
