use mathlib.Core.Path.{sym}
use Prim.Native.Nat.{ℕ}
use native.Mathlib.Omega.{arith}
use lib.ListN.{length-replicate}
use lib.Seq.{length-take-le}
use borrow.Author.Tests.{not-true, not-false}
use borrow.Author.Rules.{rules}
use Rattle.table_format.specs.Bytes.{header_length}
use Rattle.planroot_line.specs.Line.{table_room, cell_room}
use Rattle.planroot_line.proofs.Finishing.{closed-short, finish-refused, finish-line}
use Rattle.planroot_line.proofs.finish.Goals as goal

pub returns-then-not-e : goal.returns-then-not-e
returns-then-not-e c =
    finish-refused _ _ _ _ _ c.close-e.ensures (not-true _ c.if-not-e.true)

pub slice_bounds-text_line-end : goal.slice_bounds-text_line-end
slice_bounds-text_line-end c =
    sym (length-take-le _ _ (omega (arith, closed-short c.args.s c.close-e.result c.args.masks.now c.close-e.new.masks c.args.text.now c.close-e.ensures c.requires.input c.requires.scanned, c.requires.text-room)))

pub text_line-requires : goal.text_line-requires
unfolding header_length
text_line-requires c =
    search rules

pub returns : goal.returns
returns c =
    finish-line _ _ _ _ _ c.close-e.ensures _ _ _ (length-replicate {A = ℕ} table_room 0) (length-replicate {A = ℕ} cell_room 0) (not-false _ c.if-not-e.false) c.text_line.ensures
