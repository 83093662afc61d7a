use Rattle.std.proofs.Common.{◌-◌, length, drop, arith, length-drop, take_all}
use Rattle.cells_row.proofs.cells_from.Goals as goal

pub returns : goal.returns
returns c =
    let l = c.args.cells.now in
    let k = c.args.at in
    take_all (length l - k) (drop k l) (rw (length-drop k l) (omega arith))
