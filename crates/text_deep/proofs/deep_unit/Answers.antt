use Rattle.std.proofs.Common.{rules, ◌≡◌, ◌||◌, false, ltb}
use Rattle.text_deep.proofs.Loop.{along-start, along-refused, along-end}
use Rattle.text_deep.proofs.deep_unit.Goals as goal

pub loop-p-init : goal.loop-p-init
loop-p-init c =
    along-start _ _ _ _ _ c.requires.0

pub returns-in_err-p : goal.returns-in_err-p
returns-in_err-p c =
    rw c.from_residual.ensures (along-refused _ _ _ _ _ c.requires.0 _ _ c.loop-p.invariant c.in_err-p.ensures)

pub returns : goal.returns
returns c =
    let ended : (c.loop-p.p.due || ltb 0 c.loop-p.p.brackets) ≡ false = search rules in
    along-end _ _ _ _ _ c.requires.0 _ _ c.loop-p.invariant c.requires.1 ended
