use Rattle.std.proofs.Common.{sym, ◌∙◌}
use Rattle.cells_both.proofs.Tuples.{tested-yes, tested-no}
use Rattle.cells_both.proofs.tested.Goals as goal

pub returns-then-meet : goal.returns-then-meet
returns-then-meet c =
    tested-yes _ _ _ _ c.level_of.ensures (sym c.meet.ensures ∙ c.if-meet.true)

pub returns : goal.returns
returns c =
    tested-no _ _ _ _ c.level_of.ensures (sym c.meet.ensures ∙ c.if-meet.false)
