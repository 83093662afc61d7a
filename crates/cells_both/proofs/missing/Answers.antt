use Rattle.std.proofs.Common.{true, false, sym, ◌∙◌}
use Rattle.cells_both.proofs.Missed.{missing-is}
use Rattle.cells_both.proofs.missing.Goals as goal

pub returns-then-meet-2 : goal.returns-then-meet-2
returns-then-meet-2 c =
    missing-is _ _ _ true true (sym c.meet.ensures ∙ c.if-meet.true) (sym c.meet-then-meet.ensures ∙ c.if-meet-2.true)

pub returns-then-meet : goal.returns-then-meet
returns-then-meet c =
    missing-is _ _ _ true false (sym c.meet.ensures ∙ c.if-meet.true) (sym c.meet-then-meet.ensures ∙ c.if-meet-2.false)

pub returns-then-meet-3 : goal.returns-then-meet-3
returns-then-meet-3 c =
    missing-is _ _ _ false true (sym c.meet.ensures ∙ c.if-meet.false) (sym c.meet-2.ensures ∙ c.if-meet-3.true)

pub returns : goal.returns
returns c =
    missing-is _ _ _ false false (sym c.meet.ensures ∙ c.if-meet.false) (sym c.meet-2.ensures ∙ c.if-meet-3.false)
