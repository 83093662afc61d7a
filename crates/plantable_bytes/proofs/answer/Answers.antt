use Rattle.plantable_bytes.proofs.Giving.{line_refused, line_taken}
use Rattle.plantable_bytes.proofs.answer.Goals as goal

pub returns-in_default : goal.returns-in_default
returns-in_default c =
    line_refused _ _ c.in_default.ensures

pub returns : goal.returns
returns c =
    line_taken _ _ _ c.in-Some.ensures _ _ c.text_table.ensures
