use Rattle.planroot_input.proofs.Stepping.{steps_first, steps-second, steps-text}
use Rattle.planroot_input.proofs.Scan.pass_byte.Goals as goal

pub returns-in-FirstLine : goal.returns-in-FirstLine
returns-in-FirstLine c =
    steps_first _ _ _ _ _ c.in-FirstLine.is c.pass_first.ensures

pub returns-in-SecondLine : goal.returns-in-SecondLine
returns-in-SecondLine c =
    steps-second _ _ _ _ _ _ c.in-SecondLine.is c.pass_second.ensures

pub returns-in-Text : goal.returns-in-Text
returns-in-Text c =
    steps-text _ _ _ _ _ _ c.in-Text.is c.pass_text.ensures
