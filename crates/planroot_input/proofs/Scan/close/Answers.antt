use Rattle.planroot_input.proofs.Closing.{closes-unended, closes-second, closes-text}
use mathlib.Core.Path.{refl}
use Rattle.planroot_input.proofs.Scan.close.Goals as goal

pub returns-in-FirstLine : goal.returns-in-FirstLine
returns-in-FirstLine c =
    closes-unended _ _ _ c.in-FirstLine.is refl refl

pub returns-in-SecondLine : goal.returns-in-SecondLine
returns-in-SecondLine c =
    closes-second _ _ _ _ c.in-SecondLine.is c.end_word.ensures

pub returns-in-Text : goal.returns-in-Text
returns-in-Text c =
    closes-text _ _ c.in-Text.is
