use Rattle.std.proofs.Common.{arith}
use Rattle.text_emit.proofs.Bytes.{binds-first, binds-second, binds-third}
use Rattle.text_emit.proofs.with_letter.Goals as goal

pub returns-in-0 : goal.returns-in-0
returns-in-0 c =
    binds-first _ _ c.in-0.is

pub returns-in-1 : goal.returns-in-1
returns-in-1 c =
    binds-second _ _ c.in-1.is

pub returns-in_default : goal.returns-in_default
returns-in_default c =
    binds-third _ _ (omega arith)
