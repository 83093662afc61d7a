use native.Mathlib.Omega.{arith}
use Rattle.plantext_bytes.proofs.Giving.{gives-refusal, few_bytes, gives-bytes}
use Rattle.plantext_bytes.proofs.answer.Goals as goal

pub put_byte-requires : goal.put_byte-requires
put_byte-requires c =
    omega (arith, few_bytes _ _ _ _ c.write.ensures _ c.in-Ok.is c.requires c.write.auto.text)

pub returns-in-Ok : goal.returns-in-Ok
returns-in-Ok c =
    gives-bytes _ _ _ _ c.write.ensures _ c.in-Ok.is c.requires c.write.auto.text _ _ c.put_byte.ensures

pub returns-in-Err : goal.returns-in-Err
returns-in-Err c =
    gives-refusal _ _ _ _ c.write.ensures _ c.in-Err.is
