use Rattle.logic.proofs.Masks.{port-bit}
use Rattle.logic.proofs.bit.Goals as goal

pub returns : goal.returns
returns c =
    port-bit _ c.requires
