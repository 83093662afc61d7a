use Rattle.text_names.proofs.Naming.{binds-flip}
use Rattle.text_names.proofs.with_letter.Goals as goal

pub returns-in-97-to-122 : goal.returns-in-97-to-122
returns-in-97-to-122 c =
    binds-flip _ _ _ (cc)
