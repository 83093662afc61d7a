use Rattle.std.proofs.Common.{ap, rules, not}
use Rattle.text_names.proofs.Naming.{among_is}
use Rattle.text_names.proofs.undeclared.Goals as goal

pub returns : goal.returns
returns c =
    ap not (among_is _ _ _ (search rules) (search rules))
