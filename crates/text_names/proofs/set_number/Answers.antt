use Rattle.std.proofs.Common.{◌∙◌, rules}
use Rattle.text_names.proofs.Naming.{number_is}
use Rattle.text_names.proofs.set_number.Goals as goal

pub returns : goal.returns
returns c =
    c.unwrap_or.ensures ∙ number_is c.args.sets.now c.args.s c.position.result (λ i e. search rules) (λ e k l. search rules)
