-- The line for load's answer.
use Rattle.std.specs.Prelude.{eqb}
use Rattle.text_tokens.specs.Tokens.{pick}
use Rattle.contracts.specs.Load.{LoadValues}
use Rattle.planroot_print.specs.declared.Line.{Line}
use Rattle.planroot_print.specs.declared.Line.TheVariants.{Penalty, Refusal}

-- "`penalty P cells C` (root, cell total) or `refused N`"
unfoldable pub load_line : LoadValues → Line
load_line v = pick (eqb v.number 0) (Penalty v.root v.cells) (Refusal v.number)
