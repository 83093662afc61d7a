use mathlib.Core.Path.{ap₂, ◌∙◌}
use mathlib.Core.List.{◌++◌}
use Prim.Native.Nat.{ℕ}
use lib.ListN.{drop}
use Rattle.logic.specs.declared.Move.{Move}
use Rattle.call_numbers.specs.Encoding.{ten_numbers}
use Rattle.call_numbers.proofs.tell_refused.Goals as goal

pub returns : goal.returns
returns c =
    c.tell.ensures ∙ ap₂ (λ (k : ℕ) (x : Move). ten_numbers k 0 x 0 0 0 ++ drop 10 c.args.answer.now) (c.from.ensures ∙ c.number.ensures) c.no_move.ensures
