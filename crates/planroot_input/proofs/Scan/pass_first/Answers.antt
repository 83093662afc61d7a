use Rattle.planroot_input.proofs.Passing.{first_more, first-end}
use Rattle.planroot_input.proofs.Scan.pass_first.Goals as goal

pub returns-then-b-ne10 : goal.returns-then-b-ne10
returns-then-b-ne10 c =
    first_more _ _ _ c.if-b-ne10.true c.add_byte.ensures

pub returns : goal.returns
returns c =
    first-end _ _ _ _ _ c.if-b-ne10.false c.run-ports.ensures c.is_some.ensures c.unwrap_or.ensures
