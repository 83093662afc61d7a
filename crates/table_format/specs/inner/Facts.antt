-- What the rules of a plan come to, fact by fact, for those that work on a plan that passed.
use Rattle.std.specs.Prelude.{◌≤◌}
use Rattle.logic.specs.Formula.{Plan, node_count}
use Rattle.logic.specs.inner.Literals.{VariablesBound, ConstantsLow, SetsBelow}
use Rattle.logic.specs.Cells.{own_cells}

pub record PlanFacts (P : Plan) : Type 0 where
  pub ports1 : 1 ≤ P.ports
  pub ports64 : P.ports ≤ 64
  pub sets1 : 1 ≤ P.sets
  pub sets16 : P.sets ≤ 16
  pub nodes2 : 2 ≤ node_count P.formula
  pub nodes512 : node_count P.formula ≤ 512
  pub cells-most : own_cells P ≤ 1048576
  pub constants : ConstantsLow P.formula 0
  pub variables : VariablesBound P.formula 0
  pub sets_below : SetsBelow P.sets P.formula 0
