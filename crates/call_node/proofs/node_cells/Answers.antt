use Rattle.contracts.proofs.NodeAnswers.{part-cells}
use Rattle.call_node.proofs.node_cells.Goals as goal

pub returns : goal.returns
returns c =
    part-cells _ c.args.cells.now _ _ c.node_bounds-part.ensures
