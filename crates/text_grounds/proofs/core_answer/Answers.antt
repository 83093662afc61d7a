use mathlib.Core.Path.{refl}
use Rattle.text_grounds.proofs.Answering.{answer-declared, answer-names, answer-constants, answer-quantifiers, answer-nodes, answer-cells, answer-counts}
use Rattle.text_grounds.proofs.core_answer.Goals as goal

pub returns-then-misdeclared : goal.returns-then-misdeclared
returns-then-misdeclared c =
    answer-declared _ _ _ _ _ c.misdeclared.ensures c.if-misdeclared.true

pub returns-then-f : goal.returns-then-f
returns-then-f c =
    answer-names _ _ _ _ _ c.misdeclared.ensures _ c.formula_faults-f.ensures c.if-f.true

pub returns-then-f-2 : goal.returns-then-f-2
returns-then-f-2 c =
    answer-constants _ _ _ _ _ c.misdeclared.ensures _ c.formula_faults-f.ensures c.if-misdeclared.false c.if-f.false c.if-f-2.true

pub returns-then-f-3 : goal.returns-then-f-3
returns-then-f-3 c =
    answer-quantifiers _ _ _ _ _ c.misdeclared.ensures _ c.formula_faults-f.ensures c.if-misdeclared.false c.if-f.false c.if-f-2.false c.if-f-3.true

pub returns-then-nodes-gt512 : goal.returns-then-nodes-gt512
returns-then-nodes-gt512 c =
    answer-nodes _ _ _ _ _ c.misdeclared.ensures _ c.formula_faults-f.ensures c.if-misdeclared.false c.if-f.false c.if-f-2.false c.if-f-3.false _ c.node_count-nodes.ensures c.if-nodes-gt512.true

pub returns-then-cells-gt1048576 : goal.returns-then-cells-gt1048576
returns-then-cells-gt1048576 c =
    answer-cells _ _ _ _ _ c.misdeclared.ensures _ c.formula_faults-f.ensures c.if-misdeclared.false c.if-f.false c.if-f-2.false c.if-f-3.false _ c.node_count-nodes.ensures c.if-nodes-gt512.false _ c.cell_count-cells.ensures c.if-cells-gt1048576.true

pub returns : goal.returns
returns c =
    answer-counts _ _ _ _ _ c.misdeclared.ensures _ c.formula_faults-f.ensures c.if-misdeclared.false c.if-f.false c.if-f-2.false c.if-f-3.false _ c.node_count-nodes.ensures c.if-nodes-gt512.false _ c.cell_count-cells.ensures _ refl refl c.if-cells-gt1048576.false
