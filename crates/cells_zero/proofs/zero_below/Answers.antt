use Rattle.cells_zero.proofs.Telling.{node-low, record-room, children-ready, not-told, told}
use Rattle.cells_zero.proofs.zero_below.Goals as goal

pub kind_at-requires : goal.kind_at-requires
kind_at-requires c =
    record-room _ _ _ _ _ _ _ c.requires

pub returns-then-kind_at-ne4 : goal.returns-then-kind_at-ne4
returns-then-kind_at-ne4 c =
    not-told _ _ _ _ _ _ _ _

pub end_at-requires : goal.end_at-requires
end_at-requires c =
    node-low _ _ _ _ _ _ _ c.requires

pub zero_among-requires : goal.zero_among-requires
zero_among-requires c =
    children-ready _ _ _ _ _ _ _ c.requires _ _ c.kind_at.ensures c.if-kind_at-ne4.false c.end_at.ensures

pub returns : goal.returns
returns c =
    told _ _ _ _ _ _ _ _ _ _ _ c.kind_at.ensures c.if-kind_at-ne4.false c.end_at.ensures c.zero_among.ensures
