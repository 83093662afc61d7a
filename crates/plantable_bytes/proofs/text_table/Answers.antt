use Rattle.plantable_bytes.proofs.Giving.{gives-refusal, few-nodes, header-there, gives-bytes}
use Rattle.plantable_bytes.proofs.text_table.Goals as goal

pub sets_of-requires : goal.sets_of-requires
sets_of-requires c =
    header-there _ _ _ _ _ c.read.ensures _ c.in-Ok.is c.read.auto.table

pub table_bytes-requires : goal.table_bytes-requires
table_bytes-requires c =
    few-nodes _ _ _ _ _ c.read.ensures _ c.in-Ok.is c.read.auto.table

pub returns-in-Ok : goal.returns-in-Ok
returns-in-Ok c =
    gives-bytes _ _ _ _ _ c.read.ensures _ c.in-Ok.is c.read.auto.table _ (cc)

pub returns-in-Err : goal.returns-in-Err
returns-in-Err c =
    gives-refusal _ _ _ _ _ c.read.ensures _ c.in-Err.is
