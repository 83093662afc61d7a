use Rattle.std.proofs.Common.{arith, length}
use Rattle.table_format.proofs.Bytes.{header-within}
use Rattle.text_emit.proofs.Whole.{writes-plan, part-ready}
use Rattle.text_emit.proofs.write_plan.Goals as goal

pub put_header-requires : goal.put_header-requires
put_header-requires c =
    omega (arith, header-within (length c.args.sets.now), c.requires.room)

pub put_core-requires : goal.put_core-requires
put_core-requires c =
    part-ready _ c.args.table.now c.put_header.new.table c.args.nodes _ _ c.requires c.put_header.auto.table c.records_from-from.ensures c.table_bytes-last.ensures

pub returns : goal.returns
returns c =
    writes-plan _ _ _ _ _ _ _ _ _ _ c.put_header.ensures c.records_from-from.ensures c.table_bytes-last.ensures (omega (arith, c.requires.room, c.table_bytes-last.ensures)) c.put_core.ensures
