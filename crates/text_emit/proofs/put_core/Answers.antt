use Rattle.text_emit.proofs.Whole.{puts-core}
use Rattle.text_emit.proofs.put_core.Goals as goal

pub returns : goal.returns
returns c =
    puts-core _ _ _ _ _ _ _ _ c.emit-end.ensures c.plain.ensures c.put_record.ensures
