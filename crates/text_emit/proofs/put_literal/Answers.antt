use Rattle.table_format.specs.Bytes.{record_length}
use Rattle.text_emit.proofs.Emitting.{literal-full, literal-put}
use Rattle.text_emit.proofs.put_literal.Goals as goal

pub returns-then-out-i : goal.returns-then-out-i
unfolding record_length
returns-then-out-i c =
    literal-full _ _ _ _ _ _ _ _ _ c.requires.placed c.if-out-i.true

pub returns : goal.returns
unfolding record_length
returns c =
    literal-put _ _ _ _ _ _ _ _ _ _ c.if-out-i.false c.literal_fields-f.ensures c.put_record.ensures
