use Rattle.std.proofs.Common.{arith}
use Rattle.text_emit.proofs.Literals.{literal-size, literal-port, literal-member}
use Rattle.text_emit.proofs.literal_fields.Goals as goal

pub returns-in-24-to-65535 : goal.returns-in-24-to-65535
returns-in-24-to-65535 c =
    literal-size _ _ _ _ _ _ _ c.relation_at-relation.ensures c.low_byte.ensures _ _ (omega arith) c.set_byte-in-24-to-65535.ensures c.low_byte-in-24-to-65535.ensures

pub returns-in-16-to-65535 : goal.returns-in-16-to-65535
returns-in-16-to-65535 c =
    literal-port _ _ _ _ _ _ _ c.relation_at-relation.ensures c.low_byte.ensures _ _ (omega arith) (omega arith) c.variable_number-in-16-to-65535.ensures c.variable_number-in-16-to-65535-2.ensures

pub returns-in_default : goal.returns-in_default
returns-in_default c =
    literal-member _ _ _ _ _ _ _ _ (omega arith) c.member_kind.ensures c.variable_number.ensures c.set_byte.ensures
