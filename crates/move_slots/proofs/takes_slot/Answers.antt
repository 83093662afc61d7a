use Rattle.std.proofs.Common.{◌∙◌, arith}
use Rattle.move_slots.proofs.Asking.{told-first, told_none, told-last}
use Rattle.move_slots.proofs.takes_slot.Goals as goal

pub returns-then-slot-lt3 : goal.returns-then-slot-lt3
returns-then-slot-lt3 c =
    told-first _ _ _ _ c.size_bit.ensures c.meet-sized.ensures (omega (arith, c.if-slot-lt3.true))

pub returns-then-sized : goal.returns-then-sized
returns-then-sized c =
    told_none _ _ _ _ c.size_bit.ensures c.meet-sized.ensures (omega (arith, c.if-slot-lt3.false)) c.if-sized.true

pub returns : goal.returns
returns c =
    c.meet.ensures ∙ told-last _ _ _ _ _ _ c.size_bit.ensures c.meet-sized.ensures (omega (arith, c.if-slot-lt3.false)) c.if-sized.false c.variable_bits.ensures c.size_bit-2.ensures
