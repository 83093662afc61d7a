use mathlib.Core.Path.{refl}
use borrow.Author.Tests.{lt-ltb, le-ltb}
use Rattle.logic.specs.Refusal.{refusal_number, answer_number}
use Rattle.call_write.proofs.writable.Goals as goal

pub returns-then-long : goal.returns-then-long
unfolding answer_number refusal_number
returns-then-long c =
    rw c.if-long.true refl

pub returns-then-room-n : goal.returns-then-room-n
unfolding answer_number refusal_number
returns-then-room-n c =
    rw (c.if-long.false, lt-ltb _ _ c.if-room-n.true) refl

pub returns-else-room-n : goal.returns-else-room-n
unfolding answer_number
returns-else-room-n c =
    rw (c.if-long.false, le-ltb _ _ c.if-room-n.false) refl
