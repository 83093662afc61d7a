use Rattle.std.proofs.Common.{length}
use borrow.Author.Tests.{lt-ltb}
use Rattle.text_names.proofs.Finding.{long-letters, short-letters}
use Rattle.text_names.proofs.misdeclared.Goals as goal

pub returns-then-sets-gt16 : goal.returns-then-sets-gt16
returns-then-sets-gt16 c =
    rw (lt-ltb 16 (length c.args.sets.now) c.if-sets-gt16.true) (long-letters _ c.if-sets-gt16.true)

pub returns-else-sets-gt16 : goal.returns-else-sets-gt16
returns-else-sets-gt16 c =
    short-letters _ _ c.if-sets-gt16.false c.declared_twice.ensures
