use Rattle.std.proofs.Common.{[], refl}
use borrow.Author.Tests.{lt-leb}
use Rattle.text_names.proofs.Naming.{low-constant, high-constant}
use Rattle.text_names.proofs.high_literal.Goals as goal

pub returns-then-operator-ge24 : goal.returns-then-operator-ge24
returns-then-operator-ge24 c =
    high-constant [] _ _ 0 _ c.if-operator-ge24.true refl

pub returns-else-operator-ge24 : goal.returns-else-operator-ge24
returns-else-operator-ge24 c =
    rw (lt-leb 24 c.args.operator c.if-operator-ge24.false) (low-constant [] _ _ 0 c.if-operator-ge24.false)
