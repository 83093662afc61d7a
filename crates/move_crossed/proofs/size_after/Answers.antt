use Rattle.std.proofs.Common.{arith}
use Rattle.move_shares.specs.inner.Shares.{exchanged}
use Rattle.move_crossed.proofs.size_after.Goals as goal

pub returns-then-grown-eq0 : goal.returns-then-grown-eq0
unfolding exchanged
returns-then-grown-eq0 c =
    (omega (arith, c.leaving_size.ensures, c.entering_size.ensures, c.if-grown-eq0.true), omega arith)

pub returns : goal.returns
unfolding exchanged
returns c =
    (omega (arith, c.leaving_size.ensures, c.entering_size.ensures, c.if-grown-eq0.false), omega (arith, c.requires, c.leaving_size.ensures, c.entering_size.ensures))
