use Rattle.cells_both.proofs.Words.{held-has, held-other}
use Rattle.cells_both.proofs.held_word.Goals as goal

pub returns-then-x-p : goal.returns-then-x-p
returns-then-x-p c =
    held-has _ _ _ _ _ _ c.if-x-p.true c.level_of.ensures

pub returns : goal.returns
returns c =
    held-other _ _ _ _ _ c.if-x-p.false
