use Rattle.vuyekhang.proofs.Handing.{list-gives}
use Rattle.vuyekhang.proofs.vk_best_moves.Goals as goal

pub returns : goal.returns
returns c =
    list-gives _ _ _ _ _ _ _ _ c.best_moves-a.ensures.answer c.best_moves-a.ensures.lent c.count_fields.ensures
