use Rattle.vuyekhang.proofs.Handing.{trial-gives}
use Rattle.vuyekhang.proofs.vk_trial.Goals as goal

pub returns : goal.returns
returns c =
    trial-gives _ _ _ _ _ _ c.trial-a.ensures.answer c.trial-a.ensures.lent c.move_fields.ensures
