use Rattle.vuyekhang.proofs.Handing.{improve-gives}
use Rattle.vuyekhang.proofs.vk_improve.Goals as goal

pub returns : goal.returns
returns c =
    improve-gives _ _ _ _ _ _ _ _ _ _ _ _ _ c.improve-a.ensures.answer c.chosen_of.ensures (rw c.record_place-place.ensures at c.put_record.ensures) c.improve-a.ensures.lent c.improve_fields.ensures
