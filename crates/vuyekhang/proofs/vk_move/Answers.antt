use Rattle.vuyekhang.proofs.Handing.{move_gives}
use Rattle.vuyekhang.proofs.vk_move.Goals as goal

pub returns : goal.returns
returns c =
    move_gives _ _ _ _ _ _ _ _ _ _ c.make_move-a.ensures (rw c.record_place.ensures at c.put_record.ensures) c.move_fields.ensures
