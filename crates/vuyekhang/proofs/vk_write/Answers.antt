use Rattle.vuyekhang.proofs.Handing.{write-gives}
use Rattle.vuyekhang.proofs.vk_write.Goals as goal

pub returns : goal.returns
returns c =
    write-gives _ _ _ _ c.write-a.ensures c.count_fields.ensures
