use Rattle.vuyekhang.proofs.Handing.{read-gives}
use Rattle.vuyekhang.proofs.vk_read.Goals as goal

pub returns : goal.returns
returns c =
    read-gives _ _ _ _ c.read-a.ensures c.read_fields.ensures
