use Rattle.vuyekhang.proofs.Handing.{load_gives}
use Rattle.vuyekhang.proofs.vk_load.Goals as goal

pub returns : goal.returns
returns c =
    load_gives _ _ _ _ c.load-a.ensures c.load_fields.ensures
