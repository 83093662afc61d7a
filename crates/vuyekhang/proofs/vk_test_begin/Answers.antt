use Rattle.vuyekhang.proofs.Handing.{test-gives}
use Rattle.vuyekhang.proofs.vk_test_begin.Goals as goal

pub returns : goal.returns
returns c =
    test-gives _ _ _ _ c.port_test-a.ensures c.move_fields.ensures
