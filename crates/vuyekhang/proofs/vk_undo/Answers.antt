use Rattle.contracts.specs.Journal.{newest}
use Rattle.vuyekhang.proofs.Handing.{undo-gives}
use Rattle.vuyekhang.proofs.vk_undo.Goals as goal

pub returns : goal.returns
unfolding newest
returns c =
    undo-gives _ _ _ _ _ _ _ _ _ (rw c.newest_place.ensures at c.record_at-newest.ensures) c.undo-a.ensures c.move_fields.ensures
