use mathlib.Core.Path.{sym, ap, ◌∙◌}
use Rattle.contracts.specs.Journal.{most_records}
use Rattle.contracts.specs.MoveCall.{move_made}
use Rattle.contracts.proofs.Journals.{not_full}
use Rattle.journal_rules.specs.inner.Counting.{RoomIfMade}
use Rattle.call_move.proofs.Answering.{made-room, move-promise}
use Rattle.call_move.proofs.make_move.Goals as goal

pub count_made-requires : goal.count_made-requires
unfolding RoomIfMade most_records
count_made-requires c =
    λ h. (not_full _ _ (sym c.is_full.ensures ∙ made-room _ _ _ _ _ _ _ (sym (ap move_made c.move_with-a.ensures.answers.values-are) ∙ h))).1

pub returns : goal.returns
returns c =
    move-promise _ _ _ _ _ _ _ _ _ c.is_full.ensures c.move_with-a.ensures c.count_made.ensures
