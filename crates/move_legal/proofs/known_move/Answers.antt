use Rattle.move_legal.proofs.Known.{says-known}
use Rattle.move_legal.proofs.known_move.Goals as goal

pub returns : goal.returns
returns c =
    says-known _ _ _ _ c.has_fields.ensures
