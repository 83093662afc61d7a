use borrow.Author.Tests.{not-true, not-false}
use Rattle.logic.specs.Refusal.{refusal_number, answer_number}
use Rattle.move_legal.proofs.Judging.{number-unknown, number-known, number-legal, known_over}
use Rattle.move_legal.proofs.legal.Goals as goal

pub returns-then-not-known_move : goal.returns-then-not-known_move
unfolding answer_number refusal_number
returns-then-not-known_move c =
    number-unknown _ _ _ _ c.narrow-u.ensures c.narrow-n.ensures _ _ _ c.known_move.ensures (not-true _ c.if-not-known_move.true-raw)

pub fits_move-requires : goal.fits_move-requires
fits_move-requires c =
    known_over _ _ _ _ c.narrow-u.ensures c.narrow-n.ensures _ _ _ c.known_move.ensures c.requires (not-false _ c.if-not-known_move.false-raw)

pub returns-then-not-fits_move : goal.returns-then-not-fits_move
unfolding answer_number refusal_number
returns-then-not-fits_move c =
    number-known _ _ _ _ c.narrow-u.ensures c.narrow-n.ensures _ _ _ c.known_move.ensures _ (not-false _ c.if-not-known_move.false-raw) c.fits_move.ensures (not-true _ c.if-not-fits_move.true-raw)

pub returns-else-not-fits_move : goal.returns-else-not-fits_move
unfolding answer_number
returns-else-not-fits_move c =
    number-legal _ _ _ _ c.narrow-u.ensures c.narrow-n.ensures _ _ _ c.known_move.ensures _ (not-false _ c.if-not-known_move.false-raw) c.fits_move.ensures (not-false _ c.if-not-fits_move.false-raw)
