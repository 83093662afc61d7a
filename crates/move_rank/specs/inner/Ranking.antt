-- The best so far, and one candidate more. Paper 02, request 2026-01.
use Rattle.std.specs.Prelude.{cond, ◌||◌, ℕ, ◌+◌, eqb, ltb}
use Rattle.logic.specs.declared.Move.{Move}
use Rattle.move_rank.specs.declared.Choice.{Choice}

-- A choice with its fields.
unfoldable pub choice_of : ℕ → Move → ℕ → Choice
choice_of count m value = record { count = count; m = m; value = value }

-- The best so far and one candidate more.
unfoldable pub ranked_by : Choice → Move → ℕ → Choice
ranked_by best m value =
    cond (eqb best.count 0 || ltb value best.value) (choice_of 1 m value)
    (cond (eqb value best.value) (choice_of (best.count + 1) best.m value) best)
