-- A list of candidates computed: two sets over two ports, port 0 in the first set. Assumes nothing.
use mathlib.Core.Path.{◌≡◌, refl}
use mathlib.Core.List.{[], ◌∷◌}
use Rattle.logic.specs.Formula.{none}
use Rattle.logic.specs.Configuration.{in_mask, in_masks}
use Rattle.logic.specs.Penalty.{each_port}
use Rattle.logic.specs.Moves.{move_kind, fields_known, fields_fit, known, fits, legal, kind_weight, of_kinds}
use Rattle.contracts.specs.MoveOrder.{fields_are, all_moves, kept, candidates}

-- three adds, a drop, a transfer and a swap
pub candidates-of-two : candidates (record { ports = 2; sets = 2; formula = none }) 15 (in_masks (1 ∷ 0 ∷ []))
    ≡ fields_are 1 0 0 1 0 ∷ fields_are 1 1 0 0 0 ∷ fields_are 1 1 0 1 0 ∷ fields_are 2 0 0 0 0 ∷ fields_are 3 0 1 0 0 ∷ fields_are 4 0 0 0 1 ∷ []
unfolding candidates all_moves kept each_port fields_are legal known fits of_kinds move_kind kind_weight fields_known fields_fit in_masks in_mask
candidates-of-two = refl

-- the swaps alone
pub swaps-of-two : candidates (record { ports = 2; sets = 2; formula = none }) 8 (in_masks (1 ∷ 0 ∷ [])) ≡ fields_are 4 0 0 0 1 ∷ []
unfolding candidates all_moves kept each_port fields_are legal known fits of_kinds move_kind kind_weight fields_known fields_fit in_masks in_mask
swaps-of-two = refl
