-- What the tests for 14 and 20 give. "20, the port is already in that condition, after 14" (paper 02, request 2026-05)
use Rattle.std.specs.Prelude.{◌≡◌, Bool, List, ℕ, take}
use Rattle.logic.specs.Formula.{Plan}
use Rattle.logic.specs.Configuration.{in_masks, mask_count}
use Rattle.logic.specs.Moves.{refusal}
use Rattle.logic.specs.InTest.{test_grounds}

-- The number of the first that applies, of every plan with so many ports and sets.
unfoldable pub PortNumber : ℕ → ℕ → Bool → ℕ → List ℕ → ℕ → Type 0
PortNumber ports sets into p masks r =
    (P : Plan) → P.ports ≡ ports → P.sets ≡ sets → r ≡ refusal (test_grounds P (in_masks (take (mask_count sets) masks)) into p)
