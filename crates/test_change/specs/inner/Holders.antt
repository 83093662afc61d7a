-- The sets that hold a port, as the words of a change name them. "they touch every size literal whose set holds it" (paper 02, request
-- 2026-05)
use Rattle.std.specs.Prelude.{◌≡◌, cond, List, ℕ, zero, suc, ◌<◌, get_or}
use Rattle.std.specs.Int.Bits.{bit_or}
use Rattle.logic.specs.Formula.{Plan}
use Rattle.logic.specs.Configuration.{Sets, in_mask, in_masks}
use Rattle.logic.specs.InTest.{test_change}
use Rattle.cells_touch.specs.declared.Changed.{Changed}
use Rattle.cells_touch.specs.inner.Hits.{size_bit, Describes}

unfoldable pub held_bit : ℕ → ℕ → ℕ → ℕ
held_bit mask S p = cond (in_mask mask p) (size_bit S) 0

-- The size bits of the sets below a number that hold a port.
unfoldable pub size_bits : List ℕ → ℕ → ℕ → ℕ
size_bits masks p zero = 0
size_bits masks p (suc n) = bit_or (size_bits masks p n) (held_bit (get_or masks n 0) n p)

-- The change that a port of the plan makes is told so, by masks of which the first are the plan's sets.
unfoldable pub TellsTest : ℕ → List ℕ → ℕ → Changed → Type 0
TellsTest sets masks p c =
    (P : Plan) (k : Sets) → P.sets ≡ sets → p < P.ports → ((S : ℕ) → S < sets → k S p ≡ in_masks masks S p) → Describes P.ports (test_change P k p) c
