-- What the tests for 14 and 15 ask and give. "14 unknown kind, set, port [..]; 15 move not legal" (paper 01)
use Rattle.std.specs.Prelude.{◌≡◌, Bool, true, false, List, ℕ, ◌≤◌, length, take}
use Rattle.logic.specs.declared.Move.{Move}
use Rattle.logic.specs.Formula.{Plan}
use Rattle.logic.specs.Configuration.{in_masks, mask_count}
use Rattle.logic.specs.Moves.{refusal, move_grounds, known, fits}
use Rattle.logic.specs.inner.MoveFields.{Fields}

-- What a test for 14 says, of every plan with so many ports and sets.
unfoldable pub SaysKnown : ℕ → ℕ → Move → Bool → Type 0
SaysKnown ports sets m r = (P : Plan) → P.ports ≡ ports → P.sets ≡ sets → r ≡ known P m

-- A known move over the masks, of which there may be more than the plan has.
pub record KnownOver (ports sets : ℕ) (m : Move) (masks : List ℕ) : Type 0 where
  pub fields : Fields ports sets m
  pub ports-high : ports ≤ 64
  pub masks-enough : sets ≤ length masks

-- A legal move over the masks.
pub record LegalOver (ports sets : ℕ) (m : Move) (masks : List ℕ) : Type 0 where
  pub known_over : KnownOver ports sets m masks
  pub fitting : fits (in_masks (take (mask_count sets) masks)) m ≡ true

-- What a test says of what it tests.
unfoldable pub Decides : Bool → Type 0 → Type 0
Decides true A = A
Decides false A = A → ⊥

pub record MoveReady (ports sets : ℕ) (masks : List ℕ) : Type 0 where
  pub ports64 : ports ≤ 64
  pub sets16 : sets ≤ 16
  pub own-masks : sets ≤ length masks

-- The number of the first that applies, of every plan with so many ports and sets.
unfoldable pub MoveNumber : ℕ → ℕ → Move → List ℕ → ℕ → Type 0
MoveNumber ports sets m masks r =
    (P : Plan) → P.ports ≡ ports → P.sets ≡ sets → r ≡ refusal (move_grounds P (in_masks (take (mask_count sets) masks)) m)
