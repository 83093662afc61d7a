-- Ports in test: paper 02, request 2026-05. "One further mask, after the sets, names the ports in test": it has the number after the
-- last set's.
use Rattle.std.specs.Prelude.{Bool, cond, not, ◌&&◌, List, [], ◌∷◌, ℕ, ltb, get_or, set}
use Rattle.std.specs.Bool.{beq}
use Rattle.logic.specs.Formula.{Plan}
use Rattle.logic.specs.Configuration.{Sets, enter, leave}
use Rattle.logic.specs.Moves.{Ground, flip}
use Rattle.logic.specs.Change.{Change}

-- "Two calls put a port in test and take it out": `into` says which. "20, the port is already in that condition, after 14", which is a
-- port of u or more.
unfoldable pub test_grounds : Plan → Sets → Bool → ℕ → List Ground
test_grounds P k into p = (14, not (ltb p P.ports)) ∷ (20, beq (k P.sets p) into) ∷ []

-- The masks after the call: of the ports in test one enters or leaves, and the sets are as they were.
unfoldable pub test_masks : Plan → Bool → ℕ → List ℕ → List ℕ
test_masks P into p ks =
    let mask = get_or ks P.sets 0 in
    set ks P.sets (cond into (enter mask p) (leave mask p))

-- What the masks spell then.
unfoldable pub test_flip : Plan → ℕ → Sets → Sets
test_flip P p k = flip (P.sets, p) k

-- "Membership is unaffected"; "they touch every size literal whose set holds it, and its ancestors".
unfoldable pub test_change : Plan → Sets → ℕ → Change
test_change P k p = record { pairs = []; resized = λ S. ltb S P.sets && k S p }
