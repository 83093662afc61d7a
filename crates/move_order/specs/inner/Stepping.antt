-- The order of moves as one number, and what a step to the next candidate gives.
use Rattle.std.specs.Prelude.{◌≡◌, true, cond, not, ◌&&◌, List, [], ◌∷◌, ℕ, ◌+◌, ◌*◌, ◌≤◌, ◌<◌, eqb, length, take, Option, Some, None}
use Rattle.logic.specs.declared.Move.{Move}
use Rattle.logic.specs.Formula.{Plan}
use Rattle.logic.specs.Configuration.{in_masks, mask_count}
use Rattle.logic.specs.Moves.{no_move, fits, of_kinds}
use Rattle.contracts.specs.MoveOrder.{Candidate}
use Rattle.logic.specs.inner.MoveFields.{q_end, Fields, Sized}

-- The same order as one number, for sets below 16 and ports below 64: proofs/Order shows that both order the plan's moves alike.
unfoldable pub place : Move → ℕ
place m = (((m.kind * 16 + m.s) * 16 + m.t) * 64 + m.p) * 64 + m.q

-- A move of sets below 16 and ports below 64
pub record Low (m : Move) : Type 0 where
  pub s-low : m.s < 16
  pub t-low : m.t < 16
  pub p-low : m.p < 64
  pub q-low : m.q < 64

-- A candidate by its fields and the masks.
pub record Suits (ports sets kinds : ℕ) (masks : List ℕ) (m : Move) : Type 0 where
  pub of-kinds : of_kinds kinds m ≡ true
  pub fields : Fields ports sets m
  pub fitting : fits (in_masks (take (mask_count sets) masks)) m ≡ true

-- A position in the order, from before the first move (kind 0) to past the last (kind 5).
pub record Position (ports sets : ℕ) (m : Move) : Type 0 where
  pub sized : Sized ports sets
  pub kind-high : m.kind ≤ 5
  pub s-below : m.s < sets
  pub t-below : m.t < sets
  pub p-below : m.p < ports
  pub q-below : m.q < ports

-- One from which a step can be made.
pub record Begins (ports sets : ℕ) (m : Move) : Type 0 where
  pub position : Position ports sets m
  pub not-past : m.kind < 5

pub record BeginsOver (ports sets : ℕ) (m : Move) (masks : List ℕ) : Type 0 where
  pub begins : Begins ports sets m
  pub masks-enough : sets ≤ length masks

pub record SizedOver (ports sets : ℕ) (masks : List ℕ) : Type 0 where
  pub sized : Sized ports sets
  pub masks-enough : sets ≤ length masks

-- r is the first candidate after m.
pub record Follows (P : Plan) (kinds : ℕ) (own : List ℕ) (m r : Move) : Type 0 where
  pub candidate : Candidate P kinds (in_masks own) r
  pub later : place m < place r
  pub nearest : (m' : Move) → Candidate P kinds (in_masks own) m' → place m < place m' → place r ≤ place m'

-- There is none after m.
pub record NoneLater (P : Plan) (kinds : ℕ) (own : List ℕ) (m : Move) : Type 0 where
  pub all-passed : (m' : Move) → Candidate P kinds (in_masks own) m' → place m' ≤ place m

unfoldable pub NextOr : Plan → ℕ → List ℕ → Move → Option Move → Type 0
NextOr P kinds own m (Some r) = Follows P kinds own m r
NextOr P kinds own m None = NoneLater P kinds own m

-- What a step to the next candidate gives, of every plan with so many ports and sets.
unfoldable pub GivesNext : ℕ → ℕ → ℕ → List ℕ → Move → Option Move → Type 0
GivesNext ports sets kinds masks m r =
    (P : Plan) → P.ports ≡ ports → P.sets ≡ sets → NextOr P kinds (take (mask_count sets) masks) m r

-- Candidates with the kind, S and p of m have their q below this: "4 swap: p in S", so there is none where p is not in S.
unfoldable pub q_end_at : ℕ → List ℕ → Move → ℕ
q_end_at ports masks m = cond (eqb m.kind 4 && not (in_masks masks m.s m.p)) 0 (q_end m.kind ports)

-- One step through the positions: no candidate lies between m and r.
pub record StepsOn (ports sets kinds : ℕ) (masks : List ℕ) (m r : Move) : Type 0 where
  pub position : Position ports sets r
  pub later : place m < place r
  pub none_between : (m' : Move) → Suits ports sets kinds masks m' → place m < place m' → place r ≤ place m'

unfoldable pub StepsAny : ℕ → ℕ → List ℕ → Move → Move → Type 0
StepsAny ports sets masks m r = (kinds : ℕ) → StepsOn ports sets kinds masks m r

-- What stands before the first move.
unfoldable pub outset : Move
outset = no_move

-- A list got by steps to the next candidate until there is none.
unfoldable pub Walked : Plan → ℕ → List ℕ → Move → List Move → Type 0
Walked P kinds own m [] = NoneLater P kinds own m
Walked P kinds own m (r ∷ rs) = Follows P kinds own m r × Walked P kinds own r rs

-- A walk that stands at the first of these moves, or has passed them all.
unfoldable pub Stands : Plan → ℕ → List ℕ → Option Move → List Move → Type 0
Stands P kinds own (Some m) [] = ⊥
Stands P kinds own (Some m) (n ∷ ms) = (m ≡ n) × Walked P kinds own m ms
Stands P kinds own None ms = ms ≡ []
