-- The legal moves of some kinds in one order, and those that leave the least root. Paper 01, section One move; paper 02, request 2026-01.
use Rattle.std.specs.Prelude.{◌≡◌, ◌⊎◌, Bool, true, cond, not, ◌&&◌, ℕ, ◌<◌, ltb}
use mathlib.Core.List.{List, [], ◌∷◌, Memᴰ}
use Rattle.logic.specs.declared.Move.{Move}
use Rattle.logic.specs.Formula.{Plan}
use Rattle.logic.specs.Configuration.{Sets}
use Rattle.logic.specs.Penalty.{each_port}
use Rattle.logic.specs.Moves.{legal, of_kinds}
use Rattle.logic.specs.Change.{some_of}

-- A move by its five fields.
unfoldable pub fields_are : ℕ → ℕ → ℕ → ℕ → ℕ → Move
fields_are kind s t p q = record { kind = kind; s = s; t = t; p = p; q = q }

-- Every move whose fields stay below what the plan has: "Moves are ordered by kind, S, T, p, q, smaller first."
unfoldable pub all_moves : Plan → List Move
all_moves P =
    each_port 5 (λ kind. each_port P.sets (λ s. each_port P.sets (λ t. each_port P.ports (λ p. each_port P.ports (λ q.
    fields_are kind s t p q ∷ [])))))

-- The moves of a list of which something holds, in the list's order.
unfoldable pub kept : (Move → Bool) → List Move → List Move
kept f [] = []
kept f (m ∷ ms) = cond (f m) (m ∷ kept f ms) (kept f ms)

-- "all legal moves of the given kinds [..], each once, in this order"
unfoldable pub candidates : Plan → ℕ → Sets → List Move
candidates P kinds k = kept (λ m. of_kinds kinds m && legal P k m) (all_moves P)

-- "a legal move of these kinds": `proofs/Candidates` `candidates-are` says that the list has exactly these.
pub record Candidate (P : Plan) (kinds : ℕ) (k : Sets) (m : Move) : Type 0 where
  pub of-kinds : of_kinds kinds m ≡ true
  pub is-legal : legal P k m ≡ true

-- No move of a list leaves a smaller root than x.
unfoldable pub none_smaller : (Move → ℕ) → List Move → ℕ → Bool
none_smaller root ms x = not (some_of (λ m. ltb (root m) x) ms)

-- The moves of a list "that leave the least root", by the root that each leaves.
unfoldable pub best_of : (Move → ℕ) → List Move → List Move
best_of root ms = kept (λ m. none_smaller root ms (root m)) ms

-- The order itself: m stands before m'.
unfoldable pub Earlier : Move → Move → Type 0
Earlier m m' =
    (m.kind < m'.kind) ⊎ ((m.kind ≡ m'.kind) ×
    ((m.s < m'.s) ⊎ ((m.s ≡ m'.s) ×
    ((m.t < m'.t) ⊎ ((m.t ≡ m'.t) ×
    ((m.p < m'.p) ⊎ ((m.p ≡ m'.p) ×
    (m.q < m'.q))))))))

-- Each move of a list stands before all that follow it.
unfoldable pub Rising : List Move → Type 0
Rising [] = Unit {0}
Rising (m ∷ ms) = ((n : Move) → Memᴰ n ms → Earlier m n) × Rising ms

-- None is in it twice.
unfoldable pub Once : List Move → Type 0
Once [] = Unit {0}
Once (m ∷ ms) = (Memᴰ m ms → ⊥) × Once ms
