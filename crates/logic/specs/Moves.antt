-- Moves: paper 01, section One move, and grounds 14 and 15.
use Rattle.std.specs.Prelude.{Bool, false, cond, not, ◌&&◌, List, [], ◌∷◌, ℕ, zero, suc, ◌/◌, ◌%◌, eqb, leb, ltb, get_or, set}
use Rattle.logic.specs.declared.Move.{Move}
use Rattle.logic.specs.Formula.{Plan}
use Rattle.logic.specs.Configuration.{Sets, enter, leave}

-- The move of an answer that has none: "all other fields 0".
unfoldable pub no_move : Move
no_move = record { kind = 0; s = 0; t = 0; p = 0; q = 0 }

-- "1 add, 2 drop, 3 transfer, 4 swap"
pub data MoveKind : Type 0 where
  add drop transfer swap unknown : MoveKind

unfoldable pub move_kind : ℕ → MoveKind
move_kind zero = unknown
move_kind (suc zero) = add
move_kind (suc (suc zero)) = drop
move_kind (suc (suc (suc zero))) = transfer
move_kind (suc (suc (suc (suc zero)))) = swap
move_kind (suc (suc (suc (suc (suc j))))) = unknown

-- "14 unknown kind, set, port [..], or an unused field not 0": the moves to which 14 does not apply.
-- "A move is kind, set S, set T, port p, port q; a field that its kind doesn't use is 0."
unfoldable pub fields_known : MoveKind → Plan → Move → Bool
fields_known add P m = ltb m.s P.sets && eqb m.t 0 && ltb m.p P.ports && eqb m.q 0
fields_known drop P m = ltb m.s P.sets && eqb m.t 0 && ltb m.p P.ports && eqb m.q 0
fields_known transfer P m = ltb m.s P.sets && ltb m.t P.sets && ltb m.p P.ports && eqb m.q 0
fields_known swap P m = ltb m.s P.sets && eqb m.t 0 && ltb m.p P.ports && ltb m.q P.ports
fields_known unknown P m = false

-- "1 add: p not in S. 2 drop: p in S. 3 transfer: S and T differ, p in S and not in T. 4 swap: p in S, q not in S."
unfoldable pub fields_fit : MoveKind → Sets → Move → Bool
fields_fit add k m = not (k m.s m.p)
fields_fit drop k m = k m.s m.p
fields_fit transfer k m = not (eqb m.s m.t) && k m.s m.p && not (k m.t m.p)
fields_fit swap k m = k m.s m.p && not (k m.s m.q)
fields_fit unknown k m = false

unfoldable pub known : Plan → Move → Bool
known P m = fields_known (move_kind m.kind) P m

unfoldable pub fits : Sets → Move → Bool
fits k m = fields_fit (move_kind m.kind) k m

-- "A move is legal if 14 doesn't apply to it and its condition here holds."
unfoldable pub legal : Plan → Sets → Move → Bool
legal P k m = known P m && fits k m

-- A ground for refusal: its number, and whether it applies. The answer is the first that applies, 0 if none does.
abbrev pub Ground : Type 0
Ground = ℕ × Bool

unfoldable pub refusal : List Ground → ℕ
refusal [] = 0
refusal (g ∷ gs) = cond g.1 g.0 (refusal gs)

-- "14 unknown kind, set, port [..]; 15 move not legal"
unfoldable pub move_grounds : Plan → Sets → Move → List Ground
move_grounds P k m = (14, not (known P m)) ∷ (15, not (legal P k m)) ∷ []

-- "p enters S; p leaves S; p leaves S and enters T; p leaves and q enters S": the masks after a move.
unfoldable pub kind_masks : MoveKind → Move → List ℕ → List ℕ
kind_masks add m ks = set ks m.s (enter (get_or ks m.s 0) m.p)
kind_masks drop m ks = set ks m.s (leave (get_or ks m.s 0) m.p)
kind_masks transfer m ks =
    let left = set ks m.s (leave (get_or ks m.s 0) m.p) in
    set left m.t (enter (get_or left m.t 0) m.p)
kind_masks swap m ks = set ks m.s (enter (leave (get_or ks m.s 0) m.p) m.q)
kind_masks unknown m ks = ks

unfoldable pub named_masks : Move → List ℕ → List ℕ
named_masks m ks = kind_masks (move_kind m.kind) m ks

-- The masks that a plan has after a move: those that the move names are changed, and no others.
unfoldable pub move_masks : Plan → Move → List ℕ → List ℕ
move_masks P m ks = named_masks m ks

-- Set and port. "A move changes pairs (set, port): one for add and drop, two for the others."
abbrev pub Pair : Type 0
Pair = ℕ × ℕ

unfoldable pub kind_pairs : MoveKind → Move → List Pair
kind_pairs add m = (m.s, m.p) ∷ []
kind_pairs drop m = (m.s, m.p) ∷ []
kind_pairs transfer m = (m.s, m.p) ∷ (m.t, m.p) ∷ []
kind_pairs swap m = (m.s, m.p) ∷ (m.s, m.q) ∷ []
kind_pairs unknown m = []

unfoldable pub named_pairs : Move → List Pair
named_pairs m = kind_pairs (move_kind m.kind) m

-- The pairs that a move changes in a plan's sets: those that it names, whatever the sets are.
unfoldable pub move_pairs : Plan → Sets → Move → List Pair
move_pairs P k m = named_pairs m

-- "in each pair (set, port) that the move changes the port enters the set if it was out, and leaves it if it was in"
unfoldable pub flip : Pair → Sets → Sets
flip q k = λ S p. cond (eqb S q.0 && eqb p q.1) (not (k S p)) (k S p)

unfoldable pub flips : List Pair → Sets → Sets
flips [] k = k
flips (q ∷ qs) k = flips qs (flip q k)

-- "kinds as a sum of 1 add, 2 drop, 4 transfer, 8 swap"; 14 is "unknown [..] kinds sum (0, or above 15)".
unfoldable pub kind_weight : MoveKind → ℕ
kind_weight add = 1
kind_weight drop = 2
kind_weight transfer = 4
kind_weight swap = 8
kind_weight unknown = 16

unfoldable pub kinds_known : ℕ → Bool
kinds_known kinds = leb 1 kinds && leb kinds 15

-- The move's kind is one of those in the sum.
unfoldable pub of_kinds : ℕ → Move → Bool
of_kinds kinds m = eqb (kinds / kind_weight (move_kind m.kind) % 2) 1
