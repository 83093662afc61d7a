-- The known plans of paper 01 that are starred, and computed examples of what no law pins down, in one table.
use Rattle.std.specs.Prelude.{Bool, true, false, ◌&&◌, List, [], ◌∷◌, ◌++◌, ℕ, eqb, get_or}
use Rattle.std.specs.Bool.{beq}
use Rattle.logic.specs.declared.Move.{Move}
use Rattle.logic.specs.Formula.{Relation, lt, le, eq, ne, gt, Test, isin, notin, size, literal_of, Node, root, all, any, and, or, lit, Forest, none, tree, Plan, node_count}
use Rattle.logic.specs.Configuration.{in_masks, spelled}
use Rattle.logic.specs.Cells.{own_cells, cells, root_penalty}
use Rattle.logic.specs.Moves.{refusal, move_grounds, move_masks, move_pairs, kinds_known, of_kinds}
use Rattle.logic.specs.Change.{pairs_change, touched_count, new_cells, differing}
use Rattle.logic.specs.InTest.{test_grounds, test_masks, test_change}

-- The literal of a test, then its later siblings; a node with its children, and no sibling.
unfoldable pub literal : Test → Forest → Forest
literal t s = tree (lit (literal_of t)) none s

unfoldable pub over : Node → Forest → Forest
over n c = tree n c none

unfoldable pub plan : ℕ → ℕ → Forest → Plan
plan u n f = record { ports = u; sets = n; formula = over root f }

-- [STI] @x (x:I <-> x:S & x:T) & #I <= 1
unfoldable pub plan_a : Plan
plan_a =
    plan 3 3
    (over and
    (tree all
    (over and
    (tree or (literal (notin 0 2) (over and (literal (isin 0 0) (literal (isin 0 1) none))))
    (over or (literal (isin 0 2) (literal (notin 0 0) (literal (notin 0 1) none))))))
    (literal (size le 2 1) none)))

unfoldable pub masks_a : List ℕ
masks_a = 3 ∷ 7 ∷ 1 ∷ 0 ∷ []

-- [ST] @x (x/S | x:T) & ?x (x:T & x/S)
unfoldable pub plan_c : Plan
plan_c =
    plan 2 2
    (over and
    (tree all (over or (literal (notin 0 0) (literal (isin 0 1) none)))
    (over any (over and (literal (isin 0 1) (literal (notin 0 0) none))))))

-- [S] ?x x:S
unfoldable pub plan_d : Plan
plan_d = plan 1 1 (over any (literal (isin 0 0) none))

-- [S] #S r c, with 64 ports
unfoldable pub size_plan : Relation → ℕ → Plan
size_plan r c = plan 64 1 (literal (size r 0 c) none)

-- [S] @x @y @z (x:S & y:S & z:S)
unfoldable pub deep_plan : Plan
deep_plan = plan 2 1 (over all (over all (over all (over and (literal (isin 0 0) (literal (isin 1 0) (literal (isin 2 0) none)))))))

-- [ST] @x @y (x:S | y:S | #T <= 1)
unfoldable pub wide_plan : Plan
wide_plan = plan 3 2 (over all (over all (over or (literal (isin 0 0) (literal (isin 1 0) (literal (size le 1 1) none))))))

-- [S] @x x:S
unfoldable pub one_plan : Plan
one_plan = plan 1 1 (over all (literal (isin 0 0) none))

-- [S] #S <= 0
unfoldable pub empty_plan : Plan
empty_plan = plan 2 1 (literal (size le 0 0) none)

unfoldable pub move : ℕ → ℕ → ℕ → ℕ → ℕ → Move
move kind s t p q = record { kind = kind; s = s; t = t; p = p; q = q }

unfoldable pub same : List ℕ → List ℕ → Bool
same [] [] = true
same [] (y ∷ ys) = false
same (x ∷ xs) [] = false
same (x ∷ xs) (y ∷ ys) = eqb x y && same xs ys

pub data Example : Type 0 where
  -- a plan under masks has this root penalty
  root_is : Plan → List ℕ → ℕ → Example
  -- a plan has so many nodes
  nodes_are : Plan → ℕ → Example
  -- a plan under masks has so many cells, and these
  cells_are : Plan → List ℕ → ℕ → List ℕ → Example
  -- under masks, a move touches so many of a plan's cells
  touches : Plan → List ℕ → Move → ℕ → Example
  -- under masks and with cells as given, a move leaves these cells, with root before, root after and cells changed
  leaves : Plan → List ℕ → List ℕ → Move → List ℕ → ℕ → ℕ → ℕ → Example
  -- under masks, a move meets this ground, or 0
  meets : Plan → List ℕ → Move → ℕ → Example
  -- the same of a port that goes into test, or out of it
  test_touches : Plan → List ℕ → ℕ → ℕ → Example
  test_leaves : Plan → List ℕ → List ℕ → Bool → ℕ → List ℕ → ℕ → ℕ → ℕ → Example
  test_meets : Plan → List ℕ → Bool → ℕ → ℕ → Example
  -- a sum of kinds is known or not, and has or has not add, drop, transfer, swap
  kinds : ℕ → Bool → Bool → Bool → Bool → Bool → Example

-- Cells that were `old` are now `left`: these, with root before, root after and cells changed.
unfoldable pub became : List ℕ → List ℕ → List ℕ → ℕ → ℕ → ℕ → Bool
became old left new before after changed =
    same left new && eqb (get_or old 0 0) before && eqb (get_or left 0 0) after && eqb (differing old left) changed

unfoldable pub holds : Example → Bool
holds (root_is P ms r) = eqb (root_penalty P (spelled P ms)) r
holds (nodes_are P m) = eqb (node_count P.formula) m
holds (cells_are P ms m xs) = eqb (own_cells P) m && same (cells P (spelled P ms)) xs
holds (touches P ms m i) = eqb (touched_count P (pairs_change (move_pairs P (in_masks ms) m))) i
holds (leaves P ms old m new before after changed) =
    became old (new_cells P (spelled P (move_masks P m ms)) (pairs_change (move_pairs P (in_masks ms) m)) old) new before after changed
holds (meets P ms m i) = eqb (refusal (move_grounds P (in_masks ms) m)) i
holds (test_touches P ms p i) = eqb (touched_count P (test_change P (in_masks ms) p)) i
holds (test_leaves P ms old into p new before after changed) =
    became old (new_cells P (spelled P (test_masks P into p ms)) (test_change P (in_masks ms) p) old) new before after changed
holds (test_meets P ms into p i) = eqb (refusal (test_grounds P (in_masks ms) into p)) i
holds (kinds i b a d t s) =
    beq (kinds_known i) b && beq (of_kinds i (move 1 0 0 0 0)) a && beq (of_kinds i (move 2 0 0 0 0)) d
    && beq (of_kinds i (move 3 0 0 0 0)) t && beq (of_kinds i (move 4 0 0 0 0)) s

unfoldable pub all_hold : List Example → Bool
all_hold [] = true
all_hold (x ∷ xs) = holds x && all_hold xs

-- "Starred ones are proved": A to I, in the paper's order.
unfoldable pub starred : List Example
starred =
    root_is plan_a masks_a 1
    ∷ nodes_are plan_a 14
    ∷ cells_are plan_a masks_a 34
    (1 ∷ 1 ∷ 1 ∷ 0 ∷ 1 ∷ 0 ∷ 0 ∷ 0 ∷ 0 ∷ 1 ∷ 0 ∷ 0 ∷ 0 ∷ 0 ∷ 1 ∷ 0 ∷ 0 ∷ 1 ∷ 0 ∷ 0 ∷ 0 ∷ 0 ∷ 1 ∷ 0 ∷ 0 ∷ 1 ∷ 1 ∷ 1 ∷ 1 ∷ 0 ∷ 1 ∷ 1 ∷ 1 ∷ 0 ∷ [])
    ∷ leaves plan_a masks_a (cells plan_a (spelled plan_a masks_a)) (move 2 1 0 1 0) (cells plan_a (spelled plan_a (3 ∷ 5 ∷ 1 ∷ 0 ∷ []))) 1 0 8
    ∷ touches plan_a masks_a (move 2 1 0 1 0) 9
    ∷ root_is plan_c (1 ∷ 1 ∷ 0 ∷ []) 1
    ∷ root_is plan_d (0 ∷ 0 ∷ []) 1
    ∷ root_is plan_d (1 ∷ 0 ∷ []) 0
    ∷ root_is (size_plan lt 0) (0 ∷ 0 ∷ []) 1
    ∷ root_is (size_plan gt 64) (18446744073709551615 ∷ 0 ∷ []) 1
    ∷ root_is (size_plan eq 2) (0 ∷ 0 ∷ []) 2
    ∷ root_is (size_plan eq 2) (15 ∷ 0 ∷ []) 2
    ∷ root_is (size_plan ne 2) (3 ∷ 0 ∷ []) 1
    ∷ []

-- The order of tuples, the extent of touched, foreign cells.
unfoldable pub computed : List Example
computed =
    cells_are deep_plan (1 ∷ 0 ∷ []) 40
    (12 ∷ 12 ∷ 4 ∷ 8 ∷ 1 ∷ 3 ∷ 3 ∷ 5 ∷ 0 ∷ 1 ∷ 1 ∷ 2 ∷ 1 ∷ 2 ∷ 2 ∷ 3 ∷ 0 ∷ 0 ∷ 0 ∷ 0 ∷ 1 ∷ 1 ∷ 1 ∷ 1 ∷ 0 ∷ 0 ∷ 1 ∷ 1 ∷ 0 ∷ 0 ∷ 1 ∷ 1 ∷ 0 ∷ 1 ∷ 0 ∷ 1 ∷ 0 ∷ 1 ∷ 0 ∷ 1 ∷ [])
    ∷ touches wide_plan [] (move 1 0 0 1 0) 16
    ∷ touches wide_plan [] (move 1 1 0 1 0) 23
    ∷ leaves one_plan (0 ∷ 0 ∷ []) (5 ∷ 0 ∷ 1 ∷ []) (move 1 0 0 0 0) (4294967295 ∷ 4294967295 ∷ 0 ∷ []) 5 4294967295 3
    ∷ []

-- Each kind of move and each of its fields, under plan A's masks: S has ports 0 and 1, T 0 to 2, I 0.
unfoldable pub grounds : List Example
grounds =
    meets plan_a masks_a (move 0 0 0 0 0) 14
    ∷ meets plan_a masks_a (move 5 0 0 0 0) 14
    ∷ meets plan_a masks_a (move 1 2 0 2 0) 0
    ∷ meets plan_a masks_a (move 1 3 0 2 0) 14
    ∷ meets plan_a masks_a (move 1 2 1 2 0) 14
    ∷ meets plan_a masks_a (move 1 2 0 3 0) 14
    ∷ meets plan_a masks_a (move 1 2 0 2 1) 14
    ∷ meets plan_a masks_a (move 1 2 0 0 0) 15
    ∷ meets plan_a masks_a (move 2 1 0 2 0) 0
    ∷ meets plan_a masks_a (move 2 3 0 2 0) 14
    ∷ meets plan_a masks_a (move 2 1 1 2 0) 14
    ∷ meets plan_a masks_a (move 2 1 0 3 0) 14
    ∷ meets plan_a masks_a (move 2 1 0 2 1) 14
    ∷ meets plan_a masks_a (move 2 2 0 2 0) 15
    ∷ meets plan_a masks_a (move 3 1 2 2 0) 0
    ∷ meets plan_a masks_a (move 3 3 2 2 0) 14
    ∷ meets plan_a masks_a (move 3 1 3 2 0) 14
    ∷ meets plan_a masks_a (move 3 3 3 2 0) 14
    ∷ meets plan_a masks_a (move 3 1 2 3 0) 14
    ∷ meets plan_a masks_a (move 3 1 2 2 1) 14
    ∷ meets plan_a masks_a (move 3 1 1 2 0) 15
    ∷ meets plan_a masks_a (move 3 0 2 2 0) 15
    ∷ meets plan_a masks_a (move 3 1 0 0 0) 15
    ∷ meets plan_a masks_a (move 4 2 0 0 2) 0
    ∷ meets plan_a masks_a (move 4 3 0 0 2) 14
    ∷ meets plan_a masks_a (move 4 2 1 0 2) 14
    ∷ meets plan_a masks_a (move 4 2 0 3 2) 14
    ∷ meets plan_a masks_a (move 4 2 0 0 3) 14
    ∷ meets plan_a masks_a (move 4 2 0 1 2) 15
    ∷ meets plan_a masks_a (move 4 0 0 0 1) 15
    ∷ meets plan_a masks_a (move 4 2 0 0 0) 15
    ∷ []

unfoldable pub sums : List Example
sums =
    kinds 0 false false false false false
    ∷ kinds 1 true true false false false
    ∷ kinds 2 true false true false false
    ∷ kinds 4 true false false true false
    ∷ kinds 8 true false false false true
    ∷ kinds 11 true true true false true
    ∷ kinds 15 true true true true true
    ∷ kinds 16 false false false false false
    ∷ []

-- Ports in test count in no size and stay members. A call touches the size literals of the sets that hold the port, foreign cells
-- too; a move of a port in test touches them as any move does.
unfoldable pub tests : List Example
tests =
    root_is (size_plan eq 2) (15 ∷ 3 ∷ []) 0
    ∷ root_is (size_plan eq 2) (15 ∷ 18446744073709551615 ∷ []) 2
    ∷ root_is plan_d (1 ∷ 1 ∷ []) 0
    ∷ test_touches plan_a masks_a 0 3
    ∷ test_touches plan_a masks_a 1 0
    ∷ test_touches wide_plan (0 ∷ 2 ∷ 0 ∷ []) 1 23
    ∷ test_touches wide_plan (2 ∷ 0 ∷ 0 ∷ []) 1 0
    ∷ test_leaves empty_plan (1 ∷ 0 ∷ []) (1 ∷ 1 ∷ []) true 0 (0 ∷ 0 ∷ []) 1 0 2
    ∷ test_leaves empty_plan (1 ∷ 1 ∷ []) (0 ∷ 0 ∷ []) false 0 (1 ∷ 1 ∷ []) 0 1 2
    ∷ test_leaves empty_plan (1 ∷ 0 ∷ []) (5 ∷ 6 ∷ []) true 0 (0 ∷ 0 ∷ []) 5 0 2
    ∷ test_leaves empty_plan (1 ∷ 0 ∷ []) (5 ∷ 6 ∷ []) true 1 (5 ∷ 6 ∷ []) 5 5 0
    ∷ leaves empty_plan (1 ∷ 1 ∷ []) (5 ∷ 6 ∷ []) (move 2 0 0 0 0) (0 ∷ 0 ∷ []) 5 0 2
    ∷ test_meets plan_a (3 ∷ 7 ∷ 1 ∷ 4 ∷ []) true 1 0
    ∷ test_meets plan_a (3 ∷ 7 ∷ 1 ∷ 4 ∷ []) true 2 20
    ∷ test_meets plan_a (3 ∷ 7 ∷ 1 ∷ 4 ∷ []) true 3 14
    ∷ test_meets plan_a (3 ∷ 7 ∷ 1 ∷ 4 ∷ []) false 2 0
    ∷ test_meets plan_a (3 ∷ 7 ∷ 1 ∷ 4 ∷ []) false 1 20
    ∷ test_meets plan_a (3 ∷ 7 ∷ 1 ∷ 4 ∷ []) false 3 14
    ∷ []

-- The table.
unfoldable pub examples : List Example
examples = starred ++ (computed ++ (grounds ++ (tests ++ sums)))
