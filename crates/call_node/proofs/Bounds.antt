-- The index table read as bounds. Assumes nothing.
use mathlib.Core.Path.{◌≡◌, refl, sym, ap, ◌∙◌}
use mathlib.Core.Bool.{Bool, cond}
use mathlib.Core.List.{List, [], ◌∷◌}
use Prim.Native.Nat.{ℕ, ◌+◌, ◌≤◌, ◌<◌}
use native.Mathlib.Decide.{dec_lt}
use native.Mathlib.Omega.{arith}
use lib.Dec.{ltb}
use lib.ListN.{length, get_or, drop, get_or-append}
use borrow.Author.Tests.{lt-ltb, le-ltb}
use Rattle.logic.specs.Formula.{Forest, Plan, node_count}
use Rattle.logic.specs.Cells.{cell_count, own_cells, first_cells}
use Rattle.table_format.specs.inner.Index.{laid}
use Rattle.table_format.proofs.Laid.{length-firsts}
use Rattle.table_format.proofs.Ready.{own-count}
use Rattle.call_node.specs.inner.Bounds.{bound_at}
use Rattle.logic.specs.Moves.{refusal}
use Rattle.table_format.specs.Decode.{Decoded, broken, sound}
use Rattle.contracts.specs.Call.{plan_grounds}
use Rattle.contracts.specs.NodeCells.{PartGives}
use Rattle.contracts.proofs.NodeAnswers.{part-broken, part-short}
use Rattle.call_open.specs.inner.Opening.{cells_number}
use Rattle.contracts.proofs.NodeParts.{bounded, bounded-is, last-bound, NodeBounds, node-bounds}

-- the bounds as the code reads them from the index table
pub bound-read : (u : ℕ) (f : Forest) (zs firsts : List ℕ) (i nodes total : ℕ) → firsts ≡ laid zs 0 (first_cells u f 0 0) → nodes ≡ node_count f → total ≡ cell_count u f 0
    → i ≤ nodes → bound_at firsts i nodes total ≡ get_or (bounded u f 0 0) i 0
unfolding bound_at laid
bound-read u f zs firsts i nodes total e n t h = go (dec_lt i nodes)
  where
    fs : List ℕ
    fs = first_cells u f 0 0

    lf : length fs ≡ node_count f
    lf = length-firsts u f 0 0

    go : Dec (i < nodes) → cond (ltb i nodes) (get_or firsts i 0) total ≡ get_or (bounded u f 0 0) i 0
    go (yes l) =
        ap (λ (b : Bool). cond b (get_or firsts i 0) total) (lt-ltb i nodes l)
        ∙ ap (λ (l : List ℕ). get_or l i 0) e ∙ get_or-append fs (drop (0 + length fs) zs) 0 i (omega (arith, lf))
        ∙ sym (ap (λ (l : List ℕ). get_or l i 0) (bounded-is u f 0 0) ∙ get_or-append fs ((0 + cell_count u f 0) ∷ []) 0 i (omega (arith, lf)))
    go (no l) =
        ap (λ (b : Bool). cond b (get_or firsts i 0) total) (le-ltb i nodes (omega arith))
        ∙ t ∙ (let q : cell_count u f 0 ≡ 0 + cell_count u f 0 = omega arith in q) ∙ sym (last-bound u f 0 0)
        ∙ ap (λ (k : ℕ). get_or (bounded u f 0 0) k 0) (let q : node_count f ≡ i = omega arith in q)

-- the bounds that the code reads from the check's index table
pub bounds_of : (P : Plan) (zs firsts : List ℕ) (node from to nodes total : ℕ) → firsts ≡ laid zs 0 (first_cells P.ports P.formula 0 0)
    → nodes ≡ node_count P.formula → total ≡ own_cells P → node < nodes → from ≡ bound_at firsts node nodes total → to ≡ bound_at firsts (node + 1) nodes total
    → NodeBounds P.ports P.formula node from to total
bounds_of P zs firsts node from to nodes total e n t h a b =
    let q = t ∙ own-count P in
    node-bounds P.ports P.formula node from to total (omega (arith, n)) q
    (a ∙ bound-read P.ports P.formula zs firsts node nodes total e n q (omega arith))
    (b ∙ bound-read P.ports P.formula zs firsts (node + 1) nodes total e n q (omega arith))

-- 11 or 12 applies: the part is empty
pub part-shut : (d : Decoded) (cells node n : ℕ) → (n ≡ 0 → ⊥) → n ≡ cells_number d cells → PartGives d cells node (record { first = 0; count = 0 })
unfolding cells_number plan_grounds refusal
part-shut broken cells node n h q = part-broken broken cells node refl
part-shut (sound P) cells node n h q = part-short (sound P) cells node P refl (short (dec_lt cells (own_cells P)))
  where
    short : Dec (cells < own_cells P) → cells < own_cells P
    short (yes l) = l
    short (no l) = absurd (h (q ∙ ap (λ (b : Bool). cond b 12 0) (le-ltb cells (own_cells P) (omega arith))))
