-- The part that the node call hands back, in each of its cases. Assumes nothing.
use mathlib.Core.Path.{◌≡◌, refl, sym, ap, ap₂, ◌∙◌}
use mathlib.Core.Bool.{Bool, true, false, cond, ◌||◌}
use mathlib.Core.List.{List, [], ◌∷◌}
use Prim.Native.Nat.{ℕ, zero, suc, ◌+◌, ◌-◌, ◌≤◌, ◌<◌}
use native.Mathlib.Omega.{arith}
use lib.Dec.{leb, ltb}
use lib.ListN.{length, get_or, take, drop}
use lib.Seq.{take-take}
use borrow.Author.Tests.{lt-ltb, le-ltb, le-leb, lt-leb, leb-false}
use Rattle.logic.specs.Formula.{Plan, node_count}
use Rattle.logic.specs.Cells.{cell_count, own_cells, first_cells}
use Rattle.table_format.specs.Decode.{Decoded, broken, sound}
use Rattle.contracts.specs.declared.Part.{Part}
use Rattle.contracts.specs.NodeCells.{widths, plan_bounds, node_bounds, node_cells, PartGives}
use Rattle.contracts.proofs.NodeParts.{NodeBounds, node-bounds}

-- the empty part lies anywhere
no_part : (d : Decoded) (n node : ℕ) → node_bounds d n node ≡ (0, 0) → PartGives d n node (record { first = 0; count = 0 })
no_part d n node e = record { first-is = sym (ap (λ (x : ℕ × ℕ). x.0) e); count-is = sym (ap (λ (x : ℕ × ℕ). x.1) e); within = omega arith }

-- the bounds of what the bytes are
decoded-bounds : (d e : Decoded) (n node : ℕ) → d ≡ e → node_bounds d n node ≡ node_bounds e n node
decoded-bounds d e n node h = ap (λ (x : Decoded). node_bounds x n node) h

pub part-broken : (d : Decoded) (n node : ℕ) → d ≡ broken → PartGives d n node (record { first = 0; count = 0 })
part-broken d n node h = no_part d n node (decoded-bounds d broken n node h)

module _ (d : Decoded) (n node : ℕ) (P : Plan) (decodes : d ≡ sound P) where
  pub part-short : n < own_cells P → PartGives d n node (record { first = 0; count = 0 })
  unfolding plan_bounds
  part-short h = no_part d n node (decoded-bounds d (sound P) n node decodes ∙ rw (lt-ltb n (own_cells P) h))

  pub part-past : own_cells P ≤ n → node_count P.formula ≤ node → PartGives d n node (record { first = 0; count = 0 })
  unfolding plan_bounds
  part-past l h = no_part d n node (decoded-bounds d (sound P) n node decodes ∙ rw (le-ltb n (own_cells P) l, le-leb (node_count P.formula) node h))

  -- a node that is there: the first cell and the width of the definitions
  pub part-found : (from to total : ℕ) → own_cells P ≤ n → node < node_count P.formula → total ≡ own_cells P → NodeBounds P.ports P.formula node from to total
      → PartGives d n node (record { first = from; count = to - from })
  unfolding plan_bounds
  part-found from to total l h t b =
      let e : node_bounds d n node ≡ (get_or (first_cells P.ports P.formula 0 0) node 0, get_or (widths P.ports P.formula 0) node 0) =
      decoded-bounds d (sound P) n node decodes ∙ rw (le-ltb n (own_cells P) l, lt-leb (node_count P.formula) node h) in
      record {
        first-is = b.first ∙ sym (ap (λ (x : ℕ × ℕ). x.0) e);
        count-is = b.width ∙ sym (ap (λ (x : ℕ × ℕ). x.1) e);
        within = omega (arith, t, b.rises, b.within);
      }

-- the part from its first cell to its end is the node's cells
pub part-cells : (d : Decoded) (xs : List ℕ) (node : ℕ) (r : Part) → PartGives d (length xs) node r
    → take (r.first + r.count - r.first) (drop r.first xs) ≡ node_cells d xs node
unfolding node_cells
part-cells d xs node r g =
    let e : r.first + r.count - r.first ≡ (node_bounds d (length xs) node).1 = omega (arith, g.count-is) in
    ap₂ (λ (x y : ℕ). take x (drop y xs)) e g.first-is

-- a part of a table's front is a part of the table
front-part : (f w t : ℕ) (xs : List ℕ) → f + w ≤ t → take w (drop f xs) ≡ take w (drop f (take t xs))
front-part zero w t xs h = sym (take-take w t xs (omega arith))
front-part (suc f) w zero xs h = absurd (omega arith)
front-part (suc f) w (suc t) [] h = refl
front-part (suc f) w (suc t) (x ∷ xs) h = front-part f w t xs (omega arith)

-- a node's cells lie in the plan's own
node-front : (P : Plan) (xs : List ℕ) (node : ℕ) → node < node_count P.formula
    → take (get_or (widths P.ports P.formula 0) node 0) (drop (get_or (first_cells P.ports P.formula 0 0) node 0) xs)
    ≡ take (get_or (widths P.ports P.formula 0) node 0) (drop (get_or (first_cells P.ports P.formula 0 0) node 0) (take (own_cells P) xs))
unfolding own_cells
node-front P xs node h =
    let b = node-bounds P.ports P.formula node _ _ (cell_count P.ports P.formula 0) h refl refl refl in
    front-part (get_or (first_cells P.ports P.formula 0 0) node 0) (get_or (widths P.ports P.formula 0) node 0) (cell_count P.ports P.formula 0) xs
    (omega (arith, b.first, b.width, b.rises, b.within))

-- Two cell tables that agree on the plan's own cells, and on being long enough, have the same part: nothing past them is read.
pub node-own : (P : Plan) (xs xs' : List ℕ) (node : ℕ) → take (own_cells P) xs ≡ take (own_cells P) xs' → ltb (length xs) (own_cells P) ≡ ltb (length xs') (own_cells P)
    → node_cells (sound P) xs node ≡ node_cells (sound P) xs' node
unfolding node_cells plan_bounds
node-own P xs xs' node e l =
    ap (λ (b : Bool). cut xs (b || leb (node_count P.formula) node)) l ∙ go (ltb (length xs') (own_cells P)) (leb (node_count P.formula) node) refl
  where
    first : ℕ
    first = get_or (first_cells P.ports P.formula 0 0) node 0

    width : ℕ
    width = get_or (widths P.ports P.formula 0) node 0

    -- the part of a table, empty or the node's
    cut : List ℕ → Bool → List ℕ
    cut t b = take (cond {A = ℕ × ℕ} b (0, 0) (first, width)).1 (drop (cond {A = ℕ × ℕ} b (0, 0) (first, width)).0 t)

    go : (a b : Bool) → leb (node_count P.formula) node ≡ b → cut xs (a || b) ≡ cut xs' (a || b)
    go true b q = refl
    go false true q = refl
    go false false q =
        let h = leb-false (node_count P.formula) node q in
        node-front P xs node h ∙ ap (λ (t : List ℕ). take width (drop first t)) e ∙ sym (node-front P xs' node h)
