-- The root after a legal move, from the old number of the node below it and the move's shares of the atoms. Assumes nothing.
use mathlib.Core.Path.{◌≡◌, sym, ap, ◌∙◌, subst}
use mathlib.Core.Bool.{true, cond}
use mathlib.Core.List.{List, []}
use Prim.Native.Nat.{ℕ, ◌+◌, ◌%◌}
use native.Mathlib.Omega.{arith}
use lib.ListN.{get_or}
use Rattle.logic.specs.declared.Move.{Move}
use Rattle.logic.specs.Formula.{Node, root, Forest, none, tree, Plan, child_depth}
use Rattle.logic.specs.inner.Literals.{Every, ConstantsLow}
use Rattle.logic.specs.Configuration.{configuration, in_masks, spelled}
use Rattle.logic.specs.Cells.{place_of, layout}
use Rattle.logic.specs.Moves.{legal, move_masks}
use Rattle.logic.specs.Change.{touched, modulus, cell_of, new_cell, new_cells}
use Rattle.logic.proofs.Bound.{LiteralsAtMost, literals-low, sizes-64}
use Rattle.logic.proofs.Tables.{layout-first}
use Rattle.table_format.specs.Rules.{plan_rule}
use Rattle.table_format.proofs.Facts.{plan-facts}
use Rattle.cells_walk.specs.inner.Visit.{CellsFit}
use Rattle.cells_atoms.specs.inner.Atoms.{of_atoms, difference, AllRegular}
use Rattle.cells_atoms.proofs.Atoms.{root-atoms}
use Rattle.cells_atoms.proofs.Plans.{rooted-tree}
use Rattle.cells_atoms.proofs.Tuples.{atoms-each}
use Rattle.contracts.specs.MoveCall.{cells_after}
use Rattle.contracts.specs.ImproveCall.{root_after}
use Rattle.move_shares.specs.inner.Shares.{configuration_after, change_by, share_of, ShareReady}

children_of : Forest → Forest
children_of none = none
children_of (tree n c s) = c

-- what the plan's rules say of the node below the root
module _ (P : Plan) (rules : plan_rule P ≡ true) (n : Node) (c : Forest) (is : P.formula ≡ tree root (tree n c none) none) where
  regular-below : AllRegular (tree n c none) 0
  unfolding children_of
  regular-below = let r = rooted-tree P rules in subst (λ (f : Forest). AllRegular f 0) (ap children_of (sym r.formula-is ∙ is)) r.regular

  literals-below : (masks : List ℕ) → LiteralsAtMost 65 (spelled P masks) (tree n c none) 0
  unfolding spelled configuration ConstantsLow Every child_depth
  literals-below masks =
      let facts = plan-facts P rules in
      let low = subst (λ (f : Forest). ConstantsLow f 0) is facts.constants in
      literals-low (spelled P masks) (sizes-64 P.ports P.sets (in_masks masks) facts.ports64) (tree n c none) 0 low.1

pub root-shares : (P : Plan) (own before sizes : List ℕ) (m : Move) → ShareReady P own before sizes → legal P (in_masks own) m ≡ true
    → (n : Node) (c : Forest) → P.formula ≡ tree root (tree n c none) none
    → root_after P m own before
    ≡ cond (touched (change_by P own m) root (tree n c none) [])
    ((get_or before 1 0 + of_atoms P.ports (share_of P own before m) (tree n c none) 1 0) % modulus) (get_or before 0 0)
unfolding root_after cells_after new_cells configuration_after change_by share_of cell_of place_of modulus CellsFit
root-shares P own before sizes m ready h n c is =
    let u = P.ports in
    let k = configuration_after P own m in
    let ch = change_by P own m in
    let t = cell_of u before in
    ap (λ (f : Forest). get_or (layout u (new_cell u k ch t) f 0 0) 0 0) is
    ∙ layout-first u (new_cell u k ch t) root (tree n c none) none 0
    ∙ root-atoms u k ch t (λ b e. ready.cells_fit (b + place_of u e)) 65 (omega arith) n c
    (regular-below P ready.rules n c is) (literals-below P ready.rules n c is (move_masks P m own))
    ∙ ap (λ (x : ℕ). cond (touched ch root (tree n c none) []) ((get_or before 1 0 + x) % modulus) (get_or before 0 0))
    (atoms-each u (difference u k ch t) (tree n c none) 1)
