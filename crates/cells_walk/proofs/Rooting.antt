-- The root of a plan that passed its check is a visited cell, and what it comes to is what the whole plan comes to. Assumes nothing.
use mathlib.Core.Path.{◌≡◌, refl, sym, ap, ◌∙◌, subst}
use mathlib.Core.Bool.{true}
use mathlib.Core.List.{List, []}
use Prim.Native.Nat.{ℕ, ◌%◌, ◌≤◌, ◌<◌}
use native.Mathlib.Nat.{mod-eq_of_lt, pow-zero}
use native.Mathlib.Omega.{arith}
use lib.ListN.{length, get_or, take}
use lib.Seq.{get_or-take}
use Rattle.logic.specs.Formula.{root, Forest, none, tree, Plan, node_count}
use Rattle.logic.specs.Configuration.{spelled}
use Rattle.logic.specs.Cells.{place_of, cell_count, layout, own_cells}
use Rattle.logic.specs.Change.{Change, modulus, cell_of, new_cell, new_cells}
use Rattle.logic.proofs.Lists.{empty}
use Rattle.logic.proofs.Tables.{layout-first}
use Rattle.table_format.specs.Rules.{plan_rule}
use Rattle.table_format.specs.Decode.{sound, decode}
use Rattle.table_format.specs.inner.Facts.{PlanFacts}
use Rattle.table_format.proofs.Encoding.{decode-sound}
use Rattle.table_format.proofs.Facts.{plan-facts}
use Rattle.table_format.proofs.Rooted.{is-rooted}
use Rattle.cells_touch.specs.declared.Changed.{Changed}
use Rattle.cells_touch.specs.inner.Hits.{Describes, first_word}
use Rattle.cells_touch.proofs.Touching.{first-word-is}
use Rattle.cells_sum.specs.inner.Walk.{changes}
use Rattle.cells_walk.specs.inner.Below.{Agree}
use Rattle.cells_walk.proofs.Frame.{bounds, new-cell-agree}
use Rattle.cells_walk.proofs.Count.{count-changes, changes-own}
use Rattle.cells_sum.specs.declared.After.{After}
use Rattle.cells_walk.specs.inner.Nodes.{IndexHolds, Fitting}
use Rattle.cells_walk.specs.inner.Visit.{packed, Visit, CellAfter}
use Rattle.cells_walk.specs.inner.Root.{PlanIndex, RootAfter}
use Rattle.cells_walk.proofs.Holding.{plan-holds, plan-fits}

whole : (P : Plan) {f : Forest} → P.formula ≡ f → cell_count P.ports f 0 ≤ own_cells P
unfolding own_cells
whole P h = omega (arith, ap (λ (g : Forest). cell_count P.ports g 0) h)

-- a plan has a cell
own-some : (P : Plan) {f : Forest} → P.formula ≡ tree root f none → 0 < own_cells P
unfolding own_cells cell_count
own-some P {f} h = omega (arith, ap (λ (g : Forest). cell_count P.ports g 0) h, pow-zero P.ports)

module _ (P : Plan) (bytes : List ℕ) (decodes : decode bytes ≡ sound P) where
  rules : plan_rule P ≡ true
  rules = (decode-sound bytes P decodes).rules

  pub facts : PlanFacts P
  facts = plan-facts P rules

  -- the formula is a root over one forest
  pub below_root : Forest
  below_root = (is-rooted P rules).0

  pub formula-is : P.formula ≡ tree root below_root none
  unfolding below_root
  formula-is = ap (λ (Q : Plan). Q.formula) (is-rooted P rules).1

  pub root-visit : (u : ℕ) → u ≡ P.ports → (sets : ℕ) → sets ≡ P.sets → (c : Changed) (ch : Change) → Describes u ch c → (firsts ends uses cells : List ℕ)
      → PlanIndex P firsts ends uses → own_cells P ≤ length cells
      → Visit u sets ch bytes firsts ends uses cells 0 (tree root below_root none) 0 0 [] 0 0 (first_word c)
  unfolding place_of packed own_cells
  root-visit u eu sets es c ch says firsts ends uses cells ix room =
      rw (eu, es) record {
        holds = subst (λ (f : Forest). IndexHolds P.ports bytes firsts ends uses 0 f 0 0) formula-is
            (plan-holds bytes firsts ends uses P decodes ix.firsts₀ ix.ends₀ ix.uses₀ ix.firsts-are ix.ends-are ix.uses-are);
        fitting = subst (λ (f : Forest). Fitting P.sets f 0) formula-is (plan-fits P rules);
        tuple = empty;
        place_is = refl;
        digits_are = refl;
        word-is = first-word-is u ch c says;
        room = omega (arith, room, ap (λ (f : Forest). cell_count P.ports f 0) formula-is);
        nodes = omega (arith, facts.nodes512, ap node_count formula-is);
      }

  -- the plan's own cells are all that is read
  own-agree : (cells : List ℕ) (f : Forest) → cell_count P.ports f 0 ≤ own_cells P → Agree P.ports f 0 0 [] cells (take (own_cells P) cells)
  unfolding Agree
  own-agree cells f h j r =
      let b = bounds P.ports facts.ports1 r empty in
      sym (get_or-take (own_cells P) cells j 0 (omega arith))

  pub root-after : (ch : Change) (masks cells : List ℕ) (r : After) → own_cells P ≤ length cells
      → CellAfter P.ports (spelled P masks) ch (cell_of P.ports cells) root below_root 0 0 [] r → RootAfter P ch masks cells r
  unfolding new_cells cell_of place_of modulus
  root-after ch masks cells r room cell =
      let u = P.ports in
      let k = spelled P masks in
      let own = take (own_cells P) cells in
      let g = new_cell u k ch (cell_of u own) in
      let n = changes-own P facts.ports1 k ch cells in
      let few : changes u k ch (cell_of u cells) P.formula 0 0 [] < 4294967296 = omega (arith, n, facts.cells-most) in
      record {
        old-is = cell.old-is ∙ sym (get_or-take (own_cells P) cells 0 0 (own-some P formula-is));
        new_is = cell.new_is ∙ new-cell-agree u k ch cells own root below_root none 0 0 [] (own-agree cells (tree root below_root none) (whole P formula-is))
            ∙ sym (ap (λ (f : Forest). get_or (layout u g f 0 0) 0 0) formula-is ∙ layout-first u g root below_root none 0);
        changed-is = cell.changed-is ∙ ap (λ (f : Forest). changes u k ch (cell_of u cells) f 0 0 [] % 4294967296) (sym formula-is)
            ∙ mod-eq_of_lt few ∙ sym (count-changes P facts.ports1 k ch cells room);
      }
