-- The walk from the root of a plan that passed its check. Assumes nothing.
use mathlib.Core.Path.{◌≡◌, sym, subst}
use mathlib.Core.List.{List, [], ◌++◌}
use Prim.Native.Nat.{ℕ}
use lib.ListN.{take, drop}
use Rattle.logic.specs.Formula.{root, Forest, none, tree, Plan}
use Rattle.logic.specs.Configuration.{spelled, configuration}
use Rattle.logic.specs.Cells.{own_cells}
use Rattle.logic.specs.Change.{Change, new_cells}
use Rattle.table_format.proofs.Encoding.{decode-sound, one-plan}
use Rattle.cells_touch.specs.declared.Changed.{Changed}
use Rattle.cells_touch.specs.inner.Hits.{Describes, first_word}
use Rattle.cells_sum.specs.declared.After.{After}
use Rattle.cells_walk.specs.inner.Below.{Only, Wrote}
use Rattle.cells_walk.specs.inner.Visit.{Visit}
use Rattle.cells_walk.specs.inner.Root.{RootReady, RootAfter, RootGives, RootWrites}
use Rattle.cells_walk.proofs.InPlace.{wrote-whole}
use Rattle.cells_walk.proofs.Rooting.{facts, below_root, formula-is, root-visit, root-after}
use Rattle.cells_visit.specs.inner.Walking.{WalkReady, CellReady, CellGives}
use Rattle.cells_visit.specs.inner.Writing.{CellWrites}

module _ (u sets : ℕ) (c : Changed) (bytes firsts ends uses masks cells : List ℕ) (r : RootReady u sets c bytes firsts ends uses masks cells) where
  -- under any change that is told so
  abbrev ready_for : (ch : Change) → Describes u ch c → WalkReady u sets c masks cells ch
  ready_for ch says = record { says = says; masks-settled = r.masks-settled; cells_fit = r.cells_fit }

  abbrev visit-for : (ch : Change) → Describes u ch c
      → Visit u sets ch bytes firsts ends uses cells 0 (tree root (below_root r.plan bytes r.decodes) none) 0 0 [] 0 0 (first_word c)
  visit-for ch says = root-visit r.plan bytes r.decodes u r.ports-are sets r.sets-are c ch says firsts ends uses cells r.indexed r.own-cells

  ready-here : (word : ℕ) → word ≡ first_word c → CellReady u sets c bytes firsts ends uses masks cells 0 0 0 0 word
  ready-here word h = record {
    change = r.change;
    node = root;
    children = below_root r.plan bytes r.decodes;
    siblings = none;
    first = 0;
    tuple = [];
    ready = ready_for r.change r.says;
    visit = rw h (visit-for r.change r.says);
  }

  -- `told` is the change again, as the walk is lent it
  pub root-ready : (told : Changed) → told ≡ c → (word : ℕ) → word ≡ first_word c → CellReady u sets told bytes firsts ends uses masks cells 0 0 0 0 word
  root-ready told q word h = subst (λ (x : Changed). CellReady u sets x bytes firsts ends uses masks cells 0 0 0 0 word) (sym q) (ready-here word h)

  gives-here : (word : ℕ) (x : After) → word ≡ first_word c → CellGives u sets c bytes firsts ends uses masks cells 0 0 0 0 word x → RootGives u c bytes masks cells x
  unfolding RootGives CellGives spelled configuration
  gives-here word x h gives P ch d says =
      let one : r.plan ≡ P = one-plan bytes r.plan P (decode-sound bytes r.plan r.decodes) (decode-sound bytes P d) in
      subst (λ (Q : Plan). RootAfter Q ch masks cells x) one
      (root-after r.plan bytes r.decodes ch masks cells x r.own-cells
      (rw r.sets-are at (rw r.ports-are at (gives ch root (below_root r.plan bytes r.decodes) none 0 [] (ready_for ch says) (rw h (visit-for ch says))))))

  pub root-gives : (told : Changed) → told ≡ c → (word : ℕ) (x : After) → word ≡ first_word c → CellGives u sets told bytes firsts ends uses masks cells 0 0 0 0 word x
      → RootGives u c bytes masks cells x
  root-gives told q word x h gives = gives-here word x h (subst (λ (y : Changed). CellGives u sets y bytes firsts ends uses masks cells 0 0 0 0 word x) q gives)

  -- the walk that writes leaves the new cells of the whole plan in place of the old ones
  root-writes : (word : ℕ) (new : List ℕ) → word ≡ first_word c → CellWrites u sets c bytes firsts ends uses masks cells 0 0 0 0 word new
      → RootWrites u c bytes masks cells new
  unfolding RootWrites CellWrites spelled configuration
  root-writes word new h writes P ch d says =
      let Q = r.plan in
      let one : Q ≡ P = one-plan bytes Q P (decode-sound bytes Q r.decodes) (decode-sound bytes P d) in
      let f = below_root Q bytes r.decodes in
      let w : Wrote Q.ports (spelled Q masks) ch (tree root f none) 0 0 (Only []) cells new =
      rw r.sets-are at (rw r.ports-are at (writes ch root f none 0 [] (ready_for ch says) (rw h (visit-for ch says)))) in
      subst (λ (R : Plan). new ≡ new_cells R (spelled R masks) ch (take (own_cells R) cells) ++ drop (own_cells R) cells) one
      (wrote-whole Q (facts Q bytes r.decodes).ports1 (spelled Q masks) ch cells new r.own-cells
      (subst (λ (g : Forest). Wrote Q.ports (spelled Q masks) ch g 0 0 (Only []) cells new) (sym (formula-is Q bytes r.decodes)) w))

  pub root-moved : (told : Changed) → told ≡ c → (word : ℕ) (x : After) (new : List ℕ) → word ≡ first_word c
      → CellGives u sets told bytes firsts ends uses masks cells 0 0 0 0 word x × CellWrites u sets told bytes firsts ends uses masks cells 0 0 0 0 word new
      → RootGives u c bytes masks cells x × RootWrites u c bytes masks cells new
  root-moved told q word x new h both =
      (root-gives told q word x h both.0, root-writes word new h (subst (λ (y : Changed). CellWrites u sets y bytes firsts ends uses masks cells 0 0 0 0 word new) q both.1))
