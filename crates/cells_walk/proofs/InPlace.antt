-- A table written in place over a plan's own cells holds 01's new cells, and behind them what it held. Assumes nothing.
use mathlib.Core.Path.{◌≡◌, refl, sym, ap, ap₂, ◌∙◌}
use mathlib.Core.Bool.{false, ◌||◌}
use mathlib.Core.List.{List, [], ◌++◌}
use Prim.Native.Nat.{ℕ, ◌+◌, ◌-◌, ◌^◌, ◌≤◌}
use native.Mathlib.Omega.{arith}
use lib.ListN.{length, take, drop, length-drop, take-append-drop}
use lib.Seq.{get_or-take, get_or-drop, ext_get_or}
use Rattle.logic.specs.Formula.{Node, root, all, any, and, or, lit, Forest, none, tree, Plan, child_depth}
use Rattle.logic.specs.Configuration.{Configuration}
use Rattle.logic.specs.Truth.{Tuple}
use Rattle.logic.specs.Cells.{cell_count, place_of, tuple_at, CellRule, sibling_first, layout, own_cells}
use Rattle.logic.specs.Change.{Change, node_hit, forest_hit, touched, cell_of, new_cell, new_cells}
use Rattle.logic.proofs.Lists.{TupleOf, empty, more, or_left, or_right}
use Rattle.logic.proofs.Tables.{tabulate-cong, tuple_is, layout-read}
use Rattle.logic.proofs.Changed.{untouched-kept}
use Rattle.cells_walk.specs.inner.Below.{Directly, at-root, at_all, at-any, at-and, at-or, at-lit, Region, own, under, later, Agree, HoldsNew, Only, only, Wrote}
use Rattle.cells_walk.proofs.Frame.{directly-untouched, new-cell-agree, bounds}

module _ (u : ℕ) (g : CellRule) where
  pub holds_agree : (xs ys : List ℕ) (f : Forest) (b d : ℕ) (e : Tuple) → Agree u f b d e xs ys → HoldsNew u g ys f b d e → HoldsNew u g xs f b d e
  unfolding HoldsNew Agree cell_of
  holds_agree xs ys none b d e A h = tt
  holds_agree xs ys (tree n c s) b d e A h = (
    A (b + place_of u e) (own refl) ∙ h.0,
    (λ x w. holds_agree xs ys c (b + u ^ d) (child_depth n d) x (λ j r. A j (under w r)) (h.1 x w)),
    holds_agree xs ys s (sibling_first u n c b d) d e (λ j r. A j (later r)) h.2,
  )

  -- a tuple of ports stands directly below one
  directly-above : (n : Node) (d : ℕ) (x : Tuple) → TupleOf u (child_depth n d) x → (e : Tuple) × TupleOf u d e × Directly u n e x
  unfolding child_depth
  directly-above root d x t = (x, t, at-root)
  directly-above all d x (more {e = e} h t) = (e, t, at_all h)
  directly-above any d x (more {e = e} h t) = (e, t, at-any h)
  directly-above and d x t = (x, t, at-and)
  directly-above or d x t = (x, t, at-or)
  directly-above (lit l) d x t = (x, t, at-lit)

  -- a table that holds a rule's numbers is laid out by it
  layout-holds : 1 ≤ u → (xs : List ℕ) (f : Forest) (b d : ℕ) → ((e : Tuple) → TupleOf u d e → HoldsNew u g xs f b d e)
      → layout u (λ n c x i e. cell_of u xs x e) f b d ≡ layout u g f b d
  unfolding layout HoldsNew
  layout-holds u1 xs none b d H = refl
  layout-holds u1 xs (tree n c s) b d H =
      ap₂ ◌++◌ (tabulate-cong (u ^ d) _ _ (λ i l. (H (tuple_at u d i) (tuple_is u u1 d i l)).0))
      (ap₂ ◌++◌
      (layout-holds u1 xs c (b + u ^ d) (child_depth n d) (λ x tx. let r = directly-above n d x tx in (H r.0 r.1).1 x r.2))
      (layout-holds u1 xs s (sibling_first u n c b d) d (λ e te. (H e te).2)))

module _ (u : ℕ) (k : Configuration) (ch : Change) (old : List ℕ) where
  -- an untouched cell keeps its number, and so do the cells below it
  pub untouched-holds : (xs : List ℕ) (f : Forest) (b d : ℕ) (e : Tuple) → forest_hit ch f e ≡ false → Agree u f b d e xs old → HoldsNew u (new_cell u k ch (cell_of u old)) xs f b d e
  unfolding HoldsNew Agree cell_of forest_hit touched
  untouched-holds xs none b d e h A = tt
  untouched-holds xs (tree n c s) b d e h A =
      let a = or_left (node_hit ch n e || forest_hit ch c e) _ h in (
        A (b + place_of u e) (own refl) ∙ sym (untouched-kept u k ch (cell_of u old) n c b d e a),
        (λ x w. untouched-holds xs c (b + u ^ d) (child_depth n d) x (directly-untouched u ch n c e x (or_right (node_hit ch n e) _ a) w)
            (λ j r. A j (under w r))),
        untouched-holds xs s (sibling_first u n c b d) d e (or_right (node_hit ch n e || forest_hit ch c e) _ h) (λ j r. A j (later r)),
      )

-- new numbers over a table are those over one that agrees with it
module _ (u : ℕ) (k : Configuration) (ch : Change) where
  pub holds-before : (xs ys zs : List ℕ) (f : Forest) (b d : ℕ) (e : Tuple) → Agree u f b d e xs ys
      → HoldsNew u (new_cell u k ch (cell_of u ys)) zs f b d e → HoldsNew u (new_cell u k ch (cell_of u xs)) zs f b d e
  unfolding HoldsNew Agree
  holds-before xs ys zs none b d e A h = tt
  holds-before xs ys zs (tree n c s) b d e A h = (
    h.0 ∙ sym (new-cell-agree u k ch xs ys n c s b d e A),
    (λ x w. holds-before xs ys zs c (b + u ^ d) (child_depth n d) x (λ j r. A j (under w r)) (h.1 x w)),
    holds-before xs ys zs s (sibling_first u n c b d) d e (λ j r. A j (later r)) h.2,
  )

at-start : (u : ℕ) (g : CellRule) (xs : List ℕ) (f : Forest) → HoldsNew u g xs f 0 0 [] → (e : Tuple) → TupleOf u 0 e → HoldsNew u g xs f 0 0 e
at-start u g xs f h e empty = h

behind : (u : ℕ) → 1 ≤ u → (f : Forest) (i : ℕ) (e : Tuple) → Only [] e → Region u f 0 0 e (cell_count u f 0 + i) → ⊥
behind u u1 f i e only r = let h = bounds u u1 r empty in omega arith

-- The whole plan, in a table that may hold foreign cells.
pub wrote-whole : (P : Plan) → 1 ≤ P.ports → (k : Configuration) (ch : Change) (table new : List ℕ) → own_cells P ≤ length table
    → Wrote P.ports k ch P.formula 0 0 (Only []) table new
    → new ≡ new_cells P k ch (take (own_cells P) table) ++ drop (own_cells P) table
unfolding own_cells new_cells Agree
wrote-whole P u1 k ch table new len w =
    let u = P.ports in
    let f = P.formula in
    let m = cell_count u f 0 in
    let old = take m table in
    let A : Agree u f 0 0 [] old table = λ j r. let h = bounds u u1 r empty in get_or-take m table j 0 (omega arith) in
    let same = w.same_length in
    let front : take m new ≡ new_cells P k ch old =
    sym (layout-read u u1 new f 0 0 (omega arith))
    ∙ layout-holds u (new_cell u k ch (cell_of u old)) u1 new f 0 0
    (at-start u (new_cell u k ch (cell_of u old)) new f (holds-before u k ch old table new f 0 0 [] A (w.holds [] only))) in
    let rest : drop m new ≡ drop m table =
    ext_get_or 0 (drop m new) (drop m table) (length-drop m new ∙ ap (λ (i : ℕ). i - m) same ∙ sym (length-drop m table))
    (λ i l. get_or-drop m new i 0
    ∙ w.others (m + i) (behind u u1 f i)
    ∙ sym (get_or-drop m table i 0)) in
    sym (take-append-drop m new) ∙ ap₂ ◌++◌ front rest
