-- No more cells change than are touched, whatever numbers the cells held. Assumes nothing.
use mathlib.Core.Path.{◌≡◌, refl, sym, ap, ap₂, ◌∙◌}
use mathlib.Core.Bool.{Bool, true, false, cond, not}
use mathlib.Core.List.{List, [], ◌∷◌, ◌++◌}
use Prim.Native.Nat.{ℕ, zero, suc, ◌+◌, ◌^◌, ◌≤◌}
use native.Mathlib.Omega.{arith}
use lib.Dec.{eqb}
use lib.ListN.{length, take}
use lib.Seq.{take-length}
use borrow.Author.Tests.{eq-eqb}
use Rattle.logic.specs.Formula.{Node, Forest, none, tree, Plan, child_depth}
use Rattle.logic.specs.Configuration.{Configuration, indicator}
use Rattle.logic.specs.Truth.{Tuple}
use Rattle.logic.specs.Penalty.{sum, below}
use Rattle.logic.specs.Cells.{tuple_at, tabulate, CellRule, sibling_first, layout, own_cells}
use Rattle.logic.specs.Change.{Change, touched, touched_count, renew, OldCells, cell_of, renewals, new_cell, new_cells, differing}
use Rattle.logic.proofs.Lists.{sum-append, indicator-le}
use Rattle.logic.proofs.Tables.{length-tabulate, length-layout, layout-read}

pub differing-append : (xs xs' ys ys' : List ℕ) → length xs ≡ length ys → differing (xs ++ xs') (ys ++ ys') ≡ differing xs ys + differing xs' ys'
unfolding differing
differing-append [] xs' [] ys' h = omega arith
differing-append [] xs' (y ∷ ys) ys' h = absurd (omega arith)
differing-append (x ∷ xs) xs' [] ys' h = absurd (omega arith)
differing-append (x ∷ xs) xs' (y ∷ ys) ys' h = omega (arith, differing-append xs xs' ys ys' (omega arith))

differing-tabulate : (m : ℕ) (g h : ℕ → ℕ) → differing (tabulate m g) (tabulate m h) ≡ sum (tabulate m (λ i. indicator (not (eqb (g i) (h i)))))
unfolding tabulate differing sum
differing-tabulate zero g h = refl
differing-tabulate (suc m) g h =
    differing-append (tabulate m g) (g m ∷ []) (tabulate m h) (h m ∷ []) (length-tabulate m g ∙ sym (length-tabulate m h))
    ∙ ap (λ (x : ℕ). x + (indicator (not (eqb (g m) (h m))) + 0)) (differing-tabulate m g h)
    ∙ sym (sum-append (tabulate m (λ i. indicator (not (eqb (g i) (h i))))) (indicator (not (eqb (g m) (h m))) ∷ []))

-- 1 for each cell at which two rules differ
abbrev pub unlike : CellRule → CellRule → CellRule
unlike g h n c b d e = indicator (not (eqb (g n c b d e) (h n c b d e)))

pub differing-layout : (u : ℕ) (g h : CellRule) (f : Forest) (b d : ℕ)
    → differing (layout u g f b d) (layout u h f b d) ≡ sum (layout u (unlike g h) f b d)
unfolding layout differing sum
differing-layout u g h none b d = refl
differing-layout u g h (tree n c s) b d =
    let gx = tabulate (u ^ d) (λ i. g n c b d (tuple_at u d i)) in
    let hx = tabulate (u ^ d) (λ i. h n c b d (tuple_at u d i)) in
    let ux = tabulate (u ^ d) (λ i. unlike g h n c b d (tuple_at u d i)) in
    let gc = layout u g c (b + u ^ d) (child_depth n d) in
    let hc = layout u h c (b + u ^ d) (child_depth n d) in
    let uc = layout u (unlike g h) c (b + u ^ d) (child_depth n d) in
    let gs = layout u g s (sibling_first u n c b d) d in
    let hs = layout u h s (sibling_first u n c b d) d in
    let us = layout u (unlike g h) s (sibling_first u n c b d) d in
    differing-append gx (gc ++ gs) hx (hc ++ hs) (length-tabulate (u ^ d) _ ∙ sym (length-tabulate (u ^ d) _))
    ∙ ap₂ ◌+◌ (differing-tabulate (u ^ d) (λ i. g n c b d (tuple_at u d i)) (λ i. h n c b d (tuple_at u d i)))
    (differing-append gc gs hc hs (length-layout u g c _ _ ∙ sym (length-layout u h c _ _))
    ∙ ap₂ ◌+◌ (differing-layout u g h c (b + u ^ d) (child_depth n d)) (differing-layout u g h s (sibling_first u n c b d) d))
    ∙ sym (sum-append ux (uc ++ us) ∙ ap (λ (x : ℕ). sum ux + x) (sum-append uc us))

sum-tabulate-le : (m : ℕ) (g h : ℕ → ℕ) → ((i : ℕ) → g i ≤ h i) → sum (tabulate m g) ≤ sum (tabulate m h)
unfolding tabulate sum
sum-tabulate-le zero g h H = omega arith
sum-tabulate-le (suc m) g h H =
    omega (arith, sum-append (tabulate m g) (g m ∷ []), sum-append (tabulate m h) (h m ∷ []), sum-tabulate-le m g h H, H m)

sum-layout-le : (u : ℕ) (g h : CellRule) → ((n : Node) (c : Forest) (b d : ℕ) (e : Tuple) → g n c b d e ≤ h n c b d e)
    → (f : Forest) (b d : ℕ) → sum (layout u g f b d) ≤ sum (layout u h f b d)
unfolding layout
sum-layout-le u g h H none b d = omega arith
sum-layout-le u g h H (tree n c s) b d =
    let g1 : ℕ → ℕ = λ i. g n c b d (tuple_at u d i) in
    let h1 : ℕ → ℕ = λ i. h n c b d (tuple_at u d i) in
    let gc = layout u g c (b + u ^ d) (child_depth n d) in
    let hc = layout u h c (b + u ^ d) (child_depth n d) in
    let gs = layout u g s (sibling_first u n c b d) d in
    let hs = layout u h s (sibling_first u n c b d) d in
    omega (
      arith,
      sum-append (tabulate (u ^ d) g1) (gc ++ gs),
      sum-append gc gs,
      sum-append (tabulate (u ^ d) h1) (hc ++ hs),
      sum-append hc hs,
      sum-tabulate-le (u ^ d) g1 h1 (λ i. H n c b d (tuple_at u d i)),
      sum-layout-le u g h H c (b + u ^ d) (child_depth n d),
      sum-layout-le u g h H s (sibling_first u n c b d) d,
    )

same_none : (a b : ℕ) → a ≡ b → indicator (not (eqb a b)) ≡ 0
unfolding indicator
same_none a b h = ap (λ (x : Bool). cond (not x) 1 0) (eq-eqb a b h)

le-by : (a : Bool) (x : ℕ) → x ≤ 1 → (a ≡ false → x ≡ 0) → x ≤ indicator a
unfolding indicator
le-by true x h g = h
le-by false x h g = omega (arith, g refl)

-- a cell that is not touched is as it was
pub untouched-kept : (u : ℕ) (k : Configuration) (ch : Change) (t : OldCells) (n : Node) (c : Forest) (b d : ℕ) (e : Tuple)
    → touched ch n c e ≡ false → new_cell u k ch t n c b d e ≡ t b e
unfolding new_cell
untouched-kept u k ch t n c b d e h =
    ap (λ (a : Bool). cond a (renew k n e (t b e) (below u n e (renewals u k ch t c (b + u ^ d) (child_depth n d)))) (t b e)) h

pub changed-touched : (P : Plan) → 1 ≤ P.ports → (k : Configuration) (ch : Change) (table : List ℕ) → length table ≡ own_cells P
    → differing table (new_cells P k ch table) ≤ touched_count P ch
unfolding new_cells touched_count own_cells
changed-touched P u1 k ch table l =
    let u = P.ports in
    let f = P.formula in
    let t = cell_of u table in
    let old : CellRule = λ n c b d e. t b e in
    let r : layout u old f 0 0 ≡ table =
    layout-read u u1 table f 0 0 (omega arith) ∙ ap (λ (x : ℕ). take x table) (sym l) ∙ take-length table in
    rw (ap (λ (xs : List ℕ). differing xs (layout u (new_cell u k ch t) f 0 0)) (sym r) ∙ differing-layout u old (new_cell u k ch t) f 0 0)
    (sum-layout-le u (unlike old (new_cell u k ch t)) (λ n c b d e. indicator (touched ch n c e))
    (λ n c b d e. le-by (touched ch n c e) _ (indicator-le _) (λ h. same_none (t b e) _ (sym (untouched-kept u k ch t n c b d e h)))) f 0 0)
