-- True cells stay true: from the penalties under one configuration, the cells after a change are the penalties under any
-- other that agrees with it off the change on the plan's literals. The sums modulo 2^32 are exact. Assumes nothing.
use mathlib.Core.Path.{◌≡◌, refl, sym, ap, ap₂, ◌∙◌, subst}
use mathlib.Core.Bool.{Bool, true, false, cond}
use mathlib.Core.List.{List, [], ◌∷◌, ◌++◌, map}
use Prim.Native.Nat.{ℕ, zero, suc, ◌+◌, ◌-◌, ◌*◌, ◌^◌, ◌%◌, ◌≤◌, ◌<◌}
use native.Mathlib.Nat.{mod-eq_of_lt, add-mul-mod_self_right, mul-le-mul_right, mul_left_comm}
use native.Mathlib.Omega.{arith}
use lib.ListN.{length}
use Rattle.logic.specs.Formula.{Node, root, all, any, and, or, lit, Forest, none, tree, Plan, child_depth}
use Rattle.logic.specs.inner.Literals.{Every, OfTest}
use Rattle.logic.specs.Configuration.{Configuration, indicator}
use Rattle.logic.specs.Truth.{Tuple}
use Rattle.logic.specs.Penalty.{sum, combine, each_port, below, penalties, penalty}
use Rattle.logic.specs.Cells.{place_of, tuple_at, tabulate, sibling_first, layout, own_cells, cells}
use Rattle.logic.specs.Change.{Change, touched, modulus, Renewal, differences, new_numbers, renew, OldCells, cell_of, renewals, new_cell, new_cells}
use Rattle.logic.specs.inner.Agreement.{AgreeAt, AgreeOn}
use Rattle.logic.proofs.Lists.{TupleOf, map-below-is}
use Rattle.logic.proofs.Untouched.{untouched-same}
use Rattle.logic.proofs.Bound.{LiteralsAtMost, spread, spread-pos, subtree_cells, subtree-count, below-penalties-le}
use Rattle.logic.proofs.Tables.{length-tabulate, get_d_tabulate, tabulate-cong, length-layout, tuple_is, tuple-place, place-lt, Stands, stands-left, stands-right}

abbrev pub old_numbers : List Renewal → List ℕ
old_numbers xs = map (λ (x : Renewal). x.old) xs

-- how many cells of a list are touched
unfoldable pub hits : List Renewal → ℕ
hits [] = 0
hits (x ∷ xs) = indicator x.hit + hits xs

-- cells that are not touched keep their number
unfoldable pub KeptCells : List Renewal → Type 0
KeptCells [] = Unit {0}
KeptCells (x ∷ xs) = (x.hit ≡ false → x.new ≡ x.old) × KeptCells xs

kept_append : (xs ys : List Renewal) → KeptCells xs → KeptCells ys → KeptCells (xs ++ ys)
unfolding KeptCells
kept_append [] ys h k = k
kept_append (x ∷ xs) ys h k = (h.0, kept_append xs ys h.1 k)

kept-ports : (u : ℕ) (g : ℕ → List Renewal) → ((p : ℕ) → KeptCells (g p)) → KeptCells (each_port u g)
unfolding KeptCells each_port
kept-ports zero g H = tt
kept-ports (suc u) g H = kept_append (each_port u g) (g u) (kept-ports u g H) (H u)

kept-below : (u : ℕ) (n : Node) (e : Tuple) (g : Tuple → List Renewal) → ((x : Tuple) → KeptCells (g x)) → KeptCells (below u n e g)
unfolding below
kept-below u root e g H = H e
kept-below u all e g H = kept-ports u _ (λ p. H (p ∷ e))
kept-below u any e g H = kept-ports u _ (λ p. H (p ∷ e))
kept-below u and e g H = H e
kept-below u or e g H = H e
kept-below u (lit l) e g H = H e

cond-false : (b : Bool) (x y : ℕ) → b ≡ false → cond b x y ≡ y
cond-false b x y h = ap (λ (a : Bool). cond a x y) h

kept-renewals : (u : ℕ) (k : Configuration) (ch : Change) (t : OldCells) (f : Forest) (b d : ℕ) (e : Tuple) → KeptCells (renewals u k ch t f b d e)
unfolding KeptCells renewals
kept-renewals u k ch t none b d e = tt
kept-renewals u k ch t (tree n c s) b d e =
    ((λ h. cond-false (touched ch n c e) _ (t b e) h), kept-renewals u k ch t s (sibling_first u n c b d) d e)

difference-step : (b : Bool) (o w D so sw n : ℕ) → (b ≡ false → w ≡ o) → o + so ≤ modulus → so + D ≡ sw + n * modulus
    → o + so + (cond b (w + (modulus - o)) 0 + D) ≡ w + sw + (indicator b + n) * modulus
unfolding modulus indicator
difference-step true o w D so sw n h l e = omega arith
difference-step false o w D so sw n h l e = omega (arith, h refl)

differences-sum : (xs : List Renewal) → KeptCells xs → sum (old_numbers xs) ≤ modulus
    → sum (old_numbers xs) + differences xs ≡ sum (new_numbers xs) + hits xs * modulus
unfolding sum differences new_numbers hits KeptCells
differences-sum [] g h = omega arith
differences-sum (x ∷ xs) g h =
    difference-step x.hit x.old x.new (differences xs) (sum (old_numbers xs)) (sum (new_numbers xs)) (hits xs) g.0 h
    (differences-sum xs g.1 (omega arith))

-- adding the differences modulo 2^32 is exact where the true sums are below it
pub exact : (xs : List Renewal) → KeptCells xs → sum (old_numbers xs) < modulus → sum (new_numbers xs) < modulus
    → (sum (old_numbers xs) + differences xs) % modulus ≡ sum (new_numbers xs)
exact xs g h k =
    ap (λ (a : ℕ). a % modulus) (differences-sum xs g (omega arith))
    ∙ add-mul-mod_self_right (sum (new_numbers xs)) (hits xs) modulus ∙ mod-eq_of_lt k

-- t holds the penalties of a forest's nodes from cell b on
unfoldable pub HoldsPenalties : ℕ → Configuration → OldCells → Forest → ℕ → ℕ → Type 0
HoldsPenalties u k t none b d = Unit {0}
HoldsPenalties u k t (tree n c s) b d =
    ((e : Tuple) → TupleOf u d e → t b e ≡ penalty u k n c e)
    × HoldsPenalties u k t c (b + u ^ d) (child_depth n d) × HoldsPenalties u k t s (sibling_first u n c b d) d

renew-is : (k k' : Configuration) (n : Node) (e : Tuple) (o : ℕ) (xs : List Renewal) → KeptCells xs → o ≡ combine k n e (old_numbers xs)
    → sum (old_numbers xs) < modulus → sum (new_numbers xs) < modulus → renew k' n e o xs ≡ combine k' n e (new_numbers xs)
unfolding renew combine
renew-is k k' root e o xs g h a b = refl
renew-is k k' all e o xs g h a b = ap (λ (x : ℕ). (x + differences xs) % modulus) h ∙ exact xs g a b
renew-is k k' any e o xs g h a b = refl
renew-is k k' and e o xs g h a b = ap (λ (x : ℕ). (x + differences xs) % modulus) h ∙ exact xs g a b
renew-is k k' or e o xs g h a b = refl
renew-is k k' (lit l) e o xs g h a b = refl

either : (b : Bool) (x y z : ℕ) → x ≡ z → (b ≡ false → y ≡ z) → cond b x y ≡ z
either true x y z h g = h
either false x y z h g = g refl

module _ (u : ℕ) (u1 : 1 ≤ u) (B : ℕ) (B1 : 1 ≤ B) (ch : Change) (k k' : Configuration) (t : OldCells) where
  abbrev after : Forest → ℕ → ℕ → Tuple → List Renewal
  after = renewals u k' ch t

  -- a cell, from what is known of the cells directly below it
  new-cell-from : (n : Node) (c : Forest) (b d i : ℕ) (e : Tuple) → OfTest (AgreeAt ch k k') n → AgreeOn ch k k' c i → LiteralsAtMost B k c i → LiteralsAtMost B k' c i
      → spread u n * (B * subtree_cells u c) < modulus → t b e ≡ penalty u k n c e
      → old_numbers (below u n e (after c (b + u ^ d) (child_depth n d))) ≡ below u n e (penalties u k c)
      → new_numbers (below u n e (after c (b + u ^ d) (child_depth n d))) ≡ below u n e (penalties u k' c)
      → new_cell u k' ch t n c b d e ≡ penalty u k' n c e
  unfolding new_cell penalty
  new-cell-from n c b d i e agree agrees low low' small old o w =
      either (touched ch n c e) _ _ _
      (renew-is k k' n e (t b e) _ (kept-below u n e (after c (b + u ^ d) (child_depth n d)) (kept-renewals u k' ch t c (b + u ^ d) (child_depth n d)))
      (old ∙ ap (combine k n e) (sym o))
      (subst (λ (l : List ℕ). sum l < modulus) (sym o) (omega (arith, below-penalties-le u B B1 k n c i e low)))
      (subst (λ (l : List ℕ). sum l < modulus) (sym w) (omega (arith, below-penalties-le u B B1 k' n c i e low')))
      ∙ ap (combine k' n e) w)
      (λ h. old ∙ sym (untouched-same ch u k k' n c i e agree agrees h))

  smaller : (n : Node) (c s : Forest) → B * subtree_cells u (tree n c s) < modulus
      → (spread u n * (B * subtree_cells u c) < modulus) × (B * subtree_cells u c < modulus) × (B * subtree_cells u s < modulus)
  unfolding subtree_cells
  smaller n c s h =
      let a = mul-le-mul_right (B * subtree_cells u c) (spread-pos u n u1) in
      let m = mul_left_comm B (spread u n) (subtree_cells u c) in
      (omega arith, omega arith, omega arith)

  -- the cells of the trees of a forest: their old and their new numbers
  renewals-are : (f : Forest) (b d : ℕ) (e : Tuple) → AgreeOn ch k k' f d → LiteralsAtMost B k f d → LiteralsAtMost B k' f d → B * subtree_cells u f < modulus
      → HoldsPenalties u k t f b d → TupleOf u d e
      → (old_numbers (after f b d e) ≡ penalties u k f e) × (new_numbers (after f b d e) ≡ penalties u k' f e)
  unfolding renewals new_cell new_numbers AgreeOn LiteralsAtMost Every HoldsPenalties penalties penalty
  renewals-are none b d e agree low low' small holds te = (refl, refl)
  renewals-are (tree n c s) b d e agree low low' small holds te =
      let m = smaller n c s small in
      let r = renewals-are s (sibling_first u n c b d) d e agree.2 low.2 low'.2 m.2 holds.2 te in
      let g = after c (b + u ^ d) (child_depth n d) in
      let o = map-below-is (λ (x : Renewal). x.old) u n te g (penalties u k c)
      (λ x tx. (renewals-are c (b + u ^ d) (child_depth n d) x agree.1 low.1 low'.1 m.1 holds.1 tx).0) in
      let w = map-below-is (λ (x : Renewal). x.new) u n te g (penalties u k' c)
      (λ x tx. (renewals-are c (b + u ^ d) (child_depth n d) x agree.1 low.1 low'.1 m.1 holds.1 tx).1) in
      (ap₂ ◌∷◌ (holds.0 e te) r.0, ap₂ ◌∷◌ (new-cell-from n c b d (child_depth n d) e agree.0 agree.1 low.1 low'.1 m.0 (holds.0 e te) o w) r.1)

  -- of every cell
  pub new-cell-is : (n : Node) (c s : Forest) (b d : ℕ) (e : Tuple) → AgreeOn ch k k' (tree n c s) d → LiteralsAtMost B k (tree n c s) d → LiteralsAtMost B k' (tree n c s) d
      → B * subtree_cells u (tree n c s) < modulus → HoldsPenalties u k t (tree n c s) b d → TupleOf u d e
      → new_cell u k' ch t n c b d e ≡ penalty u k' n c e
  unfolding AgreeOn LiteralsAtMost Every HoldsPenalties new_numbers
  new-cell-is n c s b d e agree low low' small holds te =
      let m = smaller n c s small in
      let g = after c (b + u ^ d) (child_depth n d) in
      new-cell-from n c b d (child_depth n d) e agree.0 agree.1 low.1 low'.1 m.0 (holds.0 e te)
      (map-below-is (λ (x : Renewal). x.old) u n te g (penalties u k c)
      (λ x tx. (renewals-are c (b + u ^ d) (child_depth n d) x agree.1 low.1 low'.1 m.1 holds.1 tx).0))
      (map-below-is (λ (x : Renewal). x.new) u n te g (penalties u k' c)
      (λ x tx. (renewals-are c (b + u ^ d) (child_depth n d) x agree.1 low.1 low'.1 m.1 holds.1 tx).1))

  layout_is : (f : Forest) (b d : ℕ) → AgreeOn ch k k' f d → LiteralsAtMost B k f d → LiteralsAtMost B k' f d → B * subtree_cells u f < modulus
      → HoldsPenalties u k t f b d → layout u (new_cell u k' ch t) f b d ≡ layout u (λ n c b d e. penalty u k' n c e) f b d
  unfolding layout AgreeOn LiteralsAtMost Every HoldsPenalties
  layout_is none b d agree low low' small holds = refl
  layout_is (tree n c s) b d agree low low' small holds =
      let m = smaller n c s small in
      ap₂ ◌++◌
      (tabulate-cong (u ^ d) _ _ (λ i l. new-cell-is n c s b d (tuple_at u d i) agree low low' small holds (tuple_is u u1 d i l)))
      (ap₂ ◌++◌ (layout_is c (b + u ^ d) (child_depth n d) agree.1 low.1 low'.1 m.1 holds.1)
      (layout_is s (sibling_first u n c b d) d agree.2 low.2 low'.2 m.2 holds.2))

-- a table that begins with a plan's penalties
pub holds_of : (u : ℕ) → 1 ≤ u → (k : Configuration) (table : List ℕ) (f : Forest) (b d : ℕ)
    → Stands table b (layout u (λ n c b d e. penalty u k n c e) f b d) → HoldsPenalties u k (cell_of u table) f b d
unfolding layout HoldsPenalties cell_of sibling_first Stands
holds_of u u1 k table none b d h = tt
holds_of u u1 k table (tree n c s) b d h =
    let g : ℕ → ℕ = λ i. penalty u k n c (tuple_at u d i) in
    let x = tabulate (u ^ d) g in
    let y = layout u (λ n c b d e. penalty u k n c e) c (b + u ^ d) (child_depth n d) in
    let z = layout u (λ n c b d e. penalty u k n c e) s (sibling_first u n c b d) d in
    let r = stands-right table b x (y ++ z) h in
    let ly : b + length x ≡ b + u ^ d = ap (λ (j : ℕ). b + j) (length-tabulate (u ^ d) g) in
    let lz : b + length x + length y ≡ sibling_first u n c b d = ap₂ ◌+◌ ly (length-layout u (λ n c b d e. penalty u k n c e) c (b + u ^ d) (child_depth n d)) in (
      (λ e te. stands-left table b x (y ++ z) h (place_of u e) (rw length-tabulate (place-lt u u1 te))
          ∙ get_d_tabulate (u ^ d) g (place_of u e) (place-lt u u1 te) ∙ ap (penalty u k n c) (tuple-place u u1 te)),
      holds_of u u1 k table c (b + u ^ d) (child_depth n d) (rw ly at (stands-left table (b + length x) y z r)),
      holds_of u u1 k table s (sibling_first u n c b d) d (rw lz at (stands-right table (b + length x) y z r)),
    )

-- True cells stay true.
pub new-cells-true : (P : Plan) → 1 ≤ P.ports → (B : ℕ) → 1 ≤ B → (ch : Change) (k k' : Configuration) → AgreeOn ch k k' P.formula 0
    → LiteralsAtMost B k P.formula 0 → LiteralsAtMost B k' P.formula 0 → B * own_cells P < modulus
    → (table : List ℕ) → Stands table 0 (cells P k) → new_cells P k' ch table ≡ cells P k'
unfolding new_cells cells own_cells
new-cells-true P u1 B B1 ch k k' agree low low' small table h =
    layout_is P.ports u1 B B1 ch k k' (cell_of P.ports table) P.formula 0 0 agree low low'
    (rw (subtree-count P.ports P.formula) small) (holds_of P.ports u1 k table P.formula 0 0 h)
