-- What a node's cells come to when all below them is joined: Definition 5's penalty. Assumes nothing.
use mathlib.Core.Path.{◌≡◌, refl, sym, ap, ap₂, ◌∙◌}
use mathlib.Core.Bool.{Bool, true, false, cond, ◌&&◌}
use mathlib.Core.Logic.{◌⊎◌, inl, inr}
use mathlib.Core.List.{List, [], ◌∷◌, ◌++◌, append-nil}
use Prim.Native.Nat.{ℕ, zero, suc, ◌+◌, ◌*◌, ◌^◌, ◌≤◌, ◌<◌, min}
use native.Mathlib.Nat.{mod-eq_of_lt, pow-suc, mul-one, add-zero}
use native.Mathlib.Omega.{arith}
use lib.Dec.{eqb, leb}
use lib.Arith.{digits_div, digits_mod, digits_lt}
use lib.ListN.{length, get_or, take, drop, length-drop, length-append, get_or-append}
use lib.Seq.{take-suc, get_or-drop}
use borrow.Author.Tests.{eqb-true, leb-true, lt-leb}
use Rattle.logic.specs.Formula.{Test, Node, root, all, any, and, or, lit, Forest, none, tree, test_kind, kind_number, child_depth}
use Rattle.logic.specs.Configuration.{Configuration}
use Rattle.logic.specs.Truth.{Tuple}
use Rattle.logic.specs.Penalty.{sum, least, copy, combine, each_port, below, penalties, penalty}
use Rattle.logic.specs.Cells.{tuple_at, tabulate, sibling_first, layout}
use Rattle.logic.proofs.Lists.{and-false}
use Rattle.logic.proofs.Relations.{test-kind-range}
use Rattle.logic.proofs.Tables.{length-tabulate, get_d_tabulate}
use Rattle.table_format.specs.Rules.{tree_count, arity_rule}
use Rattle.cells_join.specs.declared.Join.TheVariants.{Add, Least}
use Rattle.cells_join.specs.inner.Joined.{meet, join_all, join_into, join_of, spread_of}
use Rattle.cells_fill.specs.inner.Fill.{treewise, table}

-- a sum that stays below 2^32
join-sum : (x : ℕ) (ys : List ℕ) → x + sum ys < 4294967296 → join_all Add x ys ≡ x + sum ys
unfolding join_all meet sum
join-sum x [] h = omega arith
join-sum x (y ∷ ys) h =
    ap (λ (z : ℕ). join_all Add z ys) (mod-eq_of_lt {n = x + y} (omega arith)) ∙ join-sum (x + y) ys (omega arith) ∙ omega arith

join-least : (x y : ℕ) (ys : List ℕ) → join_all Least x (y ∷ ys) ≡ min x (least (y ∷ ys))
unfolding join_all meet least
join-least x y [] = refl
join-least x y (z ∷ zs) = join-least (min x y) z zs ∙ omega arith

-- the same begun at the first number, whatever stood there
into-sum : (x : ℕ) (ys : List ℕ) → 1 ≤ length ys → sum ys < 4294967296 → join_into Add true x ys ≡ sum ys
unfolding join_into sum
into-sum x [] h l = absurd (omega arith)
into-sum x (y ∷ ys) h l = join-sum y ys l

into-least : (x : ℕ) (ys : List ℕ) → 1 ≤ length ys → join_into Least true x ys ≡ least ys
unfolding join_into join_all least
into-least x [] h = absurd (omega arith)
into-least x (y ∷ []) h = refl
into-least x (y ∷ z ∷ zs) h = join-least y z zs

-- tree after tree is the same as all trees at each tuple, where a quantifier has one child
penalties-trees : (u : ℕ) (k : Configuration) (n : Node) (f : Forest) (e : Tuple) → ((g : Tuple → List ℕ) → below u n e g ≡ g e) → penalties u k f e ≡ treewise u k n f e
unfolding penalties treewise penalty
penalties-trees u k n none e H = refl
penalties-trees u k n (tree m c s) e H =
    ap₂ (λ (x y : List ℕ). x ++ y) (sym (H (λ x. penalty u k m c x ∷ []))) (penalties-trees u k n s e H)

one-tree : (u : ℕ) (k : Configuration) (n : Node) (f : Forest) (e : Tuple) → tree_count f ≡ 1 → below u n e (penalties u k f) ≡ treewise u k n f e
unfolding penalties treewise penalty tree_count
one-tree u k n none e h = absurd (omega arith)
one-tree u k n (tree m c none) e h = sym (append-nil (below u n e (λ x. penalty u k m c x ∷ [])))
one-tree u k n (tree m c (tree x y z)) e h = absurd (omega arith)

pub below-trees : (u : ℕ) (k : Configuration) (n : Node) (f : Forest) (e : Tuple) → arity_rule (kind_number n) (tree_count f) ≡ true
    → below u n e (penalties u k f) ≡ treewise u k n f e
unfolding below kind_number arity_rule
below-trees u k root f e h = penalties-trees u k root f e (λ g. refl)
below-trees u k all f e h = one-tree u k all f e (eqb-true _ _ h)
below-trees u k any f e h = one-tree u k any f e (eqb-true _ _ h)
below-trees u k and f e h = penalties-trees u k and f e (λ g. refl)
below-trees u k or f e h = penalties-trees u k or f e (λ g. refl)
below-trees u k (lit l) f e h = penalties-trees u k (lit l) f e (λ g. refl)

-- something stands below a cell of a node with a child
each-pos : (u : ℕ) (g : ℕ → List ℕ) → 1 ≤ u → ((p : ℕ) → 1 ≤ length (g p)) → 1 ≤ length (each_port u g)
unfolding each_port
each-pos zero g h H = absurd (omega arith)
each-pos (suc u) g h H = omega (arith, length-append (each_port u g) (g u), H u)

pub below-pos : (u : ℕ) (n : Node) (e : Tuple) (g : Tuple → List ℕ) → 1 ≤ u → ((x : Tuple) → 1 ≤ length (g x)) → 1 ≤ length (below u n e g)
unfolding below
below-pos u root e g h H = H e
below-pos u all e g h H = each-pos u _ h (λ p. H (p ∷ e))
below-pos u any e g h H = each-pos u _ h (λ p. H (p ∷ e))
below-pos u and e g h H = H e
below-pos u or e g h H = H e
below-pos u (lit l) e g h H = H e

trees-pos : (u : ℕ) (k : Configuration) (n : Node) (f : Forest) (e : Tuple) → 1 ≤ u → 1 ≤ tree_count f → 1 ≤ length (treewise u k n f e)
unfolding treewise tree_count
trees-pos u k n none e h t = absurd (omega arith)
trees-pos u k n (tree m c s) e h t =
    omega (arith, length-append (below u n e (λ x. penalty u k m c x ∷ [])) (treewise u k n s e), below-pos u n e (λ x. penalty u k m c x ∷ []) h (λ x. omega arith))

pub no-tree : (f : Forest) → tree_count f ≡ 0 → f ≡ none
unfolding tree_count
no-tree none h = refl
no-tree (tree n c s) h = absurd (omega arith)

copy-least : (ys : List ℕ) → length ys ≡ 1 → least ys ≡ copy ys
unfolding least copy
copy-least [] h = absurd (omega arith)
copy-least (y ∷ []) h = refl
copy-least (y ∷ z ∷ zs) h = absurd (omega arith)

one-long : (u : ℕ) (k : Configuration) (f : Forest) (e : Tuple) → tree_count f ≡ 1 → length (treewise u k root f e) ≡ 1
unfolding treewise tree_count below
one-long u k none e h = absurd (omega arith)
one-long u k (tree m c none) e h = refl
one-long u k (tree m c (tree x y z)) e h = absurd (omega arith)

-- a literal has one cell below each of its own
pub literal-spread : (t : Test) (u : ℕ) → spread_of (test_kind t) u ≡ 1
unfolding spread_of
literal-spread t u =
    ap (λ (b : Bool). cond b u 1) (and-false (leb 1 (test_kind t)) _ (λ _. lt-leb (test_kind t) 2 (omega (arith, test-kind-range t))))

-- An inner node's joined cell is the penalty, whatever it held before.
pub own-cell : (u : ℕ) (k : Configuration) (n : Node) (c : Forest) (e : Tuple) (x : ℕ) → 1 ≤ u → kind_number n < 5 → arity_rule (kind_number n) (tree_count c) ≡ true
    → sum (below u n e (penalties u k c)) < 4294967296 → join_into (join_of (kind_number n)) true x (treewise u k n c e) ≡ penalty u k n c e
unfolding join_of kind_number penalty combine arity_rule
own-cell u k root c e x h i a s =
    let one = one-long u k c e (eqb-true (tree_count c) 1 a) in
    into-least x (treewise u k root c e) (omega arith) ∙ copy-least (treewise u k root c e) one ∙ ap copy (sym (below-trees u k root c e a))
own-cell u k all c e x h i a s =
    let b = below-trees u k all c e a in
    into-sum x (treewise u k all c e) (trees-pos u k all c e h (omega (arith, eqb-true (tree_count c) 1 a))) (rw (← b) s) ∙ ap sum (sym b)
own-cell u k any c e x h i a s =
    into-least x (treewise u k any c e) (trees-pos u k any c e h (omega (arith, eqb-true (tree_count c) 1 a))) ∙ ap least (sym (below-trees u k any c e a))
own-cell u k and c e x h i a s =
    let b = below-trees u k and c e a in
    into-sum x (treewise u k and c e) (trees-pos u k and c e h (omega (arith, leb-true 2 (tree_count c) a))) (rw (← b) s) ∙ ap sum (sym b)
own-cell u k or c e x h i a s =
    into-least x (treewise u k or c e) (trees-pos u k or c e h (omega (arith, leb-true 2 (tree_count c) a))) ∙ ap least (sym (below-trees u k or c e a))
own-cell u k (lit l) c e x h i a s = absurd (omega (arith, test-kind-range l.test))

-- a quantifier has one child at most
pub one-child : (kind m u : ℕ) → arity_rule kind m ≡ true → (spread_of kind u ≡ 1) ⊎ (m ≤ 1)
unfolding arity_rule spread_of
one-child kind m u h = go (leb kind 2) h
  where
    go : (b : Bool) → cond b (eqb m 1) (cond (leb kind 4) (leb 2 m) (eqb m 0)) ≡ true → (cond (leb 1 kind && b) u 1 ≡ 1) ⊎ (m ≤ 1)
    go true q = inr (omega (arith, eqb-true m 1 q))
    go false q = inl (ap (λ (b : Bool). cond b u 1) (and-false (leb 1 kind) false (λ _. refl)))

-- the cells of a row that stand below one cell
module _ (u : ℕ) (g : Tuple → ℕ) (rest : List ℕ) where
  abbrev row : ℕ → List ℕ
  row d = tabulate (u ^ d) (λ i. g (tuple_at u d i)) ++ rest

  row_at : (d i : ℕ) → i < u ^ d → get_or (row d) i 0 ≡ g (tuple_at u d i)
  row_at d i h =
      get_or-append (tabulate (u ^ d) (λ i. g (tuple_at u d i))) rest 0 i (rw length-tabulate h) ∙ get_d_tabulate (u ^ d) (λ i. g (tuple_at u d i)) i h

  row-long : (d : ℕ) → u ^ d ≤ length (row d)
  row-long d = omega (arith, length-append (tabulate (u ^ d) (λ i. g (tuple_at u d i))) rest, length-tabulate (u ^ d) (λ i. g (tuple_at u d i)))

  one_below : (d t : ℕ) → t < u ^ d → take 1 (drop (t * 1) (row d)) ≡ g (tuple_at u d t) ∷ []
  one_below d t h =
      let q = row-long d in
      ap (λ (j : ℕ). take 1 (drop j (row d))) (mul-one t)
      ∙ take-suc (drop t (row d)) 0 0 (rw (length-drop t (row d)) (omega arith))
      ∙ ap (λ (x : ℕ). x ∷ []) (get_or-drop t (row d) 0 0 ∙ ap (λ (j : ℕ). get_or (row d) j 0) (add-zero t) ∙ row_at d t h)

  ports-below : (d t : ℕ) → t < u ^ d → (q : ℕ) → q ≤ u → take q (drop (t * u) (row (suc d))) ≡ each_port q (λ p. g (p ∷ tuple_at u d t) ∷ [])
  unfolding each_port tuple_at
  ports-below d t h zero l = refl
  ports-below d t h (suc q) l =
      let w = row-long (suc d) in
      let b : t * u + q < u ^ suc d = rw pow-suc (digits_lt h l) in
      take-suc (drop (t * u) (row (suc d))) q 0 (rw (length-drop (t * u) (row (suc d))) (omega arith))
      ∙ ap₂ (λ (x : List ℕ) (y : ℕ). x ++ (y ∷ [])) (ports-below d t h q (omega arith))
      (get_or-drop (t * u) (row (suc d)) q 0 ∙ row_at (suc d) (t * u + q) b
      ∙ ap₂ (λ (x y : ℕ). g (x ∷ tuple_at u d y)) (digits_mod t l) (digits_div t l))

  pub cells-below : (n : Node) (d t : ℕ) → t < u ^ d
      → take (spread_of (kind_number n) u) (drop (t * spread_of (kind_number n) u) (row (child_depth n d))) ≡ below u n (tuple_at u d t) (λ x. g x ∷ [])
  unfolding spread_of kind_number child_depth below
  cells-below root d t h = one_below d t h
  cells-below all d t h = ports-below d t h u (omega arith)
  cells-below any d t h = ports-below d t h u (omega arith)
  cells-below and d t h = one_below d t h
  cells-below or d t h = one_below d t h
  cells-below (lit l) d t h = rw (literal-spread l.test u) (one_below d t h)

-- a rule that does not look at first cells lays out the same table anywhere
layout-anywhere : (u : ℕ) (k : Configuration) (f : Forest) (b b' d : ℕ)
    → layout u (λ n c x i e. penalty u k n c e) f b d ≡ layout u (λ n c x i e. penalty u k n c e) f b' d
unfolding layout
layout-anywhere u k none b b' d = refl
layout-anywhere u k (tree n c s) b b' d =
    ap₂ (λ (x y : List ℕ). tabulate (u ^ d) (λ i. penalty u k n c (tuple_at u d i)) ++ (x ++ y))
    (layout-anywhere u k c (b + u ^ d) (b' + u ^ d) (child_depth n d)) (layout-anywhere u k s (sibling_first u n c b d) (sibling_first u n c b' d) d)

pub table-tree : (u : ℕ) (k : Configuration) (n : Node) (c s : Forest) (d : ℕ)
    → table u k (tree n c s) d ≡ tabulate (u ^ d) (λ i. penalty u k n c (tuple_at u d i)) ++ (table u k c (child_depth n d) ++ table u k s d)
unfolding table layout
table-tree u k n c s d =
    ap₂ (λ (x y : List ℕ). tabulate (u ^ d) (λ i. penalty u k n c (tuple_at u d i)) ++ (x ++ y))
    (layout-anywhere u k c (0 + u ^ d) 0 (child_depth n d)) (layout-anywhere u k s (sibling_first u n c 0 d) 0 d)
