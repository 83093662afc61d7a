-- What the walk over a plan's records puts is the bytes of the plan's tree, and the nesting that it tells is that tree's. Assumes nothing.
use mathlib.Core.Path.{◌≡◌, refl, sym, ap, ap₂, ◌∙◌}
use mathlib.Core.Bool.{Bool, true, false, cond, ◌||◌, false≢true}
use mathlib.Core.List.{List, [], ◌∷◌, ◌++◌, append_assoc, append-nil}
use Prim.Native.Nat.{ℕ, suc, ◌≤◌}
use native.Mathlib.Omega.{arith}
use lib.Dec.{eqb, ltb}
use borrow.Author.Tests.{eqb-true, leb-true, lt-leb}
use Rattle.logic.specs.Formula.{Test, isin, notin, port, size, literal_of, Node, root, all, any, and, or, lit, Forest, none, tree, test_kind, kind_number, child_depth}
use Rattle.logic.proofs.Relations.{test-kind-range}
use Rattle.table_format.specs.Rules.{every_node, tree_count, arity_rule, inner_rule, node_rule}
use Rattle.table_format.proofs.FieldRules.{literal-children}
use Rattle.table_format.proofs.Rooted.{every-node}
use Rattle.text_tree.specs.Tree.{Join, Tree, too_deep}
use Rattle.text_grammar.specs.Parser.{rank}
use Rattle.text_form.specs.Form.{variable_byte, lettered_test, lettered_literal, own_level, child_level, needs_brackets, enclosed, node_tree, join_of, beside, children_tree}
use Rattle.text_form.specs.Spelling.{join_bytes, quantifier_byte, spaced, test_bytes, tree_bytes}
use Rattle.text_node.specs.inner.Nodes.{only_if, brackets_at, nest_below, quantifier_sign, quantifier_bytes, own_bytes, join_at}
use Rattle.text_write.proofs.Forming.{or-none}
use Rattle.text_write.specs.inner.Forming.{later_bytes, forest_bytes, later_deep, forest_deep}

-- A literal's kind is none of 0 to 4.
literal-apart : (t : Test) → (eqb (test_kind t) 0 ≡ false) × (eqb (test_kind t) 3 ≡ false) × (eqb (test_kind t) 4 ≡ false)
unfolding test_kind
literal-apart (isin v S) = (refl, refl, refl)
literal-apart (notin v S) = (refl, refl, refl)
literal-apart (port r v w) = (refl, refl, refl)
literal-apart (size r S c) = (refl, refl, refl)

-- what joins a node's children, by its kind
join_is : (above : Node) → join_at (kind_number above) ≡ spaced (join_bytes (join_of above))
unfolding join_at kind_number spaced join_bytes join_of
join_is root = refl
join_is all = refl
join_is any = refl
join_is and = refl
join_is or = refl
join_is (lit l) = rw (literal-apart l.test).2

-- Whether a node stands in brackets, by kinds and by levels.
abbrev Same : Node → Node → Type 0
Same above n = brackets_at (kind_number above) (kind_number n) ≡ needs_brackets above n

-- a quantifier or a literal, which stands at the level of a unit, needs none, whatever stands above it
unit-same : (above : Node) (kind r : ℕ) → eqb kind 3 ≡ false → eqb kind 4 ≡ false → r ≡ 1 → brackets_at (kind_number above) kind ≡ ltb (rank (child_level above)) r
unfolding brackets_at kind_number child_level
unit-same root kind r h k e = rw e
unit-same all kind r h k e = rw (h, k, e)
unit-same any kind r h k e = rw (h, k, e)
unit-same and kind r h k e = rw (h, k, e)
unit-same or kind r h k e = rw (h, k, e)
unit-same (lit l) kind r h k e = rw (h, k, e, (literal-apart l.test).0)

and_same : (above : Node) → Same above and
unfolding brackets_at kind_number needs_brackets child_level own_level
and_same root = refl
and_same all = refl
and_same any = refl
and_same and = refl
and_same or = refl
and_same (lit l) = rw ((literal-apart l.test).0, (literal-apart l.test).2)

or_same : (above : Node) → Same above or
unfolding brackets_at kind_number needs_brackets child_level own_level
or_same root = refl
or_same all = refl
or_same any = refl
or_same and = refl
or_same or = refl
or_same (lit l) = rw (literal-apart l.test).0

brackets-are : (sets d : ℕ) (above n : Node) → inner_rule sets n d ≡ true → Same above n
unfolding inner_rule needs_brackets own_level
brackets-are sets d above root h = absurd (false≢true h)
brackets-are sets d above all h = unfold kind_number in unit-same above 1 1 refl refl refl
brackets-are sets d above any h = unfold kind_number in unit-same above 2 1 refl refl refl
brackets-are sets d above and h = and_same above
brackets-are sets d above or h = or_same above
brackets-are sets d above (lit l) h = let p = literal-apart l.test in unfold kind_number in unit-same above (test_kind l.test) 1 p.1 p.2 refl

-- the bytes

-- a part between its brackets
enclosed-bytes : (w : Bool) (B : List ℕ) (a : Tree) → B ≡ tree_bytes a → only_if w 40 ++ (B ++ only_if w 41) ≡ tree_bytes (enclosed w a)
unfolding only_if enclosed tree_bytes
enclosed-bytes true B a e = ap (λ (b : List ℕ). 40 ∷ (b ++ (41 ∷ []))) e
enclosed-bytes false B a e = append-nil B ∙ e

-- a part and its later siblings
beside-bytes : (above : Node) (E F : List ℕ) (s : Forest) (a b : Tree) → E ≡ tree_bytes a → (1 ≤ tree_count s → F ≡ tree_bytes b)
    → E ++ later_bytes (kind_number above) s F ≡ tree_bytes (beside (join_of above) a s b)
unfolding later_bytes beside tree_bytes tree_count
beside-bytes above E F none a b e f = append-nil E ∙ e
beside-bytes above E F (tree n c s) a b e f = ap₂ ◌++◌ e (ap₂ ◌++◌ (join_is above) (f (omega arith)))

-- a node before its children, of which a literal has none
node-bytes : (sets : ℕ) (n : Node) (d : ℕ) (c : Forest) (F : List ℕ) (a : Tree) → inner_rule sets n d ≡ true → arity_rule (kind_number n) (tree_count c) ≡ true
    → (tree_count c ≡ 0 → F ≡ []) → (1 ≤ tree_count c → F ≡ tree_bytes a) → own_bytes n d ++ F ≡ tree_bytes (node_tree n d a)
unfolding inner_rule arity_rule kind_number own_bytes quantifier_bytes quantifier_sign node_tree tree_bytes quantifier_byte lettered_literal literal_of
node-bytes sets root d c F a h r z f = absurd (false≢true h)
node-bytes sets all d c F a h r z f = let k = eqb-true (tree_count c) 1 r in ap (λ (x : List ℕ). 64 ∷ variable_byte d ∷ 32 ∷ x) (f (omega arith))
node-bytes sets any d c F a h r z f = let k = eqb-true (tree_count c) 1 r in ap (λ (x : List ℕ). 63 ∷ variable_byte d ∷ 32 ∷ x) (f (omega arith))
node-bytes sets and d c F a h r z f = let k = leb-true 2 (tree_count c) r in f (omega arith)
node-bytes sets or d c F a h r z f = let k = leb-true 2 (tree_count c) r in f (omega arith)
node-bytes sets (lit l) d c F a h r z f = ap (λ (x : List ℕ). test_bytes (lettered_test l.test) ++ x) (z (literal-children l.test (tree_count c) r)) ∙ append-nil _

no_bytes : (above : ℕ) (f : Forest) (d : ℕ) → tree_count f ≡ 0 → forest_bytes above f d ≡ []
unfolding tree_count forest_bytes
no_bytes above none d e = refl
no_bytes above (tree n c s) d e = absurd (omega arith)

pub children-bytes : (sets : ℕ) (above : Node) (f : Forest) (d : ℕ) → every_node (node_rule sets) f d ≡ true → 1 ≤ tree_count f
    → forest_bytes (kind_number above) f d ≡ tree_bytes (children_tree above f d)
unfolding tree_count forest_bytes children_tree
children-bytes sets above none d h k = absurd (omega arith)
children-bytes sets above (tree n c s) d h k =
    let e = every-node sets n c s d h in
    let w = brackets_at (kind_number above) (kind_number n) in
    let b = brackets-are sets d above n e.0 in
    let C = forest_bytes (kind_number n) c (child_depth n d) in
    let a = node_tree n d (children_tree n c (child_depth n d)) in
    let B : own_bytes n d ++ C ≡ tree_bytes a =
    node-bytes sets n d c C (children_tree n c (child_depth n d)) e.0 e.2 (no_bytes (kind_number n) c (child_depth n d)) (children-bytes sets n c (child_depth n d) e.4) in
    let E = enclosed-bytes w (own_bytes n d ++ C) a B ∙ ap (λ (x : Bool). tree_bytes (enclosed x a)) b in
    regroup (only_if w 40) (own_bytes n d) C (only_if w 41) (later_bytes (kind_number above) s (forest_bytes (kind_number above) s d))
    ∙ beside-bytes above _ (forest_bytes (kind_number above) s d) s (enclosed (needs_brackets above n) a) (children_tree above s d) E (children-bytes sets above s d e.5)
  where
    regroup : (A B C D E : List ℕ) → A ++ (B ++ (C ++ (D ++ E))) ≡ (A ++ ((B ++ C) ++ D)) ++ E
    regroup A B C D E =
        ap (λ (x : List ℕ). A ++ x) (sym (append_assoc B C (D ++ E)) ∙ sym (append_assoc (B ++ C) D E)) ∙ sym (append_assoc A ((B ++ C) ++ D) E)

-- the nesting

enclosed-deep : (w : Bool) (nest : ℕ) (a : Tree) → too_deep nest (enclosed w a) ≡ too_deep (cond w (suc nest) nest) a
unfolding enclosed too_deep
enclosed-deep true nest a = refl
enclosed-deep false nest a = refl

beside-deep : (j : Join) (nest : ℕ) (s : Forest) (a b : Tree) (A B : Bool) → A ≡ too_deep nest a → (1 ≤ tree_count s → B ≡ too_deep nest b)
    → (A || later_deep s B) ≡ too_deep nest (beside j a s b)
unfolding later_deep beside too_deep tree_count
beside-deep j nest none a b A B e f = or-none A ∙ e
beside-deep j nest (tree n c s) a b A B e f = ap₂ ◌||◌ e (f (omega arith))

none_deep : (nest above : ℕ) (f : Forest) → tree_count f ≡ 0 → forest_deep nest above f ≡ ltb 64 nest
unfolding tree_count forest_deep
none_deep nest above none e = refl
none_deep nest above (tree n c s) e = absurd (omega arith)

-- around a joint's children stand its brackets, around a quantifier's the quantifier, which has no brackets
node-deep : (sets : ℕ) (n : Node) (d nest : ℕ) (w : Bool) (c : Forest) (a : Tree) → inner_rule sets n d ≡ true → arity_rule (kind_number n) (tree_count c) ≡ true
    → (eqb (kind_number n) 3 ≡ false → eqb (kind_number n) 4 ≡ false → w ≡ false)
    → ((m : ℕ) → 1 ≤ tree_count c → forest_deep m (kind_number n) c ≡ too_deep m a)
    → forest_deep (nest_below (kind_number n) w nest) (kind_number n) c ≡ too_deep (cond w (suc nest) nest) (node_tree n d a)
unfolding inner_rule arity_rule kind_number nest_below node_tree too_deep lettered_literal literal_of
node-deep sets root d nest w c a h r z f = absurd (false≢true h)
node-deep sets all d nest w c a h r z f = let k = eqb-true (tree_count c) 1 r in rw (z refl refl) (f (suc nest) (omega arith))
node-deep sets any d nest w c a h r z f = let k = eqb-true (tree_count c) 1 r in rw (z refl refl) (f (suc nest) (omega arith))
node-deep sets and d nest w c a h r z f = let k = leb-true 2 (tree_count c) r in f (cond w (suc nest) nest) (omega arith)
node-deep sets or d nest w c a h r z f = let k = leb-true 2 (tree_count c) r in f (cond w (suc nest) nest) (omega arith)
node-deep sets (lit l) d nest w c a h r z f =
    let p = literal-apart l.test in
    rw (z p.1 p.2, lt-leb (test_kind l.test) 2 (omega (arith, test-kind-range l.test)))
    (none_deep nest (test_kind l.test) c (literal-children l.test (tree_count c) r))

-- only "and" and "or" stand in brackets
unit-free : (above n : ℕ) → eqb n 3 ≡ false → eqb n 4 ≡ false → brackets_at above n ≡ false
unfolding brackets_at
unit-free above n h k = rw (h, k) (either_way (eqb above 0))
  where
    either_way : (b : Bool) → cond b false false ≡ false
    either_way true = refl
    either_way false = refl

pub children-deep : (sets : ℕ) (above : Node) (f : Forest) (d nest : ℕ) → every_node (node_rule sets) f d ≡ true → 1 ≤ tree_count f
    → forest_deep nest (kind_number above) f ≡ too_deep nest (children_tree above f d)
unfolding tree_count forest_deep children_tree
children-deep sets above none d nest h k = absurd (omega arith)
children-deep sets above (tree n c s) d nest h k =
    let e = every-node sets n c s d h in
    let w = brackets_at (kind_number above) (kind_number n) in
    let b = brackets-are sets d above n e.0 in
    let a = node_tree n d (children_tree n c (child_depth n d)) in
    let A = node-deep sets n d nest w c (children_tree n c (child_depth n d)) e.0 e.2 (unit-free (kind_number above) (kind_number n)) (λ m q. children-deep sets n c (child_depth n d) m e.4 q) in
    beside-deep (join_of above) nest s (enclosed (needs_brackets above n) a) (children_tree above s d) _ _
    (A ∙ sym (enclosed-deep w nest a) ∙ ap (λ (x : Bool). too_deep nest (enclosed x a)) b) (λ q. children-deep sets above s d nest e.5 q)
