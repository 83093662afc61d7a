-- A plan that keeps the table's rules is regular below its root. Assumes nothing.
use mathlib.Core.Path.{◌≡◌, ap, ◌∙◌}
use mathlib.Core.Bool.{true, false≢true}
use Prim.Native.Nat.{ℕ}
use native.Mathlib.Omega.{arith}
use borrow.Author.Tests.{eqb-true}
use Rattle.logic.specs.Formula.{Test, isin, notin, port, size, Node, root, all, any, and, or, lit, Forest, none, tree, Plan, kind_number, test_kind, child_depth}
use Rattle.logic.specs.inner.Literals.{Every}
use Rattle.table_format.specs.Rules.{every_node, tree_count, arity_rule, inner_rule, node_rule, plan_rule}
use Rattle.table_format.proofs.Rooted.{every-node, is-rooted, rooted-is}
use Rattle.cells_walk.proofs.Outcomes.{no-trees}
use Rattle.cells_atoms.specs.inner.Atoms.{Regular, AllRegular}

-- "literals none"
leaf-arity : (t : Test) (m : ℕ) → arity_rule (test_kind t) m ≡ true → m ≡ 0
unfolding arity_rule test_kind
leaf-arity (isin v S) m h = eqb-true m 0 h
leaf-arity (notin v S) m h = eqb-true m 0 h
leaf-arity (port r v w) m h = eqb-true m 0 h
leaf-arity (size r S c) m h = eqb-true m 0 h

node-regular : (sets : ℕ) (n : Node) (c : Forest) (d : ℕ) → inner_rule sets n d ≡ true → arity_rule (kind_number n) (tree_count c) ≡ true → Regular n c
unfolding inner_rule kind_number Regular
node-regular sets root c d h a = absurd (false≢true h)
node-regular sets all c d h a = tt
node-regular sets any c d h a = tt
node-regular sets and c d h a = tt
node-regular sets or c d h a = tt
node-regular sets (lit l) c d h a = no-trees c (leaf-arity l.test (tree_count c) a)

pub all-regular : (sets : ℕ) (f : Forest) (d : ℕ) → every_node (node_rule sets) f d ≡ true → AllRegular f d
unfolding AllRegular Every
all-regular sets none d h = tt
all-regular sets (tree n c s) d h =
    let r = every-node sets n c s d h in
    (node-regular sets n c d r.0 r.2, all-regular sets c (child_depth n d) r.4, all-regular sets s d r.5)

one-tree : (f : Forest) → tree_count f ≡ 1 → (n : Node) × (c : Forest) × (f ≡ tree n c none)
unfolding tree_count
one-tree none h = absurd (omega arith)
one-tree (tree n c s) h = (n, c, ap (tree n c) (no-trees s (omega arith)))

-- its formula is a root over one tree
pub record RootedTree (P : Plan) : Type 0 where
  pub node : Node
  pub children : Forest
  pub formula-is : P.formula ≡ tree root (tree node children none) none
  pub regular : AllRegular (tree node children none) 0

pub rooted-tree : (P : Plan) → plan_rule P ≡ true → RootedTree P
rooted-tree P h =
    let r = rooted-is P h in
    let o = one-tree (is-rooted P h).0 r.one in
    record {
      node = o.0;
      children = o.1;
      formula-is = ap (λ (Q : Plan). Q.formula) (is-rooted P h).1 ∙ ap (λ (f : Forest). tree root f none) o.2;
      regular = rw o.2 at (all-regular P.sets (is-rooted P h).0 0 r.rules);
    }
