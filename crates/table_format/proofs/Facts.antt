-- The facts of a plan that keeps the rules. Assumes nothing.
use mathlib.Core.Path.{◌≡◌, sym, subst}
use mathlib.Core.Bool.{true}
use Prim.Native.Nat.{ℕ}
use native.Mathlib.Omega.{arith}
use lib.Dec.{ltb}
use borrow.Author.Tests.{leb-true, ltb-true}
use Rattle.logic.specs.inner.MoveFields.{Sized}
use Rattle.logic.specs.Formula.{Test, isin, notin, port, size, Node, root, all, any, and, or, lit, Forest, none, tree, Plan, child_depth}
use Rattle.logic.specs.inner.Literals.{Every, OfLiteral, OfTest, VariablesBelow, VariablesBound, ConstantLow, ConstantsLow, SetBelow, SetsBelow}
use Rattle.logic.proofs.Lists.{and_left, and_right}
use Rattle.table_format.specs.Rules.{every_node, test_rule, literal_rule, inner_rule, node_rule, plan_rule}
use Rattle.table_format.specs.inner.Facts.{PlanFacts}
use Rattle.table_format.proofs.Rooted.{every-node, rooted, RootedIs, rooted-nodes, rooted-cells, is-rooted, rooted-is}

-- a rule that follows from each test's holds of every node below the root, and of the root
module _ (sets : ℕ) (R : ℕ → Test → Type 0) (H : (t : Test) (d : ℕ) → test_rule sets d t ≡ true → R d t) where
  pub of_inner : (n : Node) (d : ℕ) → inner_rule sets n d ≡ true → OfTest (R d) n
  unfolding inner_rule literal_rule OfLiteral
  of_inner root d h = tt
  of_inner all d h = tt
  of_inner any d h = tt
  of_inner and d h = tt
  of_inner or d h = tt
  of_inner (lit l) d h = H l.test d h

  pub every-inner : (f : Forest) (d : ℕ) → every_node (node_rule sets) f d ≡ true → Every (λ n c i. OfTest (R i) n) f d
  unfolding Every
  every-inner none d h = tt
  every-inner (tree n c s) d h =
      let r = every-node sets n c s d h in
      (of_inner n d r.0, every-inner c (child_depth n d) r.4, every-inner s d r.5)

  pub every-rooted : (c : Forest) → every_node (node_rule sets) c 0 ≡ true → Every (λ n c i. OfTest (R i) n) (tree root c none) 0
  unfolding Every OfLiteral child_depth
  every-rooted c h = (tt, every-inner c 0 h, tt)

pub constant-low : (sets : ℕ) (t : Test) (d : ℕ) → test_rule sets d t ≡ true → ConstantLow t
unfolding test_rule ConstantLow
constant-low sets (isin v S) d h = tt
constant-low sets (notin v S) d h = tt
constant-low sets (port r v w) d h = tt
constant-low sets (size r S c) d h = leb-true c 64 (and_right (ltb S sets) _ h)

pub variables-below : (sets : ℕ) (t : Test) (d : ℕ) → test_rule sets d t ≡ true → VariablesBelow d t
unfolding test_rule VariablesBelow
variables-below sets (isin v S) d h = ltb-true v d (and_left (ltb v d) _ h)
variables-below sets (notin v S) d h = ltb-true v d (and_left (ltb v d) _ h)
variables-below sets (port r v w) d h = (ltb-true v d (and_left (ltb v d) _ h), ltb-true w d (and_right (ltb v d) _ h))
variables-below sets (size r S c) d h = tt

set_below : (sets : ℕ) (t : Test) (d : ℕ) → test_rule sets d t ≡ true → SetBelow sets t
unfolding test_rule SetBelow
set_below sets (isin v S) d h = ltb-true S sets (and_right (ltb v d) _ h)
set_below sets (notin v S) d h = ltb-true S sets (and_right (ltb v d) _ h)
set_below sets (port r v w) d h = tt
set_below sets (size r S c) d h = ltb-true S sets (and_left (ltb S sets) _ h)

rooted-facts : (u n : ℕ) (c : Forest) → RootedIs u n c → PlanFacts (rooted u n c)
unfolding ConstantsLow VariablesBound SetsBelow
rooted-facts u n c r = record {
  ports1 = r.ports1;
  ports64 = r.ports64;
  sets1 = r.sets1;
  sets16 = r.sets16;
  nodes2 = omega (arith, rooted-nodes c, r.nodes2);
  nodes512 = omega (arith, rooted-nodes c, r.nodes512);
  cells-most = omega (arith, rooted-cells u n c, r.few);
  constants = every-rooted n (λ d t. ConstantLow t) (constant-low n) c r.rules;
  variables = every-rooted n VariablesBelow (variables-below n) c r.rules;
  sets_below = every-rooted n (λ d t. SetBelow n t) (set_below n) c r.rules;
}

pub plan-facts : (P : Plan) → plan_rule P ≡ true → PlanFacts P
plan-facts P h =
    let c = is-rooted P h in
    subst PlanFacts (sym c.1) (rooted-facts P.ports P.sets c.0 (rooted-is P h))

pub plan-sized : (P : Plan) → plan_rule P ≡ true → Sized P.ports P.sets
plan-sized P h =
    let F = plan-facts P h in
    record { ports-low = F.ports1; ports-high = F.ports64; sets-low = F.sets1; sets-high = F.sets16 }
