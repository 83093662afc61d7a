-- The core of a text that meets none of grounds 5 to 7 keeps the plan table's rules. Assumes nothing.
use mathlib.Core.Path.{◌≡◌, refl}
use mathlib.Core.Bool.{Bool, true, false, cond, not, ◌&&◌, ◌||◌}
use mathlib.Core.List.{List, [], ◌∷◌}
use Prim.Native.Nat.{ℕ, suc, ◌≤◌, ◌<◌}
use native.Mathlib.Omega.{arith}
use lib.Dec.{eqb, leb, ltb}
use lib.ListN.{length}
use borrow.Author.Tests.{lt-leb, lt-ltb, le-leb, eq-eqb, ne_eqb, leb-false, ltb-false, not-false}
use Rattle.logic.specs.Formula.{Test, isin, notin, port, size, Literal, literal_of, Node, root, all, any, lit, Forest, none, tree, test_kind, kind_number, child_depth}
use Rattle.logic.specs.Change.{some_of}
use Rattle.logic.proofs.Lists.{or_left, or_right, and-true}
use Rattle.logic.proofs.Relations.{test-kind-range}
use Rattle.text_tree.specs.Tree.{Quantifier, forall, exists, Tree, leaf, neg, par, bind, join, Declared, letters_of}
use Rattle.text_tree.proofs.Sets.{letters-length}
use Rattle.text_core.specs.Names.{among, set_number, variable_number, misdeclared, misnamed_test, misnamed, ground5, high_constant, ground6, fourth, ground7}
use Rattle.text_core.specs.Core.{Above, alone, inside, joint_node, Part, joint, two, quantifier_node, member_at, test_at, literal_at, place, core_of}
use Rattle.table_format.specs.Rules.{every_node, tree_count, arity_rule, may_nest, nesting_rule, depth_rule, test_rule, literal_rule, inner_rule, node_rule, formula_rule}
use Rattle.table_format.proofs.FieldRules.{literal-arity}
use Rattle.text_core.proofs.Decided.{joined}
use Rattle.text_core.proofs.SameTruth.{variable-below}

-- a declared letter's number is below the number of sets
pub set_below : (sets : List ℕ) (S : ℕ) → among sets S ≡ true → set_number sets S < length sets
unfolding among some_of set_number
set_below [] S h = let z : ◌≡◌ {A = ℕ} 0 1 = cc in absurd (omega arith)
set_below (x ∷ xs) S h = go (eqb S x) h (set_below xs S)
  where
    go : (b : Bool) → (b || some_of (eqb S) xs) ≡ true → (some_of (eqb S) xs ≡ true → set_number xs S < length xs) → cond b 0 (suc (set_number xs S)) < suc (length xs)
    go true h f = omega arith
    go false h f = let l = f h in omega arith

-- only "and" and "or" ask what stands directly below them
apart : (b c d : Bool) → c ≡ false → not (b && c && d) ≡ true
apart true true d h = let z : ◌≡◌ {A = ℕ} 0 1 = cc in absurd (omega arith)
apart true false d h = refl
apart false c d h = refl

free : (above : ℕ) (f : Forest) → above ≤ 2 → nesting_rule above f ≡ true
unfolding nesting_rule may_nest
free above none h = refl
free above (tree n c s) h = and-true _ _ (apart (eqb above (kind_number n)) (leb 3 above) _ (lt-leb 3 above (omega arith))) (free above s h)

and4 : (a b c d : Bool) → a ≡ true → b ≡ true → c ≡ true → d ≡ true → (a && b && c && d) ≡ true
and4 a b c d p q r s = and-true _ _ (and-true _ _ (and-true _ _ p q) r) s

module _ (n : ℕ) where
  -- what a part of the core keeps at depth d, whatever stands above it
  record Fits (F : Part) (d : ℕ) : Type 0 where
    every : (above : Above) (s : Forest) → every_node (node_rule n) s d ≡ true → every_node (node_rule n) (F above s) d ≡ true
    wide : (above : Above) (s : Forest) → suc (tree_count s) ≤ tree_count (F above s)
    one : (s : Forest) → tree_count (F alone s) ≡ suc (tree_count s)
    unlike : (j : Bool) (s : Forest) → nesting_rule (kind_number (joint_node j)) s ≡ true
        → nesting_rule (kind_number (joint_node j)) (F (inside j) s) ≡ true

  tree-fits : (m : Node) (c : Forest) (d : ℕ) → node_rule n m c d ≡ true → every_node (node_rule n) c (child_depth m d) ≡ true
      → ((j : Bool) → may_nest (kind_number (joint_node j)) (kind_number m) ≡ true) → Fits (λ above s. tree m c s) d
  unfolding every_node tree_count nesting_rule
  tree-fits m c d h i u = record {
    every = λ above s g. and-true _ _ (and-true _ _ h i) g;
    wide = λ above s. omega arith;
    one = λ s. refl;
    unlike = λ j s g. and-true _ _ (u j) g;
  }

  -- the children of a joint
  record Row (j : Bool) (c : Forest → Forest) (d : ℕ) : Type 0 where
    every : (s : Forest) → every_node (node_rule n) s d ≡ true → every_node (node_rule n) (c s) d ≡ true
    wide : (s : Forest) → suc (suc (tree_count s)) ≤ tree_count (c s)
    unlike : (s : Forest) → nesting_rule (kind_number (joint_node j)) s ≡ true → nesting_rule (kind_number (joint_node j)) (c s) ≡ true

  joint-rule : (j : Bool) (c : Forest) (d : ℕ) → d ≤ 3 → 2 ≤ tree_count c → nesting_rule (kind_number (joint_node j)) c ≡ true → node_rule n (joint_node j) c d ≡ true
  unfolding node_rule depth_rule joint_node kind_number inner_rule arity_rule
  joint-rule true c d l w h = and4 _ _ _ _ refl (le-leb d 3 l) (le-leb 2 _ w) h
  joint-rule false c d l w h = and4 _ _ _ _ refl (le-leb d 3 l) (le-leb 2 _ w) h

  module _ (d : ℕ) (low : d ≤ 3) where
    joint-tree : (j : Bool) (c : Forest → Forest) → Row j c d → (s : Forest) → every_node (node_rule n) s d ≡ true → every_node (node_rule n) (tree (joint_node j) (c none) s) d ≡ true
    unfolding every_node nesting_rule tree_count joint_node child_depth
    joint-tree true c R s h = and-true _ _ (and-true _ _ (joint-rule true (c none) d low (R.wide none) (R.unlike none refl)) (R.every none refl)) h
    joint-tree false c R s h = and-true _ _ (and-true _ _ (joint-rule false (c none) d low (R.wide none) (R.unlike none refl)) (R.every none refl)) h

    joint-every : (j : Bool) (c : Forest → Forest) → Row j c d → (above : Above) (s : Forest) → every_node (node_rule n) s d ≡ true → every_node (node_rule n) (joint j c above s) d ≡ true
    unfolding joint joint_node
    joint-every j c R alone s h = joint-tree j c R s h
    joint-every true c R (inside true) s h = R.every s h
    joint-every false c R (inside true) s h = joint-tree false c R s h
    joint-every true c R (inside false) s h = joint-tree true c R s h
    joint-every false c R (inside false) s h = R.every s h

    joint-wide : (j : Bool) (c : Forest → Forest) → Row j c d → (above : Above) (s : Forest) → suc (tree_count s) ≤ tree_count (joint j c above s)
    unfolding joint tree_count
    joint-wide j c R alone s = omega arith
    joint-wide true c R (inside true) s = omega (arith, R.wide s)
    joint-wide false c R (inside true) s = omega arith
    joint-wide true c R (inside false) s = omega arith
    joint-wide false c R (inside false) s = omega (arith, R.wide s)

    joint-unlike : (j : Bool) (c : Forest → Forest) → Row j c d → (i : Bool) (s : Forest) → nesting_rule (kind_number (joint_node i)) s ≡ true
        → nesting_rule (kind_number (joint_node i)) (joint j c (inside i) s) ≡ true
    unfolding joint nesting_rule may_nest kind_number joint_node
    joint-unlike true c R true s h = R.unlike s h
    joint-unlike false c R true s h = h
    joint-unlike true c R false s h = h
    joint-unlike false c R false s h = R.unlike s h

    two_fits : (j : Bool) (F G : Part) → Fits F d → Fits G d → Fits (two j F G) d
    unfolding two
    two_fits j F G A B = record {
      every = joint-every j _ R;
      wide = joint-wide j _ R;
      one = λ s. lone s;
      unlike = joint-unlike j _ R;
    }
      where
        R : Row j (λ r. F (inside j) (G (inside j) r)) d
        R = record {
          every = λ s h. A.every (inside j) _ (B.every (inside j) s h);
          wide = λ s. omega (arith, A.wide (inside j) (G (inside j) s), B.wide (inside j) s);
          unlike = λ s h. A.unlike j _ (B.unlike j s h);
        }

        lone : (s : Forest) → tree_count (joint j (λ r. F (inside j) (G (inside j) r)) alone s) ≡ suc (tree_count s)
        lone s = unfold joint tree_count in refl

literal-may : (t : Test) (j : Bool) → may_nest (kind_number (joint_node j)) (test_kind t) ≡ true
unfolding may_nest kind_number joint_node
literal-may t true = rw (ne_eqb 3 (test_kind t) (λ e. omega (arith, test-kind-range t)))
literal-may t false = rw (ne_eqb 4 (test_kind t) (λ e. omega (arith, test-kind-range t)))

quantifier-may : (q : Quantifier) (j : Bool) → may_nest (kind_number (joint_node j)) (kind_number (quantifier_node true q)) ≡ true
unfolding may_nest kind_number joint_node quantifier_node
quantifier-may forall true = refl
quantifier-may forall false = refl
quantifier-may exists true = refl
quantifier-may exists false = refl

module _ (sets : List ℕ) where
  member-rule : (vars : List ℕ) (p : Bool) (v S : ℕ) → (not (among vars v) || not (among sets S)) ≡ false
      → test_rule (length sets) (length vars) (member_at p (variable_number vars v) (set_number sets S)) ≡ true
  unfolding member_at test_rule
  member-rule vars p v S h = go p (lt-ltb _ _ (variable-below vars v (not-false _ (or_left _ _ h)))) (lt-ltb _ _ (set_below sets S (not-false _ (or_right (not (among vars v)) _ h))))
    where
      go : (p : Bool) → ltb (variable_number vars v) (length vars) ≡ true → ltb (set_number sets S) (length sets) ≡ true
          → test_rule (length sets) (length vars) (member_at p (variable_number vars v) (set_number sets S)) ≡ true
      go true a b = and-true _ _ a b
      go false a b = and-true _ _ a b

  test-rule : (vars : List ℕ) (p : Bool) (t : Test) → misnamed_test sets vars t ≡ false → high_constant t ≡ false
      → test_rule (length sets) (length vars) (test_at sets vars p t) ≡ true
  unfolding misnamed_test high_constant test_rule test_at
  test-rule vars p (isin v S) h g = member-rule vars p v S h
  test-rule vars p (notin v S) h g = member-rule vars (not p) v S h
  test-rule vars p (port r v w) h g =
      and-true _ _ (lt-ltb _ _ (variable-below vars v (not-false _ (or_left _ _ h))))
      (lt-ltb _ _ (variable-below vars w (not-false _ (or_right (not (among vars v)) _ h))))
  test-rule vars p (size r S c) h g = and-true _ _ (lt-ltb _ _ (set_below sets S (not-false _ h))) (le-leb c 64 (ltb-false 64 c g))

  literal-fits : (d : ℕ) (l : Literal) → d ≤ 3 → literal_rule (length sets) d l ≡ true → Fits (length sets) (λ above s. tree (lit l) none s) d
  unfolding node_rule depth_rule inner_rule every_node nesting_rule kind_number tree_count
  literal-fits d l low h =
      tree-fits (length sets) (lit l) none d (and4 _ _ _ _ h (le-leb d 3 low) (literal-arity l.test 0) refl) refl (literal-may l.test)

  over-fits : (q : Quantifier) (d : ℕ) (F : Part) → d < 3 → Fits (length sets) F (suc d) → Fits (length sets) (λ above s. tree (quantifier_node true q) (F alone none) s) d
  unfolding node_rule depth_rule inner_rule arity_rule kind_number quantifier_node every_node child_depth tree_count
  over-fits forall d F l A =
      tree-fits (length sets) all (F alone none) d
      (and4 _ _ _ _ refl (le-leb d 3 (omega arith)) (eq-eqb _ 1 (A.one none)) (free 1 (F alone none) (omega arith)))
      (A.every alone none refl) (quantifier-may forall)
  over-fits exists d F l A =
      tree-fits (length sets) any (F alone none) d
      (and4 _ _ _ _ refl (le-leb d 3 (omega arith)) (eq-eqb _ 1 (A.one none)) (free 2 (F alone none) (omega arith)))
      (A.every alone none refl) (quantifier-may exists)

  bind-fits : (p : Bool) (q : Quantifier) (d : ℕ) (F : Part) → d < 3 → Fits (length sets) F (suc d) → Fits (length sets) (λ above s. tree (quantifier_node p q) (F alone none) s) d
  unfolding quantifier_node
  bind-fits true q d F l A = over-fits q d F l A
  bind-fits false forall d F l A = over-fits exists d F l A
  bind-fits false exists d F l A = over-fits forall d F l A

  place-fits : (vars : List ℕ) (p : Bool) (a : Tree) → length vars ≤ 3 → misnamed sets vars a ≡ false → ground6 a ≡ false → fourth (length vars) a ≡ false
      → Fits (length sets) (place sets vars p a) (length vars)
  unfolding place misnamed ground6 fourth literal_rule literal_at literal_of
  place-fits vars p (leaf l) low h g f = literal-fits (length vars) _ low (test-rule vars p l.test h g)
  place-fits vars p (neg a) low h g f = place-fits vars (not p) a low h g f
  place-fits vars p (par a) low h g f = place-fits vars p a low h g f
  place-fits vars p (bind q v a) low h g f =
      let l = leb-false 3 (length vars) (or_left _ _ f) in
      bind-fits p q (length vars) _ l (place-fits (v ∷ vars) p a l (or_right (among vars v) _ h) g (or_right (leb 3 (length vars)) _ f))
  place-fits vars p (join j a b) low h g f =
      let A : Bool → Part = λ i. place sets vars i a in
      let B : Bool → Part = λ i. place sets vars i b in
      joined (λ (F x : Part). Fits (length sets) F (length vars)) two two (λ i F G x y. two_fits (length sets) (length vars) low i F G) j p A B A B
      (λ i. place-fits vars i a low (or_left _ _ h) (or_left _ _ g) (or_left _ _ f))
      (λ i. place-fits vars i b low (or_right (misnamed sets vars a) _ h) (or_right (ground6 a) _ g) (or_right (fourth (length vars) a) _ f))

  named-rules : (a : Tree) → misnamed sets [] a ≡ false → ground6 a ≡ false → ground7 a ≡ false → formula_rule (length sets) (core_of sets a) ≡ true
  unfolding ground7 core_of formula_rule kind_number tree_count arity_rule every_node
  named-rules a h g f =
      let F = place-fits [] true a (omega arith) h g f in
      and4 _ _ _ _ refl refl (eq-eqb _ 1 (F.one none)) (F.every alone none refl)

-- the rules of the plan's formula
pub core-rules : (sets : List Declared) (a : Tree) → ground5 sets a ≡ false → ground6 a ≡ false → ground7 a ≡ false
    → formula_rule (length sets) (core_of (letters_of sets) a) ≡ true
unfolding ground5
core-rules sets a h g f = rw (← letters-length sets) (named-rules (letters_of sets) a (or_right (misdeclared sets) _ h) g f)
