-- The tree that a plan is written as says the plan again, and meets none of grounds 5 to 9. Assumes nothing.
use mathlib.Core.Path.{◌≡◌, refl, sym, ap, ◌∙◌, subst}
use mathlib.Core.Bool.{Bool, true, false, false≢true}
use mathlib.Core.List.{List}
use Prim.Native.Nat.{ℕ, suc, ◌≤◌}
use native.Mathlib.Omega.{arith}
use borrow.Author.Tests.{eqb-true, leb-true, lt-leb, le-ltb}
use Rattle.logic.specs.Formula.{Test, Literal, literal_of, Node, root, all, any, and, or, lit, Forest, none, tree, Plan, kind_number, node_count, child_depth}
use Rattle.logic.specs.Cells.{cell_count, own_cells}
use Rattle.logic.specs.Moves.{refusal}
use Rattle.logic.proofs.Lists.{or-false, and_left, and_right}
use Rattle.text_tree.specs.Tree.{Quantifier, forall, exists, Tree, leaf, bind, join, letters_of}
use Rattle.text_core.specs.Names.{misnamed, ground5, ground6, fourth, ground7}
use Rattle.text_core.specs.Core.{Above, alone, inside, joint_node, joint, two, join_with, quantifier_node, literal_at, place, core_of, plan_of}
use Rattle.text_core.specs.Grounds.{core_grounds}
use Rattle.text_core.proofs.Siblings.{append}
use Rattle.table_format.specs.Rules.{every_node, tree_count, arity_rule, may_nest, nesting_rule, depth_rule, literal_rule, inner_rule, node_rule, plan_rule}
use Rattle.table_format.proofs.FieldRules.{literal-children}
use Rattle.table_format.proofs.Rooted.{every-node, rooted, RootedIs, is-rooted, rooted-is, nested-below-root}
use Rattle.table_format.proofs.Facts.{plan-facts}
use Rattle.text_form.specs.Form.{set_byte, variable_byte, lettered_literal, own_level, child_level, needs_brackets, enclosed, node_tree, join_of, beside, children_tree, tree_of, sets_of}
use Rattle.text_form.proofs.Letters.{letters_from, variables_at, sets-from-length, well-declared, newly-bound, test-said}

-- nothing stands after the last tree
append-none : (f : Forest) → append f none ≡ f
unfolding append
append-none none = refl
append-none (tree n c s) = ap (tree n c) (append-none s)

-- What a node is to the parts of the core below it.
unfoldable above_of : Node → Above
above_of root = alone
above_of all = alone
above_of any = alone
above_of and = inside true
above_of or = inside false
above_of (lit l) = alone

-- Only a joint has several children.
unfoldable Several : Above → ℕ → Type 0
Several alone m = m ≡ 1
Several (inside j) m = 1 ≤ m

-- every node but a literal has one at least
several-some : (above : Above) → Several above 0 → ⊥
unfolding Several
several-some alone h = omega arith
several-some (inside j) h = omega arith

-- inside its like a joint is merged
merged : (j : Bool) (c : Forest → Forest) (s : Forest) → joint j c (inside j) s ≡ c s
unfolding joint
merged true c s = refl
merged false c s = refl

-- elsewhere it stands as a node
stands : (j : Bool) (above : Node) (c : Forest → Forest) (s : Forest) → may_nest (kind_number above) (kind_number (joint_node j)) ≡ true
    → joint j c (above_of above) s ≡ tree (joint_node j) (c none) s
unfolding joint above_of may_nest kind_number joint_node
stands j root c s h = refl
stands j all c s h = refl
stands j any c s h = refl
stands true and c s h = absurd (false≢true h)
stands false and c s h = refl
stands true or c s h = refl
stands false or c s h = absurd (false≢true h)
stands j (lit l) c s h = refl

module _ (n : ℕ) where
  -- The declared letters of a plan of n sets.
  abbrev letters : List ℕ
  letters = letters_from (set_byte 0) n

  -- A part of the text at depth d: its core is the trees of f, and no ground of 5 to 7 applies to it.
  record Says (above : Above) (d : ℕ) (f : Forest) (a : Tree) : Type 0 where
    core : (s : Forest) → place letters (variables_at d) true a above s ≡ append f s
    named : misnamed letters (variables_at d) a ≡ false
    constants : ground6 a ≡ false
    shallow : fourth d a ≡ false
    depth : d ≤ 3

  module _ {above : Above} {d : ℕ} where
    -- brackets change nothing
    enclosed-says : {f : Forest} (b : Bool) (a : Tree) → Says above d f a → Says above d f (enclosed b a)
    unfolding enclosed place misnamed ground6 fourth
    enclosed-says true a A = record { core = A.core; named = A.named; constants = A.constants; shallow = A.shallow; depth = A.depth }
    enclosed-says false a A = A

    -- a literal's letters stand for its numbers
    literal-says : (l : Literal) → literal_rule n d l ≡ true → d ≤ 3 → Says above d (tree (lit l) none none) (leaf (lettered_literal l))
    unfolding place misnamed ground6 fourth append literal_rule literal_at lettered_literal literal_of
    literal-says l h k =
        let t = test-said n d l.test h in
        record {
          core = λ s. ap (λ (x : Test). tree (lit (literal_of x)) none s) t.said;
          named = t.named;
          constants = t.low;
          shallow = refl;
          depth = k;
        }

    -- a quantifier's child stands at the next depth, which is at most 3
    bind-says : (q : Quantifier) (c : Forest) (a : Tree) → Says alone (suc d) c a → Says above d (tree (quantifier_node true q) c none) (bind q (variable_byte d) a)
    unfolding place misnamed ground6 fourth append variables_at
    bind-says q c a A = record {
      core = λ s. ap (λ (x : Forest). tree (quantifier_node true q) x s) (A.core none ∙ append-none c);
      named = or-false _ _ (newly-bound d d (omega arith)) A.named;
      constants = A.constants;
      shallow = or-false _ _ (lt-leb 3 d A.depth) A.shallow;
      depth = omega (arith, A.depth);
    }

  -- a join of the written tree is the joint of its two parts, one before the other
  place-joint : (vars : List ℕ) (j : Bool) (a b : Tree) (above : Above) (s : Forest)
      → place letters vars true (join (join_of (joint_node j)) a b) above s ≡ joint j (λ r. place letters vars true a (inside j) (place letters vars true b (inside j) r)) above s
  unfolding place join_with two join_of joint_node
  place-joint vars true a b above s = refl
  place-joint vars false a b above s = refl

  -- the children of a joint, joined, are its row: the join below it is merged
  join-says : (j : Bool) {d : ℕ} (m : Node) (c s : Forest) (a b : Tree) → Says (inside j) d (tree m c none) a → Says (inside j) d s b
      → Says (inside j) d (tree m c s) (join (join_of (joint_node j)) a b)
  unfolding misnamed ground6 fourth append
  join-says j {d} m c s a b A B = record {
    core = λ r.
        place-joint (variables_at d) j a b (inside j) r ∙ merged j _ r
        ∙ ap (place letters (variables_at d) true a (inside j)) (B.core r) ∙ A.core (append s r);
    named = or-false _ _ A.named B.named;
    constants = or-false _ _ A.constants B.constants;
    shallow = or-false _ _ A.shallow B.shallow;
    depth = A.depth;
  }

  -- and below another node the join is the joint over its row
  joint-says : (j : Bool) (above : Node) {d : ℕ} (c : Forest) (a b : Tree) → may_nest (kind_number above) (kind_number (joint_node j)) ≡ true
      → Says (inside j) d c (join (join_of (joint_node j)) a b) → Says (above_of above) d (tree (joint_node j) c none) (join (join_of (joint_node j)) a b)
  unfolding append
  joint-says j above {d} c a b h A = record {
    core = λ s.
        let vars = variables_at d in
        place-joint vars j a b (above_of above) s ∙ stands j above _ s h
        ∙ ap (λ (x : Forest). tree (joint_node j) x s) (sym (place-joint vars j a b (inside j) none ∙ merged j _ none) ∙ A.core none ∙ append-none c);
    named = A.named;
    constants = A.constants;
    shallow = A.shallow;
    depth = A.depth;
  }

  -- a tree and its later siblings, which only a joint's child has
  beside-says : (above : Node) {d : ℕ} (m : Node) (c s : Forest) (a b : Tree) → Several (above_of above) (suc (tree_count s)) → Says (above_of above) d (tree m c none) a
      → (Several (above_of above) (tree_count s) → Says (above_of above) d s b) → Says (above_of above) d (tree m c s) (beside (join_of above) a s b)
  unfolding beside tree_count above_of Several
  beside-says above m c none a b h A B = A
  beside-says root m c (tree x y z) a b h A B = absurd (omega arith)
  beside-says all m c (tree x y z) a b h A B = absurd (omega arith)
  beside-says any m c (tree x y z) a b h A B = absurd (omega arith)
  beside-says and m c (tree x y z) a b h A B = unfold joint_node in join-says true m c (tree x y z) a b A (B (omega arith))
  beside-says or m c (tree x y z) a b h A B = unfold joint_node in join-says false m c (tree x y z) a b A (B (omega arith))
  beside-says (lit l) m c (tree x y z) a b h A B = absurd (omega arith)

  -- a joint has two children or more, so its tree is a join
  row-says : (j : Bool) (above : Node) {d : ℕ} (c : Forest) → may_nest (kind_number above) (kind_number (joint_node j)) ≡ true → 2 ≤ tree_count c
      → Says (inside j) d c (children_tree (joint_node j) c d) → Says (above_of above) d (tree (joint_node j) c none) (children_tree (joint_node j) c d)
  unfolding children_tree beside tree_count
  row-says j above none h k A = absurd (omega arith)
  row-says j above (tree x y none) h k A = absurd (omega arith)
  row-says j above (tree x y (tree z w r)) h k A = joint-says j above (tree x y (tree z w r)) _ _ h A

  -- a node over its children
  node-says : (above m : Node) (c : Forest) (d : ℕ) → inner_rule n m d ≡ true → d ≤ 3 → arity_rule (kind_number m) (tree_count c) ≡ true
      → may_nest (kind_number above) (kind_number m) ≡ true
      → (Several (above_of m) (tree_count c) → Says (above_of m) (child_depth m d) c (children_tree m c (child_depth m d)))
      → Says (above_of above) d (tree m c none) (node_tree m d (children_tree m c (child_depth m d)))
  unfolding inner_rule arity_rule kind_number above_of Several child_depth node_tree
  node-says above root c d h k r i A = absurd (false≢true h)
  node-says above all c d h k r i A = unfold quantifier_node in bind-says forall c _ (A (eqb-true _ 1 r))
  node-says above any c d h k r i A = unfold quantifier_node in bind-says exists c _ (A (eqb-true _ 1 r))
  node-says above and c d h k r i A = let l = leb-true 2 (tree_count c) r in unfold joint_node in row-says true above c i l (A (omega arith))
  node-says above or c d h k r i A = let l = leb-true 2 (tree_count c) r in unfold joint_node in row-says false above c i l (A (omega arith))
  node-says above (lit l) none d h k r i A = literal-says l h k
  node-says above (lit l) (tree x y z) d h k r i A = let e = literal-children l.test (suc (tree_count z)) (unfold tree_count in r) in absurd (omega arith)

  -- the children of a node
  children-says : (above : Node) (f : Forest) (d : ℕ) → every_node (node_rule n) f d ≡ true → nesting_rule (kind_number above) f ≡ true → Several (above_of above) (tree_count f)
      → Says (above_of above) d f (children_tree above f d)
  unfolding tree_count nesting_rule depth_rule children_tree
  children-says above none d h k r = absurd (several-some (above_of above) r)
  children-says above (tree m c s) d h k r =
      let e = every-node n m c s d h in
      beside-says above m c s _ _ r
      (enclosed-says (needs_brackets above m) _
      (node-says above m c d e.0 (leb-true d 3 e.1) e.2 (and_left (may_nest (kind_number above) (kind_number m)) _ k) (children-says m c (child_depth m d) e.4 e.3)))
      (children-says above s d e.5 (and_right (may_nest (kind_number above) (kind_number m)) _ k))

-- What the tree of a plan comes to: its core is the plan, and grounds 5 to 7 do not apply.
record SaysPlan (P : Plan) : Type 0 where
  core : plan_of P.ports (sets_of P) (tree_of P) ≡ P
  names : ground5 (sets_of P) (tree_of P) ≡ false
  constants : ground6 (tree_of P) ≡ false
  shallow : ground7 (tree_of P) ≡ false

-- the root's own tree is its child's
rooted-says : (u n : ℕ) (c : Forest) → RootedIs u n c → SaysPlan (rooted u n c)
unfolding plan_of core_of ground5 ground7 tree_of sets_of children_tree beside enclosed needs_brackets child_level own_level node_tree child_depth variables_at
rooted-says u n c r =
    let A : Says n alone 0 c (children_tree root c 0) = unfold above_of Several kind_number in children-says n root c 0 r.rules (nested-below-root c) r.one in
    record {
      core = λ i. record { ports = u; sets = sets-from-length (set_byte 0) n i; formula = tree root ((A.core none ∙ append-none c) i) none };
      names = or-false _ _ (well-declared (set_byte 0) n r.sets16) A.named;
      constants = A.constants;
      shallow = A.shallow;
    }

-- a plan that keeps its rules is rooted
plan-says : (P : Plan) → plan_rule P ≡ true → SaysPlan P
plan-says P h =
    let c = is-rooted P h in
    subst SaysPlan (sym c.1) (rooted-says P.ports P.sets c.0 (rooted-is P h))

-- the core of the written tree is the plan itself
pub plan-core : (P : Plan) → plan_rule P ≡ true → plan_of P.ports (sets_of P) (tree_of P) ≡ P
plan-core P h = (plan-says P h).core

-- ground 5: every letter is declared or bound, once
pub plan-names : (P : Plan) → plan_rule P ≡ true → ground5 (sets_of P) (tree_of P) ≡ false
plan-names P h = (plan-says P h).names

-- ground 6: no constant is above 64
pub plan-constants : (P : Plan) → plan_rule P ≡ true → ground6 (tree_of P) ≡ false
plan-constants P h = (plan-says P h).constants

-- ground 7: no quantifier is a fourth
pub plan-shallow : (P : Plan) → plan_rule P ≡ true → ground7 (tree_of P) ≡ false
plan-shallow P h = (plan-says P h).shallow

-- reading what is written refuses it on none of grounds 5 to 9
pub plan-free : (P : Plan) → plan_rule P ≡ true → refusal (core_grounds P.ports (sets_of P) (tree_of P)) ≡ 0
unfolding refusal core_grounds plan_of
plan-free P h =
    let F = plan-facts P h in
    let e : core_of (letters_of (sets_of P)) (tree_of P) ≡ P.formula = ap (λ (Q : Plan). Q.formula) (plan-core P h) in
    rw (plan-names P h, plan-constants P h, plan-shallow P h, e, le-ltb 512 (node_count P.formula) F.nodes512, le-ltb 1048576 (cell_count P.ports P.formula 0) (unfold own_cells in F.cells-most))
