-- "its stored core formula is true under the same configurations as the text" (demand 2), for any depth. Assumes nothing.
use mathlib.Core.Path.{◌≡◌, refl, ap, ◌∙◌}
use mathlib.Core.Logic.{◌⊎◌, inl, inr, ◌↔◌}
use mathlib.Core.Bool.{Bool, true, false, cond, not, ◌||◌}
use mathlib.Core.List.{List, [], ◌∷◌}
use Prim.Native.Nat.{ℕ, suc, ◌<◌}
use native.Mathlib.Decide.{ℕ_discrete}
use native.Mathlib.Omega.{arith}
use lib.Dec.{eqb}
use lib.ListN.{length}
use borrow.Author.Tests.{ne_eqb, eq-eqb, not-false}
use Rattle.logic.specs.Formula.{Relation, lt, le, eq, ne, ge, gt, Test, isin, notin, port, size, literal_of, Node, and, or, lit, Forest, none, tree}
use Rattle.logic.specs.Configuration.{Configuration}
use Rattle.logic.specs.Change.{some_of}
use Rattle.logic.specs.Truth.{Tuple, port_of, Related, TestTrue, Asked, every, some, first, NodeTrue, ForestTrue, PlanTrue}
use Rattle.logic.proofs.Lists.{or_left, or_right}
use Rattle.text_tree.specs.Tree.{Quantifier, forall, exists, Tree, leaf, neg, par, bind, join, Declared, letters_of}
use Rattle.text_core.specs.Names.{among, set_number, variable_number, misnamed_test, misdeclared, misnamed, ground5}
use Rattle.text_core.specs.Meaning.{Binding, value_of, LeafTrue, BindTrue, TreeTrue}
use Rattle.text_core.specs.Core.{alone, inside, joint_node, Part, joint, two, quantifier_node, opposite, relation_at, member_at, test_at, literal_at, place, core_of, plan_of}
use Rattle.text_core.proofs.Decided.{Signed, Both, iff-trans, both-same, neg-law, joined, join-law, Ports, bind-law, false-law, true-law, tree-dec}

abbrev pub letters : List Binding → List ℕ
letters [] = []
letters (b ∷ env) = b.0 ∷ letters env

abbrev ports : List Binding → Tuple
ports [] = []
ports (b ∷ env) = b.1 ∷ ports env

ports-length : (env : List Binding) → length (ports env) ≡ length (letters env)
ports-length [] = refl
ports-length (b ∷ env) = ap suc (ports-length env)

-- a bound letter's number is below the depth
pub variable-below : (vars : List ℕ) (v : ℕ) → among vars v ≡ true → variable_number vars v < length vars
unfolding among some_of variable_number
variable-below [] v h = let z : ◌≡◌ {A = ℕ} 0 1 = cc in absurd (omega arith)
variable-below (x ∷ xs) v h = go (eqb v x) h (variable-below xs v)
  where
    go : (b : Bool) → (b || some_of (eqb v) xs) ≡ true → (some_of (eqb v) xs ≡ true → variable_number xs v < length xs)
        → cond b (length xs) (variable_number xs v) < suc (length xs)
    go true h f = omega arith
    go false h f = let l = f h in omega arith

port-inner : (p : ℕ) (e : Tuple) (i : ℕ) → i < length e → port_of (p ∷ e) i ≡ port_of e i
unfolding port_of
port-inner p e i h = rw (ne_eqb i (length e) (λ x. omega arith))

port-here : (p : ℕ) (e : Tuple) (i : ℕ) → i ≡ length e → port_of (p ∷ e) i ≡ p
unfolding port_of
port-here p e i h = rw (eq-eqb i (length e) h)

-- the number of a bound letter finds the letter's port
variable-port : (env : List Binding) (v : ℕ) → among (letters env) v ≡ true → port_of (ports env) (variable_number (letters env) v) ≡ value_of env v
unfolding among some_of variable_number value_of
variable-port [] v h = let z : ◌≡◌ {A = ℕ} 0 1 = cc in absurd (omega arith)
variable-port (b ∷ env) v h = go (eqb v b.0) h (variable-port env v) (variable-below (letters env) v)
  where
    go : (t : Bool) → (t || some_of (eqb v) (letters env)) ≡ true
        → (some_of (eqb v) (letters env) ≡ true → port_of (ports env) (variable_number (letters env) v) ≡ value_of env v)
        → (some_of (eqb v) (letters env) ≡ true → variable_number (letters env) v < length (letters env))
        → port_of (b.1 ∷ ports env) (cond t (length (letters env)) (variable_number (letters env) v)) ≡ cond t b.1 (value_of env v)
    go true h f g = port-here b.1 (ports env) _ (omega (arith, ports-length env))
    go false h f g = port-inner b.1 (ports env) _ (omega (arith, ports-length env, g h)) ∙ f h

-- equality of numbers is decided
stable : (a b : ℕ) → ((a ≡ b → ⊥) → ⊥) → a ≡ b
stable a b h = elim (ℕ_discrete a b) [ yes e ↦ e | no f ↦ absurd (h f) ]

relation-law : (p : Bool) (r : Relation) (a b : ℕ) → Related (relation_at p r) a b ↔ Signed p (Related r a b)
unfolding relation_at opposite Related
relation-law true r a b = (λ h. h, λ h. h)
relation-law false lt a b = (λ h f. omega arith, λ h. omega arith)
relation-law false le a b = (λ h f. omega arith, λ h. omega arith)
relation-law false eq a b = (λ h. h, λ h. h)
relation-law false ne a b = (λ h f. f h, λ h. stable a b h)
relation-law false ge a b = (λ h f. omega arith, λ h. omega arith)
relation-law false gt a b = (λ h f. omega arith, λ h. omega arith)

module _ (k : Configuration) where
  member-law : (p : Bool) (v S : ℕ) (e : Tuple) (b : Bool) → k.member S (port_of e v) ≡ b → TestTrue k (member_at p v S) e ↔ Signed p (b ≡ true)
  unfolding member_at TestTrue
  member-law true v S e b h = rw h (λ x. x, λ x. x)
  member-law false v S e b h = rw h (false-law b)

  outside-law : (p : Bool) (v S : ℕ) (e : Tuple) (b : Bool) → k.member S (port_of e v) ≡ b → TestTrue k (member_at (not p) v S) e ↔ Signed p (b ≡ false)
  unfolding member_at TestTrue
  outside-law true v S e b h = rw h (λ x. x, λ x. x)
  outside-law false v S e b h = rw h (true-law b)

  test-law : (sets : List ℕ) (env : List Binding) (p : Bool) (t : Test) → misnamed_test sets (letters env) t ≡ false
      → TestTrue k (test_at sets (letters env) p t) (ports env) ↔ Signed p (LeafTrue k sets env t)
  unfolding misnamed_test test_at LeafTrue TestTrue
  test-law sets env p (isin v S) h =
      member-law p _ _ _ _ (ap (k.member (set_number sets S)) (variable-port env v (not-false _ (or_left _ _ h))))
  test-law sets env p (notin v S) h =
      outside-law p _ _ _ _ (ap (k.member (set_number sets S)) (variable-port env v (not-false _ (or_left _ _ h))))
  test-law sets env p (port r v w) h =
      rw (variable-port env v (not-false _ (or_left _ _ h)), variable-port env w (not-false _ (or_right (not (among (letters env) v)) _ h)))
      (relation-law p r (value_of env v) (value_of env w))
  test-law sets env p (size r S c) h = relation-law p r (k.size (set_number sets S)) c

module _ (u : ℕ) (k : Configuration) where
  -- a part of the core says A at the tuple e, whatever stands above it
  record Means (F : Part) (A : Type 0) (e : Tuple) : Type 0 where
    each : (s : Forest) → ForestTrue u k (F (inside true) s) every e ↔ (A × ForestTrue u k s every e)
    one : (s : Forest) → ForestTrue u k (F (inside false) s) some e ↔ (A ⊎ ForestTrue u k s some e)
    lone : (m : Asked) → ForestTrue u k (F alone none) m e ↔ A

  means-same : {F : Part} {A B : Type 0} {e : Tuple} → Means F A e → A ↔ B → Means F B e
  means-same M f = record {
    each = λ s. iff-trans (M.each s) (both-same true f (λ x. x, λ x. x));
    one = λ s. iff-trans (M.one s) (both-same false f (λ x. x, λ x. x));
    lone = λ m. iff-trans (M.lone m) f;
  }

  -- a tree, as the last of a forest or before others
  lone-tree : (n : Node) (c : Forest) (m : Asked) (e : Tuple) → ForestTrue u k (tree n c none) m e ↔ NodeTrue u k n (ForestTrue u k c) e
  unfolding ForestTrue
  lone-tree n c every e = (λ h. h.0, λ h. (h, tt))
  lone-tree n c some e = (λ h. elim h [ inl a ↦ a | inr b ↦ absurd b ], λ h. inl h)
  lone-tree n c first e = (λ h. h, λ h. h)

  each-tree : (n : Node) (c s : Forest) (A : Type 0) (e : Tuple) → NodeTrue u k n (ForestTrue u k c) e ↔ A
      → ForestTrue u k (tree n c s) every e ↔ (A × ForestTrue u k s every e)
  unfolding ForestTrue
  each-tree n c s A e f = both-same true f (λ x. x, λ x. x)

  one-tree : (n : Node) (c s : Forest) (A : Type 0) (e : Tuple) → NodeTrue u k n (ForestTrue u k c) e ↔ A
      → ForestTrue u k (tree n c s) some e ↔ (A ⊎ ForestTrue u k s some e)
  unfolding ForestTrue
  one-tree n c s A e f = both-same false f (λ x. x, λ x. x)

  tree-means : (n : Node) (c : Forest) (A : Type 0) (e : Tuple) → NodeTrue u k n (ForestTrue u k c) e ↔ A → Means (λ above s. tree n c s) A e
  tree-means n c A e f = record {
    each = λ s. each-tree n c s A e f;
    one = λ s. one-tree n c s A e f;
    lone = λ m. iff-trans (lone-tree n c m e) f;
  }

  -- "and" in "and" and "or" in "or" may be merged
  and-means : (F G : Part) (A B : Type 0) (e : Tuple) → Means F A e → Means G B e → NodeTrue u k and (ForestTrue u k (F (inside true) (G (inside true) none))) e ↔ (A × B)
  unfolding NodeTrue ForestTrue
  and-means F G A B e M N = iff-trans (M.each _) (iff-trans (both-same true (λ x. x, λ x. x) (N.each none)) ((λ h. (h.0, h.1.0)), (λ h. (h.0, (h.1, tt)))))

  or-means : (F G : Part) (A B : Type 0) (e : Tuple) → Means F A e → Means G B e → NodeTrue u k or (ForestTrue u k (F (inside false) (G (inside false) none))) e ↔ (A ⊎ B)
  unfolding NodeTrue ForestTrue
  or-means F G A B e M N = iff-trans (M.one _) (both-same false (λ x. x, λ x. x) (iff-trans (N.one none) ((λ h. elim h [ inl a ↦ a | inr b ↦ absurd b ]), (λ h. inl h))))

  two-means : (j : Bool) (F G : Part) (A B : Type 0) (e : Tuple) → Means F A e → Means G B e → Means (two j F G) (Both j A B) e
  unfolding two joint joint_node
  two-means true F G A B e M N =
      let f = and-means F G A B e M N in record {
        each = λ s. iff-trans (M.each _) (iff-trans (both-same true (λ x. x, λ x. x) (N.each s)) ((λ h. ((h.0, h.1.0), h.1.1)), (λ h. (h.0.0, (h.0.1, h.1)))));
        one = λ s. one-tree and _ s (A × B) e f;
        lone = λ m. iff-trans (lone-tree and _ m e) f;
      }
  two-means false F G A B e M N =
      let f = or-means F G A B e M N in record {
        each = λ s. each-tree or _ s (A ⊎ B) e f;
        one = λ s. iff-trans (M.one _) (iff-trans (both-same false (λ x. x, λ x. x) (N.one s)) (
          (λ h. elim h [ inl a ↦ inl (inl a) | inr x ↦ elim x [ inl b ↦ inl (inr b) | inr c ↦ inr c ] ]),
          (λ h. elim h [ inl x ↦ elim x [ inl a ↦ inl a | inr b ↦ inr (inl b) ] | inr c ↦ inr (inr c) ]),
        ));
        lone = λ m. iff-trans (lone-tree or _ m e) f;
      }

  ports-means : (i : Bool) (q : Quantifier) (c : Forest) (A : ℕ → Type 0) (e : Tuple) → ((p : ℕ) (m : Asked) → ForestTrue u k c m (p ∷ e) ↔ A p)
      → NodeTrue u k (quantifier_node i q) (ForestTrue u k c) e ↔ Ports i q u A
  unfolding quantifier_node NodeTrue BindTrue
  ports-means true forall c A e f = (λ h p l. (f p every).0 (h p l), λ h p l. (f p every).1 (h p l))
  ports-means true exists c A e f = (λ h. (h.0, h.1, (f h.0 some).0 h.2), λ h. (h.0, h.1, (f h.0 some).1 h.2))
  ports-means false forall c A e f = (λ h. (h.0, h.1, (f h.0 some).0 h.2), λ h. (h.0, h.1, (f h.0 some).1 h.2))
  ports-means false exists c A e f = (λ h p l. (f p every).0 (h p l), λ h p l. (f p every).1 (h p l))

  module _ (sets : List ℕ) where
    place-means : (env : List Binding) (p : Bool) (a : Tree) → misnamed sets (letters env) a ≡ false
        → Means (place sets (letters env) p a) (Signed p (TreeTrue u k sets env a)) (ports env)
    unfolding place misnamed TreeTrue NodeTrue literal_at literal_of
    place-means env p (leaf l) h = tree-means (lit (literal_at sets (letters env) p l)) none _ (ports env) (test-law k sets env p l.test h)
    place-means env p (neg a) h = means-same (place-means env (not p) a h) (neg-law p (tree-dec u k sets env a))
    place-means env p (par a) h = place-means env p a h
    place-means env p (bind q v a) h =
        tree-means (quantifier_node p q) (place sets (v ∷ letters env) p a alone none) _ (ports env)
        (iff-trans
        (ports-means p q _ (λ x. Signed p (TreeTrue u k sets ((v, x) ∷ env) a)) (ports env) (λ x. (place-means ((v, x) ∷ env) p a (or_right (among (letters env) v) _ h)).lone))
        (bind-law q p u (λ x. TreeTrue u k sets ((v, x) ∷ env) a) (λ x. tree-dec u k sets ((v, x) ∷ env) a)))
    place-means env p (join j a b) h =
        means-same
        (joined (λ F A. Means F A (ports env)) two Both (λ i F G A B. two-means i F G A B (ports env)) j p _ _ (λ i. Signed i (TreeTrue u k sets env a)) (λ i. Signed i (TreeTrue u k sets env b))
        (λ i. place-means env i a (or_left _ _ h)) (λ i. place-means env i b (or_right (misnamed sets (letters env) a) _ h)))
        (join-law j p (tree-dec u k sets env a) (tree-dec u k sets env b))

    -- the core of a text is true exactly when the text is
    pub core-true : (a : Tree) → misnamed sets [] a ≡ false → ForestTrue u k (core_of sets a) first [] ↔ TreeTrue u k sets [] a
    unfolding core_of ForestTrue NodeTrue
    core-true a h = (place-means [] true a h).lone first

-- "its stored core formula is true under the same configurations as the text": where ground 5 does not apply
pub plan-true : (u : ℕ) (k : Configuration) (sets : List Declared) (a : Tree) → ground5 sets a ≡ false → PlanTrue (plan_of u sets a) k ↔ TreeTrue u k (letters_of sets) [] a
unfolding PlanTrue plan_of ground5
plan-true u k sets a h = core-true u k (letters_of sets) a (or_right (misdeclared sets) _ h)
