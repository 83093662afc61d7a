-- A cell of a node that is no literal is touched exactly when a cell directly below it is; a change of several pairs touches
-- what one of its pairs touches. Assumes nothing.
use mathlib.Core.Path.{◌≡◌, refl, sym, ap, ap₂, ◌∙◌}
use mathlib.Core.Logic.{inl, inr}
use mathlib.Core.Bool.{Bool, true, false, cond, ◌&&◌, ◌||◌, false≢true}
use mathlib.Core.List.{List, [], ◌∷◌}
use Prim.Native.Nat.{ℕ, zero, suc, ◌≤◌, ◌<◌}
use native.Mathlib.Decide.{dec_lt, ℕ_discrete}
use native.Mathlib.Omega.{arith}
use lib.Dec.{eqb, leb}
use lib.ListN.{length}
use borrow.Author.Tests.{le-leb, lt-leb, eq-eqb}
use Rattle.logic.specs.Formula.{Test, isin, notin, port, size, Node, root, all, any, and, or, lit, Forest, none, tree}
use Rattle.logic.specs.Truth.{Tuple, port_of}
use Rattle.logic.specs.Penalty.{each_port, below}
use Rattle.logic.specs.Moves.{Pair}
use Rattle.logic.specs.Change.{some_of, Change, pairs_change, member_hit, hit, node_hit, forest_hit, touched}
use Rattle.logic.proofs.Lists.{or_cases, or-true-left, or_true_right, and_left, and_right, and-true, same_test, some-append, some_same}
use Rattle.logic.proofs.Untouched.{port-out, forest-deeper}

-- which trees of a forest are touched at a tuple
unfoldable pub trees_touched : Change → Forest → Tuple → List Bool
trees_touched ch none e = []
trees_touched ch (tree n c s) e = touched ch n c e ∷ trees_touched ch s e

abbrev one : List Bool → Bool
one bs = some_of (λ (b : Bool). b) bs

-- every pair's port is a port
unfoldable pub PortsBelow : ℕ → List Pair → Type 0
PortsBelow u [] = Unit {0}
PortsBelow u (q ∷ qs) = (q.1 < u) × PortsBelow u qs

-- a node that is no literal
unfoldable pub Inner : Node → Type 0
Inner root = Unit {0}
Inner all = Unit {0}
Inner any = Unit {0}
Inner and = Unit {0}
Inner or = Unit {0}
Inner (lit l) = ⊥

trees-hit : (ch : Change) (f : Forest) (e : Tuple) → forest_hit ch f e ≡ one (trees_touched ch f e)
unfolding forest_hit trees_touched touched some_of
trees-hit ch none e = refl
trees-hit ch (tree n c s) e = ap (λ (b : Bool). (node_hit ch n e || forest_hit ch c e) || b) (trees-hit ch s e)

some-port : (u : ℕ) (g : ℕ → List Bool) (p : ℕ) → p < u → one (g p) ≡ true → one (each_port u g) ≡ true
unfolding each_port
some-port zero g p h e = absurd (omega arith)
some-port (suc u) g p h e = some-append (λ (b : Bool). b) (each_port u g) (g u) ∙ go (ℕ_discrete p u) (λ l. some-port u g p l e)
  where
    go : Dec (p ≡ u) → (p < u → one (each_port u g) ≡ true) → (one (each_port u g) || one (g u)) ≡ true
    go (yes i) f = or_true_right (one (each_port u g)) _ (ap (λ (x : ℕ). one (g x)) (sym i) ∙ e)
    go (no i) f = or-true-left _ (one (g u)) (f (omega arith))

port-some : (u : ℕ) (g : ℕ → List Bool) → one (each_port u g) ≡ true → (p : ℕ) × (p < u) × (one (g p) ≡ true)
unfolding each_port some_of
port-some zero g h = absurd (false≢true h)
port-some (suc u) g h =
    elim (or_cases (one (each_port u g)) (one (g u)) (sym (some-append (λ (b : Bool). b) (each_port u g) (g u)) ∙ h)) [
      | inl a ↦ let r = port-some u g a in (r.0, (omega arith), r.2)
      | inr a ↦ (u, (omega arith), a)
    ]

port-last : (p : ℕ) (e : Tuple) → port_of (p ∷ e) (length e) ≡ p
unfolding port_of
port-last p e = ap (λ (b : Bool). cond b p (port_of e (length e))) (eq-eqb (length e) (length e) refl)

module _ (u : ℕ) (u1 : 1 ≤ u) where
  -- what is hit at a tuple is hit under one of the ports
  member-port : (v S : ℕ) (e : Tuple) (q : Pair) → q.1 < u → member_hit v S e q ≡ true → (p : ℕ) × (p < u) × (member_hit v S (p ∷ e) q ≡ true)
  unfolding member_hit
  member-port v S e q l h = go (dec_lt v (length e)) (ℕ_discrete v (length e))
    where
      s : eqb S q.0 ≡ true
      s = and_left (eqb S q.0) _ h

      r : (leb (length e) v || eqb (port_of e v) q.1) ≡ true
      r = and_right (eqb S q.0) _ h

      port-case : v < length e → eqb (port_of e v) q.1 ≡ true
      port-case a = elim (or_cases (leb (length e) v) _ r) [ inl b ↦ absurd (false≢true (sym (lt-leb (length e) v a) ∙ b)) | inr b ↦ b ]

      go : Dec (v < length e) → Dec (v ≡ length e)
          → (p : ℕ) × (p < u) × ((eqb S q.0 && (leb (length (p ∷ e)) v || eqb (port_of (p ∷ e) v) q.1)) ≡ true)
      go (yes a) i =
          (0, u1, and-true _ _ s (or_true_right (leb (suc (length e)) v) _ (ap (λ (w : ℕ). eqb w q.1) (port-out 0 e v a) ∙ port-case a)))
      go (no a) (yes i) = (
        q.1,
        l,
        and-true _ _ s (or_true_right (leb (suc (length e)) v) _
            (eq-eqb (port_of (q.1 ∷ e) v) q.1 (ap (port_of (q.1 ∷ e)) i ∙ port-last q.1 e))),
      )
      go (no a) (no i) = (0, u1, and-true _ _ s (or-true-left (leb (suc (length e)) v) _ (le-leb (suc (length e)) v (omega arith))))

  pairs-port : (v S : ℕ) (e : Tuple) (qs : List Pair) → PortsBelow u qs → some_of (member_hit v S e) qs ≡ true
      → (p : ℕ) × (p < u) × (some_of (member_hit v S (p ∷ e)) qs ≡ true)
  unfolding some_of PortsBelow
  pairs-port v S e [] l h = absurd (false≢true h)
  pairs-port v S e (q ∷ qs) l h = elim (or_cases (member_hit v S e q) _ h) [
    | inl a ↦ let r = member-port v S e q l.0 a in (r.0, r.1, or-true-left (member_hit v S (r.0 ∷ e) q) _ r.2)
    | inr a ↦ let r = pairs-port v S e qs l.1 a in (r.0, r.1, or_true_right (member_hit v S (r.0 ∷ e) q) _ r.2)
  ]

  module _ (ch : Change) (ports : PortsBelow u ch.pairs) where
    test-port : (t : Test) (e : Tuple) → hit ch t e ≡ true → (p : ℕ) × (p < u) × (hit ch t (p ∷ e) ≡ true)
    unfolding hit
    test-port (isin v S) e h = pairs-port v S e ch.pairs ports h
    test-port (notin v S) e h = pairs-port v S e ch.pairs ports h
    test-port (port r v w) e h = absurd (false≢true h)
    test-port (size r S c) e h = (0, u1, h)

    node-port : (n : Node) (e : Tuple) → node_hit ch n e ≡ true → (p : ℕ) × (p < u) × (node_hit ch n (p ∷ e) ≡ true)
    unfolding node_hit
    node-port root e h = absurd (false≢true h)
    node-port all e h = absurd (false≢true h)
    node-port any e h = absurd (false≢true h)
    node-port and e h = absurd (false≢true h)
    node-port or e h = absurd (false≢true h)
    node-port (lit l) e h = test-port l.test e h

    forest-port : (f : Forest) (e : Tuple) → forest_hit ch f e ≡ true → (p : ℕ) × (p < u) × (forest_hit ch f (p ∷ e) ≡ true)
    unfolding forest_hit
    forest-port none e h = absurd (false≢true h)
    forest-port (tree n c s) e h = elim (or_cases (node_hit ch n e || forest_hit ch c e) _ h) [
      | inl a ↦ elim (or_cases (node_hit ch n e) _ a) [
        | inl b ↦ let r = node-port n e b in
            (r.0, r.1, or-true-left _ _ (or-true-left (node_hit ch n (r.0 ∷ e)) (forest_hit ch c (r.0 ∷ e)) r.2))
        | inr b ↦ let r = forest-port c e b in
            (r.0, r.1, or-true-left _ _ (or_true_right (node_hit ch n (r.0 ∷ e)) (forest_hit ch c (r.0 ∷ e)) r.2))
      ]
      | inr a ↦ let r = forest-port s e a in
          (r.0, r.1, or_true_right (node_hit ch n (r.0 ∷ e) || forest_hit ch c (r.0 ∷ e)) _ r.2)
    ]

    not-false-true : (b : Bool) → (b ≡ false → ⊥) → b ≡ true
    not-false-true true h = refl
    not-false-true false h = absurd (h refl)

    ports-hit : (c : Forest) (e : Tuple) → forest_hit ch c e ≡ one (each_port u (λ p. trees_touched ch c (p ∷ e)))
    ports-hit c e = same_test (forest_hit ch c e) _
        (λ h. let r = forest-port c e h in some-port u (λ p. trees_touched ch c (p ∷ e)) r.0 r.1 (sym (trees-hit ch c (r.0 ∷ e)) ∙ r.2))
        (λ h. let r = port-some u (λ p. trees_touched ch c (p ∷ e)) h in
        not-false-true (forest_hit ch c e) (λ z. false≢true (sym (forest-deeper ch c r.0 e z) ∙ trees-hit ch c (r.0 ∷ e) ∙ r.2)))

    pub touched-below : (n : Node) (c : Forest) (e : Tuple) → Inner n → touched ch n c e ≡ some_of (λ (b : Bool). b) (below u n e (trees_touched ch c))
    unfolding touched node_hit below Inner
    touched-below root c e i = trees-hit ch c e
    touched-below all c e i = ports-hit c e
    touched-below any c e i = ports-hit c e
    touched-below and c e i = trees-hit ch c e
    touched-below or c e i = trees-hit ch c e
    touched-below (lit l) c e i = absurd i

-- "A move touches the cells that one of its pairs touches."
module _ {A : Type 0} where
  some-none : (xs : List A) → false ≡ some_of (λ (x : A). false) xs
  unfolding some_of
  some-none [] = refl
  some-none (x ∷ xs) = some-none xs

  some-either : (f g : A → Bool) (xs : List A) → (some_of f xs || some_of g xs) ≡ some_of (λ x. f x || g x) xs
  unfolding some_of
  some-either f g [] = refl
  some-either f g (x ∷ xs) = go (f x) (g x) (some_of f xs) (some_of g xs) ∙ ap (λ (b : Bool). (f x || g x) || b) (some-either f g xs)
    where
      go : (a b c d : Bool) → ((a || c) || (b || d)) ≡ ((a || b) || (c || d))
      go true b c d = refl
      go false true true d = refl
      go false true false d = refl
      go false false true d = refl
      go false false false d = refl

or_nothing : (b : Bool) → b ≡ (b || false)
or_nothing true = refl
or_nothing false = refl

abbrev by_pair : Pair → Change
by_pair q = pairs_change (q ∷ [])

module _ (qs : List Pair) where
  test-pairs : (t : Test) (e : Tuple) → hit (pairs_change qs) t e ≡ some_of (λ q. hit (by_pair q) t e) qs
  unfolding hit pairs_change some_of
  test-pairs (isin v S) e = some_same _ _ qs (λ q d. or_nothing (member_hit v S e q))
  test-pairs (notin v S) e = some_same _ _ qs (λ q d. or_nothing (member_hit v S e q))
  test-pairs (port r v w) e = some-none qs
  test-pairs (size r S c) e = some_same _ _ qs (λ q d. or_nothing (eqb S q.0))

  node-pairs : (n : Node) (e : Tuple) → node_hit (pairs_change qs) n e ≡ some_of (λ q. node_hit (by_pair q) n e) qs
  unfolding node_hit
  node-pairs root e = some-none qs
  node-pairs all e = some-none qs
  node-pairs any e = some-none qs
  node-pairs and e = some-none qs
  node-pairs or e = some-none qs
  node-pairs (lit l) e = test-pairs l.test e

  forest-pairs : (f : Forest) (e : Tuple) → forest_hit (pairs_change qs) f e ≡ some_of (λ q. forest_hit (by_pair q) f e) qs
  unfolding forest_hit
  forest-pairs none e = some-none qs
  forest-pairs (tree n c s) e =
      ap₂ ◌||◌ (ap₂ ◌||◌ (node-pairs n e) (forest-pairs c e)) (forest-pairs s e)
      ∙ ap (λ (b : Bool). b || some_of (λ q. forest_hit (by_pair q) s e) qs) (some-either _ _ qs)
      ∙ some-either _ _ qs

  pub touched-pairs : (n : Node) (c : Forest) (e : Tuple)
      → touched (pairs_change qs) n c e ≡ some_of (λ q. touched (pairs_change (q ∷ [])) n c e) qs
  unfolding touched
  touched-pairs n c e = ap₂ ◌||◌ (node-pairs n e) (forest-pairs c e) ∙ some-either _ _ qs
