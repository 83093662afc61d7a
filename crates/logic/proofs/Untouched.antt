-- A cell that a change does not touch has the same penalty under any two configurations that agree off the change on its literals.
-- Assumes nothing.
use mathlib.Core.Path.{◌≡◌, refl, ap, ap₂, ◌∙◌}
use mathlib.Core.Bool.{Bool, false, cond, not, ◌&&◌, ◌||◌}
use mathlib.Core.List.{List, ◌∷◌}
use Prim.Native.Nat.{ℕ, suc, ◌<◌}
use native.Mathlib.Omega.{arith}
use lib.ListN.{length}
use lib.Dec.{eqb, leb}
use borrow.Author.Tests.{leb-false, lt-leb, ne_eqb}
use Rattle.logic.specs.Formula.{Test, isin, notin, port, size, Node, root, all, any, and, or, lit, Forest, none, tree, child_depth}
use Rattle.logic.specs.Configuration.{Configuration, indicator}
use Rattle.logic.specs.Truth.{Tuple, port_of}
use Rattle.logic.specs.Penalty.{size_penalty, test_penalty, literal_penalty, combine, penalties, penalty}
use Rattle.logic.specs.Moves.{Pair}
use Rattle.logic.specs.Change.{some_of, Change, member_hit, hit, node_hit, forest_hit, touched}
use Rattle.logic.specs.inner.Agreement.{listed, AgreeOff, AgreeAt, AgreeOn}
use Rattle.logic.specs.inner.Literals.{Every, OfLiteral, OfTest, SetBelow, SetsBelow}
use Rattle.logic.proofs.Lists.{or_left, or_right, or-false, and-false, and_at, none_of, below-same}

-- a variable that is bound further out has the same value under one more port
pub port-out : (p : ℕ) (e : Tuple) (v : ℕ) → v < length e → port_of (p ∷ e) v ≡ port_of e v
unfolding port_of
port-out p e v h = ap (λ (b : Bool). cond b p (port_of e v)) (ne_eqb v (length e) (λ x. omega arith))

member-deeper : (v S p : ℕ) (e : Tuple) (q : Pair) → member_hit v S e q ≡ false → member_hit v S (p ∷ e) q ≡ false
unfolding member_hit
member-deeper v S p e q h = and-false (eqb S q.0) _ (λ s.
    let r = and_at (eqb S q.0) _ h s in
    let a : v < length e = leb-false (length e) v (or_left _ _ r) in
    or-false _ _ (lt-leb (suc (length e)) v (omega arith)) (ap (λ (w : ℕ). eqb w q.1) (port-out p e v a) ∙ or_right (leb (length e) v) _ r))

module _ (ch : Change) where
  hit-deeper : (t : Test) (p : ℕ) (e : Tuple) → hit ch t e ≡ false → hit ch t (p ∷ e) ≡ false
  unfolding hit
  hit-deeper (isin v S) p e h = none_of _ _ (member-deeper v S p e) ch.pairs h
  hit-deeper (notin v S) p e h = none_of _ _ (member-deeper v S p e) ch.pairs h
  hit-deeper (port r v w) p e h = refl
  hit-deeper (size r S c) p e h = h

  node-deeper : (n : Node) (p : ℕ) (e : Tuple) → node_hit ch n e ≡ false → node_hit ch n (p ∷ e) ≡ false
  unfolding node_hit
  node-deeper root p e h = refl
  node-deeper all p e h = refl
  node-deeper any p e h = refl
  node-deeper and p e h = refl
  node-deeper or p e h = refl
  node-deeper (lit l) p e h = hit-deeper l.test p e h

  pub forest-deeper : (f : Forest) (p : ℕ) (e : Tuple) → forest_hit ch f e ≡ false → forest_hit ch f (p ∷ e) ≡ false
  unfolding forest_hit
  forest-deeper none p e h = refl
  forest-deeper (tree n c s) p e h =
      let a = or_left (node_hit ch n e || forest_hit ch c e) _ h in
      or-false _ _ (or-false _ _ (node-deeper n p e (or_left _ _ a)) (forest-deeper c p e (or_right (node_hit ch n e) _ a)))
      (forest-deeper s p e (or_right (node_hit ch n e || forest_hit ch c e) _ h))

  module _ (k k' : Configuration) (sets : ℕ) (agree : AgreeOff sets ch k k') where
    not_listed : (v S : ℕ) (e : Tuple) (q : Pair) → member_hit v S e q ≡ false → (eqb S q.0 && eqb (port_of e v) q.1) ≡ false
    unfolding member_hit
    not_listed v S e q h = and-false (eqb S q.0) _ (λ s. or_right (leb (length e) v) _ (and_at (eqb S q.0) _ h s))

    member-same : (v S : ℕ) (e : Tuple) → S < sets → some_of (member_hit v S e) ch.pairs ≡ false → k'.member S (port_of e v) ≡ k.member S (port_of e v)
    unfolding listed
    member-same v S e l h = agree.members S (port_of e v) l (none_of _ _ (not_listed v S e) ch.pairs h)

    test-same : (t : Test) → SetBelow sets t → AgreeAt ch k k' t
    unfolding SetBelow AgreeAt hit test_penalty
    test-same (isin v S) l e h = ap (λ (b : Bool). indicator (not b)) (member-same v S e l h)
    test-same (notin v S) l e h = ap indicator (member-same v S e l h)
    test-same (port r v w) l e h = refl
    test-same (size r S c) l e h = ap (λ (s : ℕ). size_penalty r s c) (agree.sizes S l h)

    of_test : (n : Node) → OfTest (SetBelow sets) n → OfTest (AgreeAt ch k k') n
    unfolding OfLiteral
    of_test root l = tt
    of_test all l = tt
    of_test any l = tt
    of_test and l = tt
    of_test or l = tt
    of_test (lit t) l = test-same t.test l

    -- configurations that agree off the change on the sets of a forest's literals agree on these
    pub agree_on : (f : Forest) (d : ℕ) → SetsBelow sets f d → AgreeOn ch k k' f d
    unfolding SetsBelow AgreeOn Every
    agree_on none d l = tt
    agree_on (tree n c s) d l = (of_test n l.0, agree_on c (child_depth n d) l.1, agree_on s d l.2)

  module _ (u : ℕ) (k k' : Configuration) where
    combine-same : (n : Node) (e : Tuple) (vs : List ℕ) → OfTest (AgreeAt ch k k') n → node_hit ch n e ≡ false → combine k' n e vs ≡ combine k n e vs
    unfolding OfLiteral AgreeAt node_hit combine literal_penalty
    combine-same root e vs g h = refl
    combine-same all e vs g h = refl
    combine-same any e vs g h = refl
    combine-same and e vs g h = refl
    combine-same or e vs g h = refl
    combine-same (lit l) e vs g h = g e h

    penalties-same : (f : Forest) (d : ℕ) (e : Tuple) → AgreeOn ch k k' f d → forest_hit ch f e ≡ false → penalties u k' f e ≡ penalties u k f e
    unfolding AgreeOn Every forest_hit penalties
    penalties-same none d e g h = refl
    penalties-same (tree n c s) d e g h =
        let a = or_left (node_hit ch n e || forest_hit ch c e) _ h in
        let r = or_right (node_hit ch n e) _ a in
        let i = child_depth n d in
        ap₂ ◌∷◌
        (combine-same n e _ g.0 (or_left _ _ a)
        ∙ ap (combine k n e) (below-same u n e _ _ (penalties-same c i e g.1 r) (λ p. penalties-same c i (p ∷ e) g.1 (forest-deeper c p e r))))
        (penalties-same s d e g.2 (or_right (node_hit ch n e || forest_hit ch c e) _ h))

    pub untouched-same : (n : Node) (c : Forest) (d : ℕ) (e : Tuple) → OfTest (AgreeAt ch k k') n → AgreeOn ch k k' c d → touched ch n c e ≡ false
        → penalty u k' n c e ≡ penalty u k n c e
    unfolding touched penalty
    untouched-same n c d e g G a =
        let r = or_right (node_hit ch n e) _ a in
        combine-same n e _ g (or_left _ _ a)
        ∙ ap (combine k n e) (below-same u n e _ _ (penalties-same c d e G r) (λ p. penalties-same c d (p ∷ e) G (forest-deeper c p e r)))
