-- The words of a row's cells, by the ports of their variables. Assumes nothing.
use mathlib.Core.Path.{◌≡◌, refl, sym, ap, ap₂, ◌∙◌, subst}
use mathlib.Core.Logic.{◌≢◌, inl, inr}
use mathlib.Core.Bool.{Bool, true, false, cond, ◌&&◌, ◌||◌, true≢false, false≢true}
use mathlib.Core.List.{List, ◌∷◌}
use Prim.Native.Nat.{ℕ, zero, suc, ◌+◌, ◌*◌, ◌≤◌, ◌<◌}
use native.Mathlib.Omega.{arith}
use native.Mathlib.Decide.{ℕ_discrete}
use lib.Bits.{bit_and, bit_or}
use lib.Dec.{eqb, ltb}
use lib.ListN.{get_or}
use borrow.Author.Tests.{eq-eqb, ne_eqb, eqb-true, lt-ltb, ltb-true}
use Rattle.logic.specs.Formula.{Test, isin, notin, port, size, Node, root, all, any, and, or, lit, Forest, none, tree, child_depth}
use Rattle.logic.specs.inner.Literals.{Every, OfLiteral}
use Rattle.logic.specs.Configuration.{in_mask}
use Rattle.logic.specs.Truth.{Tuple, port_of}
use Rattle.logic.specs.Change.{Change}
use Rattle.logic.proofs.Lists.{or_cases, and-true, and-false}
use Rattle.table_format.specs.inner.Index.{test_uses, node_uses, forest_uses}
use Rattle.cells_touch.specs.inner.Hits.{meets, level}
use Rattle.cells_touch.proofs.Bits.{in_and, in-or, in-zero, in-power, bit-meets}
use Rattle.cells_touch.proofs.Touching.{in-level}
use Rattle.cells_walk.specs.inner.Nodes.{IndexHolds, TestFits, NodeFits, Fitting}
use Rattle.cells_atoms.specs.inner.Ports.{at_one}
use Rattle.cells_atoms.proofs.Alike.{or-none}
use Rattle.cells_flip.specs.inner.Flips.{WordFor, Flat, FlipVisit}
use Rattle.cells_flip.proofs.Words.{same-level}
use Rattle.cells_ports.specs.inner.Ports.{Words, Resizes, FlipsAt}
use Rattle.cells_ports.specs.inner.Rows.{digit, level_if, port_levels, tests_outside}

-- The bits of the variables outside a row that have a port.
in-level-if : (d digits x v S w : ℕ) → v < 3 → S < 16 → w < 4 → in_mask (level_if d digits x v) (4 * S + w) ≡ ((ltb v d && eqb (digit digits v) x) && eqb w v)
unfolding level_if
in-level-if d digits x v S w h k l = go (ltb v d && eqb (digit digits v) x)
  where
    go : (b : Bool) → in_mask (cond b (level v) 0) (4 * S + w) ≡ (b && eqb w v)
    go true = in-level v S w h k l
    go false = in-zero (4 * S + w)

pub not-below : (v d : ℕ) → d ≤ v → ltb v d ≡ false
not-below v d h = go (ltb v d) refl
  where
    go : (b : Bool) → ltb v d ≡ b → b ≡ false
    go true i = absurd (omega (arith, ltb-true v d i))
    go false i = refl

in-port-levels : (d digits x S v : ℕ) → d ≤ 2 → S < 16 → v < 3 → in_mask (port_levels d digits x) (4 * S + v) ≡ (ltb v d && eqb (digit digits v) x)
unfolding port_levels
in-port-levels d digits x S v h k l =
    in-or (level_if d digits x 0) (level_if d digits x 1) (4 * S + v)
    ∙ ap₂ ◌||◌ (in-level-if d digits x 0 S v (omega arith) k (omega arith)) (in-level-if d digits x 1 S v (omega arith) k (omega arith))
    ∙ go (λ y. ltb y d && eqb (digit digits y) x) (ap (λ (a : Bool). a && eqb (digit digits 2) x) (not-below 2 d h)) v l
  where
    first : (a b : Bool) → ((a && true) || (b && false)) ≡ a
    first true b = refl
    first false true = refl
    first false false = refl

    second : (a b : Bool) → ((a && false) || (b && true)) ≡ b
    second true true = refl
    second true false = refl
    second false true = refl
    second false false = refl

    neither : (a b : Bool) → ((a && false) || (b && false)) ≡ false
    neither true true = refl
    neither true false = refl
    neither false true = refl
    neither false false = refl

    go : (p : ℕ → Bool) → p 2 ≡ false → (v : ℕ) → v < 3 → ((p 0 && eqb v 0) || (p 1 && eqb v 1)) ≡ p v
    go p q zero i = first (p 0) (p 1)
    go p q (suc zero) i = second (p 0) (p 1)
    go p q (suc (suc zero)) i = neither (p 0) (p 1) ∙ sym q
    go p q (suc (suc (suc v))) i = absurd (omega arith)

-- A flat tree uses only variables that are bound above it.
UsesBelow : ℕ → ℕ → Type 0
UsesBelow d a = (S v : ℕ) → v < 3 → in_mask a (4 * S + v) ≡ true → v < d

none-used : (d : ℕ) → UsesBelow d 0
unfolding UsesBelow
none-used d S v l h = absurd (false≢true (sym (in-zero (4 * S + v)) ∙ h))

both_used : (d a b : ℕ) → UsesBelow d a → UsesBelow d b → UsesBelow d (bit_or a b)
unfolding UsesBelow
both_used d a b f g S v l h = elim (or_cases (in_mask a (4 * S + v)) (in_mask b (4 * S + v)) (sym (in-or a b (4 * S + v)) ∙ h)) [
  | inl x ↦ f S v l x
  | inr x ↦ g S v l x
]

test-used : (sets d : ℕ) → d ≤ 3 → (t : Test) → TestFits sets d t → UsesBelow d (test_uses t)
unfolding UsesBelow TestFits test_uses
test-used sets d low (isin v S) f S' v' l h = omega (arith, eqb-true (4 * S' + v') (4 * S + v) (sym (in-power (4 * S + v) (4 * S' + v')) ∙ h), f.0)
test-used sets d low (notin v S) f S' v' l h = omega (arith, eqb-true (4 * S' + v') (4 * S + v) (sym (in-power (4 * S + v) (4 * S' + v')) ∙ h), f.0)
test-used sets d low (port r v w) f S' v' l h = none-used d S' v' l h
test-used sets d low (size r S c) f S' v' l h = omega (arith, eqb-true (4 * S' + v') (4 * S + 3) (sym (in-power (4 * S + 3) (4 * S' + v')) ∙ h))

node-used : (sets d : ℕ) (n : Node) (c : Forest) → NodeFits sets n c d → UsesBelow d (node_uses n)
unfolding node_uses OfLiteral
node-used sets d root c f = none-used d
node-used sets d all c f = none-used d
node-used sets d any c f = none-used d
node-used sets d and c f = none-used d
node-used sets d or c f = none-used d
node-used sets d (lit l) c f = test-used sets d f.depth3 l.test f.literal

forest-used : (sets : ℕ) (f : Forest) (d : ℕ) → Fitting sets f d → Flat f d → UsesBelow d (forest_uses f)
unfolding Fitting Flat Every forest_uses
forest-used sets none d h g = none-used d
forest-used sets (tree n c s) d h g =
    both_used d (bit_or (node_uses n) (forest_uses c)) (forest_uses s)
    (both_used d (node_uses n) (forest_uses c) (node-used sets d n c h.0)
    (subst (λ (x : ℕ). UsesBelow x (forest_uses c)) (same-level n d g.0) (forest-used sets c (child_depth n d) h.1 g.1)))
    (forest-used sets s d h.2 g.2)

-- The words of a row's cells, where some sets flip at port x and some are resized.
module _ (flips resizes : ℕ → Bool) (members resized : ℕ) (w : Words flips resizes members resized) where
  low_bit : (L S v : ℕ) → S < 16 → v < 3 → in_mask (bit_or resized (bit_and members L)) (4 * S + v) ≡ (flips S && in_mask L (4 * S + v))
  low_bit L S v k l =
      in-or resized (bit_and members L) (4 * S + v)
      ∙ ap₂ ◌||◌ (w.resized-low S v k l) (in_and members L (4 * S + v) ∙ ap (λ (a : Bool). a && in_mask L (4 * S + v)) (w.members-are S v k l))

  high_bit : (L S : ℕ) → S < 16 → in_mask (bit_or resized (bit_and members L)) (4 * S + 3) ≡ resizes S
  high_bit L S k =
      in-or resized (bit_and members L) (4 * S + 3)
      ∙ ap₂ ◌||◌ (w.resized-are S k) (in_and members L (4 * S + 3) ∙ ap (λ (a : Bool). a && in_mask L (4 * S + 3)) (w.members-high S k))
      ∙ or-none (resizes S)

  -- a set that flips and is tested by a variable of a level makes the uses meet the level
  level-met : (used L S v : ℕ) → S < 16 → v < 3 → in_mask used (4 * S + v) ≡ true → flips S ≡ true → in_mask L (4 * S + v) ≡ true → meets used (bit_and members L) ≡ true
  level-met used L S v k l h f i =
      bit-meets used (bit_and members L) (4 * S + v) h (in_and members L (4 * S + v) ∙ and-true _ _ (w.members-are S v k l ∙ f) i)

  pub resizes-word : (used : ℕ) (base : Change) → Resizes resizes base → (e : Tuple) → WordFor used base e resized
  unfolding Resizes
  resizes-word used base r e = record {
    members = λ S v k l h. w.resized-low S v k l ∙ sym (r.listed-are S (port_of e v));
    sizes = λ S k h. w.resized-are S k ∙ sym (r.resized-are S);
  }

  module _ (used x : ℕ) (ch : Change) (at_x : FlipsAt flips resizes x ch) where
    -- where the word has the bits of the variables that have port x, as far as the tree tests a set that flips
    word-for : (L : ℕ) (e : Tuple)
        → ((S v : ℕ) → S < 16 → v < 3 → in_mask used (4 * S + v) ≡ true → flips S ≡ true → in_mask L (4 * S + v) ≡ eqb (port_of e v) x)
        → WordFor used ch e (bit_or resized (bit_and members L))
    unfolding FlipsAt at_one
    word-for L e H = record {
      members = λ S v k l h. low_bit L S v k l ∙ both (flips S) _ _ (λ f. H S v k l h f) ∙ sym (at_x.listed-are S (port_of e v));
      sizes = λ S k h. high_bit L S k ∙ sym (at_x.resized-are S);
    }
      where
        both : (a b c : Bool) → (a ≡ true → b ≡ c) → (a && b) ≡ (a && c)
        both true b c h = h refl
        both false b c h = refl

    -- where the tree tests no set that flips by a variable that has port x
    word-missed : (e : Tuple) → ((S v : ℕ) → S < 16 → v < 3 → in_mask used (4 * S + v) ≡ true → flips S ≡ true → eqb (port_of e v) x ≡ false)
        → WordFor used ch e resized
    unfolding FlipsAt at_one
    word-missed e H = record {
      members = λ S v k l h. w.resized-low S v k l ∙ sym (at_x.listed-are S (port_of e v) ∙ and-false (flips S) _ (λ f. H S v k l h f));
      sizes = λ S k h. w.resized-are S k ∙ sym (at_x.resized-are S);
    }

    -- The cells of one row, each at its port z.
    module _ (u sets : ℕ) (bytes firsts ends uses cells : List ℕ) (i : ℕ) (n : Node) (c s : Forest) (b d row digits : ℕ) (e : Tuple)
        (same-uses : used ≡ get_or uses i 0)
        (visit : FlipVisit u sets bytes firsts ends uses cells i (tree n c s) b (suc d) u d row digits (λ z. z ∷ e)) where
      depth_low : d ≤ 2
      unfolding Fitting Every
      depth_low = let f = visit.fitting.0.depth3 in omega arith

      used-bound : (S v : ℕ) → v < 3 → in_mask used (4 * S + v) ≡ true → v < suc d
      unfolding Fitting Flat Every IndexHolds UsesBelow
      used-bound S v l h =
          both_used (suc d) (node_uses n) (forest_uses c) (node-used sets (suc d) n c visit.fitting.0)
          (subst (λ (y : ℕ). UsesBelow y (forest_uses c)) (same-level n (suc d) visit.flat.0) (forest-used sets c (child_depth n (suc d)) visit.fitting.1 visit.flat.1))
          S v l (ap (λ (y : ℕ). in_mask y (4 * S + v)) (sym (same-uses ∙ visit.holds.0.uses-are)) ∙ h)

      outer-port : (z v : ℕ) → z < u → v < d → port_of (z ∷ e) v ≡ digit digits v
      outer-port z v m l = visit.line.same z v m (omega arith) (λ h. omega arith)

      own-port-is : (z : ℕ) → z < u → port_of (z ∷ e) d ≡ z
      own-port-is z m = visit.line.own-port z m (omega arith)

      -- a rule of a used variable, by whether it is the row's own
      by-variable : (R : ℕ → Type 0) → (S v : ℕ) → v < 3 → in_mask used (4 * S + v) ≡ true → (v < d → R v) → (v ≡ d → R v) → R v
      by-variable R S v l h f g = go (ℕ_discrete v d)
        where
          go : Dec (v ≡ d) → R v
          go (yes j) = g j
          go (no j) = f (omega (arith, used-bound S v l h))

      own-bit : (S v z : ℕ) → S < 16 → z < u → v ≡ d → z ≢ x → eqb (port_of (z ∷ e) v) x ≡ false
      own-bit S v z k m j a = ne_eqb (port_of (z ∷ e) v) x (λ q. a (sym (own-port-is z m) ∙ ap (port_of (z ∷ e)) (sym j) ∙ q))

      own-hit : (v : ℕ) → x < u → v ≡ d → eqb (port_of (x ∷ e) v) x ≡ true
      own-hit v m j = eq-eqb (port_of (x ∷ e) v) x (ap (port_of (x ∷ e)) j ∙ own-port-is x m)

      -- by the variables outside the row: at another port of the row, and at x with the row's own variable
      pub outer-word : (z : ℕ) → z < u → z ≢ x → WordFor used ch (z ∷ e) (bit_or resized (bit_and members (port_levels d digits x)))
      outer-word z m a = word-for (port_levels d digits x) (z ∷ e) (λ S v k l h f. in-port-levels d digits x S v depth_low k l
          ∙ by-variable (λ y. (ltb y d && eqb (digit digits y) x) ≡ eqb (port_of (z ∷ e) y) x) S v l h
          (λ j. ap (λ (a : Bool). a && eqb (digit digits v) x) (lt-ltb v d j) ∙ ap (λ (p : ℕ). eqb p x) (sym (outer-port z v m j)))
          (λ j. ap (λ (a : Bool). a && eqb (digit digits v) x) (not-below v d (omega arith)) ∙ sym (own-bit S v z k m j a)))

      pub both_word : x < u → WordFor used ch (x ∷ e) (bit_or resized (bit_and members (bit_or (port_levels d digits x) (level d))))
      both_word m = word-for (bit_or (port_levels d digits x) (level d)) (x ∷ e) (λ S v k l h f.
          in-or (port_levels d digits x) (level d) (4 * S + v)
          ∙ ap₂ ◌||◌ (in-port-levels d digits x S v depth_low k l) (in-level d S v (omega (arith, depth_low)) k (omega arith))
          ∙ by-variable (λ y. ((ltb y d && eqb (digit digits y) x) || eqb y d) ≡ eqb (port_of (x ∷ e) y) x) S v l h
          (λ j. ap₂ (λ (a a' : Bool). (a && eqb (digit digits v) x) || a') (lt-ltb v d j) (ne_eqb v d (λ q. omega arith)) ∙ or-none _ ∙ ap (λ (p : ℕ). eqb p x) (sym (outer-port x v m j)))
          (λ j. ap₂ (λ (a a' : Bool). (a && eqb (digit digits v) x) || a') (not-below v d (omega arith)) (eq-eqb v d j) ∙ sym (own-hit v m j)))

      -- where the tree does not test a set that flips by the row's own variable
      own-untested : meets used (bit_and members (level d)) ≡ false → (S v : ℕ) → S < 16 → v < 3 → in_mask used (4 * S + v) ≡ true → flips S ≡ true → v ≢ d
      own-untested q S v k l h f j =
          true≢false (sym (level-met used (level d) S v k l h f (in-level d S v (omega (arith, depth_low)) k (omega arith) ∙ eq-eqb v d j)) ∙ q)

      pub outer-alone : meets used (bit_and members (level d)) ≡ false → (z : ℕ) → z < u → WordFor used ch (z ∷ e) (bit_or resized (bit_and members (port_levels d digits x)))
      outer-alone q z m = word-for (port_levels d digits x) (z ∷ e) (λ S v k l h f. in-port-levels d digits x S v depth_low k l
          ∙ by-variable (λ y. (ltb y d && eqb (digit digits y) x) ≡ eqb (port_of (z ∷ e) y) x) S v l h
          (λ j. ap (λ (a : Bool). a && eqb (digit digits v) x) (lt-ltb v d j) ∙ ap (λ (p : ℕ). eqb p x) (sym (outer-port z v m j)))
          (λ j. absurd (own-untested q S v k l h f j)))

      -- where it tests none by a variable outside the row that has port x
      module _ (missed : tests_outside used d digits members x ≡ false) where
        outer-missed : (S v z : ℕ) → S < 16 → v < 3 → in_mask used (4 * S + v) ≡ true → flips S ≡ true → z < u → v < d → eqb (port_of (z ∷ e) v) x ≡ false
        unfolding tests_outside
        outer-missed S v z k l h f m j = ne_eqb (port_of (z ∷ e) v) x (λ q.
            true≢false (sym (level-met used (port_levels d digits x) S v k l h f
            (in-port-levels d digits x S v depth_low k l ∙ and-true _ _ (lt-ltb v d j) (eq-eqb (digit digits v) x (sym (outer-port z v m j) ∙ q)))) ∙ missed))

        pub own-word : x < u → WordFor used ch (x ∷ e) (bit_or resized (bit_and members (level d)))
        own-word m = word-for (level d) (x ∷ e) (λ S v k l h f. in-level d S v (omega (arith, depth_low)) k (omega arith)
            ∙ by-variable (λ y. eqb y d ≡ eqb (port_of (x ∷ e) y) x) S v l h
            (λ j. ne_eqb v d (λ q. omega arith) ∙ sym (outer-missed S v x k l h f m j))
            (λ j. eq-eqb v d j ∙ sym (own-hit v m j)))

        pub other_word : (z : ℕ) → z < u → z ≢ x → WordFor used ch (z ∷ e) resized
        other_word z m a = word-missed (z ∷ e) (λ S v k l h f. by-variable (λ y. eqb (port_of (z ∷ e) y) x ≡ false) S v l h
            (λ j. outer-missed S v z k l h f m j) (λ j. own-bit S v z k m j a))

        pub no_word : meets used (bit_and members (level d)) ≡ false → (z : ℕ) → z < u → WordFor used ch (z ∷ e) resized
        no_word q z m = word-missed (z ∷ e) (λ S v k l h f. by-variable (λ y. eqb (port_of (z ∷ e) y) x ≡ false) S v l h
            (λ j. outer-missed S v z k l h f m j) (λ j. absurd (own-untested q S v k l h f j)))
