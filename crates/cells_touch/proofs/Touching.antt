-- A cell is touched where the word of its tuple meets the uses of its node, and the words from tuple to tuple. Assumes nothing.
use mathlib.Core.Path.{◌≡◌, refl, sym, ap, ap₂, ◌∙◌}
use mathlib.Core.Logic.{◌≢◌}
use mathlib.Core.Bool.{Bool, true, false, cond, not, ◌&&◌, ◌||◌, false≢true}
use mathlib.Core.List.{List, [], ◌∷◌}
use Prim.Native.Nat.{ℕ, zero, suc, ◌+◌, ◌*◌, ◌^◌, ◌%◌, ◌<◌}
use native.Mathlib.Omega.{arith}
use native.Mathlib.Decide.{dec_lt, ℕ_discrete}
use lib.Bits.{bit_and, bit_or, and_zero_l, or_zero_r}
use lib.Dec.{eqb, leb}
use lib.ListN.{length}
use borrow.Author.Tests.{eq-eqb, ne_eqb, le-leb, lt-leb}
use Rattle.logic.specs.Formula.{Test, isin, notin, port, size, Node, root, all, any, and, or, lit, Forest, none, tree, child_depth}
use Rattle.logic.specs.inner.Literals.{Every, OfLiteral, OfTest}
use Rattle.logic.specs.Configuration.{in_mask}
use Rattle.logic.specs.Truth.{Tuple, port_of}
use Rattle.logic.specs.Moves.{Pair}
use Rattle.logic.specs.Change.{Change, some_of, member_hit, hit, node_hit, forest_hit, touched}
use Rattle.logic.specs.inner.Agreement.{listed}
use Rattle.logic.proofs.Lists.{or_left, or_right, or-true-left, or_true_right, and_left, and_right, and-true, some_same}
use Rattle.logic.proofs.Untouched.{port-out}
use Rattle.table_format.specs.inner.Index.{test_uses, node_uses, forest_uses}
use Rattle.cells_touch.specs.declared.Changed.{Changed}
use Rattle.cells_touch.specs.inner.Hits.{meets, HitWord, Describes, level, other_levels, at_port, first_word, rest_word, port_word, Marked}
use Rattle.cells_touch.proofs.Bits.{in_and, in-or, in-zero, meets-bit, bit-meets, meets-zero, meets-power, meets-or}

-- a node is hit where its own uses meet the word
module _ (ch : Change) (e : Tuple) (w : ℕ) (word : HitWord ch e w) where
  test-meets : (t : Test) → Marked t → hit ch t e ≡ meets (test_uses t) w
  unfolding hit test_uses Marked
  test-meets (isin v S) m = sym (meets-power (4 * S + v) w ∙ word.members S v m.1 m.0)
  test-meets (notin v S) m = sym (meets-power (4 * S + v) w ∙ word.members S v m.1 m.0)
  test-meets (port r v w') m = sym (meets-zero w)
  test-meets (size r S c) m = sym (meets-power (4 * S + 3) w ∙ word.sizes S m)

  node-meets : (n : Node) → OfTest Marked n → node_hit ch n e ≡ meets (node_uses n) w
  unfolding node_hit node_uses OfLiteral
  node-meets root m = sym (meets-zero w)
  node-meets all m = sym (meets-zero w)
  node-meets any m = sym (meets-zero w)
  node-meets and m = sym (meets-zero w)
  node-meets or m = sym (meets-zero w)
  node-meets (lit l) m = test-meets l.test m

  pub forest-meets : (f : Forest) (d : ℕ) → Every (λ n c i. OfTest Marked n) f d → forest_hit ch f e ≡ meets (forest_uses f) w
  unfolding forest_hit forest_uses Every
  forest-meets none d m = sym (meets-zero w)
  forest-meets (tree n c s) d m =
      ap₂ ◌||◌ (ap₂ ◌||◌ (node-meets n m.0) (forest-meets c (child_depth n d) m.1) ∙ sym (meets-or (node_uses n) (forest_uses c) w)) (forest-meets s d m.2)
      ∙ sym (meets-or (bit_or (node_uses n) (forest_uses c)) (forest_uses s) w)

  pub touched-meets : (n : Node) (c : Forest) (d : ℕ) → OfTest Marked n → Every (λ n c i. OfTest Marked n) c d
      → touched ch n c e ≡ meets (bit_or (node_uses n) (forest_uses c)) w
  unfolding touched
  touched-meets n c d m ms = ap₂ ◌||◌ (node-meets n m) (forest-meets c d ms) ∙ sym (meets-or (node_uses n) (forest_uses c) w)

-- a test of every place below a number, computed
every_place : ℕ → (ℕ → Bool) → Bool
every_place zero g = true
every_place (suc m) g = every_place m g && g m

every-place : (m : ℕ) (g : ℕ → Bool) → every_place m g ≡ true → (j : ℕ) → j < m → g j ≡ true
unfolding every_place
every-place zero g h j l = absurd (omega arith)
every-place (suc m) g h j l = go (ℕ_discrete j m) (λ k. every-place m g (and_left (every_place m g) _ h) j k)
  where
    go : Dec (j ≡ m) → (j < m → g j ≡ true) → g j ≡ true
    go (yes e) f = ap g e ∙ and_right (every_place m g) _ h
    go (no n) f = f (omega arith)

same : Bool → Bool → Bool
same true b = b
same false b = not b

same_true : (a b : Bool) → same a b ≡ true → a ≡ b
unfolding same
same_true true true h = refl
same_true true false h = absurd (false≢true h)
same_true false true h = absurd (false≢true h)
same_true false false h = refl

level-table : (d : ℕ) → d < 3 → every_place 64 (λ j. same (in_mask (level d) j) (eqb (j % 4) d)) ≡ true
unfolding every_place same in_mask level
level-table zero h = refl
level-table (suc zero) h = refl
level-table (suc (suc zero)) h = refl
level-table (suc (suc (suc d))) h = absurd (omega arith)

others-table : (d : ℕ) → d < 3 → every_place 64 (λ j. same (in_mask (other_levels d) j) (not (eqb (j % 4) d))) ≡ true
unfolding every_place same in_mask other_levels level
others-table zero h = refl
others-table (suc zero) h = refl
others-table (suc (suc zero)) h = refl
others-table (suc (suc (suc d))) h = absurd (omega arith)

pub in-level : (d S v : ℕ) → d < 3 → S < 16 → v < 4 → in_mask (level d) (4 * S + v) ≡ eqb v d
in-level d S v h k l =
    same_true _ _ (every-place 64 (λ j. same (in_mask (level d) j) (eqb (j % 4) d)) (level-table d h) (4 * S + v) (omega arith))
    ∙ ap (λ (x : ℕ). eqb x d) (let e : (4 * S + v) % 4 ≡ v = omega arith in e)

in-others : (d S v : ℕ) → d < 3 → S < 16 → v < 4 → in_mask (other_levels d) (4 * S + v) ≡ not (eqb v d)
in-others d S v h k l =
    same_true _ _ (every-place 64 (λ j. same (in_mask (other_levels d) j) (not (eqb (j % 4) d))) (others-table d h) (4 * S + v) (omega arith))
    ∙ ap (λ (x : ℕ). not (eqb x d)) (let e : (4 * S + v) % 4 ≡ v = omega arith in e)

and-true-right : (b : Bool) → (b && true) ≡ b
and-true-right true = refl
and-true-right false = refl

and-false-right : (b : Bool) → (b && false) ≡ false
and-false-right true = refl
and-false-right false = refl

or-false-right : (b : Bool) → (b || false) ≡ b
or-false-right true = refl
or-false-right false = refl

-- a bit of the word below a quantifier: of the sets at the port in the quantifier's own level, else of the word above
in-port-word : (c : Changed) (w d x S v : ℕ) → d < 3 → S < 16 → v < 4
    → in_mask (port_word c w d x) (4 * S + v) ≡ cond (eqb v d) (in_mask (at_port c x) (4 * S + v)) (in_mask w (4 * S + v))
unfolding port_word rest_word
in-port-word c w d x S v h k l =
    in-or (bit_and w (other_levels d)) (bit_and (at_port c x) (level d)) (4 * S + v)
    ∙ ap₂ ◌||◌ (in_and w (other_levels d) (4 * S + v)) (in_and (at_port c x) (level d) (4 * S + v))
    ∙ ap₂ (λ (a b : Bool). (in_mask w (4 * S + v) && a) || (in_mask (at_port c x) (4 * S + v) && b)) (in-others d S v h k l) (in-level d S v h k l)
    ∙ go (eqb v d) (in_mask w (4 * S + v)) (in_mask (at_port c x) (4 * S + v))
  where
    go : (b y z : Bool) → ((y && not b) || (z && b)) ≡ cond b z y
    go true y z = ap₂ ◌||◌ (and-false-right y) (and-true-right z)
    go false y z = ap₂ ◌||◌ (and-true-right y) (and-false-right z) ∙ or-false-right y

-- every port but p and q has the rest of the word, and what meets the rest meets the word of each port
pub port-word-other : (c : Changed) (w d x : ℕ) → x ≢ c.p → x ≢ c.q → port_word c w d x ≡ rest_word w d
unfolding port_word at_port
port-word-other c w d x n m = rw (ne_eqb x c.p n, ne_eqb x c.q m, and_zero_l (level d)) (or_zero_r (rest_word w d))

pub port-meets : (c : Changed) (a w d x : ℕ) → meets a (rest_word w d) ≡ true → meets a (port_word c w d x) ≡ true
unfolding port_word
port-meets c a w d x h =
    let j = meets-bit a (rest_word w d) h in
    bit-meets a (port_word c w d x) j.0 j.1 (in-or (rest_word w d) (bit_and (at_port c x) (level d)) j.0 ∙ or-true-left _ _ j.2)

-- a variable whose bit the rest of the word has is not the innermost one
pub other-variable : (S v w d : ℕ) → d < 3 → S < 16 → v < 3 → meets (2 ^ (4 * S + v)) (rest_word w d) ≡ true → v ≢ d
unfolding rest_word
other-variable S v w d h k l m e =
    let b : in_mask (bit_and w (other_levels d)) (4 * S + v) ≡ true = sym (meets-power (4 * S + v) (bit_and w (other_levels d))) ∙ m in
    let o : not (eqb v d) ≡ true = sym (in-others d S v h k (omega arith)) ∙ and_right (in_mask w (4 * S + v)) _ (sym (in_and w (other_levels d) (4 * S + v)) ∙ b) in
    false≢true (ap not (sym (eq-eqb v d e)) ∙ o)

-- what a new innermost port changes in a hit
port-own : (x : ℕ) (e : Tuple) (v : ℕ) → v ≡ length e → port_of (x ∷ e) v ≡ x
unfolding port_of
port-own x e v h = ap (λ (b : Bool). cond b x (port_of e v)) (eq-eqb v (length e) h)

member-own : (v S x : ℕ) (e : Tuple) (q : Pair) → v ≡ length e → member_hit v S (x ∷ e) q ≡ (eqb S q.0 && eqb x q.1)
unfolding member_hit
member-own v S x e q h =
    ap₂ (λ (a : Bool) (y : ℕ). eqb S q.0 && (a || eqb y q.1)) (lt-leb (suc (length e)) v (omega arith)) (port-own x e v h)

member-other : (v S x : ℕ) (e : Tuple) (q : Pair) → v ≢ length e → member_hit v S (x ∷ e) q ≡ member_hit v S e q
unfolding member_hit
member-other v S x e q h = go (dec_lt v (length e))
  where
    go : Dec (v < length e) → (eqb S q.0 && (leb (suc (length e)) v || eqb (port_of (x ∷ e) v) q.1)) ≡ (eqb S q.0 && (leb (length e) v || eqb (port_of e v) q.1))
    go (yes l) =
        ap₂ (λ (a : Bool) (y : ℕ). eqb S q.0 && (a || eqb y q.1)) (lt-leb (suc (length e)) v (omega arith) ∙ sym (lt-leb (length e) v l)) (port-out x e v l)
    go (no n) =
        ap (λ (a : Bool). eqb S q.0 && (a || eqb (port_of (x ∷ e) v) q.1)) (le-leb (suc (length e)) v (omega arith))
        ∙ ap (λ (a : Bool). eqb S q.0 && (a || eqb (port_of e v) q.1)) (sym (le-leb (length e) v (omega arith)))

member-empty : (v S : ℕ) (q : Pair) → member_hit v S [] q ≡ eqb S q.0
unfolding member_hit
member-empty v S q = ap (λ (b : Bool). eqb S q.0 && (b || eqb (port_of [] v) q.1)) (le-leb 0 v (omega arith)) ∙ and-true-right (eqb S q.0)

module _ (u : ℕ) (ch : Change) (c : Changed) (says : Describes u ch c) where
  -- the sets at a port
  at-port-is : (x S v : ℕ) → S < 16 → v < 3 → in_mask (at_port c x) (4 * S + v) ≡ listed ch.pairs S x
  unfolding at_port
  at-port-is x S v k l = go (ℕ_discrete x c.p) (ℕ_discrete x c.q)
    where
      go : Dec (x ≡ c.p) → Dec (x ≡ c.q)
          → in_mask (cond (eqb x c.p) c.psets (cond (eqb x c.q) c.qsets 0)) (4 * S + v) ≡ listed ch.pairs S x
      go (yes e) m = rw (eq-eqb x c.p e) (says.at-p-is S v k l ∙ ap (listed ch.pairs S) (sym e))
      go (no n) (yes e) = rw (ne_eqb x c.p n, eq-eqb x c.q e) (says.at-q-is S v k l ∙ ap (listed ch.pairs S) (sym e))
      go (no n) (no m) = rw (ne_eqb x c.p n, ne_eqb x c.q m) (in-zero (4 * S + v) ∙ sym (says.others S x n m))

  pub port-word-is : (e : Tuple) (w d x : ℕ) → HitWord ch e w → length e ≡ d → d < 3 → HitWord ch (x ∷ e) (port_word c w d x)
  unfolding listed
  port-word-is e w d x word le h = record {
    members = λ S v k l. in-port-word c w d x S v h k (omega arith) ∙ go S v k l (ℕ_discrete v d);
    sizes = λ S k. in-port-word c w d x S 3 h k (omega arith)
        ∙ ap (λ (b : Bool). cond b (in_mask (at_port c x) (4 * S + 3)) (in_mask w (4 * S + 3))) (ne_eqb 3 d (λ z. omega arith)) ∙ word.sizes S k;
  }
    where
      go : (S v : ℕ) → S < 16 → v < 3 → Dec (v ≡ d)
          → cond (eqb v d) (in_mask (at_port c x) (4 * S + v)) (in_mask w (4 * S + v)) ≡ some_of (member_hit v S (x ∷ e)) ch.pairs
      go S v k l (yes i) =
          rw (eq-eqb v d i) (at-port-is x S v k l ∙ some_same _ _ ch.pairs (λ q d. sym (member-own v S x e q (i ∙ sym le))))
      go S v k l (no i) =
          rw (ne_eqb v d i) (word.members S v k l ∙ some_same _ _ ch.pairs (λ q d. sym (member-other v S x e q (λ z. i (z ∙ le)))))

  -- the word of the empty tuple: a membership literal on a set is hit if the set changes anywhere
  some-set : (S : ℕ) (qs : List Pair) → ((x : ℕ) → x ≢ c.p → x ≢ c.q → listed qs S x ≡ false)
      → (listed qs S c.p || listed qs S c.q) ≡ some_of (λ q. eqb S q.0) qs
  unfolding listed some_of
  some-set S [] h = refl
  some-set S (q ∷ qs) h =
      both (eqb S q.0) (eqb c.p q.1) (eqb c.q q.1) _ _ _ (at-ends (ℕ_discrete q.1 c.p) (ℕ_discrete q.1 c.q))
      (some-set S qs (λ x n m. or_right (eqb S q.0 && eqb x q.1) _ (h x n m)))
    where
      at-ends : Dec (q.1 ≡ c.p) → Dec (q.1 ≡ c.q) → eqb S q.0 ≡ true → (eqb c.p q.1 || eqb c.q q.1) ≡ true
      at-ends (yes e) m s = or-true-left _ _ (eq-eqb c.p q.1 (sym e))
      at-ends (no n) (yes e) s = or_true_right (eqb c.p q.1) _ (eq-eqb c.q q.1 (sym e))
      at-ends (no n) (no m) s =
          absurd (false≢true (sym (or_left _ _ (h q.1 n m)) ∙ and-true _ _ s (eq-eqb q.1 q.1 refl)))

      both : (a b b' r r' t : Bool) → (a ≡ true → (b || b') ≡ true) → (r || r') ≡ t → (((a && b) || r) || ((a && b') || r')) ≡ (a || t)
      both false b b' r r' t f g = g
      both true true b' r r' t f g = refl
      both true false true true r' t f g = refl
      both true false true false r' t f g = refl
      both true false false r r' t f g = absurd (false≢true (f refl))

  pub first-word-is : HitWord ch [] (first_word c)
  unfolding first_word
  first-word-is = record {
    members = λ S v k l. bits S v ∙ ap₂ ◌||◌ (ap₂ ◌||◌ (says.at-p-is S v k l) (says.at-q-is S v k l)) (says.resized-low S v k l)
        ∙ or-false-right _ ∙ some-set S ch.pairs (λ x n m. says.others S x n m) ∙ some_same _ _ ch.pairs (λ q d. sym (member-empty v S q));
    sizes = λ S k. bits S 3 ∙ ap₂ ◌||◌ (ap₂ ◌||◌ (says.p-high S k) (says.q-high S k)) (says.resized-is S k);
  }
    where
      bits : (S v : ℕ) → in_mask (bit_or (bit_or c.psets c.qsets) c.resized) (4 * S + v)
          ≡ ((in_mask c.psets (4 * S + v) || in_mask c.qsets (4 * S + v)) || in_mask c.resized (4 * S + v))
      bits S v = in-or (bit_or c.psets c.qsets) c.resized (4 * S + v)
          ∙ ap (λ (b : Bool). b || in_mask c.resized (4 * S + v)) (in-or c.psets c.qsets (4 * S + v))
