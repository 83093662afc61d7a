-- The cells of a tree without quantifiers are touched where the word meets its uses, and what follows of its literals. Assumes nothing.
use mathlib.Core.Path.{◌≡◌, refl, sym, ap₂, ◌∙◌}
use mathlib.Core.Bool.{Bool, true, ◌||◌, true≢false, false≢true}
use mathlib.Core.List.{List}
use Prim.Native.Nat.{ℕ, ◌+◌, ◌*◌, ◌^◌, ◌≤◌, ◌<◌}
use native.Mathlib.Omega.{arith}
use lib.Bits.{bit_or}
use lib.ListN.{length}
use borrow.Author.Tests.{eq-eqb}
use Rattle.logic.specs.Formula.{Relation, lt, le, eq, ne, ge, gt, Test, isin, notin, port, size, Node, root, all, any, and, or, lit, Forest, none, tree, kind_number, child_depth}
use Rattle.logic.specs.inner.Literals.{Every, OfLiteral, OfTest}
use Rattle.logic.specs.Configuration.{Configuration, indicator, in_mask}
use Rattle.logic.specs.Truth.{Tuple, port_of}
use Rattle.logic.specs.Penalty.{size_penalty, test_penalty, literal_penalty}
use Rattle.logic.specs.Change.{Change, hit, node_hit, forest_hit, touched}
use Rattle.logic.proofs.Bound.{LiteralsAtMost}
use Rattle.logic.proofs.Lists.{or-true-left, or_true_right, indicator-le}
use Rattle.table_format.specs.inner.Index.{test_uses, node_uses, forest_uses}
use Rattle.cells_touch.specs.inner.Hits.{meets}
use Rattle.cells_touch.proofs.Bits.{in-or, in-power, meets-zero, meets-power, meets-or}
use Rattle.cells_walk.specs.inner.Nodes.{TestFits, Fitting}
use Rattle.cells_atoms.proofs.Ports.{bound-hit}
use Rattle.cells_flip.specs.inner.Flips.{WordFor, Flipped, NoQuantifier, Flat}
use Rattle.cells_flip.specs.inner.Steps.{AsksSet, FlippedAt}

-- what is said of a word and of a configuration by some bits is said by some of them
abbrev pub Within : ℕ → ℕ → Type 0
Within a b = (j : ℕ) → in_mask a j ≡ true → in_mask b j ≡ true

pub within-left : (a b : ℕ) → Within a (bit_or a b)
within-left a b j h = in-or a b j ∙ or-true-left (in_mask a j) (in_mask b j) h

pub within-right : (a b : ℕ) → Within b (bit_or a b)
within-right a b j h = in-or a b j ∙ or_true_right (in_mask a j) (in_mask b j) h

pub word-part : (a b : ℕ) (ch : Change) (e : Tuple) (w : ℕ) → Within a b → WordFor b ch e w → WordFor a ch e w
word-part a b ch e w h f = record {
  members = λ S v k l i. f.members S v k l (h (4 * S + v) i);
  sizes = λ S k i. f.sizes S k (h (4 * S + 3) i);
}

pub flipped-part : (a b : ℕ) (masks sizes : List ℕ) (ch : Change) (k : Configuration) → Within a b → Flipped b masks sizes ch k → Flipped a masks sizes ch k
flipped-part a b masks sizes ch k h f = record {
  members = f.members;
  sizes-are = λ S l i r. f.sizes-are S l (h (4 * S + 3) i) r;
  low = f.low;
}

-- a node that binds no variable has its children at its own depth
pub same-level : (n : Node) (d : ℕ) → NoQuantifier n → child_depth n d ≡ d
unfolding NoQuantifier kind_number child_depth
same-level root d h = refl
same-level all d h = absurd (true≢false h)
same-level any d h = absurd (true≢false h)
same-level and d h = refl
same-level or d h = refl
same-level (lit l) d h = refl

own-bit : (j : ℕ) → in_mask (2 ^ j) j ≡ true
own-bit j = in-power j j ∙ eq-eqb j j refl

-- a tree is hit where its uses meet the word
module _ (ch : Change) (e : Tuple) (w sets : ℕ) (few : sets ≤ 16) where
  test-told : (t : Test) (d : ℕ) → d ≤ 3 → length e ≡ d → TestFits sets d t → WordFor (test_uses t) ch e w → hit ch t e ≡ meets (test_uses t) w
  unfolding TestFits hit test_uses
  test-told (isin v S) d h long f word =
      bound-hit ch.pairs v S e (omega (arith, f.0))
      ∙ sym (meets-power (4 * S + v) w ∙ word.members S v (omega (arith, f.1)) (omega (arith, f.0)) (own-bit (4 * S + v)))
  test-told (notin v S) d h long f word =
      bound-hit ch.pairs v S e (omega (arith, f.0))
      ∙ sym (meets-power (4 * S + v) w ∙ word.members S v (omega (arith, f.1)) (omega (arith, f.0)) (own-bit (4 * S + v)))
  test-told (port r v z) d h long f word = sym (meets-zero w)
  test-told (size r S c) d h long f word = sym (meets-power (4 * S + 3) w ∙ word.sizes S (omega (arith, f.0)) (own-bit (4 * S + 3)))

  node-told : (n : Node) (d : ℕ) → d ≤ 3 → length e ≡ d → OfTest (TestFits sets d) n → WordFor (node_uses n) ch e w → node_hit ch n e ≡ meets (node_uses n) w
  unfolding node_hit node_uses OfLiteral
  node-told root d h long f word = sym (meets-zero w)
  node-told all d h long f word = sym (meets-zero w)
  node-told any d h long f word = sym (meets-zero w)
  node-told and d h long f word = sym (meets-zero w)
  node-told or d h long f word = sym (meets-zero w)
  node-told (lit l) d h long f word = test-told l.test d h long f word

  forest-told : (f : Forest) (d : ℕ) → length e ≡ d → Fitting sets f d → Flat f d → WordFor (forest_uses f) ch e w → forest_hit ch f e ≡ meets (forest_uses f) w
  unfolding forest_hit forest_uses Fitting Flat Every
  forest-told none d long f g word = sym (meets-zero w)
  forest-told (tree n c s) d long f g word =
      let q = same-level n d g.0 in
      let own = node_uses n in
      let down = forest_uses c in
      let first = word-part (bit_or own down) (bit_or (bit_or own down) (forest_uses s)) ch e w (within-left (bit_or own down) (forest_uses s)) word in
      ap₂ ◌||◌ (ap₂ ◌||◌ (node-told n d f.0.depth3 long f.0.literal (word-part own (bit_or own down) ch e w (within-left own down) first))
      (forest-told c (child_depth n d) (long ∙ sym q) f.1 g.1 (word-part down (bit_or own down) ch e w (within-right own down) first))
      ∙ sym (meets-or own down w))
      (forest-told s d long f.2 g.2 (word-part (forest_uses s) (bit_or (bit_or own down) (forest_uses s)) ch e w (within-right (bit_or own down) (forest_uses s)) word))
      ∙ sym (meets-or (bit_or own down) (forest_uses s) w)

  pub touched-told : (n : Node) (c s : Forest) (d : ℕ) → length e ≡ d → Fitting sets (tree n c s) d → Flat (tree n c s) d → WordFor (bit_or (node_uses n) (forest_uses c)) ch e w
      → touched ch n c e ≡ meets (bit_or (node_uses n) (forest_uses c)) w
  unfolding touched Fitting Flat Every
  touched-told n c s d long f g word =
      let own = node_uses n in
      let down = forest_uses c in
      ap₂ ◌||◌ (node-told n d f.0.depth3 long f.0.literal (word-part own (bit_or own down) ch e w (within-left own down) word))
      (forest-told c (child_depth n d) (long ∙ sym (same-level n d g.0)) f.1 g.1 (word-part down (bit_or own down) ch e w (within-right own down) word))
      ∙ sym (meets-or own down w)

-- a test that a word meets asks a set, and where it is hit it is flipped
pub asks_set : (t : Test) (w : ℕ) → meets (test_uses t) w ≡ true → AsksSet t
unfolding test_uses AsksSet
asks_set (isin v S) w h = tt
asks_set (notin v S) w h = tt
asks_set (port r v z) w h = absurd (false≢true (sym (meets-zero w) ∙ h))
asks_set (size r S c) w h = tt

pub test-flipped : (masks sizes : List ℕ) (ch : Change) (k : Configuration) (w sets d : ℕ) (e : Tuple) → sets ≤ 16 → d ≤ 3 → length e ≡ d → (t : Test) → TestFits sets d t
    → WordFor (test_uses t) ch e w → Flipped (test_uses t) masks sizes ch k → meets (test_uses t) w ≡ true → FlippedAt masks sizes k t e
unfolding test_uses TestFits FlippedAt
test-flipped masks sizes ch k w sets d e h low long (isin v S) fits word flipped m =
    flipped.members S (port_of e v) (sym (word.members S v (omega (arith, fits.1)) (omega (arith, fits.0)) (own-bit (4 * S + v))) ∙ sym (meets-power (4 * S + v) w) ∙ m)
test-flipped masks sizes ch k w sets d e h low long (notin v S) fits word flipped m =
    flipped.members S (port_of e v) (sym (word.members S v (omega (arith, fits.1)) (omega (arith, fits.0)) (own-bit (4 * S + v))) ∙ sym (meets-power (4 * S + v) w) ∙ m)
test-flipped masks sizes ch k w sets d e h low long (port r v z) fits word flipped m = tt
test-flipped masks sizes ch k w sets d e h low long (size r S c) fits word flipped m =
    let l : S < 16 = omega (arith, fits.0) in
    flipped.sizes-are S l (own-bit (4 * S + 3)) (sym (word.sizes S l (own-bit (4 * S + 3))) ∙ sym (meets-power (4 * S + 3) w) ∙ m)

-- with sizes at most 65 and constants at most 64 no penalty is above 66
indicator-66 : (b : Bool) → indicator b ≤ 66
indicator-66 b = omega (arith, indicator-le b)

size-66 : (r : Relation) (s c : ℕ) → s ≤ 65 → c ≤ 64 → size_penalty r s c ≤ 66
unfolding size_penalty
size-66 lt s c h k = omega arith
size-66 le s c h k = omega arith
size-66 eq s c h k = omega arith
size-66 ne s c h k = indicator-66 _
size-66 ge s c h k = omega arith
size-66 gt s c h k = omega arith

module _ (sets : ℕ) (k : Configuration) (small : (S : ℕ) → S < sets → k.size S ≤ 65) where
  test-66 : (t : Test) (d : ℕ) → TestFits sets d t → (e : Tuple) → test_penalty k t e ≤ 66
  unfolding test_penalty TestFits
  test-66 (isin v S) d h e = indicator-66 _
  test-66 (notin v S) d h e = indicator-66 _
  test-66 (port r v w) d h e = indicator-66 _
  test-66 (size r S c) d h e = size-66 r _ c (small S h.0) h.1

  node-66 : (n : Node) (d : ℕ) → OfTest (TestFits sets d) n → OfLiteral (λ l. (e : Tuple) → literal_penalty k l e ≤ 66) n
  unfolding OfLiteral literal_penalty
  node-66 root d h = tt
  node-66 all d h = tt
  node-66 any d h = tt
  node-66 and d h = tt
  node-66 or d h = tt
  node-66 (lit l) d h = test-66 l.test d h

  pub literals-66 : (f : Forest) (d : ℕ) → Fitting sets f d → LiteralsAtMost 66 k f d
  unfolding Fitting LiteralsAtMost Every
  literals-66 none d h = tt
  literals-66 (tree n c s) d h = (node-66 n d h.0.literal, literals-66 c (child_depth n d) h.1, literals-66 s d h.2)
