-- A cell is touched where a word that tells of what its tree uses meets its uses. Assumes nothing.
use mathlib.Core.Path.{◌≡◌, refl, sym, ap₂, ◌∙◌}
use mathlib.Core.Bool.{true, ◌||◌}
use Prim.Native.Nat.{ℕ, ◌+◌, ◌*◌, ◌^◌}
use lib.Bits.{bit_or}
use borrow.Author.Tests.{eq-eqb}
use Rattle.logic.specs.Formula.{Test, isin, notin, port, size, Node, root, all, any, and, or, lit, Forest, none, tree, child_depth}
use Rattle.logic.specs.inner.Literals.{Every, OfLiteral, OfTest}
use Rattle.logic.specs.Configuration.{in_mask}
use Rattle.logic.specs.Truth.{Tuple}
use Rattle.logic.specs.Change.{Change, hit, node_hit, forest_hit, touched}
use Rattle.logic.proofs.Lists.{or-true-left, or_true_right}
use Rattle.table_format.specs.inner.Index.{test_uses, node_uses, forest_uses}
use Rattle.cells_touch.specs.inner.Hits.{meets, HitWord, Marked}
use Rattle.cells_touch.proofs.Bits.{in-or, in-power, meets-zero, meets-power, meets-or}
use Rattle.cells_zero.specs.inner.Zero.{HitFor}

-- a word that tells of every bit tells of those that a tree uses
pub hit-word : (used : ℕ) (ch : Change) (e : Tuple) (w : ℕ) → HitWord ch e w → HitFor used ch e w
hit-word used ch e w word = record { members = λ S v k l i. word.members S v k l; sizes = λ S k i. word.sizes S k }

-- one that tells of some bits tells of fewer
pub hit-part : (a b : ℕ) (ch : Change) (e : Tuple) (w : ℕ) → ((j : ℕ) → in_mask a j ≡ true → in_mask b j ≡ true) → HitFor b ch e w → HitFor a ch e w
hit-part a b ch e w h word = record {
  members = λ S v k l i. word.members S v k l (h (4 * S + v) i);
  sizes = λ S k i. word.sizes S k (h (4 * S + 3) i);
}

pub hit-left : (a b : ℕ) (ch : Change) (e : Tuple) (w : ℕ) → HitFor (bit_or a b) ch e w → HitFor a ch e w
hit-left a b ch e w = hit-part a (bit_or a b) ch e w (λ j h. in-or a b j ∙ or-true-left (in_mask a j) (in_mask b j) h)

pub hit-right : (a b : ℕ) (ch : Change) (e : Tuple) (w : ℕ) → HitFor (bit_or a b) ch e w → HitFor b ch e w
hit-right a b ch e w = hit-part b (bit_or a b) ch e w (λ j h. in-or a b j ∙ or_true_right (in_mask a j) (in_mask b j) h)

own-bit : (j : ℕ) → in_mask (2 ^ j) j ≡ true
own-bit j = in-power j j ∙ eq-eqb j j refl

-- a tree is hit where its uses meet the word
module _ (ch : Change) (e : Tuple) (w : ℕ) where
  test-told : (t : Test) → Marked t → HitFor (test_uses t) ch e w → hit ch t e ≡ meets (test_uses t) w
  unfolding hit test_uses Marked
  test-told (isin v S) m word = sym (meets-power (4 * S + v) w ∙ word.members S v m.1 m.0 (own-bit (4 * S + v)))
  test-told (notin v S) m word = sym (meets-power (4 * S + v) w ∙ word.members S v m.1 m.0 (own-bit (4 * S + v)))
  test-told (port r v z) m word = sym (meets-zero w)
  test-told (size r S c) m word = sym (meets-power (4 * S + 3) w ∙ word.sizes S m (own-bit (4 * S + 3)))

  node-told : (n : Node) → OfTest Marked n → HitFor (node_uses n) ch e w → node_hit ch n e ≡ meets (node_uses n) w
  unfolding node_hit node_uses OfLiteral
  node-told root m word = sym (meets-zero w)
  node-told all m word = sym (meets-zero w)
  node-told any m word = sym (meets-zero w)
  node-told and m word = sym (meets-zero w)
  node-told or m word = sym (meets-zero w)
  node-told (lit l) m word = test-told l.test m word

  forest-told : (f : Forest) (d : ℕ) → Every (λ n c i. OfTest Marked n) f d → HitFor (forest_uses f) ch e w → forest_hit ch f e ≡ meets (forest_uses f) w
  unfolding forest_hit forest_uses Every
  forest-told none d m word = sym (meets-zero w)
  forest-told (tree n c s) d m word =
      let own = node_uses n in
      let down = forest_uses c in
      let first = hit-left (bit_or own down) (forest_uses s) ch e w word in
      ap₂ ◌||◌ (ap₂ ◌||◌ (node-told n m.0 (hit-left own down ch e w first)) (forest-told c (child_depth n d) m.1 (hit-right own down ch e w first)) ∙ sym (meets-or own down w))
      (forest-told s d m.2 (hit-right (bit_or own down) (forest_uses s) ch e w word))
      ∙ sym (meets-or (bit_or own down) (forest_uses s) w)

  pub touched-told : (n : Node) (c s : Forest) (d : ℕ) → Every (λ n c i. OfTest Marked n) (tree n c s) d → HitFor (bit_or (node_uses n) (forest_uses c)) ch e w
      → touched ch n c e ≡ meets (bit_or (node_uses n) (forest_uses c)) w
  unfolding touched Every
  touched-told n c s d m word =
      let own = node_uses n in
      let down = forest_uses c in
      ap₂ ◌||◌ (node-told n m.0 (hit-left own down ch e w word)) (forest-told c (child_depth n d) m.1 (hit-right own down ch e w word)) ∙ sym (meets-or own down w)
