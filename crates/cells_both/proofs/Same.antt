-- Two changes that hit the same literals of a tree without quantifiers come to the same numbers there. Assumes nothing.
use Rattle.std.proofs.Common.{◌≡◌, ℕ, ◌+◌, ◌*◌, ◌^◌, ◌<◌, ◌≤◌, Bool, true, false, cond, not, ◌||◌, List, ◌∷◌, length, sym, refl, ap, ◌∙◌, ap₂, true≢false, arith, eq-eqb}
use lib.Bits.{bit_or}
use Rattle.logic.specs.Formula.{Test, isin, notin, port, size, Literal, Node, root, all, any, and, or, lit, Forest, none, tree, kind_number, child_depth}
use Rattle.logic.specs.inner.Agreement.{listed}
use Rattle.logic.specs.inner.Literals.{Every, OfLiteral, OfTest}
use Rattle.logic.specs.Configuration.{Configuration, indicator, in_mask}
use Rattle.logic.specs.Truth.{Tuple, port_of}
use Rattle.logic.specs.Penalty.{size_penalty, test_penalty, literal_penalty, combine, below}
use Rattle.logic.specs.Cells.{sibling_first}
use Rattle.logic.specs.Change.{Change, hit, node_hit, forest_hit, touched, Renewal, renew, OldCells, renewals, new_cell}
use Rattle.table_format.specs.Rules.{tree_count}
use Rattle.table_format.specs.inner.Index.{test_uses, node_uses, forest_uses}
use Rattle.table_format.proofs.FieldRules.{literal-children}
use Rattle.cells_touch.proofs.Bits.{in-power}
use Rattle.cells_walk.specs.inner.Nodes.{TestFits, NodeFits, Fitting}
use Rattle.cells_walk.proofs.Outcomes.{no-trees}
use Rattle.cells_atoms.proofs.Alike.{or-none}
use Rattle.cells_atoms.proofs.Ports.{bound-hit}
use Rattle.cells_flip.specs.inner.Flips.{Flipped, NoQuantifier, Flat}
use Rattle.cells_flip.proofs.Words.{Within, within-left, within-right, same-level}

-- On the bits that a tree uses, at a tuple: both changes list the same pairs and resize the same sets.
pub record SameHits (used : ℕ) (ch ch' : Change) (e : Tuple) : Type 0 where
  pub members : (S v : ℕ) → S < 16 → v < 3 → in_mask used (4 * S + v) ≡ true → listed ch.pairs S (port_of e v) ≡ listed ch'.pairs S (port_of e v)
  pub sizes : (S : ℕ) → S < 16 → in_mask used (4 * S + 3) ≡ true → ch.resized S ≡ ch'.resized S

own-bit : (j : ℕ) → in_mask (2 ^ j) j ≡ true
own-bit j = in-power j j ∙ eq-eqb j j refl

-- two cells that are renewed alike if they are touched
same_cond : (a a' : Bool) (x x' y : ℕ) → a ≡ a' → (a ≡ true → x ≡ x') → cond a x y ≡ cond a' x' y
same_cond true a' x x' y h g = g refl ∙ ap (λ (b : Bool). cond b x' y) h
same_cond false a' x x' y h g = ap (λ (b : Bool). cond b x' y) h

module _ (used sets : ℕ) (few : sets ≤ 16) (masks sizes : List ℕ) (k k' : Configuration) (ch ch' : Change) (e : Tuple)
    (same : SameHits used ch ch' e) (flipped : Flipped used masks sizes ch k) (flipped' : Flipped used masks sizes ch' k') where
  -- the tests are hit by both or by neither
  member-hit : (v S d : ℕ) → d ≤ 3 → length e ≡ d → v < d → S < sets → in_mask used (4 * S + v) ≡ true
      → listed ch.pairs S (port_of e v) ≡ listed ch'.pairs S (port_of e v)
  member-hit v S d low long l m h = same.members S v (omega arith) (omega arith) h

  test-hit : (t : Test) (d : ℕ) → d ≤ 3 → length e ≡ d → TestFits sets d t → Within (test_uses t) used → hit ch t e ≡ hit ch' t e
  unfolding TestFits hit test_uses
  test-hit (isin v S) d low long f h =
      bound-hit ch.pairs v S e (omega (arith, f.0)) ∙ member-hit v S d low long f.0 f.1 (h (4 * S + v) (own-bit (4 * S + v)))
      ∙ sym (bound-hit ch'.pairs v S e (omega (arith, f.0)))
  test-hit (notin v S) d low long f h =
      bound-hit ch.pairs v S e (omega (arith, f.0)) ∙ member-hit v S d low long f.0 f.1 (h (4 * S + v) (own-bit (4 * S + v)))
      ∙ sym (bound-hit ch'.pairs v S e (omega (arith, f.0)))
  test-hit (port r v w) d low long f h = refl
  test-hit (size r S c) d low long f h = same.sizes S (omega (arith, f.0)) (h (4 * S + 3) (own-bit (4 * S + 3)))

  node-hit : (n : Node) (d : ℕ) → d ≤ 3 → length e ≡ d → OfTest (TestFits sets d) n → Within (node_uses n) used → node_hit ch n e ≡ node_hit ch' n e
  unfolding node_hit node_uses OfLiteral
  node-hit root d low long f h = refl
  node-hit all d low long f h = refl
  node-hit any d low long f h = refl
  node-hit and d low long f h = refl
  node-hit or d low long f h = refl
  node-hit (lit l) d low long f h = test-hit l.test d low long f h

  forest-hit : (f : Forest) (d : ℕ) → length e ≡ d → Fitting sets f d → Flat f d → Within (forest_uses f) used → forest_hit ch f e ≡ forest_hit ch' f e
  unfolding forest_hit forest_uses Fitting Flat Every
  forest-hit none d long f g h = refl
  forest-hit (tree n c s) d long f g h =
      let own = bit_or (node_uses n) (forest_uses c) in
      ap₂ ◌||◌ (ap₂ ◌||◌ (node-hit n d f.0.depth3 long f.0.literal (λ j x. h j (within-left own (forest_uses s) j (within-left (node_uses n) (forest_uses c) j x))))
      (forest-hit c (child_depth n d) (long ∙ sym (same-level n d g.0)) f.1 g.1 (λ j x. h j (within-left own (forest_uses s) j (within-right (node_uses n) (forest_uses c) j x)))))
      (forest-hit s d long f.2 g.2 (λ j x. h j (within-right own (forest_uses s) j x)))

  tree-touched : (n : Node) (c s : Forest) (d : ℕ) → length e ≡ d → Fitting sets (tree n c s) d → Flat (tree n c s) d → Within (bit_or (node_uses n) (forest_uses c)) used
      → touched ch n c e ≡ touched ch' n c e
  unfolding touched Fitting Flat Every
  tree-touched n c s d long f g h =
      ap₂ ◌||◌ (node-hit n d f.0.depth3 long f.0.literal (λ j x. h j (within-left (node_uses n) (forest_uses c) j x)))
      (forest-hit c (child_depth n d) (long ∙ sym (same-level n d g.0)) f.1 g.1 (λ j x. h j (within-right (node_uses n) (forest_uses c) j x)))

  -- and a test that is hit has one penalty
  test-same : (t : Test) (d : ℕ) → d ≤ 3 → length e ≡ d → TestFits sets d t → Within (test_uses t) used → hit ch t e ≡ true → test_penalty k t e ≡ test_penalty k' t e
  unfolding TestFits hit test_uses test_penalty
  test-same (isin v S) d low long f h m =
      let i = sym (bound-hit ch.pairs v S e (omega (arith, f.0))) ∙ m in
      let i' = sym (member-hit v S d low long f.0 f.1 (h (4 * S + v) (own-bit (4 * S + v)))) ∙ i in
      ap (λ (x : Bool). indicator (not x)) (flipped.members S (port_of e v) i ∙ sym (flipped'.members S (port_of e v) i'))
  test-same (notin v S) d low long f h m =
      let i = sym (bound-hit ch.pairs v S e (omega (arith, f.0))) ∙ m in
      let i' = sym (member-hit v S d low long f.0 f.1 (h (4 * S + v) (own-bit (4 * S + v)))) ∙ i in
      ap indicator (flipped.members S (port_of e v) i ∙ sym (flipped'.members S (port_of e v) i'))
  test-same (port r v w) d low long f h m = refl
  test-same (size r S c) d low long f h m =
      let l : S < 16 = omega (arith, f.0) in
      let b = h (4 * S + 3) (own-bit (4 * S + 3)) in
      ap (λ (x : ℕ). size_penalty r x c) (flipped.sizes-are S l b m ∙ sym (flipped'.sizes-are S l b (sym (same.sizes S l b) ∙ m)))

  -- a literal has no child, so that it is touched where its test is hit
  literal-hit : (l : Literal) (c : Forest) (d : ℕ) → NodeFits sets (lit l) c d → touched ch (lit l) c e ≡ true → hit ch l.test e ≡ true
  unfolding touched node_hit forest_hit kind_number
  literal-hit l c d f h =
      let z = no-trees c (literal-children l.test (tree_count c) f.children) in
      sym (or-none (hit ch l.test e)) ∙ sym (ap (λ (x : Forest). hit ch l.test e || forest_hit ch x e) z) ∙ h

  renew-same : (n : Node) (c : Forest) (d old : ℕ) (xs ys : List Renewal) → length e ≡ d → NodeFits sets n c d → Within (node_uses n) used → touched ch n c e ≡ true
      → xs ≡ ys → renew k n e old xs ≡ renew k' n e old ys
  unfolding renew combine literal_penalty node_uses OfLiteral
  renew-same root c d old xs ys long f h m q = ap (λ (z : List Renewal). renew k root e old z) q
  renew-same all c d old xs ys long f h m q = ap (λ (z : List Renewal). renew k all e old z) q
  renew-same any c d old xs ys long f h m q = ap (λ (z : List Renewal). renew k any e old z) q
  renew-same and c d old xs ys long f h m q = ap (λ (z : List Renewal). renew k and e old z) q
  renew-same or c d old xs ys long f h m q = ap (λ (z : List Renewal). renew k or e old z) q
  renew-same (lit l) c d old xs ys long f h m q = test-same l.test d f.depth3 long f.literal h (literal-hit l c d f m)

  module _ (u : ℕ) (t : OldCells) where
    -- below a node that binds no variable
    below-same : (n : Node) (g h : Tuple → List Renewal) → NoQuantifier n → g e ≡ h e → below u n e g ≡ below u n e h
    unfolding NoQuantifier kind_number below
    below-same root g h q i = i
    below-same all g h q i = absurd (true≢false q)
    below-same any g h q i = absurd (true≢false q)
    below-same and g h q i = i
    below-same or g h q i = i
    below-same (lit l) g h q i = i

    own_same : (n : Node) (c s : Forest) (b d : ℕ) → length e ≡ d → Fitting sets (tree n c s) d → Flat (tree n c s) d → Within (bit_or (node_uses n) (forest_uses c)) used
        → renewals u k ch t c (b + u ^ d) (child_depth n d) e ≡ renewals u k' ch' t c (b + u ^ d) (child_depth n d) e
        → new_cell u k ch t n c b d e ≡ new_cell u k' ch' t n c b d e
    unfolding new_cell Fitting Flat Every
    own_same n c s b d long f g h i =
        same_cond (touched ch n c e) (touched ch' n c e) _ _ (t b e) (tree-touched n c s d long f g h)
        (λ m. renew-same n c d (t b e) _ _ long f.0 (λ j x. h j (within-left (node_uses n) (forest_uses c) j x)) m
        (below-same n (renewals u k ch t c (b + u ^ d) (child_depth n d)) (renewals u k' ch' t c (b + u ^ d) (child_depth n d)) g.0 i))

    renewals-same : (f : Forest) (b d : ℕ) → length e ≡ d → Fitting sets f d → Flat f d → Within (forest_uses f) used → renewals u k ch t f b d e ≡ renewals u k' ch' t f b d e
    unfolding renewals new_cell forest_uses Fitting Flat Every
    renewals-same none b d long f g h = refl
    renewals-same (tree n c s) b d long f g h =
        let own = bit_or (node_uses n) (forest_uses c) in
        let first : Within own used = λ j x. h j (within-left own (forest_uses s) j x) in
        ap₂ ◌∷◌
        (ap₂ (λ (x : Bool) (y : ℕ). record { hit = x; old = t b e; new = y }) (tree-touched n c s d long f g first)
        (own_same n c s b d long f g first
        (renewals-same c (b + u ^ d) (child_depth n d) (long ∙ sym (same-level n d g.0)) f.1 g.1 (λ j x. first j (within-right (node_uses n) (forest_uses c) j x)))))
        (renewals-same s (sibling_first u n c b d) d long f.2 g.2 (λ j x. h j (within-right own (forest_uses s) j x)))

    pub same-cell : (n : Node) (c s : Forest) (b d : ℕ) → length e ≡ d → Fitting sets (tree n c s) d → Flat (tree n c s) d → used ≡ bit_or (node_uses n) (forest_uses c)
        → new_cell u k ch t n c b d e ≡ new_cell u k' ch' t n c b d e
    unfolding Fitting Flat Every
    same-cell n c s b d long f g q =
        let own : Within (bit_or (node_uses n) (forest_uses c)) used = λ j x. ap (λ (y : ℕ). in_mask y j) q ∙ x in
        own_same n c s b d long f g own
        (renewals-same c (b + u ^ d) (child_depth n d) (long ∙ sym (same-level n d g.0)) f.1 g.1 (λ j x. own j (within-right (node_uses n) (forest_uses c) j x)))
