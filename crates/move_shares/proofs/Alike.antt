-- Two changes that come to the same on all that a tree uses give its cells the same numbers; sums over tuples, modulo 2^32. Assumes
-- nothing.
use mathlib.Core.Path.{◌≡◌, refl, ap, ◌∙◌, subst}
use mathlib.Core.Bool.{Bool, true, not, true≢false}
use mathlib.Core.List.{[], ◌∷◌}
use Prim.Native.Nat.{ℕ, zero, suc, ◌+◌, ◌*◌, ◌^◌, ◌%◌, ◌≤◌, ◌<◌}
use native.Mathlib.Omega.{arith}
use lib.Bits.{bit_or}
use borrow.Author.Tests.{eq-eqb}
use Rattle.logic.specs.Formula.{Test, isin, notin, port, size, Node, root, all, any, and, or, lit, Forest, none, tree, kind_number, child_depth}
use Rattle.logic.specs.inner.Literals.{Every, OfLiteral, OfTest}
use Rattle.logic.specs.Configuration.{Configuration, indicator, in_mask}
use Rattle.logic.specs.Truth.{Tuple, port_of}
use Rattle.logic.specs.Penalty.{size_penalty, test_penalty}
use Rattle.logic.specs.Change.{Change, some_of, member_hit, hit, modulus, OldCells, new_cell}
use Rattle.logic.proofs.Lists.{TupleOf, empty, more, or-true-left, or_true_right}
use Rattle.logic.proofs.Touched.{PortsBelow}
use Rattle.table_format.specs.inner.Index.{test_uses, node_uses, forest_uses}
use Rattle.cells_touch.proofs.Bits.{in-or, in-power}
use Rattle.cells_walk.specs.inner.Nodes.{TestFits, Fitting}
use Rattle.cells_walk.specs.inner.Below.{Directly, at-root, at_all, at-any, at-and, at-or, at-lit}
use Rattle.cells_atoms.specs.inner.Alike.{AlikeAt, Alike}
use Rattle.cells_atoms.specs.inner.Atoms.{over_tuples, AllRegular}
use Rattle.cells_atoms.proofs.Alike.{new-cell-alike}
use Rattle.cells_atoms.proofs.Over.{sum-mod, ports-kept}
use Rattle.cells_flip.specs.inner.Flips.{NoQuantifier, Flat}

-- On what a word of uses names, at the tuples of T by their depth: two changes hit the same and, where they hit, come to the same.
pub record SameUses (sets used : ℕ) (T : ℕ → Tuple → Type 0) (k : Configuration) (ch : Change) (k' : Configuration) (ch' : Change) : Type 0 where
  pub hits : (S v d : ℕ) (e : Tuple) → T d e → v < d → v < 3 → in_mask used (4 * S + v) ≡ true
      → some_of (member_hit v S e) ch.pairs ≡ some_of (member_hit v S e) ch'.pairs
  pub members : (S v d : ℕ) (e : Tuple) → T d e → v < d → v < 3 → in_mask used (4 * S + v) ≡ true
      → some_of (member_hit v S e) ch.pairs ≡ true → k.member S (port_of e v) ≡ k'.member S (port_of e v)
  pub resized-same : (S : ℕ) → S < sets → in_mask used (4 * S + 3) ≡ true → ch.resized S ≡ ch'.resized S
  pub sizes-same : (S : ℕ) → S < sets → in_mask used (4 * S + 3) ≡ true → ch.resized S ≡ true → k.size S ≡ k'.size S

-- A word has the bits of another.
abbrev Within : ℕ → ℕ → Type 0
Within a b = (j : ℕ) → in_mask a j ≡ true → in_mask b j ≡ true

pub in_left : (a b j : ℕ) → in_mask a j ≡ true → in_mask (bit_or a b) j ≡ true
in_left a b j h = in-or a b j ∙ or-true-left (in_mask a j) _ h

pub in_right : (a b j : ℕ) → in_mask b j ≡ true → in_mask (bit_or a b) j ≡ true
in_right a b j h = in-or a b j ∙ or_true_right (in_mask a j) _ h

pub own-bit : (j : ℕ) → in_mask (2 ^ j) j ≡ true
own-bit j = in-power j j ∙ eq-eqb j j refl

-- T goes down from a cell to the cells directly below it, at the nodes that keep G.
module _ (u sets used : ℕ) (T : ℕ → Tuple → Type 0) (G : Node → Type 0)
    (down : (n : Node) (d : ℕ) (e x : Tuple) → G n → Directly u n e x → T d e → T (child_depth n d) x)
    (k : Configuration) (ch : Change) (k' : Configuration) (ch' : Change) (same : SameUses sets used T k ch k' ch') where
  test-alike : (t : Test) (d : ℕ) (e : Tuple) → T d e → d ≤ 3 → TestFits sets d t → Within (test_uses t) used → AlikeAt k ch k' ch' t e
  unfolding TestFits test_uses hit test_penalty
  test-alike (isin v S) d e w l h b =
      let i = b (4 * S + v) (own-bit (4 * S + v)) in
      let v3 : v < 3 = omega (arith, h.0) in
      record {
        same-hit = same.hits S v d e w h.0 v3 i;
        same-penalty = λ a. ap (λ (x : Bool). indicator (not x)) (same.members S v d e w h.0 v3 i a);
      }
  test-alike (notin v S) d e w l h b =
      let i = b (4 * S + v) (own-bit (4 * S + v)) in
      let v3 : v < 3 = omega (arith, h.0) in
      record {
        same-hit = same.hits S v d e w h.0 v3 i;
        same-penalty = λ a. ap indicator (same.members S v d e w h.0 v3 i a);
      }
  test-alike (port r v w') d e w l h b = record { same-hit = refl; same-penalty = λ a. refl }
  test-alike (size r S c) d e w l h b =
      let i = b (4 * S + 3) (own-bit (4 * S + 3)) in
      record {
        same-hit = same.resized-same S h.0 i;
        same-penalty = λ a. ap (λ (x : ℕ). size_penalty r x c) (same.sizes-same S h.0 i a);
      }

  node_alike : (n : Node) (d : ℕ) (e : Tuple) → T d e → d ≤ 3 → OfTest (TestFits sets d) n → Within (node_uses n) used → OfTest (λ t. AlikeAt k ch k' ch' t e) n
  unfolding OfLiteral node_uses
  node_alike root d e w l h b = tt
  node_alike all d e w l h b = tt
  node_alike any d e w l h b = tt
  node_alike and d e w l h b = tt
  node_alike or d e w l h b = tt
  node_alike (lit t) d e w l h b = test-alike t.test d e w l h b

  uses-alike : (f : Forest) (d : ℕ) (e : Tuple) → Every (λ n c i. G n) f d → Fitting sets f d → Within (forest_uses f) used → T d e → Alike u k ch k' ch' f e
  unfolding Every Fitting forest_uses Alike
  uses-alike none d e g h b w = tt
  uses-alike (tree n c s) d e g h b w =
      let own : Within (bit_or (node_uses n) (forest_uses c)) used = λ j i. b j (in_left (bit_or (node_uses n) (forest_uses c)) (forest_uses s) j i) in (
        node_alike n d e w h.0.depth3 h.0.literal (λ j i. own j (in_left (node_uses n) (forest_uses c) j i)),
        (λ x i. uses-alike c (child_depth n d) x g.1 h.1 (λ j a. own j (in_right (node_uses n) (forest_uses c) j a)) (down n d e x g.0 i w)),
        uses-alike s d e g.2 h.2 (λ j i. b j (in_right (bit_or (node_uses n) (forest_uses c)) (forest_uses s) j i)) w,
      )

  -- Two changes that come to the same on what a tree uses, at and below a cell of it, give that cell the same number.
  pub word-alike : 1 ≤ u → PortsBelow u ch.pairs → PortsBelow u ch'.pairs → (t : OldCells) (n : Node) (c : Forest) (b d : ℕ) (e : Tuple)
      → AllRegular (tree n c none) d → Fitting sets (tree n c none) d → Every (λ n c i. G n) (tree n c none) d
      → used ≡ forest_uses (tree n c none) → T d e → new_cell u k ch t n c b d e ≡ new_cell u k' ch' t n c b d e
  word-alike u1 low low' t n c b d e r h g i w =
      new-cell-alike u u1 k ch k' ch' low low' t n c b d e r (uses-alike (tree n c none) d e g h (λ j a. ap (λ (x : ℕ). in_mask x j) i ∙ a) w)

-- All tuples of a tree, and the one tuple of a tree without quantifiers.
abbrev pub Anywhere : ℕ → Tuple → Type 0
Anywhere i x = Unit {0}

unfoldable pub Here : ℕ → Tuple → ℕ → Tuple → Type 0
Here d e i x = (i ≡ d) × (x ≡ e)

module _ (u sets : ℕ) (k : Configuration) (ch : Change) (k' : Configuration) (ch' : Change) (u1 : 1 ≤ u)
    (low : PortsBelow u ch.pairs) (low' : PortsBelow u ch'.pairs) (t : OldCells) (n : Node) (c : Forest) (b d : ℕ) (e : Tuple)
    (r : AllRegular (tree n c none) d) (h : Fitting sets (tree n c none) d) where
  pub any-alike : SameUses sets (forest_uses (tree n c none)) Anywhere k ch k' ch' → new_cell u k ch t n c b d e ≡ new_cell u k' ch' t n c b d e
  unfolding Every
  any-alike same =
      word-alike u sets (forest_uses (tree n c none)) Anywhere (λ a. Unit {0}) (λ a i y x g z w. tt) k ch k' ch' same u1 low low' t n c b d e r h
      (every-unit (tree n c none) d) refl tt
    where
      every-unit : (f : Forest) (i : ℕ) → Every (λ a y j. Unit {0}) f i
      every-unit none i = tt
      every-unit (tree a y s) i = (tt, every-unit y (child_depth a i), every-unit s i)

  pub flat-alike : Flat (tree n c none) d → SameUses sets (forest_uses (tree n c none)) (Here d e) k ch k' ch' → new_cell u k ch t n c b d e ≡ new_cell u k' ch' t n c b d e
  unfolding Flat NoQuantifier Here child_depth kind_number
  flat-alike g same =
      word-alike u sets (forest_uses (tree n c none)) (Here d e) NoQuantifier level k ch k' ch' same u1 low low' t n c b d e r h g refl (refl, refl)
    where
      level : (a : Node) (i : ℕ) (y x : Tuple) → NoQuantifier a → Directly u a y x → Here d e i y → Here d e (child_depth a i) x
      level root i y x q at-root w = w
      level all i y x q (at_all l) w = absurd (true≢false q)
      level any i y x q (at-any l) w = absurd (true≢false q)
      level and i y x q at-and w = w
      level or i y x q at-or w = w
      level (lit l) i y x q at-lit w = w

-- A relation of three numbers that sums keep holds of three sums over all tuples if it holds of their terms.
module _ (Q : ℕ → ℕ → ℕ → Type 0) (start : Q 0 0 0) (step : (a b c x y z : ℕ) → Q a b c → Q x y z → Q (a + x) (b + y) (c + z))
    (u : ℕ) (f g h : Tuple → ℕ) (d : ℕ) (each : (x : Tuple) → TupleOf u d x → Q (f x) (g x) (h x)) where
  kept_from : (m i : ℕ) (e : Tuple) → i + m ≡ d → TupleOf u i e → Q (over_tuples u m f e) (over_tuples u m g e) (over_tuples u m h e)
  unfolding over_tuples
  kept_from zero i e l w = each e (subst (λ (j : ℕ). TupleOf u j e) (let q : i ≡ d = omega arith in q) w)
  kept_from (suc m) i e l w = ports-kept Q start step u _ _ _ (λ p j. kept_from m (suc i) (p ∷ e) (omega arith) (more j w))

  tuples-kept : Q (over_tuples u d f []) (over_tuples u d g []) (over_tuples u d h [])
  tuples-kept = kept_from d 0 [] (omega arith) empty

-- terms that are equal modulo 2^32, and terms that are 0
pub tuples-mod : (u : ℕ) (g h : Tuple → ℕ) (d : ℕ) → ((x : Tuple) → TupleOf u d x → g x % modulus ≡ h x % modulus)
    → over_tuples u d g [] % modulus ≡ over_tuples u d h [] % modulus
tuples-mod u g h d H = tuples-kept (λ x y z. x % modulus ≡ y % modulus) refl (λ a b c x y z i j. sum-mod a b x y i j) u g h h d H

none-mod : (a x : ℕ) → a % modulus ≡ 0 → x % modulus ≡ 0 → (a + x) % modulus ≡ 0
unfolding modulus
none-mod a x h i = omega arith

pub tuples-none : (u : ℕ) (g : Tuple → ℕ) (d : ℕ) → ((x : Tuple) → g x % modulus ≡ 0) → over_tuples u d g [] % modulus ≡ 0
unfolding modulus
tuples-none u g d H = tuples-kept (λ x y z. x % modulus ≡ 0) refl (λ a b c x y z i j. none-mod a x i j) u g g g d (λ x w. H x)
