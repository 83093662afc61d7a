-- Grounds in their order: the first that applies, and what holds where none does. Assumes nothing.
use mathlib.Core.Path.{◌≡◌, refl}
use mathlib.Core.Bool.{Bool, true, false, cond, not, ◌&&◌}
use mathlib.Core.List.{List, [], ◌∷◌, ◌++◌}
use Prim.Native.Nat.{ℕ, suc, ◌≤◌, ◌<◌}
use native.Mathlib.Decide.{dec_le}
use native.Mathlib.Omega.{arith}
use lib.Dec.{leb, ltb}
use lib.ListN.{length, take}
use lib.Seq.{length-take-le, take_all}
use borrow.Author.Tests.{le-leb, lt-leb, ltb-false, not-false}
use Rattle.logic.proofs.Lists.{and-true, or_left, or_right}
use Rattle.logic.specs.declared.Move.{Move}
use Rattle.logic.specs.Formula.{Plan, node_count}
use Rattle.logic.specs.Configuration.{Sets}
use Rattle.logic.specs.Cells.{cell_count}
use Rattle.logic.specs.Moves.{Ground, refusal, move_grounds, known, legal}
use Rattle.text_tree.specs.Tree.{Tree, Declared, letters_of}
use Rattle.text_core.specs.Names.{declared_twice, misdeclared, ground5, ground6, ground7}
use Rattle.text_core.specs.Core.{core_of}
use Rattle.text_core.specs.Grounds.{core_grounds}
use Rattle.text_core.specs.inner.Refusal.{core_refusal}

and_no : (a b : Bool) → b ≡ false → (a && b) ≡ false
and_no true b h = h
and_no false b h = refl

pub ports-low : (u : ℕ) → u < 1 → (leb 1 u && leb u 64) ≡ false
ports-low u h = rw (lt-leb 1 u h)

pub ports-high : (u : ℕ) → 64 < u → (leb 1 u && leb u 64) ≡ false
ports-high u h = and_no (leb 1 u) (leb u 64) (lt-leb u 64 h)

pub ports-in : (u : ℕ) → 1 ≤ u → u ≤ 64 → (leb 1 u && leb u 64) ≡ true
ports-in u h g = and-true _ _ (le-leb 1 u h) (le-leb u 64 g)

-- a ground that applies is not passed over for later ones
pub refusal-first : (xs ys : List Ground) (g : ℕ) → refusal xs ≡ suc g → refusal (xs ++ ys) ≡ suc g
unfolding refusal
refusal-first [] ys g e = absurd (omega arith)
refusal-first (x ∷ xs) ys g e = go x.1 (refusal-first xs ys g) e
  where
    go : (b : Bool) → (refusal xs ≡ suc g → refusal (xs ++ ys) ≡ suc g) → cond b x.0 (refusal xs) ≡ suc g → cond b x.0 (refusal (xs ++ ys)) ≡ suc g
    go true later h = h
    go false later h = later h

pub passes : (b : Bool) (n m : ℕ) → cond b (suc n) m ≡ 0 → (b ≡ false) × (m ≡ 0)
passes true n m e = absurd (omega arith)
passes false n m e = (refl, e)

-- a move that meets neither 14 nor 15 is legal
pub grounds-legal : (P : Plan) (k : Sets) (m : Move) → refusal (move_grounds P k m) ≡ 0 → legal P k m ≡ true
unfolding refusal move_grounds
grounds-legal P k m h =
    let r = passes (not (known P m)) 13 (cond (not (legal P k m)) 15 0) h in
    not-false _ (passes (not (legal P k m)) 14 0 r.1).0

-- none of grounds 5 to 9 applies
pub record CorePasses (u : ℕ) (sets : List Declared) (a : Tree) : Type 0 where
  pub names : ground5 sets a ≡ false
  pub constants : ground6 a ≡ false
  pub quantifiers : ground7 a ≡ false
  pub few-nodes : ltb 512 (node_count (core_of (letters_of sets) a)) ≡ false
  pub few-cells : ltb 1048576 (cell_count u (core_of (letters_of sets) a) 0) ≡ false

module _ (u : ℕ) (sets : List Declared) (a : Tree) where
  pub core-passes : core_refusal u sets a ≡ 0 → CorePasses u sets a
  unfolding core_refusal core_grounds refusal
  core-passes e =
      let p5 = passes (ground5 sets a) 4 _ e in
      let p6 = passes (ground6 a) 5 _ p5.1 in
      let p7 = passes (ground7 a) 6 _ p6.1 in
      let p8 = passes (ltb 512 (node_count (core_of (letters_of sets) a))) 7 _ p7.1 in
      let p9 = passes (ltb 1048576 (cell_count u (core_of (letters_of sets) a) 0)) 8 _ p8.1 in
      record { names = p5.0; constants = p6.0; quantifiers = p7.0; few-nodes = p8.0; few-cells = p9.0 }

  pub core-then : (ys : List Ground) → CorePasses u sets a → refusal (core_grounds u sets a ++ ys) ≡ refusal ys
  unfolding core_grounds refusal
  core-then ys p = rw (p.names, p.constants, p.quantifiers, p.few-nodes, p.few-cells)

pub few-sets : (sets : List Declared) (a : Tree) → ground5 sets a ≡ false → length sets ≤ 16
unfolding ground5 misdeclared
few-sets sets a e = ltb-false 16 (length sets) (or_right (declared_twice (letters_of sets)) _ (or_left (misdeclared sets) _ e))

-- a list of which the first 17 are 16 has no more
pub whole-list : (sets : List Declared) → length (take 17 sets) ≤ 16 → take 17 sets ≡ sets
whole-list sets h = go (dec_le 17 (length sets))
  where
    go : Dec (17 ≤ length sets) → take 17 sets ≡ sets
    go (yes l) = absurd (omega (arith, length-take-le 17 sets l))
    go (no f) = take_all 17 sets (omega arith)
