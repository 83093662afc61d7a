-- Joints: their kinds, their parts, and where they are merged. Assumes nothing.
use mathlib.Core.Path.{◌≡◌, refl}
use mathlib.Core.Bool.{Bool, true, false, not}
use mathlib.Core.Logic.{◌⊎◌, inl, inr}
use Prim.Native.Nat.{ℕ, zero, suc, ◌<◌}
use native.Mathlib.Omega.{arith}
use Rattle.logic.specs.Formula.{Forest, none, tree, kind_number}
use Rattle.text_tree.specs.Tree.{Quantifier, forall, exists, Join, conj, disj, imp, rev, iff}
use Rattle.text_tree.specs.inner.Stored.{join_operator}
use Rattle.text_core.specs.Core.{Above, alone, inside, joint_node, Part, joint, two, quantifier_node, join_with}
use Rattle.text_emit.specs.inner.Emits.{above_of, joint_at, left_at, right_at, JointIs, LeftIs, RightIs, row_of}

module _ (operator : ℕ) (p : Bool) where
  pub joint-kept : (r : ℕ) → (operator ≡ 5) ⊎ (operator ≡ 9) → r ≡ kind_number (joint_node p) → JointIs operator p r
  unfolding JointIs join_operator joint_at
  joint-kept r h e conj o = e
  joint-kept r (inl h) e disj o = absurd (omega arith)
  joint-kept r (inr h) e disj o = absurd (omega arith)
  joint-kept r (inl h) e imp o = absurd (omega arith)
  joint-kept r (inr h) e imp o = absurd (omega arith)
  joint-kept r (inl h) e rev o = absurd (omega arith)
  joint-kept r (inr h) e rev o = absurd (omega arith)
  joint-kept r h e iff o = e

  pub joint-turned : (r : ℕ) → (operator ≡ 5 → ⊥) → (operator ≡ 9 → ⊥) → r ≡ kind_number (joint_node (not p)) → JointIs operator p r
  unfolding JointIs join_operator joint_at
  joint-turned r f g e conj o = absurd (f o)
  joint-turned r f g e disj o = e
  joint-turned r f g e imp o = e
  joint-turned r f g e rev o = e
  joint-turned r f g e iff o = absurd (g o)

  pub left-turned : operator ≡ 7 → LeftIs operator p (not p)
  unfolding LeftIs join_operator left_at
  left-turned h conj o = absurd (omega arith)
  left-turned h disj o = absurd (omega arith)
  left-turned h imp o = refl
  left-turned h rev o = absurd (omega arith)
  left-turned h iff o = absurd (omega arith)

  pub left-kept : (operator ≡ 7 → ⊥) → LeftIs operator p p
  unfolding LeftIs join_operator left_at
  left-kept h conj o = refl
  left-kept h disj o = refl
  left-kept h imp o = absurd (h o)
  left-kept h rev o = refl
  left-kept h iff o = refl

  pub right-turned : operator ≡ 8 → RightIs operator p (not p)
  unfolding RightIs join_operator right_at
  right-turned h conj o = absurd (omega arith)
  right-turned h disj o = absurd (omega arith)
  right-turned h imp o = absurd (omega arith)
  right-turned h rev o = refl
  right-turned h iff o = absurd (omega arith)

  pub right_kept : (operator ≡ 8 → ⊥) → RightIs operator p p
  unfolding RightIs join_operator right_at
  right_kept h conj o = refl
  right_kept h disj o = refl
  right_kept h imp o = refl
  right_kept h rev o = absurd (h o)
  right_kept h iff o = refl

-- a join is a joint of its operands
pub join-operands : (j : Join) (p : Bool) (F G : Bool → Part) (above : Above) (s : Forest)
    → join_with two j p F G above s ≡ joint (joint_at j p) (row_of j p F G) above s
unfolding join_with two joint_at row_of
join-operands conj p F G above s = refl
join-operands disj p F G above s = refl
join-operands imp p F G above s = refl
join-operands rev p F G above s = refl
join-operands iff p F G above s = refl

-- the operands of any join but `<->`
pub operands-two : (j : Join) (p : Bool) (F G : Bool → Part) → join_operator j < 9
    → row_of j p F G none ≡ F (left_at j p) (inside (joint_at j p)) (G (right_at j p) (inside (joint_at j p)) none)
unfolding join_operator row_of left_at right_at joint_at
operands-two conj p F G h = refl
operands-two disj p F G h = refl
operands-two imp p F G h = refl
operands-two rev p F G h = refl
operands-two iff p F G h = absurd (omega arith)

-- a joint inside its like, and any other
pub above-joint : (j : Bool) → above_of (kind_number (joint_node j)) ≡ inside j
unfolding above_of kind_number joint_node
above-joint true = refl
above-joint false = refl

pub joint-merged : (j : Bool) (c : Forest → Forest) (s : Forest) → joint j c (inside j) s ≡ c s
unfolding joint
joint-merged true c s = refl
joint-merged false c s = refl

pub joint-own : (j : Bool) (k : ℕ) (c : Forest → Forest) (s : Forest) → (kind_number (joint_node j) ≡ k → ⊥) → joint j c (above_of k) s ≡ tree (joint_node j) (c none) s
unfolding joint above_of joint_node kind_number
joint-own j zero c s h = refl
joint-own j (suc zero) c s h = refl
joint-own j (suc (suc zero)) c s h = refl
joint-own true (suc (suc (suc zero))) c s h = absurd (h refl)
joint-own false (suc (suc (suc zero))) c s h = refl
joint-own true (suc (suc (suc (suc zero)))) c s h = refl
joint-own false (suc (suc (suc (suc zero)))) c s h = absurd (h refl)
joint-own j (suc (suc (suc (suc (suc k))))) c s h = refl

pub above-quantifier : (p : Bool) (q : Quantifier) → above_of (kind_number (quantifier_node p q)) ≡ alone
unfolding above_of kind_number quantifier_node
above-quantifier true forall = refl
above-quantifier true exists = refl
above-quantifier false forall = refl
above-quantifier false exists = refl
