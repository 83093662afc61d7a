-- The conditions of a legal move and the masks that it leaves, kind by kind. Assumes nothing.
use mathlib.Core.Path.{◌≡◌, sym, ap, ap₂, ◌∙◌}
use mathlib.Core.Logic.{◌≢◌}
use mathlib.Core.Bool.{Bool, false, not, ◌&&◌}
use mathlib.Core.List.{List}
use Prim.Native.Nat.{ℕ, ◌<◌}
use native.Mathlib.Omega.{arith}
use lib.Dec.{eqb}
use lib.ListN.{take}
use lib.Seq.{get_or-take}
use borrow.Author.Tests.{eq-eqb, ne_eqb}
use Rattle.logic.specs.declared.Move.{Move}
use Rattle.logic.specs.Configuration.{Sets, in_mask, in_masks, mask_count}
use Rattle.logic.specs.Moves.{move_kind, fields_fit, fits}
use Rattle.move_legal.specs.inner.Legal.{KnownOver}
use Rattle.logic.proofs.MoveFields.{t-used, last-kind}

-- a set of the plan is the same in all masks and in the plan's own
pub in-own : (own : ℕ) (masks : List ℕ) (s p : ℕ) → s < own → in_masks (take own masks) s p ≡ in_masks masks s p
unfolding in_masks
in-own own masks s p h = ap (λ (x : ℕ). in_mask x p) (get_or-take own masks s 0 h)

-- the condition by the kind's number
pub fits-add : (k : Sets) (m : Move) → m.kind ≡ 1 → fits k m ≡ not (k m.s m.p)
unfolding fits fields_fit move_kind
fits-add k m e = ap (λ (j : ℕ). fields_fit (move_kind j) k m) e

pub fits-drop : (k : Sets) (m : Move) → m.kind ≡ 2 → fits k m ≡ k m.s m.p
unfolding fits fields_fit move_kind
fits-drop k m e = ap (λ (j : ℕ). fields_fit (move_kind j) k m) e

pub fits-transfer : (k : Sets) (m : Move) → m.kind ≡ 3 → fits k m ≡ (not (eqb m.s m.t) && k m.s m.p && not (k m.t m.p))
unfolding fits fields_fit move_kind
fits-transfer k m e = ap (λ (j : ℕ). fields_fit (move_kind j) k m) e

pub fits-swap : (k : Sets) (m : Move) → m.kind ≡ 4 → fits k m ≡ (k m.s m.p && not (k m.s m.q))
unfolding fits fields_fit move_kind
fits-swap k m e = ap (λ (j : ℕ). fields_fit (move_kind j) k m) e

-- what the tests of the masks say of the condition
module _ (ports sets : ℕ) (m : Move) (masks : List ℕ) (K : KnownOver ports sets m masks) where
  abbrev own : Sets
  own = in_masks (take (mask_count sets) masks)

  at-s : (p : ℕ) → in_masks masks m.s p ≡ own m.s p
  at-s p = sym (in-own (mask_count sets) masks m.s p (omega (arith, K.fields.s-below)))

  pub says-add : (b : Bool) → m.kind ≡ 1 → b ≡ in_masks masks m.s m.p → not b ≡ fits own m
  says-add b e h = ap not (h ∙ at-s m.p) ∙ sym (fits-add own m e)

  pub says-drop : (b : Bool) → m.kind ≡ 2 → b ≡ in_masks masks m.s m.p → b ≡ fits own m
  says-drop b e h = h ∙ at-s m.p ∙ sym (fits-drop own m e)

  pub says_same : m.kind ≡ 3 → m.s ≡ m.t → false ≡ fits own m
  says_same e h =
      sym (ap (λ (x : Bool). not x && own m.s m.p && not (own m.t m.p)) (eq-eqb m.s m.t h)) ∙ sym (fits-transfer own m e)

  pub says-transfer : (b c r : Bool) → m.kind ≡ 3 → m.s ≢ m.t → b ≡ in_masks masks m.s m.p → c ≡ in_masks masks m.t m.p
      → r ≡ (b && not c) → r ≡ fits own m
  says-transfer b c r e n h i g =
      g ∙ ap₂ (λ (x y : Bool). x && not y) (h ∙ at-s m.p) (i ∙ sym (in-own (mask_count sets) masks m.t m.p (omega (arith, t-used ports sets m K.fields e))))
      ∙ sym (ap (λ (x : Bool). not x && own m.s m.p && not (own m.t m.p)) (ne_eqb m.s m.t n))
      ∙ sym (fits-transfer own m e)

  pub says-swap : (b c r : Bool) → m.kind ≢ 1 → m.kind ≢ 2 → m.kind ≢ 3 → b ≡ in_masks masks m.s m.p → c ≡ in_masks masks m.s m.q
      → r ≡ (b && not c) → r ≡ fits own m
  says-swap b c r x y z h i g =
      g ∙ ap₂ (λ (x y : Bool). x && not y) (h ∙ at-s m.p) (i ∙ at-s m.q)
      ∙ sym (fits-swap own m (last-kind ports sets m K.fields x y z))
