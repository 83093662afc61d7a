-- The masks after a legal move, by flips. Assumes nothing.
use mathlib.Core.Path.{◌≡◌, sym, ap, ◌∙◌}
use mathlib.Core.Logic.{◌≢◌}
use mathlib.Core.Bool.{Bool, true, false, not, ◌&&◌, true≢false}
use mathlib.Core.List.{List}
use Prim.Native.Nat.{ℕ, ◌<◌}
use native.Mathlib.Omega.{arith}
use native.Mathlib.Decide.{ℕ_discrete}
use lib.Dec.{eqb}
use lib.ListN.{length, get_or, set, take}
use lib.Seq.{get_or-set_same, get_or-set_other, set-set}
use borrow.Author.Tests.{eqb-false, not-true}
use Rattle.logic.specs.declared.Move.{Move}
use Rattle.logic.specs.inner.Flip.{flip_port}
use Rattle.logic.specs.Configuration.{Sets, in_mask, in_masks, enter, leave, mask_count}
use Rattle.logic.specs.Moves.{move_kind, kind_masks, named_masks}
use Rattle.logic.proofs.Lists.{and_left, and_right}
use Rattle.logic.proofs.Masks.{in-flip-other, enter-flip, leave-flip}
use Rattle.move_legal.specs.inner.Legal.{LegalOver}
use Rattle.logic.proofs.MoveFields.{t-used}
use Rattle.move_legal.proofs.Fitting.{in-own, fits-add, fits-drop, fits-transfer, fits-swap}

-- a mask table with one port of one set flipped
abbrev flipped : List ℕ → ℕ → ℕ → List ℕ
flipped ms S p = set ms S (flip_port (get_or ms S 0) p)

-- the masks by the kind's number
masks-add : (m : Move) (ms : List ℕ) → m.kind ≡ 1 → named_masks m ms ≡ set ms m.s (enter (get_or ms m.s 0) m.p)
unfolding named_masks kind_masks move_kind
masks-add m ms e = ap (λ (j : ℕ). kind_masks (move_kind j) m ms) e

masks-drop : (m : Move) (ms : List ℕ) → m.kind ≡ 2 → named_masks m ms ≡ set ms m.s (leave (get_or ms m.s 0) m.p)
unfolding named_masks kind_masks move_kind
masks-drop m ms e = ap (λ (j : ℕ). kind_masks (move_kind j) m ms) e

masks-transfer : (m : Move) (ms : List ℕ) → m.kind ≡ 3 → named_masks m ms
    ≡ set (set ms m.s (leave (get_or ms m.s 0) m.p)) m.t (enter (get_or (set ms m.s (leave (get_or ms m.s 0) m.p)) m.t 0) m.p)
unfolding named_masks kind_masks move_kind
masks-transfer m ms e = ap (λ (j : ℕ). kind_masks (move_kind j) m ms) e

masks-swap : (m : Move) (ms : List ℕ) → m.kind ≡ 4 → named_masks m ms ≡ set ms m.s (enter (leave (get_or ms m.s 0) m.p) m.q)
unfolding named_masks kind_masks move_kind
masks-swap m ms e = ap (λ (j : ℕ). kind_masks (move_kind j) m ms) e

-- p leaves S and enters T
transfer-flips : (ms : List ℕ) (S T p : ℕ) → S ≢ T → in_mask (get_or ms S 0) p ≡ true → in_mask (get_or ms T 0) p ≡ false
    → set (set ms S (leave (get_or ms S 0) p)) T (enter (get_or (set ms S (leave (get_or ms S 0) p)) T 0) p) ≡ flipped (flipped ms S p) T p
transfer-flips ms S T p ne i o =
    ap (λ (v : ℕ). set (set ms S v) T (enter (get_or (set ms S v) T 0) p)) (leave-flip (get_or ms S 0) p i)
    ∙ ap (set (flipped ms S p) T)
    (enter-flip (get_or (flipped ms S p) T 0) p
    (ap (λ (x : ℕ). in_mask x p) (get_or-set_other ms S T (flip_port (get_or ms S 0) p) 0 (λ e. ne (sym e))) ∙ o))

-- p leaves and q enters S
swap-flips : (ms : List ℕ) (S p q : ℕ) → S < length ms → in_mask (get_or ms S 0) p ≡ true → in_mask (get_or ms S 0) q ≡ false
    → set ms S (enter (leave (get_or ms S 0) p) q) ≡ flipped (flipped ms S p) S q
swap-flips ms S p q l i o =
    let v = flip_port (get_or ms S 0) p in
    ap (λ (x : ℕ). set ms S (enter x q)) (leave-flip (get_or ms S 0) p i)
    ∙ ap (set ms S) (enter-flip v q (in-flip-other (get_or ms S 0) p q differ ∙ o))
    ∙ ap (λ (x : ℕ). set ms S (flip_port x q)) (sym (get_or-set_same ms S v 0 l))
    ∙ sym (set-set ms S v (flip_port (get_or (set ms S v) S 0) q))
  where
    differ : q ≢ p
    differ e = true≢false (sym i ∙ ap (in_mask (get_or ms S 0)) (sym e) ∙ o)

-- the masks after each kind of legal move are its pairs' flips
module _ (ports sets : ℕ) (m : Move) (masks : List ℕ) (L : LegalOver ports sets m masks) where
  abbrev own-sets : Sets
  own-sets = in_masks (take (mask_count sets) masks)

  here : (p : ℕ) → in_masks masks m.s p ≡ own-sets m.s p
  here p = sym (in-own (mask_count sets) masks m.s p (omega (arith, L.known_over.fields.s-below)))

  transfer-parts : (a b c : Bool) → (a && b && c) ≡ true → (a ≡ true) × (b ≡ true) × (c ≡ true)
  transfer-parts a b c h = let x = and_left (a && b) c h in (and_left a b x, and_right a b x, and_right (a && b) c h)

  pub after-transfer : m.kind ≡ 3 → flipped (flipped masks m.s m.p) m.t m.p ≡ named_masks m masks
  unfolding in_masks
  after-transfer e =
      let f = sym (fits-transfer own-sets m e) ∙ L.fitting in
      let r = transfer-parts (not (eqb m.s m.t)) (own-sets m.s m.p) (not (own-sets m.t m.p)) f in
      sym (transfer-flips masks m.s m.t m.p (eqb-false _ _ (not-true _ r.0)) (here m.p ∙ r.1)
      (sym (in-own (mask_count sets) masks m.t m.p (omega (arith, t-used ports sets m L.known_over.fields e))) ∙ not-true _ r.2))
      ∙ sym (masks-transfer m masks e)

  pub after-swap : m.kind ≡ 4 → flipped (flipped masks m.s m.p) m.s m.q ≡ named_masks m masks
  unfolding in_masks
  after-swap e =
      let f = sym (fits-swap own-sets m e) ∙ L.fitting in
      let l : m.s < length masks = omega (arith, L.known_over.fields.s-below, L.known_over.masks-enough) in
      sym (swap-flips masks m.s m.p m.q l (here m.p ∙ and_left (own-sets m.s m.p) _ f)
      (here m.q ∙ not-true _ (and_right (own-sets m.s m.p) _ f)))
      ∙ sym (masks-swap m masks e)

  pub after_one : m.kind ≢ 3 → m.kind ≢ 4 → flipped masks m.s m.p ≡ named_masks m masks
  unfolding in_masks
  after_one x y = go (ℕ_discrete m.kind 1)
    where
      go : Dec (m.kind ≡ 1) → flipped masks m.s m.p ≡ named_masks m masks
      go (yes e) =
          let f = sym (fits-add own-sets m e) ∙ L.fitting in
          sym (ap (set masks m.s) (enter-flip (get_or masks m.s 0) m.p (here m.p ∙ not-true _ f))) ∙ sym (masks-add m masks e)
      go (no n) =
          let l = L.known_over.fields.kind-low in
          let h = L.known_over.fields.kind-high in
          let e : m.kind ≡ 2 = omega (arith, l, h, x, y, n) in
          let f = sym (fits-drop own-sets m e) ∙ L.fitting in
          sym (ap (set masks m.s) (leave-flip (get_or masks m.s 0) m.p (here m.p ∙ f))) ∙ sym (masks-drop m masks e)
