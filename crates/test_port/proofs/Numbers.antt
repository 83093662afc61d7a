-- Grounds 14 and 20 as the code tries them. Assumes nothing.
use mathlib.Core.Path.{◌≡◌, refl, sym, ap, ap₂, ◌∙◌}
use mathlib.Core.Bool.{Bool, true, false, cond, not, beq}
use mathlib.Core.List.{List}
use Prim.Native.Nat.{ℕ, ◌≤◌, ◌<◌}
use native.Mathlib.Omega.{arith}
use lib.Dec.{ltb}
use lib.ListN.{get_or, take}
use lib.Seq.{get_or-take}
use borrow.Author.Tests.{lt-ltb, le-ltb}
use Rattle.logic.specs.Formula.{Plan}
use Rattle.logic.specs.Configuration.{in_mask, in_masks, mask_count}
use Rattle.logic.specs.Moves.{refusal}
use Rattle.logic.specs.InTest.{test_grounds}
use Rattle.test_port.specs.inner.Port.{PortNumber}

module _ (ports sets : ℕ) (into : Bool) (p : ℕ) (masks : List ℕ) where
  by_tests : (P : Plan) → P.sets ≡ sets → (a b : Bool) → ltb p P.ports ≡ a → beq (in_mask (get_or masks sets 0) p) into ≡ b
      → refusal (test_grounds P (in_masks (take (mask_count sets) masks)) into p) ≡ cond (not a) 14 (cond b 20 0)
  unfolding refusal test_grounds in_masks
  by_tests P s a b h k =
      ap₂ (λ (x y : Bool). cond (not x) 14 (cond y 20 0)) h
      (ap (λ (x : ℕ). beq (in_mask x p) into) (ap (λ (n : ℕ). get_or (take (mask_count sets) masks) n 0) s ∙ get_or-take (mask_count sets) masks sets 0 (omega arith)) ∙ k)

  pub not-a-port : ports ≤ p → PortNumber ports sets into p masks 14
  unfolding PortNumber
  not-a-port h P u s = sym (by_tests P s false (beq (in_mask (get_or masks sets 0) p) into) (le-ltb p P.ports (omega arith)) refl)

  pub by_condition : p < ports → (b : Bool) → beq (in_mask (get_or masks sets 0) p) into ≡ b → PortNumber ports sets into p masks (cond b 20 0)
  unfolding PortNumber
  by_condition h b k P u s = sym (by_tests P s true b (lt-ltb p P.ports (omega arith)) k)
