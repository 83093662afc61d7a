-- A call over kinds tries 11 to 13, then 14 of the kinds, then what is left. Assumes nothing.
use mathlib.Core.Path.{◌≡◌, ap, ◌∙◌}
use mathlib.Core.Bool.{Bool, true, false, cond, not}
use mathlib.Core.List.{List, ◌∷◌}
use Prim.Native.Nat.{ℕ}
use lib.ListN.{take}
use Rattle.logic.specs.Formula.{Plan}
use Rattle.logic.specs.Configuration.{Sets, in_masks, own_masks}
use Rattle.logic.specs.Moves.{Ground, refusal, kinds_known}
use Rattle.table_format.specs.Decode.{Decoded, sound}
use Rattle.call_open.specs.inner.Opening.{open_number}
use Rattle.call_open.proofs.Opening.{Tries}

module _ (kinds : ℕ) {d : Decoded} {masks : List ℕ} {shortest : ℕ} {rest : Plan → Sets → List Ground} {gs : List Ground}
    (t : Tries d masks shortest (λ Q k. (14, not (kinds_known kinds)) ∷ rest Q k) gs) (P : Plan) (e : d ≡ sound P) (opens : open_number d masks shortest ≡ 0) where
  by-kinds : (b : Bool) → kinds_known kinds ≡ b → refusal gs ≡ cond (not b) 14 (refusal (rest P (in_masks (take (own_masks P) masks))))
  unfolding refusal
  by-kinds b h = t.passed P e opens ∙ ap (λ (c : Bool). cond (not c) 14 (refusal (rest P (in_masks (take (own_masks P) masks))))) h

  pub kinds-unknown : kinds_known kinds ≡ false → refusal gs ≡ 14
  kinds-unknown h = by-kinds false h

  pub kinds-pass : kinds_known kinds ≡ true → refusal gs ≡ refusal (rest P (in_masks (take (own_masks P) masks)))
  kinds-pass h = by-kinds true h
