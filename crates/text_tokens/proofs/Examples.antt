-- Worked examples of tokens. Assumes nothing.
use mathlib.Core.Path.{◌≡◌, refl}
use mathlib.Core.List.{List, [], ◌∷◌}
use mathlib.Core.Bool.{true, false}
use Prim.Native.Nat.{ℕ, zero, suc}
use lib.Dec.{eqb}
use Rattle.text_tokens.specs.Tokens.{end_of_text, bad, variable, number, left_arrow, double_arrow, less, at_most, equal, greater, pick, blanks, after_blanks, single_kind, sign_of, digits, number_of, run_at, run_token, here_at, token_at, blanks_and_signs, among, known_byte, known_bytes}

-- kind and value of the first n tokens at or after `at`, up to the end of the text
pub tokens : ℕ → List ℕ → ℕ → List (ℕ × ℕ)
tokens zero s at = []
tokens (suc n) s at = let t = token_at s at in pick (eqb t.kind end_of_text) [] ((t.kind, t.value) ∷ tokens n s t.next)

pub examples :
    -- x<-y
    (tokens 4 (120 ∷ 60 ∷ 45 ∷ 121 ∷ []) 0 ≡ (variable, 120) ∷ (left_arrow, 0) ∷ (variable, 121) ∷ []) ×
    -- <->
    (tokens 4 (60 ∷ 45 ∷ 62 ∷ []) 0 ≡ (double_arrow, 0) ∷ []) ×
    -- - >
    (tokens 4 (45 ∷ 32 ∷ 62 ∷ []) 0 ≡ (bad, 0) ∷ (greater, 0) ∷ []) ×
    -- 064
    (tokens 4 (48 ∷ 54 ∷ 52 ∷ []) 0 ≡ (bad, 0) ∷ []) ×
    -- 0
    (tokens 4 (48 ∷ []) 0 ≡ (number, 0) ∷ []) ×
    -- 64
    (tokens 4 (54 ∷ 52 ∷ []) 0 ≡ (number, 64) ∷ []) ×
    -- 65
    (tokens 4 (54 ∷ 53 ∷ []) 0 ≡ (number, 65) ∷ []) ×
    -- 1000
    (tokens 4 (49 ∷ 48 ∷ 48 ∷ 48 ∷ []) 0 ≡ (number, 65) ∷ []) ×
    -- <=
    (tokens 4 (60 ∷ 61 ∷ []) 0 ≡ (at_most, 0) ∷ []) ×
    -- < =
    (tokens 4 (60 ∷ 32 ∷ 61 ∷ []) 0 ≡ (less, 0) ∷ (equal, 0) ∷ []) ×
    -- x*y
    (known_bytes (120 ∷ 42 ∷ 121 ∷ []) ≡ false) ×
    -- x\ty
    (known_bytes (120 ∷ 9 ∷ 121 ∷ []) ≡ false) ×
    -- - !
    (known_bytes (45 ∷ 32 ∷ 33 ∷ []) ≡ true)
unfolding tokens token_at here_at after_blanks blanks single_kind sign_of run_token run_at digits number_of known_bytes known_byte among blanks_and_signs
examples = (refl, refl, refl, refl, refl, refl, refl, refl, refl, refl, refl, refl, refl)
