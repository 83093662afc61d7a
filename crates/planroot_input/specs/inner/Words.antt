-- A word of the first two lines, byte by byte. Internal to the crate.
use Rattle.std.specs.Prelude.{◌≡◌, Bool, true, false, not, List, [], ◌∷◌, ◌++◌, ℕ, ◌<◌, eqb, Option, SomeIff}
use Rattle.planroot_input.specs.declared.Word.{Word}
use Rattle.planroot_input.specs.declared.Word.TheVariants as word
use Rattle.planroot_input.specs.Lines.{digits_only, value, is_run}

unfoldable pub leads : List ℕ → Bool
leads [] = false
leads (b ∷ s) = not (eqb b 48)

-- A number that does not begin with 0.
pub record Number (v : List ℕ) (n : ℕ) : Type 0 where
  pub lead : leads v ≡ true
  pub digits : digits_only v ≡ true
  pub is : n ≡ value v
  pub small : n < 18446744073709551616

-- What a word's bytes are so far: nothing, 0, another number, or no beginning of a digit run.
pub data IsWord : List ℕ → Word → Type 0 where
  is-empty : IsWord [] word.Empty
  is_zero : IsWord (48 ∷ []) word.Zero
  is_number : (v : List ℕ) (n : ℕ) → Number v n → IsWord v (word.Number n)
  is-bad : (v : List ℕ) → ((x : List ℕ) → is_run (v ++ x) ≡ false) → IsWord v word.NoRun

unfoldable pub AddsByte : Word → ℕ → Word → Type 0
AddsByte w b r = (v : List ℕ) → IsWord v w → IsWord (v ++ (b ∷ [])) r

-- The number of the digit run that the word's bytes are, if they are one.
unfoldable pub JudgesWord : Word → Option ℕ → Type 0
JudgesWord w r = (v : List ℕ) → IsWord v w → SomeIff r (is_run v ≡ true) (value v)
