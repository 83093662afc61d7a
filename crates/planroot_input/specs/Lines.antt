-- The input of planroot: "reads from standard input u on line 1, masks separated by one space on line 2, then the text" (paper 01,
-- section Known plans).
use Rattle.std.specs.Prelude.{◌≡◌, Bool, true, false, not, ◌&&◌, ◌||◌, List, [], ◌∷◌, ◌++◌, ℕ, ◌<◌, eqb, ltb, length}
use Rattle.text_tokens.specs.Tokens.{pick, is_digit, number_of}

-- The bytes before the first line end (byte 10), those behind it, and whether there is one.
unfoldable pub line : List ℕ → List ℕ
line [] = []
line (b ∷ s) = pick (eqb b 10) [] (b ∷ line s)

unfoldable pub behind : List ℕ → List ℕ
behind [] = []
behind (b ∷ s) = pick (eqb b 10) s (behind s)

unfoldable pub ends : List ℕ → Bool
ends [] = false
ends (b ∷ s) = eqb b 10 || ends s

-- "separated by one space": the words between spaces, of which some may be empty.
unfoldable pub before : ℕ → List (List ℕ) → List (List ℕ)
before b [] = (b ∷ []) ∷ []
before b (w ∷ ws) = (b ∷ w) ∷ ws

unfoldable pub words : List ℕ → List (List ℕ)
words [] = [] ∷ []
words (b ∷ s) = pick (eqb b 32) ([] ∷ words s) (before b (words s))

-- "digit runs (as above) of numbers below 2^64"; "A digit run is 0 or doesn't begin with 0."
unfoldable pub digits_only : List ℕ → Bool
digits_only [] = true
digits_only (b ∷ s) = is_digit b && digits_only s

unfoldable pub begins_well : List ℕ → Bool
begins_well [] = false
begins_well (b ∷ []) = true
begins_well (b ∷ c ∷ s) = not (eqb b 48)

unfoldable pub value : List ℕ → ℕ
value w = number_of 0 w

unfoldable pub is_run : List ℕ → Bool
is_run w = digits_only w && begins_well w && ltb (value w) 18446744073709551616

unfoldable pub all_runs : List (List ℕ) → Bool
all_runs [] = true
all_runs (w ∷ ws) = is_run w && all_runs ws

unfoldable pub values : List (List ℕ) → List ℕ
values [] = []
values (w ∷ ws) = value w ∷ values ws

-- The first two lines are as they should be; u, the masks and the text.
unfoldable pub sound : List ℕ → Bool
sound input = ends input && is_run (line input) && all_runs (words (line (behind input)))

unfoldable pub ports : List ℕ → ℕ
ports input = value (line input)

unfoldable pub masks : List ℕ → List ℕ
masks input = values (words (line (behind input)))

unfoldable pub text : List ℕ → List ℕ
text input = behind (behind input)

-- Bytes of an input behind which nothing changes the line: "N is 0, before all else", since the first two lines are wrong whatever
-- follows, or "text over 4,096 bytes".
pub data Settled (input : List ℕ) : Type 0 where
  wrong : ((more : List ℕ) → sound (input ++ more) ≡ false) → Settled input
  long : 4096 < length (text input) → Settled input
