-- The line that planroot prints: paper 01, section Known plans.
use Rattle.std.specs.Prelude.{◌≡◌, Bool, true, false, List, [], ◌∷◌, ◌++◌, ℕ, ◌≤◌, length, drop}
use Rattle.text_tokens.specs.Tokens.{pick, digits_of}
use Rattle.planroot_print.specs.declared.Line.{Line}
use Rattle.planroot_print.specs.declared.Line.TheVariants.{Penalty, Refusal}

-- Which of the two it is: a penalty and `refused 0` have the same number.
unfoldable pub is_penalty : Line → Bool
is_penalty (Penalty root total) = true
is_penalty (Refusal number) = false

-- The number and the values of each case.
unfoldable pub line_number : Line → ℕ
line_number (Penalty root total) = 0
line_number (Refusal number) = number

-- The root's penalty, 0 in a refusal.
unfoldable pub line_root : Line → ℕ
line_root (Penalty root total) = root
line_root (Refusal number) = 0

-- The cell total, 0 in a refusal.
unfoldable pub line_total : Line → ℕ
line_total (Penalty root total) = total
line_total (Refusal number) = 0

-- "Numbers are written in decimal"; one of 32 bits has at most 10 digits.
unfoldable pub decimal : ℕ → List ℕ
decimal n = digits_of 10 n

-- `penalty `, ` cells `, `refused ` and the line end, byte by byte.
abbrev pub penalty_word : List ℕ
penalty_word = 112 ∷ 101 ∷ 110 ∷ 97 ∷ 108 ∷ 116 ∷ 121 ∷ 32 ∷ []

abbrev pub cells_word : List ℕ
cells_word = 32 ∷ 99 ∷ 101 ∷ 108 ∷ 108 ∷ 115 ∷ 32 ∷ []

abbrev pub refused_word : List ℕ
refused_word = 114 ∷ 101 ∷ 102 ∷ 117 ∷ 115 ∷ 101 ∷ 100 ∷ 32 ∷ []

abbrev pub line_end : List ℕ
line_end = 10 ∷ []

-- "`penalty P cells C` (root, cell total)"; "`refused N`"
unfoldable pub penalty_bytes : ℕ → ℕ → List ℕ
penalty_bytes root total = penalty_word ++ (decimal root ++ (cells_word ++ (decimal total ++ line_end)))

-- "`refused N`"
unfoldable pub refusal_bytes : ℕ → List ℕ
refusal_bytes number = refused_word ++ (decimal number ++ line_end)

-- "It prints `penalty P cells C` (root, cell total) or `refused N`".
unfoldable pub line_bytes : Line → List ℕ
line_bytes line = pick (is_penalty line) (penalty_bytes (line_root line) (line_total line)) (refusal_bytes (line_number line))

-- No line has more bytes: words of 15 bytes together, two numbers of 10 digits and the line end.
abbrev pub line_room : ℕ
line_room = 36

-- The bytes of a line, n of them, stand at the front of a table; behind them the table is as it was.
pub record Shows (line : Line) (out : List ℕ) (n : ℕ) (out' : List ℕ) : Type 0 where
  pub count-is : n ≡ length (line_bytes line)
  pub bytes-are : out' ≡ line_bytes line ++ drop n out
  pub few : n ≤ line_room
