-- The tokens of a plan's text: paper 01, section Plan text. A text is a list of bytes.
use Rattle.std.specs.Prelude.{List, [], ◌∷◌, ◌++◌, Bool, true, false, ◌&&◌, ◌||◌, ℕ, zero, suc, ◌+◌, ◌-◌, ◌*◌, ◌/◌, ◌%◌, min, length, get_or, drop, ltb, leb, eqb}
use Rattle.std.specs.List.{list_all}
use Rattle.text_tokens.specs.declared.Token.{Token}
use Rattle.text_tokens.specs.declared.Sign.{Sign}
use Rattle.text_tokens.specs.declared.Run.{Run}

-- The kinds: "Tokens: `[ ] ( ) @ ? ~ & | -> <- <-> : / # < <= = != >= >`, letters, digit runs", in this order. The six
-- relations stand in the order of their numbers in the plan table, so that a relation's number is its kind less `less`.
abbrev pub end_of_text : ℕ
end_of_text = 0

abbrev pub left_square : ℕ
left_square = 1

abbrev pub right_square : ℕ
right_square = 2

abbrev pub left_bracket : ℕ
left_bracket = 3

abbrev pub right_bracket : ℕ
right_bracket = 4

abbrev pub at_sign : ℕ
at_sign = 5

abbrev pub question_mark : ℕ
question_mark = 6

abbrev pub tilde : ℕ
tilde = 7

abbrev pub ampersand : ℕ
ampersand = 8

abbrev pub bar : ℕ
bar = 9

abbrev pub right_arrow : ℕ
right_arrow = 10

abbrev pub left_arrow : ℕ
left_arrow = 11

abbrev pub double_arrow : ℕ
double_arrow = 12

abbrev pub colon : ℕ
colon = 13

abbrev pub slash : ℕ
slash = 14

abbrev pub hash : ℕ
hash = 15

abbrev pub less : ℕ
less = 16

abbrev pub at_most : ℕ
at_most = 17

abbrev pub equal : ℕ
equal = 18

abbrev pub unequal : ℕ
unequal = 19

abbrev pub at_least : ℕ
at_least = 20

abbrev pub greater : ℕ
greater = 21

abbrev pub variable : ℕ
variable = 22

abbrev pub set_letter : ℕ
set_letter = 23

abbrev pub number : ℕ
number = 24

abbrev pub bad : ℕ
bad = 25

abbrev pub pick : {A : Type 0} → Bool → A → A → A
pick true x y = x
pick false x y = y

abbrev pub between : ℕ → ℕ → ℕ → Bool
between a b c = leb a b && leb b c

-- "Variables v, w are lower-case letters"; "upper-case set letters"; digits.
abbrev pub is_variable : ℕ → Bool
is_variable b = between 97 b 122

abbrev pub is_set : ℕ → Bool
is_set b = between 65 b 90

abbrev pub is_digit : ℕ → Bool
is_digit b = between 48 b 57

-- "spaces and line ends (byte 10)"
abbrev pub blank : ℕ → Bool
blank b = eqb b 32 || eqb b 10

-- How many blanks stand in front.
unfoldable pub blanks : List ℕ → ℕ
blanks [] = 0
blanks (b ∷ s) = pick (blank b) (suc (blanks s)) 0

-- "One reading position moves over the text, past spaces and line ends"
unfoldable pub after_blanks : List ℕ → ℕ → ℕ
after_blanks s at = at + blanks (drop at s)

abbrev pub sign : ℕ → ℕ → Sign
sign k n = record { kind = k; len = n }

-- The signs of one byte that begin no longer one: [ ] ( ) @ ? ~ & | : / # =
unfoldable pub single_kind : ℕ → ℕ
single_kind a =
    pick (eqb a 91) left_square (pick (eqb a 93) right_square (pick (eqb a 40) left_bracket (pick (eqb a 41) right_bracket
    (pick (eqb a 64) at_sign (pick (eqb a 63) question_mark (pick (eqb a 126) tilde (pick (eqb a 38) ampersand (pick (eqb a 124) bar
    (pick (eqb a 58) colon (pick (eqb a 47) slash (pick (eqb a 35) hash (pick (eqb a 61) equal bad))))))))))))

abbrev pub one_or_two : ℕ → ℕ → ℕ → ℕ → Sign
one_or_two b second long short = pick (eqb b second) (sign long 2) (sign short 1)

-- "taking the longest token": the sign that the bytes a, b, c begin with. "`-` and `!` alone fall to 3": they are bad.
unfoldable pub sign_of : ℕ → ℕ → ℕ → Sign
sign_of a b c =
    -- ->
    pick (eqb a 45) (one_or_two b 62 right_arrow bad)
    -- !=
    (pick (eqb a 33) (one_or_two b 61 unequal bad)
    -- >= and >
    (pick (eqb a 62) (one_or_two b 61 at_least greater)
    -- <->, <-, <= and <
    (pick (eqb a 60) (pick (eqb b 45) (pick (eqb c 62) (sign double_arrow 3) (sign left_arrow 2)) (one_or_two b 61 at_most less))
    (sign (single_kind a) 1))))

-- How many digits stand in front.
unfoldable pub digits : List ℕ → ℕ
digits [] = 0
digits (b ∷ s) = pick (is_digit b) (suc (digits s)) 0

-- The number that they write, behind a number v.
unfoldable pub number_of : ℕ → List ℕ → ℕ
number_of v [] = v
number_of v (b ∷ s) = pick (is_digit b) (number_of (10 * v + (b - 48)) s) v

-- "Numbers are written in decimal" (01, before its sections): the digits of a number that has at most k of them.
unfoldable pub digits_of : ℕ → ℕ → List ℕ
digits_of zero n = []
digits_of (suc k) n = pick (ltb n 10) [] (digits_of k (n / 10)) ++ ((48 + n % 10) ∷ [])

-- The digit run at i: its number, kept as 65 if above 64, and the position after it.
unfoldable pub run_at : List ℕ → ℕ → ℕ → Run
run_at s i v = record { value = min 65 (number_of v (drop i s)); end = i + digits (drop i s) }

-- "A digit run is 0 or doesn't begin with 0."
unfoldable pub run_token : ℕ → ℕ → Run → Token
run_token a i r = pick (eqb a 48 && ltb (i + 1) r.end) (record { kind = bad; value = 0; next = r.end }) (record { kind = number; value = r.value; next = r.end })

-- The token at i, where no blank stands. The value of a letter is its byte.
unfoldable pub here_at : List ℕ → ℕ → Token
here_at s i =
    let a = get_or s i 0 in
    let g = sign_of a (get_or s (i + 1) 0) (get_or s (i + 2) 0) in
    pick (leb (length s) i) (record { kind = end_of_text; value = 0; next = i })
    (pick (is_variable a) (record { kind = variable; value = a; next = i + 1 })
    (pick (is_set a) (record { kind = set_letter; value = a; next = i + 1 })
    (pick (is_digit a) (run_token a i (run_at s i 0))
    (record { kind = g.kind; value = 0; next = i + g.len }))))

-- The next token at or after `at`.
unfoldable pub token_at : List ℕ → ℕ → Token
token_at s at = here_at s (after_blanks s at)

-- Space, line end, and the bytes of the signs: [ ] ( ) @ ? ~ & | - < > : / # = !
unfoldable pub blanks_and_signs : List ℕ
blanks_and_signs = 32 ∷ 10 ∷ 91 ∷ 93 ∷ 40 ∷ 41 ∷ 64 ∷ 63 ∷ 126 ∷ 38 ∷ 124 ∷ 45 ∷ 60 ∷ 62 ∷ 58 ∷ 47 ∷ 35 ∷ 61 ∷ 33 ∷ []

unfoldable pub among : ℕ → List ℕ → Bool
among b [] = false
among b (x ∷ xs) = eqb b x || among b xs

-- Ground 2: "a byte of no token, space or line end (`-` and `!` alone fall to 3)".
unfoldable pub known_byte : ℕ → Bool
known_byte b = is_digit b || (is_set b || (is_variable b || among b blanks_and_signs))

unfoldable pub known_bytes : List ℕ → Bool
known_bytes s = list_all known_byte s
