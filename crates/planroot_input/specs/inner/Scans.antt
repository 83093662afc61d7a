-- What is known of an input of which so many bytes are passed. Internal to the crate.
use Rattle.std.specs.Prelude.{◌≡◌, Bool, true, false, ◌&&◌, List, [], ◌∷◌, ◌++◌, ℕ, ◌≤◌, ◌<◌, min, ltb, length, take, set}
use Rattle.text_tokens.specs.Tokens.{pick}
use Rattle.planroot_input.specs.declared.Phase.{Phase}
use Rattle.planroot_input.specs.declared.Phase.TheVariants as phase
use Rattle.planroot_input.specs.declared.Scan.{Scan}
use Rattle.planroot_input.specs.Lines.{ends, words, value, is_run, all_runs, values, sound, ports, masks, text, Settled}
use Rattle.planroot_input.specs.inner.Words.{IsWord}

-- The lent tables: a plan has at most 16 masks, and a text of 4,097 bytes is too long, whatever follows.
pub record InputRoom (ms tx : List ℕ) : Type 0 where
  pub masks-room : 16 ≤ length ms
  pub text-room : 4097 ≤ length tx

-- The numbers of these words stand in a table, as far as 16 places go; they are counted as far as 17.
pub record Gathered (done : List (List ℕ)) (count : ℕ) (ms : List ℕ) : Type 0 where
  pub count-is : count ≡ min 17 (length done)
  pub are : all_runs done ≡ true → take (min 16 count) ms ≡ take 16 (values done)

-- A value behind n others, if it is one of the first k.
unfoldable pub placed : {A : Type 0} → ℕ → List A → ℕ → A → List A
placed k xs n x = pick (ltb n k) (set xs n x) xs

pub record Line1 (input : List ℕ) (s : Scan) : Type 0 where
  pub unended : ends input ≡ false
  pub word : IsWord input s.word

pub record Line2 (input : List ℕ) (s : Scan) (ms : List ℕ) : Type 0 where
  pub first : List ℕ
  pub rest : List ℕ
  pub done : List (List ℕ)
  pub last : List ℕ
  pub is : input ≡ first ++ (10 ∷ rest)
  pub first-open : ends first ≡ false
  pub rest-open : ends rest ≡ false
  pub words_are : words rest ≡ done ++ (last ∷ [])
  pub word : IsWord last s.word
  pub ok-is : s.ok ≡ (is_run first && all_runs done)
  pub ports-are : is_run first ≡ true → s.ports ≡ value first
  pub masks-are : Gathered done s.masks ms
  pub fresh : s.length ≡ 0

pub record InText (input : List ℕ) (s : Scan) (ms tx : List ℕ) : Type 0 where
  pub first : List ℕ
  pub second : List ℕ
  pub rest : List ℕ
  pub is : input ≡ first ++ (10 ∷ (second ++ (10 ∷ rest)))
  pub first-open : ends first ≡ false
  pub second-open : ends second ≡ false
  pub ok-is : s.ok ≡ (is_run first && all_runs (words second))
  pub ports-are : is_run first ≡ true → s.ports ≡ value first
  pub masks-are : Gathered (words second) s.masks ms
  pub length-is : s.length ≡ min 4097 (length rest)
  pub text-is : take (min 4097 s.length) tx ≡ take 4097 rest

unfoldable pub ScannedAt : Phase → List ℕ → Scan → List ℕ → List ℕ → Type 0
ScannedAt phase.FirstLine input s ms tx = Line1 input s
ScannedAt phase.SecondLine input s ms tx = Line2 input s ms
ScannedAt phase.Text input s ms tx = InText input s ms tx

unfoldable pub Scanned : List ℕ → Scan → List ℕ → List ℕ → Type 0
Scanned input s ms tx = ScannedAt s.phase input s ms tx

-- The word that ends is a mask; the next one is empty.
pub record Ended (s : Scan) (done : List (List ℕ)) (last : List ℕ) (r : Scan) (ms : List ℕ) : Type 0 where
  pub masks-are : Gathered (done ++ (last ∷ [])) r.masks ms
  pub ok-is : r.ok ≡ (s.ok && is_run last)
  pub word : IsWord [] r.word
  pub phase-is : r.phase ≡ s.phase
  pub ports-are : r.ports ≡ s.ports
  pub length-is : r.length ≡ s.length

unfoldable pub EndsWord : Scan → List ℕ → Scan → List ℕ → Type 0
EndsWord s ms r ms' = (done : List (List ℕ)) (last : List ℕ) → IsWord last s.word → Gathered done s.masks ms → Ended s done last r ms'

unfoldable pub PassesPiece : Scan → List ℕ → List ℕ → List ℕ → Scan → List ℕ → List ℕ → Type 0
PassesPiece s bytes ms tx r ms' tx' = (input : List ℕ) → Scanned input s ms tx → Scanned (input ++ bytes) r ms' tx'

-- Nothing is passed.
unfoldable pub Starts : Scan → Type 0
Starts r = (ms tx : List ℕ) → Scanned [] r ms tx

-- One byte of line 1, of line 2, and of the text.
unfoldable pub PassesFirst : Scan → ℕ → Scan → Type 0
PassesFirst s b r = (input ms tx : List ℕ) → s.phase ≡ phase.FirstLine → Line1 input s → Scanned (input ++ (b ∷ [])) r ms tx

unfoldable pub PassesSecond : Scan → ℕ → List ℕ → Scan → List ℕ → Type 0
PassesSecond s b ms r ms' = (input tx : List ℕ) → s.phase ≡ phase.SecondLine → Line2 input s ms → Scanned (input ++ (b ∷ [])) r ms' tx

unfoldable pub PassesText : Scan → ℕ → List ℕ → Scan → List ℕ → Type 0
PassesText s b tx r tx' = (input ms : List ℕ) → s.phase ≡ phase.Text → InText input s ms tx → Scanned (input ++ (b ∷ [])) r ms tx'

-- What is known where the input ends: whether its first two lines are as they should be, and then u, the masks and the text.
pub record Lines (input : List ℕ) (r : Scan) (ms tx : List ℕ) : Type 0 where
  pub ports-are : r.ports ≡ ports input
  pub count-is : r.masks ≡ min 17 (length (masks input))
  pub masks-are : take (min 16 r.masks) ms ≡ take 16 (masks input)
  pub text-is : take r.length tx ≡ take 4097 (text input)

pub record Closed (input : List ℕ) (r : Scan) (ms tx : List ℕ) : Type 0 where
  pub ok-is : r.ok ≡ sound input
  pub short : r.length ≤ 4097
  pub lines : sound input ≡ true → Lines input r ms tx

unfoldable pub Closes : Scan → List ℕ → Scan → List ℕ → Type 0
Closes s ms r ms' = (input tx : List ℕ) → Scanned input s ms tx → Closed input r ms' tx

-- Whether the bytes that are passed settle the line: never too early, and at the latest with the 4,097th byte of the text.
pub record Decided (input : List ℕ) (r : Bool) : Type 0 where
  pub settled : r ≡ true → Settled input
  pub in-time : 4096 < length (text input) → r ≡ true

unfoldable pub DecidesLine : Scan → Bool → Type 0
DecidesLine s r = (input ms tx : List ℕ) → Scanned input s ms tx → Decided input r
