-- What the readers ask and ensure.
use Rattle.std.specs.Prelude.{◌≡◌, List, false, Option, MatchOption, ℕ, suc, ◌+◌, ◌*◌, ◌-◌, ◌≤◌, ◌<◌, length, get_or, set, take, eqb}
use Rattle.text_tokens.specs.Tokens.{bar, pick}
use Rattle.logic.specs.Formula.{Test}
use Rattle.text_tree.specs.Tree.{Tree, Declared, letters_of, too_deep}
use Rattle.text_tree.specs.inner.Stored.{test_operator, test_payload, Record, Stored}
use Rattle.text_grammar.specs.declared.Reading.{Reading}
use Rattle.text_grammar.specs.declared.Letters.{Letters}
use Rattle.text_grammar.specs.declared.Syntax.{Syntax}
use Rattle.text_grammar.specs.Grammar.{Level, unit, conjunction, disjunction}
use Rattle.text_grammar.specs.Parser.{Part, missing, found, map_part, operand, rank, parse_at, sets_at, after_sets, failed, read, parsed}

-- A reader at position `at` of the text s, with n numbers in the table and d of `(`, `~` and quantifiers around it. Each
-- byte gives at most one record or link, so a text of 4,096 bytes fits 8,192 numbers.
pub record ReaderRoom (s out : List ℕ) (at n d : ℕ) : Type 0 where
  pub within : at ≤ length s
  pub room : n + 2 * (length s - at) ≤ 8192
  pub wide : 8192 ≤ length out
  pub shallow : d ≤ at

-- The tree that was found, its flag of ground 4, and, where that is down, its records behind the n numbers that stood there.
-- Records and links are fewer than the bytes that were read: a sign of one byte leaves a link and a join.
pub record Accepted (p : Part) (s before after : List ℕ) (at n d : ℕ) (r : Reading) : Type 0 where
  pub tree : Tree
  pub is : p ≡ found tree r.next
  pub stored : r.deep ≡ false → Stored after r.count tree
  pub deeper : r.deep ≡ too_deep d tree
  pub kept : (i : ℕ) → i < n → get_or after i 0 ≡ get_or before i 0
  pub count : n ≤ r.count
  pub onward : at < r.next
  pub within : r.next ≤ length s
  pub short : r.count + 2 * at + 2 ≤ n + 2 * r.next

-- A reader refuses where the parser finds nothing.
abbrev pub Outcome : Part → List ℕ → List ℕ → List ℕ → ℕ → ℕ → ℕ → Option Reading → Type 0
Outcome p s before after at n d r = MatchOption r (p ≡ missing) (λ a. Accepted p s before after at n d a)

-- A reader of a level, for every number of nested calls that suffices.
abbrev pub Reads : Level → List ℕ → List ℕ → List ℕ → ℕ → ℕ → ℕ → Option Reading → Type 0
Reads l s before after at n d r = (f : ℕ) → 4 * (length s - at) + rank l ≤ f → Outcome (parse_at f l s at) s before after at n d r

-- A sign that joins a row of parts, `&` or `|`: the level that it makes, and the level of the parts.
abbrev pub level_of : ℕ → Level
level_of k = pick (eqb k bar) disjunction conjunction

abbrev pub part_of : ℕ → Level
part_of k = pick (eqb k bar) conjunction unit

-- Nested calls of the parser, enough for every position.
abbrev pub calls : List ℕ → ℕ
calls s = 4 * length s + 4

abbrev pub part_at : Level → List ℕ → ℕ → Part
part_at l s i = parse_at (calls s) l s i

-- What a record of this payload and operator behind a unit's records makes of the unit: `~` or a quantifier.
pub record Prefix (payload operator : ℕ) : Type 0 where
  pub make : Tree → Tree
  pub stores : (t : List ℕ) (e : ℕ) (a : Tree) → Record t e payload operator → Stored t (e - 2) a → Stored t e (make a)
  pub deeper : (d : ℕ) (a : Tree) → too_deep d (make a) ≡ too_deep (suc d) a

-- The unit at `at`, with a prefix before it.
abbrev pub Prefixed : List ℕ → List ℕ → List ℕ → ℕ → ℕ → ℕ → ℕ → ℕ → Option Reading → Type 0
Prefixed s before after at n d payload operator r =
    (f : ℕ) → 4 * (length s - at) + rank unit ≤ f → (p : Prefix payload operator) → Outcome (map_part p.make (parse_at f unit s at)) s before after (at - 1) n d r

-- The tests of an operator, by their two operands.
pub record Form (operator : ℕ) : Type 0 where
  pub make : ℕ → ℕ → Test
  pub operates : (x y : ℕ) → test_operator (make x y) ≡ operator
  pub pays : (x y : ℕ) → test_payload (make x y) ≡ 256 * x + y

-- The literal of an operator and a first operand, with its last operand of the kind `wanted` at `at`, behind a sign.
abbrev pub Operands : List ℕ → List ℕ → List ℕ → ℕ → ℕ → ℕ → ℕ → ℕ → ℕ → Option Reading → Type 0
Operands s before after first operator wanted at n d r = (m : Form operator) → Outcome (operand s wanted (m.make first) at) s before after (at - 1) n d r

-- A letter v goes into the table behind n others, if there is room.
pub record Keeps (n v : ℕ) (before after : List ℕ) (r : ℕ) : Type 0 where
  pub holds : n < length before → (after ≡ set before n v) × (r ≡ n + 1)
  pub full : length before ≤ n → (after ≡ before) × (r ≡ n)

-- The sets declared at `at`, for every bound that suffices: the letters of the first, as many as there is room for, stand in the table.
pub record LettersRead (s : List ℕ) (at : ℕ) (letters : List ℕ) (r : Letters) : Type 0 where
  pub few : r.count ≤ length letters
  pub kept : (f : ℕ) → length s ≤ f + at → take r.count letters ≡ take (length letters) (letters_of (sets_at f s at))
  pub ends : (f : ℕ) → length s ≤ f + at → r.next ≡ after_sets f s at
  pub within : r.next ≤ length s
  pub onward : at ≤ r.next

-- What the reader of a whole text asks.
pub record Lent (s out letters : List ℕ) : Type 0 where
  pub short : length s ≤ 4096
  pub wide : 8192 ≤ length out
  pub some : 1 ≤ length letters

-- What it ensures of a text of the grammar: the declared sets and the tree, ground 4, the first letters in their table, and the records of a tree
-- that is not too deep in theirs.
pub record Whole (s after letters : List ℕ) (r : Syntax) : Type 0 where
  pub sets : List Declared
  pub tree : Tree
  pub is : parsed s ≡ read sets tree
  pub stored : r.deep ≡ false → Stored after r.end tree
  pub deeper : r.deep ≡ too_deep 0 tree
  pub few : r.sets ≤ length letters
  pub kept : take r.sets letters ≡ take (length letters) (letters_of sets)
  pub fits : r.end ≤ 8192

-- And of any other text, that the parser fails.
abbrev pub Parsed : List ℕ → List ℕ → List ℕ → Option Syntax → Type 0
Parsed s after letters r = MatchOption r (parsed s ≡ failed) (λ x. Whole s after letters x)
