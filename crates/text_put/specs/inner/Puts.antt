-- Bytes put one behind another.
use Rattle.std.specs.Prelude.{◌≡◌, List, ℕ, ◌+◌, length}
use Rattle.std.proofs.lemmas.List.Edits.{sets}

-- The bytes stand from place `at` of a table up to place `end`, as far as the table reaches.
pub record Puts (at : ℕ) (bytes out : List ℕ) (end : ℕ) (out' : List ℕ) : Type 0 where
  pub end_is : end ≡ at + length bytes
  pub out-is : out' ≡ sets out at bytes

-- No place from here on is asked for, so that places are counted without overflow.
abbrev pub most_places : ℕ
most_places = 65536
