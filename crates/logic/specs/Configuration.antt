-- Configurations: which ports are in which set, and the size of a set. Paper 01, sections Plan table and One move.
use Rattle.std.specs.Prelude.{Bool, cond, true, not, ◌&&◌, List, [], ◌∷◌, ℕ, zero, suc, ◌+◌, ◌/◌, ◌%◌, ◌^◌, eqb, ltb, get_or}
use Rattle.std.specs.Int.Bits.{bit_or, bit_xor}
use Rattle.logic.specs.Formula.{Plan}

-- Set and port: is the port in the set.
abbrev pub Sets : Type 0
Sets = ℕ → ℕ → Bool

-- What a formula asks of the sets. Penalty and truth read nothing else.
pub record Configuration : Type 0 where
  pub member : Sets
  pub size : ℕ → ℕ

unfoldable pub indicator : Bool → ℕ
indicator b = cond b 1 0

-- How many of the ports below u are in a set.
unfoldable pub ports_in : ℕ → (ℕ → Bool) → ℕ
ports_in zero s = 0
ports_in (suc u) s = ports_in u s + indicator (s u)

-- "the size of a set becomes the number of its members not in test" (02, 2026-05): the members that count.
unfoldable pub out_of_test : (ℕ → Bool) → (ℕ → Bool) → ℕ → Bool
out_of_test s test p = s p && not (test p)

-- "The configuration is n masks of 64 bits", and "one further mask, after the sets, names the ports in test" (02, 2026-05), by the
-- sets that they spell: of n sets over the ports below u, what is in a set, in test or not, and how many of it are not in test.
unfoldable pub configured : ℕ → ℕ → Sets → Configuration
configured u n k = record { member = k; size = λ S. ports_in u (out_of_test (k S) (k n)) }

-- The configuration of a plan's sets.
unfoldable pub configuration : Plan → Sets → Configuration
configuration P k = configured P.ports P.sets k

-- "bit p set means that port p is in the set"
unfoldable pub in_mask : ℕ → ℕ → Bool
in_mask mask p = eqb (mask / 2 ^ p % 2) 1

unfoldable pub in_masks : List ℕ → Sets
in_masks masks S p = in_mask (get_or masks S 0) p

-- "The configuration is n masks of 64 bits", and "one further mask" (02, 2026-05): how many masks n sets have, a plan's own, and the
-- configuration that they spell.
abbrev pub mask_count : ℕ → ℕ
mask_count n = n + 1

unfoldable pub own_masks : Plan → ℕ
own_masks P = mask_count P.sets

unfoldable pub spelled : Plan → List ℕ → Configuration
spelled P masks = configuration P (in_masks masks)

-- Ground 13 is "a mask with a port of u or more"; this is the mask that has none.
unfoldable pub within_ports : ℕ → ℕ → Bool
within_ports u mask = ltb mask (2 ^ u)

-- A mask after port p has entered the set, left it, or done the one that it can.
unfoldable pub enter : ℕ → ℕ → ℕ
enter mask p = bit_or mask (2 ^ p)

unfoldable pub leave : ℕ → ℕ → ℕ
leave mask p = bit_xor (bit_or mask (2 ^ p)) (2 ^ p)

-- Ground 13: "a mask with a port of u or more"; these masks have none.
unfoldable pub all_within : ℕ → List ℕ → Bool
all_within u [] = true
all_within u (m ∷ ms) = within_ports u m && all_within u ms
