-- Which cells a change touches, in words of four bits a set, as the index keeps them: bits 0 to 2 for the variables by which
-- membership literals test the set, bit 3 for a size literal. Paper 01, section One move.
use Rattle.std.specs.Prelude.{◌≡◌, ◌≢◌, Bool, true, false, cond, not, List, ℕ, ◌+◌, ◌-◌, ◌*◌, ◌^◌, ◌%◌, ◌≤◌, ◌<◌, min, max, eqb, get_or}
use Rattle.std.specs.Int.Bits.{bit_and, bit_or}
use Rattle.logic.specs.declared.Move.{Move}
use Rattle.logic.specs.Formula.{Test, isin, notin, port, size, Plan}
use Rattle.logic.specs.Configuration.{Sets, in_mask}
use Rattle.logic.specs.Truth.{Tuple}
use Rattle.logic.specs.Moves.{known, move_pairs}
use Rattle.logic.specs.Change.{Change, some_of, member_hit, pairs_change}
use Rattle.logic.specs.inner.Agreement.{listed}
use Rattle.cells_touch.specs.declared.Changed.{Changed}

-- Two words have a bit in common.
unfoldable pub meets : ℕ → ℕ → Bool
meets a w = not (eqb (bit_and a w) 0)

-- The word of a tuple: bit v of a set says that a membership literal on it by variable v would be hit, bit 3 that the set is
-- resized.
pub record HitWord (ch : Change) (e : Tuple) (w : ℕ) : Type 0 where
  pub members : (S v : ℕ) → S < 16 → v < 3 → in_mask w (4 * S + v) ≡ some_of (member_hit v S e) ch.pairs
  pub sizes : (S : ℕ) → S < 16 → in_mask w (4 * S + 3) ≡ ch.resized S

-- A test whose variable and set have a bit: variables below 3, sets below 16.
unfoldable pub Marked : Test → Type 0
Marked (isin v S) = (v < 3) × (S < 16)
Marked (notin v S) = (v < 3) × (S < 16)
Marked (port r v w) = Unit {0}
Marked (size r S c) = S < 16

-- What a change is told by: the ports p and q, the sets that change at p, those that change at q, and those that are resized.
pub record Describes (u : ℕ) (ch : Change) (c : Changed) : Type 0 where
  pub order : c.p ≤ c.q
  pub below : c.q < u
  pub at-p-is : (S v : ℕ) → S < 16 → v < 3 → in_mask c.psets (4 * S + v) ≡ listed ch.pairs S c.p
  pub at-q-is : (S v : ℕ) → S < 16 → v < 3 → in_mask c.qsets (4 * S + v) ≡ listed ch.pairs S c.q
  pub others : (S x : ℕ) → x ≢ c.p → x ≢ c.q → listed ch.pairs S x ≡ false
  pub resized-is : (S : ℕ) → S < 16 → in_mask c.resized (4 * S + 3) ≡ ch.resized S
  pub p-high : (S : ℕ) → S < 16 → in_mask c.psets (4 * S + 3) ≡ false
  pub q-high : (S : ℕ) → S < 16 → in_mask c.qsets (4 * S + 3) ≡ false
  pub resized-low : (S v : ℕ) → S < 16 → v < 3 → in_mask c.resized (4 * S + v) ≡ false

-- The bit of variable d in every set, of its four, and all the other bits.
unfoldable pub level : ℕ → ℕ
level d = 1229782938247303441 * 2 ^ (d % 4)

unfoldable pub other_levels : ℕ → ℕ
other_levels d = 18446744073709551615 - level d

-- The sets that change at port x.
unfoldable pub at_port : Changed → ℕ → ℕ
at_port c x = cond (eqb x c.p) c.psets (cond (eqb x c.q) c.qsets 0)

-- The word of the empty tuple, and below a quantifier at depth d the word of the tuple with port x.
unfoldable pub first_word : Changed → ℕ
first_word c = bit_or (bit_or c.psets c.qsets) c.resized

unfoldable pub rest_word : ℕ → ℕ → ℕ
rest_word w d = bit_and w (other_levels d)

unfoldable pub port_word : Changed → ℕ → ℕ → ℕ → ℕ
port_word c w d x = bit_or (rest_word w d) (bit_and (at_port c x) (level d))

-- The bits of a set: its variables, and its size.
unfoldable pub variable_bits : ℕ → ℕ
variable_bits S = bit_or (bit_or (2 ^ (4 * S)) (2 ^ (4 * S + 1))) (2 ^ (4 * S + 2))

unfoldable pub size_bit : ℕ → ℕ
size_bit S = 2 ^ (4 * S + 3)

-- A change of two sets at two ports, the lower port first.
unfoldable pub change_at : ℕ → ℕ → ℕ → ℕ → Changed
change_at s t p q =
    let sets = bit_or (variable_bits s) (variable_bits t) in
    let sizes = bit_or (size_bit s) (size_bit t) in
    record { p = min p q; q = max p q; psets = sets; qsets = sets; resized = sizes }

-- The change that a move makes is told so.
unfoldable pub Tells : Move → Changed → Type 0
Tells m c = (P : Plan) (k : Sets) → P.sets ≤ 16 → known P m ≡ true → Describes P.ports (pairs_change (move_pairs P k m)) c
