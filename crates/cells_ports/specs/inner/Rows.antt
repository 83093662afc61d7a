-- The parts of a row's work for all ports at once: the row of one port, what the row's own variable brings, and what one outside it brings.
use Rattle.std.specs.Prelude.{◌≡◌, Bool, true, false, cond, ◌&&◌, List, [], ◌∷◌, ℕ, suc, ◌+◌, ◌^◌, ◌/◌, ◌%◌, ◌≤◌, ◌<◌, eqb, ltb, length, get_or}
use Rattle.std.specs.Int.Bits.{bit_and, bit_or}
use Rattle.logic.specs.Formula.{Node, Forest, tree}
use Rattle.logic.specs.Configuration.{Configuration}
use Rattle.logic.specs.Truth.{Tuple}
use Rattle.logic.specs.Penalty.{sum, each_port}
use Rattle.logic.specs.Change.{Change, modulus, cell_of, new_cell}
use Rattle.cells_touch.specs.inner.Hits.{meets, level}
use Rattle.cells_flip.specs.inner.Flips.{Flipped, FlipVisit, FlipSettled, FlipGives}
use Rattle.cells_ports.specs.inner.Ports.{Words, Resizes, FlipsAt, flipped_by, RowPortsReady}

-- The port of a variable outside the row.
abbrev pub digit : ℕ → ℕ → ℕ
digit digits v = digits / 256 ^ v % 256

-- The bit of a variable in every set, if it is bound outside the row and has port x; and those of both such variables.
unfoldable pub level_if : ℕ → ℕ → ℕ → ℕ → ℕ
level_if d digits x v = cond (ltb v d && eqb (digit digits v) x) (level v) 0

unfoldable pub port_levels : ℕ → ℕ → ℕ → ℕ
port_levels d digits x = bit_or (level_if d digits x 0) (level_if d digits x 1)

-- A tree that uses sets so tests one that flips by a variable outside the row that has port x.
unfoldable pub tests_outside : ℕ → ℕ → ℕ → ℕ → ℕ → Bool
tests_outside used d digits members x = meets used (bit_and members (port_levels d digits x))

module _ (u : ℕ) (bytes firsts ends uses masks sizes cells : List ℕ) (i d row digits members resized : ℕ) where
  -- The row's new numbers where the sets flip at port x.
  unfoldable pub PortRowGives : ℕ → List ℕ → Type 0
  PortRowGives x out =
      (sets : ℕ) (n : Node) (c s : Forest) (b : ℕ) (e : Tuple) (flips resizes : ℕ → Bool)
      → FlipSettled u sets masks sizes cells
      → FlipVisit u sets bytes firsts ends uses cells i (tree n c s) b (suc d) u d row digits (λ z. z ∷ e)
      → Words flips resizes members resized
      → (ch : Change) (k : Configuration) → FlipsAt flips resizes x ch → Flipped (get_or uses i 0) masks sizes ch k
      → (z : ℕ) → z < u → get_or out z 0 ≡ new_cell u k ch (cell_of u cells) n c b (suc d) (z ∷ e)

  -- A number with what the flip at port x adds to the resizing.
  unfoldable pub FlipAdds : ℕ → ℕ → ℕ → Type 0
  FlipAdds x start r =
      (sets : ℕ) (n : Node) (c s : Forest) (b : ℕ) (e : Tuple) (flips resizes : ℕ → Bool)
      → FlipSettled u sets masks sizes cells
      → FlipVisit u sets bytes firsts ends uses cells i (tree n c s) b (suc d) u d row digits (λ z. z ∷ e)
      → Words flips resizes members resized
      → (k₀ : Configuration) (base : Change) → Resizes resizes base → Flipped (get_or uses i 0) masks sizes base k₀
      → (ch : Change) (k : Configuration) → FlipsAt flips resizes x ch → Flipped (get_or uses i 0) masks sizes ch k
      → r ≡ (start + sum (each_port u (λ z. flipped_by u k₀ base k ch (cell_of u cells) n c b (suc d) (z ∷ e) ∷ []))) % modulus

  -- Before a step over the row, where the numbers under the resizing alone are known.
  pub record OverReady (base out : List ℕ) : Type 0 where
    pub ready : RowPortsReady u bytes firsts ends uses masks sizes cells i d row digits members resized out
    pub base-room : u ≤ length base
    pub base-are : FlipGives bytes firsts ends uses masks sizes cells i u d row digits resized base

  -- By the row's own variable: right at each port at which the tree tests no set that flips by a variable outside the row.
  unfoldable pub OwnGives : List ℕ → List ℕ → Type 0
  OwnGives before after = (x : ℕ) → x < u → tests_outside (get_or uses i 0) d digits members x ≡ false → FlipAdds x (get_or before x 0) (get_or after x 0)

  -- By a variable outside the row: right at its port, if the tree tests a set that flips by it; the other ports are kept.
  pub record OuterGives (v start : ℕ) (before after : List ℕ) : Type 0 where
    pub done : v < d → tests_outside (get_or uses i 0) d digits members (digit digits v) ≡ true → FlipAdds (digit digits v) start (get_or after (digit digits v) 0)
    pub others : (x : ℕ) → (v < d → digit digits v ≡ x → tests_outside (get_or uses i 0) d digits members x ≡ false) → get_or after x 0 ≡ get_or before x 0

  -- By all of them.
  unfoldable pub OverGives : List ℕ → List ℕ → Type 0
  OverGives before after = (x : ℕ) → x < u → FlipAdds x (get_or before x 0) (get_or after x 0)
