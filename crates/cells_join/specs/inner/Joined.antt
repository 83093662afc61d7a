-- How the cells of a node are joined to the cells above them: internal to the crate.
use Rattle.std.specs.Prelude.{◌≡◌, ◌≢◌, ℕ, ◌+◌, ◌*◌, ◌%◌, ◌<◌, ◌≤◌, min, Bool, true, false, cond, ◌&&◌, List, [], ◌∷◌, ◌++◌, length, take, drop, ◌==◌, nat_le, slice_index}
use Rattle.logic.specs.Cells.{tabulate}
use Rattle.cells_join.specs.declared.Join.{Join}
use Rattle.cells_join.specs.declared.Join.TheVariants.{Add, Least, LeastBit}

-- For all and "and" add (kinds 1 and 3), the others take the minimum; below a quantifier stands a cell for each port.
unfoldable pub join_of : ℕ → Join
join_of kind = cond (kind % 2 == 1) Add Least

unfoldable pub spread_of : ℕ → ℕ → ℕ
spread_of kind ports = cond (nat_le 1 kind && nat_le kind 2) ports 1

-- A sum is modulo 2^32; a join of nothing.
unfoldable pub meet : Join → ℕ → ℕ → ℕ
meet Add x y = (x + y) % 4294967296
meet Least x y = min x y
meet LeastBit x y = min x y

unfoldable pub unit_of : Join → ℕ
unit_of Add = 0
unit_of Least = 2147483647
unit_of LeastBit = 2147483647

-- What the numbers of a minimum stay below: the one compares them as signed numbers, the other takes them bit by bit.
unfoldable pub limit_of : Join → ℕ
limit_of Add = 2147483648
limit_of Least = 2147483648
limit_of LeastBit = 2

-- What a minimum asks of its two numbers; of the first only if it counts.
unfoldable pub LowTwo : Join → Bool → ℕ → ℕ → Type 0
LowTwo join first x y = join ≢ Add → (first ≡ false → x < limit_of join) × (y < limit_of join)

-- The join that compares in place of one of bits.
unfoldable pub compared : Join → Join
compared Add = Add
compared Least = Least
compared LeastBit = Least

-- The join of a node's children while each is a membership or a comparison, whose numbers are 0 and 1; after another child a
-- minimum compares.
unfoldable pub begin_join : ℕ → Join
begin_join above = cond (above % 2 == 1) Add LeastBit

unfoldable pub join_with : Join → ℕ → Join
join_with join kind = cond (nat_le 5 kind && nat_le kind 7) join (compared join)

-- A number joined with those of a list.
unfoldable pub join_all : Join → ℕ → List ℕ → ℕ
join_all join x [] = x
join_all join x (y ∷ ys) = join_all join (meet join x y) ys

-- The same, or, where the list is the first that is joined, its first number in place of x.
unfoldable pub join_into : Join → Bool → ℕ → List ℕ → ℕ
join_into join false x ys = join_all join x ys
join_into join true x [] = x
join_into join true x (y ∷ ys) = join_all join y ys

-- The first `over` cells, each joined with the s cells that stand below it, the first of them at place `at`.
unfoldable pub merged : Join → Bool → ℕ → ℕ → ℕ → List ℕ → List ℕ
merged join first over s at l = tabulate over (λ t. join_into join first (slice_index l t) (take s (drop (at + t * s) l))) ++ drop over l

-- The cells once the row at place `held`, of one cell below each of the first `over`, is joined to them; 0 stands for no row.
unfoldable pub settled : Join → ℕ → ℕ → List ℕ → List ℕ
settled join over held l = cond (held == 0) l (merged join (held == over) over 1 held l)

-- Numbers below a minimum's limit, from place `from` on. Sums ask for none.
unfoldable pub Low : Join → List ℕ → ℕ → ℕ → Type 0
Low join l from n = (t : ℕ) → t < n → join ≢ Add → slice_index l (from + t) < limit_of join

-- A row that is not joined yet stands behind the node's own cells and before place `end`.
unfoldable pub HeldPlaced : ℕ → ℕ → ℕ → Type 0
HeldPlaced over held end = 1 ≤ held → (over ≤ held) × (held + over ≤ end)

-- The numbers of that row, and the node's own cells, once something is joined to them.
pub record HeldLow (join : Join) (over held : ℕ) (cells : List ℕ) : Type 0 where
  pub row : 1 ≤ held → Low join cells held over
  pub own : over < held → Low join cells 0 over

-- A child's cells from place `at` on, below the first `over`, and a row that is not joined yet. Only and/or have a later child,
-- which does not begin right behind the node's own cells.
pub record ChildPlaced (join : Join) (above ports over held at : ℕ) (cells : List ℕ) : Type 0 where
  pub alike : compared join ≡ join_of above
  pub ports1 : 1 ≤ ports
  pub over1 : 1 ≤ over
  pub after : over ≤ at
  pub room : at + over * spread_of above ports ≤ length cells
  pub later : over < at → spread_of above ports ≡ 1
  pub waits : HeldPlaced over held at
  pub low : Low join cells at (over * spread_of above ports)
  pub held_low : HeldLow join over held cells

-- A child is joined, or its row, which is then the one at r, is to be: either way the cells come to the same.
pub record Joins (join : Join) (above ports over held at : ℕ) (before after : List ℕ) (r : ℕ) : Type 0 where
  pub held-is : 1 ≤ r → (r ≡ at) × (spread_of above ports ≡ 1) × (held ≡ 0) × (after ≡ before)
  pub joined : settled (join_of above) over r after ≡ merged (join_of above) (at == over) over (spread_of above ports) at (settled (join_of above) over held before)
  pub own-low : spread_of above ports ≡ 1 → r ≡ 0 → Low join after 0 over
