-- The cells of a node at every port of one variable: a row of u numbers, and the row of the numbers before.
use Rattle.std.specs.Prelude.{◌≡◌, ℕ, ◌<◌, Bool, true, false, not, List, [], ◌∷◌, ◌++◌, drop, ◌==◌, slice_index}
use Rattle.logic.specs.Configuration.{indicator}
use Rattle.logic.specs.Cells.{tabulate}
use Rattle.logic.specs.Penalty.{sum, each_port}
use Rattle.logic.specs.Change.{Renewal}
use Rattle.cells_sum.specs.inner.Walk.{taken, gathered}

-- The first u numbers of a table by port; the others are as they were.
unfoldable pub row_of : ℕ → (ℕ → ℕ) → List ℕ → List ℕ
row_of u g out = tabulate u g ++ drop u out

-- The first u numbers of a row are 0.
unfoldable pub ZeroRow : List ℕ → ℕ → Type 0
ZeroRow row u = (x : ℕ) → x < u → slice_index row x ≡ 0

-- The cell at port x, before and after.
unfoldable pub renewal_at : List ℕ → List ℕ → ℕ → Renewal
renewal_at new old x = record { hit = true; old = slice_index old x; new = slice_index new x }

-- A row gone into one sum or minimum, as the cells directly below a quantifier go.
unfoldable pub row_gathered : Bool → ℕ → List ℕ → List ℕ → ℕ → ℕ
row_gathered add acc new old u = gathered add acc (each_port u (λ x. renewal_at new old x ∷ []))

-- How many cells of a row differ from before.
unfoldable pub row_changes : List ℕ → List ℕ → ℕ → ℕ
row_changes new old u = sum (each_port u (λ x. indicator (not (slice_index new x == slice_index old x)) ∷ []))

-- A row gone into a row of sums or minima port by port, as the children of an "and" or "or" go.
unfoldable pub row_taken : Bool → List ℕ → List ℕ → ℕ → List ℕ → List ℕ
row_taken add new old u out = row_of u (λ x. taken add (slice_index out x) (renewal_at new old x)) out

-- The same of a row that is not touched: its cells' new minus old is nothing.
unfoldable pub row_kept : Bool → List ℕ → ℕ → List ℕ → List ℕ
row_kept true old u out = out
row_kept false old u out = row_taken false old old u out
