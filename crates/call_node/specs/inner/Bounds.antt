-- Where a node's cells begin, by the index table.
use Rattle.std.specs.Prelude.{cond, List, ℕ, ltb, get_or}

-- A node's first cell by the index table, or the end of all cells.
unfoldable pub bound_at : List ℕ → ℕ → ℕ → ℕ → ℕ
bound_at firsts i nodes total = cond (ltb i nodes) (get_or firsts i 0) total
