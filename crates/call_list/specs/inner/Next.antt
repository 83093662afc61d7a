-- Whether a list goes on.
use Rattle.std.specs.Prelude.{Bool, true, false, List, ℕ, ◌+◌, ◌*◌, ◌≤◌, length}
use Rattle.call_list.specs.Working.{Stopped}

-- Whether a next call is whole and its answer has room.
unfoldable pub NextFits : Bool → List ℕ → List ℕ → ℕ → Type 0
NextFits true calls answers count = (7 * count + 7 ≤ length calls) × (10 * count + 10 ≤ length answers)
NextFits false calls answers count = Stopped calls (length answers) count
