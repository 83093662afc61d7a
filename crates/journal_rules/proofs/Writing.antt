-- The journal after a call, from the record that is put at the place that the old and the new count say. Assumes nothing.
use mathlib.Core.Path.{◌≡◌, refl}
use mathlib.Core.Bool.{Bool, true, false}
use mathlib.Core.List.{List}
use Prim.Native.Nat.{ℕ, suc, ◌≤◌}
use native.Mathlib.Omega.{arith}
use lib.ListN.{length, set}
use lib.Seq.{set_out}
use borrow.Author.Tests.{lt-ltb, le-ltb}
use Rattle.logic.specs.declared.Move.{Move}
use Rattle.contracts.specs.Journal.{Journal, appended, removed, count_after, journal_after, count_taken, journal_taken}
use Rattle.journal_rules.specs.inner.Counting.{place_of}

abbrev pub journal : List Move → ℕ → Journal
journal records count = record { records = records; count = count }

-- where the count was not raised nothing is written
pub unwritten : (records : List Move) (count count' : ℕ) (m : Move) → count' ≤ count → set records (place_of count count' (length records)) m ≡ records
unfolding place_of
unwritten records count count' m l = rw (le-ltb count count' l) (set_out records (length records) m (omega arith))

-- where a move was made its record stands at the old count
pub written : (made : Bool) (m : Move) (records : List Move) (count count' : ℕ) → count' ≡ count_after made count
    → journal (set records (place_of count count' (length records)) m) count' ≡ journal_after made m (journal records count)
unfolding count_after journal_after
written true m records count count' e = unfold place_of appended in
    rw (e, lt-ltb count (suc count) (omega arith)) refl
written false m records count count' e = λ i. journal (unwritten records count count' m (omega (arith, e)) i) (e i)

-- an undo does not raise the count
pub taken-fewer : (made : Bool) (count count' : ℕ) → count' ≡ count_taken made count → count' ≤ count
unfolding count_taken
taken-fewer true count count' e = omega (arith, e)
taken-fewer false count count' e = omega (arith, e)

-- where the newest move was taken back only the count is lowered
pub taken : (made : Bool) (records : List Move) (count count' : ℕ) → count' ≡ count_taken made count
    → journal records count' ≡ journal_taken made (journal records count)
unfolding count_taken journal_taken removed
taken true records count count' e = λ i. journal records (e i)
taken false records count count' e = λ i. journal records (e i)
