-- What working a list of encoded calls leaves: a run in the sense of demand 3.
use Rattle.std.specs.Prelude.{◌≡◌, List, ◌++◌, ℕ, ◌+◌, ◌*◌, ◌≤◌, ◌<◌, length, drop}
use Rattle.table_format.specs.Decode.{decode}
use Rattle.contracts.specs.Lists.{Asked, run}
use Rattle.call_numbers.specs.Encoding.{Unknown, SayAll, all_numbers, list_after}
use Rattle.call_one.specs.Scratch.{ScratchRun}
use Rattle.call_one.specs.Lending.{Lent}

-- "Its contract gives, for every list, a run in the sense of the theorem whose calls are the list's and whose answers are the
-- table's": the first `count` calls, their answers, and what stood behind those as it was. Scratch and the list of records go from call
-- to call.
pub record Worked (bytes calls : List ℕ) (before : Lent) (count : ℕ) (after : Lent) : Type 0 where
  pub asked : List Asked
  pub whole : 7 * count ≤ length calls
  pub room : 10 * count ≤ length before.answers
  pub worked : length asked ≡ count
  pub says : SayAll (length before.scratch) (length before.list) calls asked
  pub tables-are : after.tables ≡ (run (decode bytes) before.tables asked).1
  pub scratch-run : ScratchRun (decode bytes) before.scratch (run (decode bytes) before.tables asked).0 after.scratch
  pub list-is : after.list ≡ list_after before.list (run (decode bytes) before.tables asked).0
  pub answers-are : after.answers ≡ all_numbers (run (decode bytes) before.tables asked).0 ++ drop (10 * count) before.answers

-- Why a list ends after some calls: it has no more; "fewer than 7 numbers left"; "fewer than 10 numbers left" for the answer; an
-- unknown tag. Each is tried after those before it, so that only one applies.
pub data Stopped (calls : List ℕ) (answers-length count : ℕ) : Type 0 where
  at_end : length calls ≡ 7 * count → Stopped calls answers-length count
  not_whole : 7 * count < length calls → length calls < 7 * count + 7 → Stopped calls answers-length count
  no_room : 7 * count + 7 ≤ length calls → answers-length < 10 * count + 10 → Stopped calls answers-length count
  unknown_tag : 7 * count + 7 ≤ length calls → 10 * count + 10 ≤ answers-length → Unknown (drop (7 * count) calls)
      → Stopped calls answers-length count
