-- Where a call's record goes, and when the record count may be raised.
use Rattle.std.specs.Prelude.{◌≡◌, Bool, true, cond, ℕ, ◌<◌, ltb}

-- A move was made only where the journal had room.
unfoldable pub RoomIfMade : Bool → ℕ → Type 0
RoomIfMade made count = made ≡ true → count < 1024

-- At the old count if the count was raised, and else past the journal's end.
unfoldable pub place_of : ℕ → ℕ → ℕ → ℕ
place_of before after room = cond (ltb before after) before room
