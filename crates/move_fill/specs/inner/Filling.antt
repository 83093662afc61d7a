-- The tables of what flips bring, before they are filled.
use Rattle.std.specs.Prelude.{◌≡◌, List, ℕ, ◌≤◌, ◌<◌, length, get_or}
use Rattle.logic.specs.Configuration.{ports_in, out_of_test, in_masks, own_masks}
use Rattle.logic.specs.Cells.{own_cells}
use Rattle.call_open.specs.inner.Opening.{OpenTables}

-- The sizes of the sets below `upto`, and no number above 64.
pub record SizesSet (masks : List ℕ) (sets upto : ℕ) (sizes : List ℕ) : Type 0 where
  pub are : (S : ℕ) → S < upto → get_or sizes S 0 ≡ ports_in 64 (out_of_test (in_masks masks S) (in_masks masks sets))
  pub low : (S : ℕ) → get_or sizes S 0 ≤ 64

-- A table of noughts.
unfoldable pub AllZero : List ℕ → Type 0
AllZero xs = (i : ℕ) → get_or xs i 0 ≡ 0

-- Open tables, a plan's own masks and cells and no more of these, and empty tables.
pub record FillReady (ports sets : ℕ) (bytes firsts ends uses masks cells one still joint lists : List ℕ) : Type 0 where
  pub tables-open : OpenTables ports sets bytes firsts ends uses masks cells
  pub masks-own : length masks ≡ own_masks tables-open.opened.plan
  pub cells-own : length cells ≡ own_cells tables-open.opened.plan
  pub one-long : length one ≡ 4096
  pub still-long : length still ≡ 64
  pub joint-long : length joint ≡ 16384
  pub one-empty : AllZero one
  pub still-empty : AllZero still
  pub joint-empty : AllZero joint
  pub lists-long : length lists ≡ 1024
