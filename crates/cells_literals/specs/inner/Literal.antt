-- A literal's record, and where it and its cells stand: paper 01, section Plan table.
use Rattle.std.specs.Prelude.{◌≡◌, true, List, ℕ, ◌^◌, ◌≤◌, ◌<◌, length, get_or}
use Rattle.logic.specs.Configuration.{mask_count, within_ports}
use Rattle.table_format.specs.inner.Tests.{field_rule}

-- A literal's record at its depth, the masks that it reads, and the cells, of which the first `width` are its own.
pub record LiteralPlaced (sets kind relation a b ports depth width : ℕ) (masks cells : List ℕ) : Type 0 where
  pub kind5 : 5 ≤ kind
  pub kind8 : kind ≤ 8
  pub fields : field_rule sets depth kind relation a b ≡ true
  pub all-masks : mask_count sets ≤ length masks
  pub within : (S : ℕ) → S < sets → within_ports ports (get_or masks S 0) ≡ true
  pub ports1 : 1 ≤ ports
  pub ports64 : ports ≤ 64
  pub depth3 : depth ≤ 3
  pub width_is : width ≡ ports ^ depth
  pub room : width ≤ length cells
