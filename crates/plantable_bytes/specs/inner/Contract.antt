-- What the parts ask and ensure. Internal to the crate.
use Rattle.std.specs.Prelude.{◌≡◌, true, false, List, ℕ, ◌≤◌, length, drop, Option, Some, None}
use Rattle.planroot_input.specs.Lines.{line, behind, value}
use Rattle.plantable_bytes.specs.declared.FirstLine.{FirstLine}
use Rattle.plantable_bytes.specs.Table.{line_sound}

-- u, and where the text begins.
pub record Parts (input : List ℕ) (r : FirstLine) : Type 0 where
  pub ports-are : r.ports ≡ value (line input)
  pub within : r.text ≤ length input
  pub text-is : drop r.text input ≡ behind input

abbrev pub FindsLine : List ℕ → Option FirstLine → Type 0
FindsLine input None = line_sound input ≡ false
FindsLine input (Some r) = (line_sound input ≡ true) × Parts input r
