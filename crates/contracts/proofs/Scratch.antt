-- Scratch that is not written. Assumes nothing.
use mathlib.Core.Path.{refl}
use mathlib.Core.List.{List}
use Prim.Native.Nat.{ℕ}
use Rattle.table_format.specs.Decode.{Decoded}
use Rattle.contracts.specs.TrialCall.{ScratchAfter}

-- scratch that is not written
pub scratch-kept : (d : Decoded) (number : ℕ) (xs : List ℕ) → ScratchAfter d number xs xs
scratch-kept d number xs = record { same_length = refl; past = refl; refused = λ _. refl }
