-- Pieces of an input, gathered; bytes given. Assumes nothing.
use mathlib.Core.Path.{◌≡◌, subst}
use mathlib.Core.List.{List, [], ◌++◌}
use Prim.Native.Nat.{ℕ, ◌≤◌, min}
use native.Mathlib.Omega.{arith}
use lib.ListN.{length}
use Rattle.text_put.specs.inner.Puts.{Puts}
use Rattle.text_put.proofs.Putting.{puts_none, puts-more, puts-length}
use Rattle.std.specs.Prelude.{Result, Ok}
use Rattle.program_bytes.specs.declared.Refused.{Refused}
use Rattle.program_bytes.specs.Outcome.{named_bytes, Kept}
use Rattle.program_bytes.proofs.Keeping.{puts-kept}
use Rattle.program_io.specs.inner.Known.{Gathered, KnownKept}

module _ (before : List ℕ) where
  pub gathered_none : Gathered before 0 before
  gathered_none = record { input = []; put = puts_none 0 before }

  module _ (at : ℕ) (table : List ℕ) (G : Gathered before at table) where
    pub gathered-more : (piece : List ℕ) (end : ℕ) (table' : List ℕ) → Puts at piece table end table' → Gathered before end table'
    gathered-more piece end table' P = record { input = G.input ++ piece; put = puts-more 0 before G.input piece at end table table' G.put P }

    pub gathered-length : length table ≡ length before
    gathered-length = puts-length 0 before G.input at table G.put

    gathered-kept : (n : ℕ) → min (length table) at ≡ n → KnownKept n table
    gathered-kept n e = record { input = G.input; kept = subst (λ (k : ℕ). Kept G.input k table) e (puts-kept G.input before at table G.put) }

    -- the input ended before the places did, or the places first
    pub known-ended : at ≤ length table → KnownKept at table
    known-ended h = gathered-kept at (omega arith)

    pub known-full : length table ≤ at → KnownKept (length table) table
    known-full h = gathered-kept (length table) (omega arith)

-- the bytes that are kept are in the table
pub known-within : (n : ℕ) (table : List ℕ) → KnownKept n table → n ≤ length table
known-within n table K = omega (arith, K.kept.count-is)

-- the bytes that are given are in the table
pub given-within : (g : Result ℕ Refused) (n : ℕ) (table : List ℕ) → named_bytes g ≤ length table → g ≡ Ok n → n ≤ length table
unfolding named_bytes
given-within g n table h e = subst (λ (y : Result ℕ Refused). named_bytes y ≤ length table) e h
