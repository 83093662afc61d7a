-- Plan A's table is written as its text, computed. Assumes nothing.
use mathlib.Core.Path.{◌≡◌, ap, ◌∙◌}
use mathlib.Core.List.{List, ◌++◌}
use Prim.Native.Nat.{ℕ, ◌≤◌}
use lib.ListN.{length, drop}
use borrow.Author.Tests.{le-ltb}
use Rattle.logic.specs.Known.{plan_a}
use Rattle.table_format.specs.Decode.{Decoded, decode}
use Rattle.text_form.specs.Spelling.{unwritable}
use Rattle.text_form.proofs.Known.{text_a, text-A, shallow-A}
use Rattle.contracts.specs.Counting.{count_accepted}
use Rattle.contracts.specs.WriteCall.{writes}
use Rattle.contracts.proofs.Writing.{write_ground, write-accepted}
use Rattle.demands.proofs.KnownRun.{bytes_a, decode-A}

-- no ground applies where there is room for 58 bytes
no-ground : (text : List ℕ) → 58 ≤ length text → write_ground plan_a text ≡ 0
unfolding unwritable
no-ground text h = rw (text-A, shallow-A, le-ltb (length text) 58 h)

-- `[ABC] @a ((a/C | a:A & a:B) & (a:C | a/A | a/B)) & #C <= 1`, and what stood behind it
pub known_written : (text : List ℕ) → 58 ≤ length text → writes (decode bytes_a) text ≡ (count_accepted 58, text_a ++ drop 58 text)
known_written text h =
    ap (λ (d : Decoded). writes d text) decode-A ∙ write-accepted plan_a text (no-ground text h)
    ∙ ap (λ (b : List ℕ). (count_accepted (length b), b ++ drop (length b) text)) text-A
