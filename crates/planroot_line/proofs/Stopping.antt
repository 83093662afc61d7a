-- "1 text over 4,096 bytes": nothing behind the 4,097th byte of the text changes the line, and nothing behind a wrong word of the
-- first two lines. So the program may stop where `decided` says. Assumes nothing.
use mathlib.Core.Path.{◌≡◌, ap}
use mathlib.Core.Bool.{false}
use mathlib.Core.List.{List, [], ◌++◌, append-nil}
use Prim.Native.Nat.{ℕ, ◌<◌}
use native.Mathlib.Omega.{arith}
use lib.ListN.{length}
use Rattle.contracts.specs.Read.{ReadValues}
use Rattle.call_read.proofs.Reading.{longer-text}
use Rattle.planroot_input.specs.Lines.{sound, ports, masks, text, Settled, wrong, long}
use Rattle.planroot_input.proofs.Settling.{sound-kept, ports-kept, masks-kept, text-kept}
use Rattle.planroot_line.specs.Line.{read_line, text_line, input_line}

same_line : (u : ℕ) (ms s more table cells : List ℕ) → 4096 < length s → text_line u ms (s ++ more) table cells ≡ text_line u ms s table cells
unfolding text_line
same_line u ms s more table cells h = ap (λ (q : ReadValues × List ℕ). read_line q.0 q.1 ms cells) (longer-text u s more table h)

pub settled-line : (input : List ℕ) → Settled input → (more : List ℕ) → input_line (input ++ more) ≡ input_line input
unfolding input_line
settled-line input (wrong f) more = let now : sound input ≡ false = rw (append-nil input) at (f []) in rw (f more, now)
settled-line input (long h) more =
    let some : 0 < length (text input) = omega arith in
    rw (sound-kept more input some, ports-kept more input some, masks-kept more input some, text-kept more input some, same_line (ports input) (masks input) (text input) more _ _ h)
