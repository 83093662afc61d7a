-- The line where the input ends, and for every cutting of it into pieces. Assumes nothing.
use mathlib.Core.Path.{◌≡◌, sym, ap, ◌∙◌, subst}
use mathlib.Core.Bool.{true, false}
use mathlib.Core.List.{List}
use Prim.Native.Nat.{ℕ, ◌≤◌}
use lib.ListN.{length, take}
use Rattle.planroot_input.specs.declared.Scan.{Scan}
use Rattle.planroot_input.specs.Lines.{sound, ports, masks, text}
use Rattle.planroot_input.specs.inner.Scans.{Scanned, Closes}
use Rattle.planroot_print.specs.declared.Line.{Line}
use Rattle.planroot_print.specs.declared.Line.TheVariants.{Refusal}
use Rattle.planroot_print.specs.Line.{line_room, Shows}
use Rattle.planroot_line.specs.Line.{table_room, cell_room, input_line}
use Rattle.planroot_line.specs.inner.Contract.{LinesText, LinesInput, ShowsInput}
use Rattle.planroot_line.proofs.Tables.{any-tables}

module _ (s e : Scan) (ms ms' tx : List ℕ) (C : Closes s ms e ms') where
  pub closed-short : (input : List ℕ) → Scanned input s ms tx → e.length ≤ 4097
  unfolding Closes
  closed-short input S = (C input tx S).short

  pub finish-refused : e.ok ≡ false → LinesInput s ms tx (Refusal 0)
  unfolding LinesInput Closes input_line
  finish-refused o input S = rw (sym (C input tx S).ok-is ∙ o)

  -- with tables of the program's lengths, whatever they hold
  pub finish-line : (table cells : List ℕ) (r : Line) → length table ≡ table_room → length cells ≡ cell_room → e.ok ≡ true
      → LinesText e.ports e.masks ms' (take e.length tx) table cells r → LinesInput s ms tx r
  unfolding LinesInput Closes LinesText input_line
  finish-line table cells r t c o T input S =
      let K = C input tx S in
      let h : sound input ≡ true = sym K.ok-is ∙ o in
      let L = K.lines h in
      T (masks input) (text input) L.count-is L.masks-are L.text-is ∙ any-tables e.ports (masks input) (text input) table cells t c ∙ rw (h, ← L.ports-are)

pub answer-shown : (s : Scan) (ms tx out : List ℕ) (n : ℕ) (out' : List ℕ) (line : Line) → LinesInput s ms tx line → Shows line out n out' → ShowsInput s ms tx out n out'
unfolding ShowsInput LinesInput
answer-shown s ms tx out n out' line L P input S = subst (λ (x : Line). Shows x out n out') (L input S) P

-- a caller's table of `line_room` bytes holds the whole line
pub answer-few : (s : Scan) (ms tx out : List ℕ) (n : ℕ) (out' input : List ℕ) → Scanned input s ms tx → ShowsInput s ms tx out n out' → n ≤ line_room
unfolding ShowsInput
answer-few s ms tx out n out' input S P = (P input S).few
