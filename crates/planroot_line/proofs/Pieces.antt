-- For every cutting of an input into pieces the line is that of the whole input. Assumes nothing.
use mathlib.Core.Path.{◌≡◌, sym, ap, ◌∙◌, subst}
use mathlib.Core.List.{List, [], ◌∷◌, ◌++◌, append_assoc, append-nil}
use Prim.Native.Nat.{ℕ}
use Rattle.planroot_input.specs.declared.Scan.{Scan}
use Rattle.planroot_input.specs.inner.Scans.{Scanned, Starts, PassesPiece}
use Rattle.planroot_print.specs.declared.Line.{Line}
use Rattle.planroot_print.specs.Line.{Shows}
use Rattle.planroot_line.specs.Line.{input_line}
use Rattle.planroot_line.specs.inner.Contract.{LinesInput, ShowsInput}
use Rattle.planroot_line.specs.inner.Pieces.{together, Passed, started, stepped}

together-snoc : (ps : List (List ℕ)) (p : List ℕ) → together ps ++ p ≡ together (ps ++ (p ∷ []))
unfolding together
together-snoc [] p = sym (append-nil p)
together-snoc (q ∷ ps) p = append_assoc q (together ps) p ∙ ap (λ (l : List ℕ). q ++ l) (together-snoc ps p)

pub passed-scanned : {ps : List (List ℕ)} {s : Scan} {ms tx : List ℕ} → Passed ps s ms tx → Scanned (together ps) s ms tx
unfolding together Starts PassesPiece
passed-scanned (started ms tx S) = S ms tx
passed-scanned (stepped {ps = ps} P {r = r} {ms' = ms'} {tx' = tx'} piece S) =
    subst (λ (x : List ℕ). Scanned x r ms' tx') (together-snoc ps piece) (S (together ps) (passed-scanned P))

pub pieces-line : {ps : List (List ℕ)} {s : Scan} {ms tx : List ℕ} → Passed ps s ms tx → (r : Line) → LinesInput s ms tx r → r ≡ input_line (together ps)
unfolding LinesInput
pieces-line P r F = F _ (passed-scanned P)

pub pieces-shown : {ps : List (List ℕ)} {s : Scan} {ms tx : List ℕ} → Passed ps s ms tx → (out : List ℕ) (n : ℕ) (out' : List ℕ) → ShowsInput s ms tx out n out'
    → Shows (input_line (together ps)) out n out'
unfolding ShowsInput
pieces-shown P out n out' F = F _ (passed-scanned P)
