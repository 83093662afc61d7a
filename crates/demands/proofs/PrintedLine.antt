-- What planroot's line says of the text: `penalty 0` is printed exactly when the text is true with no port in test. A line that is no
-- penalty says nothing of it, `refused 0` neither. Assumes nothing.
use mathlib.Core.Path.{◌≡◌, refl, sym, ◌∙◌}
use mathlib.Core.Logic.{◌↔◌}
use mathlib.Core.Bool.{Bool, true, false, false≢true}
use mathlib.Core.List.{List}
use Prim.Native.Nat.{ℕ}
use lib.Dec.{eqb}
use lib.ListN.{length}
use borrow.Author.Tests.{eqb-true}
use Rattle.text_tokens.specs.Tokens.{pick}
use Rattle.table_format.specs.Bytes.{sets_field}
use Rattle.table_format.specs.Decode.{decode}
use Rattle.contracts.specs.Read.{ReadValues, reads}
use Rattle.contracts.specs.Admitted.{TextTrue}
use Rattle.contracts.specs.State.{tables}
use Rattle.contracts.specs.Load.{LoadValues, loads}
use Rattle.planroot_input.specs.Lines.{sound, ports, masks, text}
use Rattle.planroot_print.specs.declared.Line.{Line}
use Rattle.planroot_print.specs.declared.Line.TheVariants.{Penalty, Refusal}
use Rattle.planroot_print.specs.Line.{is_penalty, line_root}
use Rattle.planroot_line.specs.Loading.{load_line}
use Rattle.planroot_line.specs.Line.{none_in_test, read_line, text_line, table_room, cell_room, zeros, input_line}
use Rattle.demands.specs.ReadThenLoad.{answer, loaded}
use Rattle.demands.proofs.Demand2.{zero-when-true}

-- a line that is a penalty is that of an accepted load
record FromLoad (line : Line) (y : LoadValues) : Type 0 where
  pub accepted : y.number ≡ 0
  pub root_is : line_root line ≡ y.root

load-penalty : (y : LoadValues) → is_penalty (load_line y) ≡ true → FromLoad (load_line y) y
unfolding is_penalty line_root load_line
load-penalty y h = go (eqb y.number 0) refl h
  where
    line : Bool → Line
    line b = pick b (Penalty y.root y.cells) (Refusal y.number)

    go : (b : Bool) → eqb y.number 0 ≡ b → is_penalty (line b) ≡ true → FromLoad (line b) y
    go true e k = record { accepted = eqb-true y.number 0 e; root_is = refl }
    go false e k = absurd (false≢true k)

counted-penalty : (t : Bool) (y : LoadValues) → is_penalty (pick t (load_line y) (Refusal 0)) ≡ true → FromLoad (pick t (load_line y) (Refusal 0)) y
unfolding is_penalty
counted-penalty true y h = load-penalty y h
counted-penalty false y h = absurd (false≢true h)

read-penalty : (v : ReadValues) (table ms cells : List ℕ) → is_penalty (read_line v table ms cells) ≡ true
    → (v.number ≡ 0) × FromLoad (read_line v table ms cells) (loads (decode table) (tables (none_in_test ms) cells)).0
unfolding is_penalty read_line
read-penalty v table ms cells h = go (eqb v.number 0) refl h
  where
    counted : Bool
    counted = eqb (length ms) (sets_field table)

    y : LoadValues
    y = (loads (decode table) (tables (none_in_test ms) cells)).0

    line : Bool → Line
    line t = pick t (pick counted (load_line y) (Refusal 0)) (Refusal v.number)

    go : (t : Bool) → eqb v.number 0 ≡ t → is_penalty (line t) ≡ true → (v.number ≡ 0) × FromLoad (line t) y
    go true e k = (eqb-true _ _ e, counted-penalty counted y k)
    go false e k = absurd (false≢true k)

module _ (input : List ℕ) where
  abbrev u : ℕ
  u = ports input

  abbrev before : List ℕ
  before = zeros table_room

  abbrev cells : List ℕ
  cells = zeros cell_room

  penalty-loaded : is_penalty (input_line input) ≡ true → ((answer u (text input) before).number ≡ 0) × FromLoad (input_line input) (loaded u (text input) before (none_in_test (masks input)) cells)
  unfolding is_penalty input_line text_line answer loaded
  penalty-loaded h = go (sound input) h
    where
      line : Line
      line = read_line (reads u (text input) before).0 (reads u (text input) before).1 (masks input) cells

      go : (t : Bool) → is_penalty (pick t line (Refusal 0)) ≡ true
          → ((reads u (text input) before).0.number ≡ 0) × FromLoad (pick t line (Refusal 0)) (loads (decode (reads u (text input) before).1) (tables (none_in_test (masks input)) cells)).0
      go true k = read-penalty (reads u (text input) before).0 (reads u (text input) before).1 (masks input) cells k
      go false k = absurd (false≢true k)

  pub zero-printed : is_penalty (input_line input) ≡ true → line_root (input_line input) ≡ 0 ↔ TextTrue (ports input) (none_in_test (masks input)) (text input)
  zero-printed h =
      let F = penalty-loaded h in
      let Z = zero-when-true u (text input) before F.0 (none_in_test (masks input)) cells F.1.accepted in
      ((λ e. Z.0 (sym F.1.root_is ∙ e)), (λ t. F.1.root_is ∙ Z.1 t))
