-- The line does not depend on what the program's own tables held. Assumes nothing.
use mathlib.Core.Path.{◌≡◌, refl, sym, ap, ◌∙◌}
use mathlib.Core.Logic.{◌≢◌}
use mathlib.Core.List.{List, [], ◌∷◌, ◌++◌}
use Prim.Native.Nat.{ℕ, zero, suc, ◌≤◌}
use native.Mathlib.Omega.{arith}
use lib.Dec.{eqb}
use lib.ListN.{length, take, drop, length-replicate}
use borrow.Author.Tests.{ne_eqb}
use Rattle.logic.specs.Formula.{Plan}
use Rattle.text_tokens.specs.Tokens.{pick}
use Rattle.text_grammar.specs.Parser.{Result, failed, read, parsed}
use Rattle.text_core.specs.Core.{plan_of}
use Rattle.table_format.specs.Bytes.{records_from, header_length, record_length, sets_field}
use Rattle.table_format.specs.Decode.{Decoded, sound, decode}
use Rattle.contracts.specs.Read.{ReadValues, table_length, read_grounds, read_or, reads}
use Rattle.contracts.specs.Admitted.{Admitted, admitted_plan}
use Rattle.contracts.specs.State.{tables, own_tables}
use Rattle.contracts.specs.Call.{plan_grounds, table_grounds, tables_then, call_grounds, call_or, call}
use Rattle.contracts.specs.Load.{LoadValues, load_refused, load_grounds, loaded_masks, loads_own, loads}
use Rattle.contracts.proofs.Reading.{accepted-admitted, admitted-read, read-decodes}
use Rattle.logic.specs.Moves.{refusal}
use Rattle.logic.specs.Configuration.{own_masks}
use Rattle.call_read.proofs.Reading.{sets-encoded}
use Rattle.planroot_print.specs.declared.Line.{Line}
use Rattle.planroot_print.specs.declared.Line.TheVariants.{Refusal}
use Rattle.planroot_line.specs.Loading.{load_line}
use Rattle.planroot_line.specs.Line.{none_in_test, read_line, text_line, table_room, cell_room, zeros}

-- a text that is admitted into one table is admitted into every table that has room for its plan
admitted-into : {u : ℕ} {s : List ℕ} {n : ℕ} (A : Admitted u s n) (m : ℕ) → table_length (plan_of u A.sets A.tree) ≤ m → Admitted u s m
admitted-into A m h = record {
  ports1 = A.ports1;
  ports64 = A.ports64;
  short = A.short;
  known = A.known;
  sets = A.sets;
  tree = A.tree;
  derived = A.derived;
  shallow = A.shallow;
  names = A.names;
  constants = A.constants;
  quantifiers = A.quantifiers;
  few-nodes = A.few-nodes;
  few-cells = A.few-cells;
  fits = h;
}

-- the program's plan table has room for every plan of a text
pub table-enough : {u : ℕ} {s : List ℕ} {n : ℕ} → Admitted u s n → Admitted u s table_room
unfolding table_length records_from header_length record_length
table-enough A = admitted-into A table_room (omega (arith, A.few-nodes))

-- the line of a refused reading
pub refused-line : (v : ReadValues) (table ms cells : List ℕ) → v.number ≢ 0 → read_line v table ms cells ≡ Refusal v.number
unfolding read_line
refused-line v table ms cells f = rw (ne_eqb v.number 0 f)

-- reading's answer depends on the table's length alone
same_answer : (u : ℕ) (s B B' : List ℕ) → length B ≡ length B' → (reads u s B).0 ≡ (reads u s B').0
unfolding reads read_or
same_answer u s B B' e = go (refusal (read_grounds u s (length B))) (parsed s) ∙ ap (λ (n : ℕ). (read_or (refusal (read_grounds u s n)) u (parsed s) B').0) e
  where
    go : (g : ℕ) (r : Result) → (read_or g u r B).0 ≡ (read_or g u r B').0
    go (suc g) r = refl
    go zero failed = refl
    go zero (read sets a) = refl

-- load's answer depends on the length of the cells alone
same-loaded : (P : Plan) (ms cells cells' : List ℕ) → length cells ≡ length cells' → (loads (sound P) (tables ms cells)).0 ≡ (loads (sound P) (tables ms cells')).0
unfolding loads load_grounds call_grounds tables_then call call_or loads_own loaded_masks own_tables
same-loaded P ms cells cells' e = go (ground (length cells)) ∙ ap (λ (n : ℕ). (call_or load_refused (ground n) (sound P) loads_own (tables ms cells')).0) e
  where
    ground : ℕ → ℕ
    ground n = refusal (plan_grounds (sound P) (λ Q. table_grounds Q (take (own_masks Q) ms) (length ms) (n ∷ []) ++ []))

    go : (g : ℕ) → (call_or load_refused g (sound P) loads_own (tables ms cells)).0 ≡ (call_or load_refused g (sound P) loads_own (tables ms cells')).0
    go zero = refl
    go (suc g) = refl

module _ (u : ℕ) (ms s : List ℕ) where
  plan_line : Plan → List ℕ → Line
  plan_line P cells = pick (eqb (length ms) P.sets) (load_line (loads (sound P) (tables (none_in_test ms) cells)).0) (Refusal 0)

  text-accepted : (B cells : List ℕ) (A : Admitted u s (length B)) → text_line u ms s B cells ≡ plan_line (admitted_plan A) cells
  unfolding text_line read_line plan_line
  text-accepted B cells A =
      let P = admitted_plan A in
      let O = (reads u s B).1 in
      let sets : sets_field O ≡ P.sets = ap (λ (q : ReadValues × List ℕ). sets_field q.1) (admitted-read u s B A) ∙ sets-encoded P (drop (table_length P) B) in
      ap (λ (q : ReadValues × List ℕ). read_line q.0 O ms cells) (admitted-read u s B A)
      ∙ ap (λ (n : ℕ). pick (eqb (length ms) n) (load_line (loads (decode O) (tables (none_in_test ms) cells)).0) (Refusal 0)) sets
      ∙ ap (λ (d : Decoded). pick (eqb (length ms) P.sets) (load_line (loads d (tables (none_in_test ms) cells)).0) (Refusal 0)) (read-decodes u s B A)

  pub same-text-line : (B B' cells cells' : List ℕ) → length B ≡ length B' → length cells ≡ length cells' → text_line u ms s B cells ≡ text_line u ms s B' cells'
  unfolding text_line plan_line admitted_plan admitted-into
  same-text-line B B' cells cells' b c = go (reads u s B).0.number refl
    where
      go : (n : ℕ) → (reads u s B).0.number ≡ n → text_line u ms s B cells ≡ text_line u ms s B' cells'
      go (suc g) e =
          let same = ap (λ (v : ReadValues). v.number) (same_answer u s B B' b) in
          refused-line (reads u s B).0 (reads u s B).1 ms cells (omega arith) ∙ ap Refusal same
          ∙ sym (refused-line (reads u s B').0 (reads u s B').1 ms cells' (omega arith))
      go zero e =
          let A = accepted-admitted u s B e in
          let A' = admitted-into A (length B') (rw (← b) A.fits) in
          let P = admitted_plan A in
          text-accepted B cells A
          ∙ ap (λ (x : LoadValues). pick (eqb (length ms) P.sets) (load_line x) (Refusal 0)) (same-loaded P (none_in_test ms) cells cells' c)
          ∙ sym (text-accepted B' cells' A')

-- Tables of these lengths that hold anything give the line of the definition.
pub any-tables : (u : ℕ) (ms s table cells : List ℕ) → length table ≡ table_room → length cells ≡ cell_room
    → text_line u ms s table cells ≡ text_line u ms s (zeros table_room) (zeros cell_room)
unfolding zeros
any-tables u ms s table cells t c =
    same-text-line u ms s table (zeros table_room) cells (zeros cell_room) (t ∙ sym (length-replicate {A = ℕ} table_room 0)) (c ∙ sym (length-replicate {A = ℕ} cell_room 0))
