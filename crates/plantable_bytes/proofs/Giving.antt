-- What is given, in each case. Assumes nothing.
use mathlib.Core.Path.{◌≡◌, sym, ap, ◌∙◌, subst}
use mathlib.Core.Logic.{◌≢◌}
use mathlib.Core.Bool.{Bool}
use mathlib.Core.List.{List}
use Prim.Native.Nat.{ℕ, ◌-◌, ◌≤◌}
use native.Mathlib.Omega.{arith}
use lib.ListN.{length, take, drop, length-drop}
use lib.Seq.{take_all}
use borrow.Author.Tests.{ne_eqb}
use Rattle.std.specs.Prelude.{Some, None, Result, Ok, Err}
use Rattle.text_tokens.specs.Tokens.{pick}
use Rattle.table_format.specs.Bytes.{header_length, table_bytes, sets_field}
use Rattle.table_format.specs.Decode.{own_bytes}
use Rattle.table_format.proofs.Bytes.{header-within}
use Rattle.logic.specs.declared.refusal.Refusal.{Refusal}
use Rattle.logic.specs.Refusal.{refusal_number}
use Rattle.logic.proofs.Refusals.{number-some}
use Rattle.contracts.specs.declared.Read.{Read}
use Rattle.contracts.specs.Read.{read_refused, read_values, table_length, reads, ReadPromise}
use Rattle.call_read.proofs.Reading.{LeftTable, accepted-table}
use Rattle.planroot_input.specs.Lines.{behind}
use Rattle.program_bytes.specs.declared.Refused.{Refused}
use Rattle.program_bytes.specs.declared.Refused.TheVariants.{NoInput, Ground}
use Rattle.program_bytes.specs.Outcome.{output, refused, refused_number, outcome_of, named_bytes, Gives}
use Rattle.plantable_bytes.specs.declared.FirstLine.{FirstLine}
use Rattle.plantable_bytes.specs.Table.{read_table, input_table}
use Rattle.plantable_bytes.specs.inner.Contract.{FindsLine}

module _ (u : ℕ) (s B O : List ℕ) (x : Result Read Refusal) (E : ReadPromise (reads u s B) x O) where
  -- what the answer and the table left by it give
  given_by : (y : Result Read Refusal) → x ≡ y → read_table (read_values y, O) ≡ read_table (reads u s B)
  given_by y q = λ i. read_table ((ap read_values (sym q) ∙ E.values-are) i, E.table_is i)

  pub gives-refusal : (g : Refusal) → x ≡ Err g → Gives (read_table (reads u s B)) (Err (Ground g)) O
  unfolding read_table read_refused read_values refused_number outcome_of named_bytes
  gives-refusal g q =
      let n = refusal_number g in
      record { outcome-is = sym (ap (λ (b : Bool). pick b (output (take (own_bytes O) O)) (refused n)) (ne_eqb n 0 (number-some g))) ∙ given_by (Err g) q; within = omega arith }

  module _ (p : Read) (q : x ≡ Ok p) (same : length O ≡ length B) where
    left : LeftTable p.nodes B O
    left = accepted-table u s B O x p.nodes p.cells E q

    pub few-nodes : p.nodes ≤ 512
    few-nodes = left.few-nodes

    pub header-there : header_length ≤ length O
    unfolding table_length
    header-there = omega (arith, header-within left.plan.sets, left.fits)

    pub gives-bytes : (n : ℕ) → n ≡ table_bytes (sets_field O) p.nodes → Gives (read_table (reads u s B)) (Ok n) O
    unfolding read_table read_values outcome_of named_bytes table_length
    gives-bytes n k =
        let own : n ≡ own_bytes O = k ∙ ap (λ (m : ℕ). table_bytes m p.nodes) left.sets-field ∙ sym left.own-long in
        let long : own_bytes O ≡ table_length left.plan = left.own-long ∙ ap (λ (m : ℕ). table_bytes left.plan.sets m) left.nodes-are in
        record { outcome-is = ap (λ (m : ℕ). outcome_of (Ok m) O) own ∙ given_by (Ok p) q; within = omega (arith, own, long, left.fits) }

module _ (input B : List ℕ) where
  pub line_refused : FindsLine input None → Gives (input_table input B) (Err NoInput) B
  unfolding input_table refused_number outcome_of named_bytes
  line_refused F = record { outcome-is = rw F; within = omega arith }

  module _ (r : FirstLine) (F : FindsLine input (Some r)) where
    -- the part of the input behind line 1
    part-is : take (length input - r.text) (drop r.text input) ≡ behind input
    part-is = take_all (length input - r.text) (drop r.text input) (omega (arith, length-drop r.text input)) ∙ F.1.text-is

    pub line_taken : (g : Result ℕ Refused) (O : List ℕ) → Gives (read_table (reads r.ports (take (length input - r.text) (drop r.text input)) B)) g O → Gives (input_table input B) g O
    unfolding input_table
    line_taken g O G = rw (F.0, ← F.1.ports-are, ← part-is) G
