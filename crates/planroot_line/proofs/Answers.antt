-- The line in each of its cases. Assumes nothing.
use mathlib.Core.Path.{◌≡◌, sym, ap, ◌∙◌, subst}
use mathlib.Core.Logic.{◌≢◌}
use mathlib.Core.Bool.{Bool}
use mathlib.Core.List.{List, [], ◌∷◌, ◌++◌}
use Prim.Native.Nat.{ℕ, ◌+◌, ◌≤◌, min}
use native.Mathlib.Omega.{arith}
use lib.ListN.{length, take, drop, replicate, get_or-replicate}
use lib.Seq.{take_all, length-take-le, drop-cons, take-append-add}
use borrow.Author.Tests.{eq-eqb, ne_eqb}
use Rattle.text_tokens.specs.Tokens.{pick}
use Rattle.logic.specs.Configuration.{mask_count}
use Rattle.table_format.specs.Bytes.{sets_field}
use Rattle.table_format.specs.Decode.{decode}
use Rattle.std.specs.Prelude.{Result, Ok, Err}
use Rattle.logic.specs.declared.refusal.Refusal.{Refusal as Ground}
use Rattle.logic.specs.Refusal.{refusal_number}
use Rattle.logic.proofs.Refusals.{number-some}
use Rattle.contracts.specs.declared.Read.{Read}
use Rattle.contracts.specs.Read.{ReadValues, read_refused, read_values, reads, ReadPromise}
use Rattle.contracts.specs.declared.Loaded.{Loaded}
use Rattle.contracts.specs.State.{State, tables}
use Rattle.contracts.specs.Load.{load_refused, load_values, loads, LoadPromise}
use Rattle.call_read.proofs.Reading.{same_start, accepted-table}
use Rattle.planroot_print.specs.declared.Line.{Line}
use Rattle.planroot_print.specs.declared.Line.TheVariants.{Penalty, Refusal}
use Rattle.planroot_line.specs.Loading.{load_line}
use Rattle.planroot_line.specs.Line.{none_in_test, read_line, text_line}
use Rattle.planroot_line.specs.inner.Contract.{LinesLoad, LinesPlan, LinesText}
use Rattle.planroot_line.proofs.Tables.{refused-line}

-- a table that reading left has at most 16 sets
pub read-sets : (u : ℕ) (s B O : List ℕ) (x : Result Read Ground) (p : Read) → ReadPromise (reads u s B) x O → x ≡ Ok p → sets_field O ≤ 16
read-sets u s B O x p e y = let T = accepted-table u s B O x p.nodes p.cells e y in omega (arith, T.sets-field, T.few-sets)

-- load's answer as a line
pub line-accepted : (x : Result Loaded Ground) (p : Loaded) → x ≡ Ok p → LinesLoad x (Penalty p.root p.cells)
unfolding LinesLoad load_line load_values
line-accepted x p e = λ told. sym (ap (λ (y : Result Loaded Ground). load_line (load_values y)) e)

pub line_refused : (x : Result Loaded Ground) (g : Ground) (n : ℕ) → x ≡ Err g → n ≡ refusal_number g → LinesLoad x (Refusal n)
unfolding LinesLoad load_line load_values load_refused
line_refused x g n e k = λ told.
    ap Refusal k
    ∙ sym (ap (λ (y : Result Loaded Ground). load_line (load_values y)) e ∙ ap (λ (b : Bool). pick b (Penalty 0 0) (Refusal (refusal_number g))) (ne_eqb (refusal_number g) 0 (number-some g)))

-- the first of the zeros that are left
first-zero : (n : ℕ) → n ≤ 16 → take {A = ℕ} 1 (drop n (replicate 17 0)) ≡ 0 ∷ []
first-zero n h =
    ap (take {A = ℕ} 1) (drop-cons (replicate 17 0) n 0 (omega arith)) ∙ ap (λ (x : ℕ). x ∷ []) (get_or-replicate 17 n 0 0 (omega arith))

module _ (count : ℕ) (ms table cells : List ℕ) (n : ℕ) (N : n ≡ sets_field table) (few : sets_field table ≤ 16) where
  pub plan-other : (count ≡ n → ⊥) → LinesPlan count ms table cells (Refusal 0)
  unfolding LinesPlan
  plan-other f vs c m = sym (ap (λ (b : Bool). pick b (load_line (loads (decode table) (tables (none_in_test vs) cells)).0) (Refusal 0)) (ne_eqb (length vs) (sets_field table) (λ e. f (omega arith))))

  -- the masks of the input in front of a table of zeros, and one more
  lent-masks : 16 ≤ length ms → take (mask_count n) (take n ms ++ drop n (replicate 17 0)) ≡ none_in_test (take n ms)
  unfolding none_in_test
  lent-masks h =
      let l : length (take n ms) ≡ n = length-take-le n ms (omega arith) in
      ap (λ (j : ℕ). take (j + 1) (take n ms ++ drop n (replicate 17 0))) (sym l)
      ∙ take-append-add (take n ms) (drop n (replicate 17 0)) 1
      ∙ ap (λ (zs : List ℕ). take n ms ++ zs) (first-zero n (omega arith))

  pub plan-loaded : (x : Result Loaded Ground) (O : State) (r : Line) (lent : List ℕ) → count ≡ n → 16 ≤ length ms → lent ≡ take (mask_count n) (take n ms ++ drop n (replicate 17 0))
      → LoadPromise (loads (decode table) (tables lent cells)) x O → LinesLoad x r → LinesPlan count ms table cells r
  unfolding LinesPlan LinesLoad
  plan-loaded x O r lent e long-enough h L R vs c m =
      let long : length vs ≡ n = omega arith in
      let k : n ≡ min 16 count = omega arith in
      let same : take n ms ≡ vs = ap (λ (i : ℕ). take i ms) k ∙ m ∙ take_all 16 vs (omega arith) in
      let own : lent ≡ none_in_test vs = h ∙ lent-masks long-enough ∙ ap none_in_test same in
      R L.told ∙ ap load_line (L.values-are ∙ ap (λ (l : List ℕ). (loads (decode table) (tables l cells)).0) own)
      ∙ sym (ap (λ (b : Bool). pick b (load_line (loads (decode table) (tables (none_in_test vs) cells)).0) (Refusal 0)) (eq-eqb (length vs) (sets_field table) (long ∙ N)))

module _ (u count : ℕ) (ms s table cells O : List ℕ) (x : Result Read Ground) (E : ReadPromise (reads u s table) x O) where
  -- the line by reading's answer, and where that is known
  line_of : (vs t : List ℕ) → s ≡ take 4097 t → (y : Result Read Ground) → x ≡ y → read_line (read_values y) O vs cells ≡ text_line u vs t table cells
  unfolding text_line
  line_of vs t e y q =
      (λ i. read_line ((ap read_values (sym q) ∙ E.values-are) i) (E.table_is i) vs cells)
      ∙ ap (λ (p : ReadValues × List ℕ). read_line p.0 p.1 vs cells) (ap (λ (l : List ℕ). reads u l table) e ∙ same_start u t table)

  pub text-refused : (g : Ground) (n : ℕ) → x ≡ Err g → n ≡ refusal_number g → LinesText u count ms s table cells (Refusal n)
  unfolding LinesText read_refused read_values
  text-refused g n y k vs t c m e = ap Refusal k ∙ sym (refused-line (read_refused (refusal_number g)) O vs cells (number-some g)) ∙ line_of vs t e (Err g) y

  pub text-read : (p : Read) (r : Line) → x ≡ Ok p → LinesPlan count ms O cells r → LinesText u count ms s table cells r
  unfolding LinesText LinesPlan read_line read_values
  text-read p r y P vs t c m e = P vs c m ∙ line_of vs t e (Ok p) y
