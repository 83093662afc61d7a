-- What is given, in each case. Assumes nothing.
use mathlib.Core.Path.{◌≡◌, refl, sym, ap, ◌∙◌, subst}
use mathlib.Core.Logic.{◌≢◌}
use mathlib.Core.Bool.{Bool, true, false}
use mathlib.Core.List.{List, [], ◌∷◌, ◌++◌}
use Prim.Native.Nat.{ℕ, ◌≤◌, ◌<◌}
use native.Mathlib.Numerals.{add-one}
use native.Mathlib.Omega.{arith}
use lib.Dec.{ltb}
use lib.ListN.{length, take, drop, length-set}
use lib.Seq.{take-suc-set, take_at}
use borrow.Author.Tests.{ne_eqb, le-ltb, ltb-false}
use Rattle.logic.specs.Formula.{Plan}
use Rattle.logic.proofs.Lists.{or_left}
use Rattle.text_tokens.specs.Tokens.{pick}
use Rattle.text_form.specs.Spelling.{plan_text, unwritable}
use Rattle.text_put.specs.inner.Puts.{Puts}
use Rattle.table_format.specs.Decode.{Decoded, broken, sound, decode}
use Rattle.std.specs.Prelude.{Result, Ok, Err}
use Rattle.logic.specs.declared.refusal.Refusal.{Refusal}
use Rattle.logic.specs.Refusal.{refusal_number}
use Rattle.logic.proofs.Refusals.{number-some}
use Rattle.contracts.specs.Counting.{CountValues, count_refused, count_accepted, count_values}
use Rattle.contracts.specs.WriteCall.{writes, WritePromise}
use Rattle.contracts.proofs.Writing.{write-broken, write_ground, write-refused, write-accepted}
use Rattle.planroot_print.specs.Line.{line_end}
use Rattle.program_bytes.specs.declared.Refused.TheVariants.{Ground}
use Rattle.program_bytes.specs.Outcome.{output, refused, refused_number, outcome_of, named_bytes, Gives}
use Rattle.plantext_bytes.specs.Text.{written_text, input_text, text_room}

-- a text that is written has at most 4,096 bytes
writable-short : (P : Plan) → unwritable P ≡ false → length (plan_text P) ≤ 4096
unfolding unwritable
writable-short P h = ltb-false 4096 (length (plan_text P)) (or_left (ltb 4096 (length (plan_text P))) _ h)

-- where there is room, 17 is the only ground of a plan's table
fits-ground : (P : Plan) (B : List ℕ) → text_room ≤ length B → unwritable P ≡ false → write_ground P B ≡ 0
fits-ground P B h e = let short = writable-short P e in rw (e, le-ltb (length B) (length (plan_text P)) (omega arith))

-- Writing in each of its cases: 11, 17, or the text. 12 is not among them.
data Cases (d : Decoded) (B : List ℕ) : Type 0 where
  no_table : writes d B ≡ (count_refused 11, B) → Cases d B
  no_text : writes d B ≡ (count_refused 17, B) → Cases d B
  written : (P : Plan) → length (plan_text P) ≤ 4096 → writes d B ≡ (count_accepted (length (plan_text P)), plan_text P ++ drop (length (plan_text P)) B) → Cases d B

cases : (d : Decoded) (B : List ℕ) → text_room ≤ length B → Cases d B
cases broken B h = no_table (write-broken B)
cases (sound P) B h = go (unwritable P) refl
  where
    go : (t : Bool) → unwritable P ≡ t → Cases (sound P) B
    go true e = no_text (write-refused P B 17 (λ q. omega arith) (rw e))
    go false e = written P (writable-short P e) (write-accepted P B (fits-ground P B h e))

module _ (input B O : List ℕ) (x : Result ℕ Refusal) (E : WritePromise (writes (decode input) B) x O) where
  -- what the answer and the text left by it give
  given_by : (y : Result ℕ Refusal) → x ≡ y → written_text (count_values y, O) ≡ input_text input B
  unfolding input_text
  given_by y q = λ i. written_text ((ap count_values (sym q) ∙ E.values-are) i, E.text-is i)

  pub gives-refusal : (g : Refusal) → x ≡ Err g → Gives (input_text input B) (Err (Ground g)) O
  unfolding written_text count_refused count_values refused_number outcome_of named_bytes
  gives-refusal g q =
      let n = refusal_number g in
      record { outcome-is = sym (ap (λ (b : Bool). pick b (output (take 0 O ++ line_end)) (refused n)) (ne_eqb n 0 (number-some g))) ∙ given_by (Err g) q; within = omega arith }

  module _ (n : ℕ) (q : x ≡ Ok n) (h : text_room ≤ length B) (same : length O ≡ length B) where
    pub few_bytes : n ≤ 4096
    unfolding count_values count_refused count_accepted
    few_bytes = go (cases (decode input) B h)
      where
        v : count_accepted n ≡ (writes (decode input) B).0
        v = ap count_values (sym q) ∙ E.values-are

        go : Cases (decode input) B → n ≤ 4096
        go (no_table e) = let z : ◌≡◌ {A = ℕ} 0 11 = ap (λ (a : CountValues). a.number) v ∙ ap (λ (p : CountValues × List ℕ). p.0.number) e in absurd (omega arith)
        go (no_text e) = let z : ◌≡◌ {A = ℕ} 0 17 = ap (λ (a : CountValues). a.number) v ∙ ap (λ (p : CountValues × List ℕ). p.0.number) e in absurd (omega arith)
        go (written P s e) = let z : n ≡ length (plan_text P) = ap (λ (a : CountValues). a.count) v ∙ ap (λ (p : CountValues × List ℕ). p.0.count) e in omega arith

    pub gives-bytes : (end : ℕ) (O' : List ℕ) → Puts n (10 ∷ []) O end O' → Gives (input_text input B) (Ok end) O'
    unfolding written_text count_accepted count_values outcome_of named_bytes
    gives-bytes end O' P =
        let there : n < length O = omega (arith, few_bytes) in
        let bytes : take end O' ≡ take n O ++ (10 ∷ []) = (λ i. take ((P.end_is ∙ add-one n) i) (P.out-is i)) ∙ take-suc-set O n 10 there in
        record { outcome-is = ap output bytes ∙ given_by (Ok n) q; within = omega (arith, P.end_is, ap length P.out-is, length-set O n 10) }

-- What is printed for the table of a plan that can be written: its text and a line end.
pub printed-text : (input B : List ℕ) (P : Plan) → text_room ≤ length B → decode input ≡ sound P → unwritable P ≡ false → input_text input B ≡ output (plan_text P ++ line_end)
unfolding input_text written_text count_accepted
printed-text input B P h d w =
    ap (λ (x : Decoded). written_text (writes x B)) d ∙ ap written_text (write-accepted P B (fits-ground P B h w))
    ∙ ap (λ (l : List ℕ). output (l ++ line_end)) (take_at (plan_text P) (drop (length (plan_text P)) B) (length (plan_text P)) refl)

-- "12 [..] output table too short" is never met
pub room-enough : (input B : List ℕ) → text_room ≤ length B → (writes (decode input) B).0.number ≢ 12
unfolding count_refused count_accepted
room-enough input B h = go (cases (decode input) B h)
  where
    go : Cases (decode input) B → (writes (decode input) B).0.number ≢ 12
    go (no_table e) = λ z. let y = ap (λ (p : CountValues × List ℕ). p.0.number) e in omega arith
    go (no_text e) = λ z. let y = ap (λ (p : CountValues × List ℕ). p.0.number) e in omega arith
    go (written P s e) = λ z. let y = ap (λ (p : CountValues × List ℕ). p.0.number) e in omega arith
