-- A table of 4,105 bytes has room for every plan, and what is written is the plan's encoding. Assumes nothing.
use mathlib.Core.Path.{◌≡◌, refl, sym, ap, ◌∙◌}
use mathlib.Core.Logic.{◌≢◌}
use mathlib.Core.Bool.{Bool, true, false, cond, not, ◌&&◌, false≢true}
use mathlib.Core.List.{List}
use Prim.Native.Nat.{ℕ, ◌≤◌}
use native.Mathlib.Omega.{arith}
use lib.Dec.{eqb, leb, ltb}
use lib.ListN.{length, take}
use borrow.Author.Tests.{le-ltb, ltb-false}
use Rattle.logic.specs.Formula.{node_count}
use Rattle.logic.specs.Cells.{cell_count, own_cells}
use Rattle.logic.specs.Moves.{refusal}
use Rattle.text_tree.specs.Tree.{letters_of, too_deep}
use Rattle.text_tokens.specs.Tokens.{pick, known_bytes}
use Rattle.text_grammar.specs.Parser.{Result, failed, read, parsed}
use Rattle.text_core.specs.Names.{ground5, ground6, ground7}
use Rattle.text_core.specs.Core.{core_of, plan_of}
use Rattle.text_core.specs.Grounds.{core_grounds}
use Rattle.table_format.specs.Bytes.{header_length, record_length, records_from, encoding}
use Rattle.table_format.specs.Decode.{own_bytes}
use Rattle.table_format.proofs.Own.{own_is}
use Rattle.contracts.specs.Read.{table_length, syntax_grounds, text_grounds, read_grounds, reads}
use Rattle.contracts.specs.Admitted.{Admitted, admitted_plan}
use Rattle.contracts.proofs.Reading.{read_number, admitted-accepted, read-decodes}
use Rattle.program_bytes.specs.Outcome.{output, refused}
use Rattle.plantable_bytes.specs.Table.{read_table, table_room}

-- a ground before 12
other : (b : Bool) (n m : ℕ) → n ≢ 12 → m ≢ 12 → cond b n m ≢ 12
other true n m f g = f
other false n m f g = g

-- 12 stands behind 8, "core over 512 nodes"
behind-8 : (b c d : Bool) → (b ≡ false → d ≡ false) → ◌≢◌ {A = ℕ} (cond b 8 (cond c 9 (cond d 12 0))) 12
behind-8 true c d f = λ e. omega arith
behind-8 false true d f = λ e. omega arith
behind-8 false false true f = absurd (false≢true (sym (f refl)))
behind-8 false false false f = λ e. omega arith

module _ (u : ℕ) (s B : List ℕ) (h : table_room ≤ length B) where
  not-12 : (r : Result) → refusal (syntax_grounds u (length B) r) ≢ 12
  unfolding syntax_grounds core_grounds refusal plan_of own_cells table_length records_from header_length record_length
  not-12 failed = λ e. omega arith
  not-12 (read sets a) =
      let k = node_count (core_of (letters_of sets) a) in
      other (too_deep 0 a) 4 _ (λ e. omega arith) (other (ground5 sets a) 5 _ (λ e. omega arith) (other (ground6 a) 6 _ (λ e. omega arith) (other (ground7 a) 7 _ (λ e. omega arith)
      (behind-8 (ltb 512 k) (ltb 1048576 (cell_count u (core_of (letters_of sets) a) 0)) _ (λ e. le-ltb (length B) (table_length (plan_of u sets a)) (omega (arith, ltb-false 512 k e)))))))

  -- "12 [..] output table too short" is never met
  pub room-enough : (reads u s B).0.number ≢ 12
  unfolding read_grounds text_grounds refusal
  room-enough = λ e.
      other (not (leb 1 u && leb u 64)) 10 _ (λ e. omega arith) (other (ltb 4096 (length s)) 1 _ (λ e. omega arith) (other (not (known_bytes s)) 2 _ (λ e. omega arith)
      (not-12 (parsed s)))) (sym (read_number u s B) ∙ e)

-- What is written for an admitted text: the bytes of its plan and no others.
pub written-encoding : (u : ℕ) (s B : List ℕ) (A : Admitted u s (length B)) → read_table (reads u s B) ≡ output (encoding (admitted_plan A))
unfolding read_table
written-encoding u s B A =
    let O = (reads u s B).1 in
    ap (λ (n : ℕ). pick (eqb n 0) (output (take (own_bytes O) O)) (refused n)) (admitted-accepted u s B A)
    ∙ ap output (own_is O (admitted_plan A) (read-decodes u s B A)).bytes-are
