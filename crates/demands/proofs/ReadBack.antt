-- Request 2026-02: "Reading its text with the same u gives the table's own bytes"; "17, the text would meet refusal 1 or 4". Over the
-- definitions that the contracts of `write` and `read` promise. Assumes nothing.
use mathlib.Core.Path.{◌≡◌, refl, sym, ap, ap₂, ◌∙◌, subst}
use mathlib.Core.Logic.{◌↔◌, ⊎_elim, ◌⊎◌, inl, inr}
use mathlib.Core.Bool.{Bool, true, false, cond, ◌||◌}
use mathlib.Core.List.{List, ◌++◌}
use Prim.Native.Nat.{ℕ, ◌≤◌}
use native.Mathlib.Omega.{arith}
use lib.Dec.{ltb}
use lib.ListN.{length, take, drop}
use lib.Seq.{take-append_seam}
use borrow.Author.Tests.{ltb-false}
use Rattle.logic.specs.Formula.{Plan, node_count}
use Rattle.logic.specs.Cells.{own_cells}
use Rattle.logic.specs.Moves.{refusal}
use Rattle.logic.proofs.Lists.{or_left, or_right}
use Rattle.text_tree.specs.Tree.{too_deep}
use Rattle.text_grammar.specs.Parser.{read}
use Rattle.text_core.specs.Core.{plan_of}
use Rattle.text_core.specs.inner.Refusal.{core_refusal}
use Rattle.table_format.specs.Bytes.{ports_field, encoding}
use Rattle.table_format.specs.Rules.{plan_rule}
use Rattle.table_format.specs.Decode.{Decoded, broken, sound, decode, own_bytes}
use Rattle.table_format.proofs.Encoding.{decode-sound}
use Rattle.table_format.proofs.Facts.{plan-facts}
use Rattle.table_format.proofs.Own.{own_is}
use Rattle.text_form.specs.Form.{tree_of, sets_of}
use Rattle.text_form.specs.Spelling.{plan_text, unwritable}
use Rattle.text_form.proofs.Derived.{plan-known, plan-derives}
use Rattle.text_form.proofs.PlanCore.{plan-core, plan-names, plan-constants, plan-shallow, plan-free}
use Rattle.contracts.specs.Read.{ReadValues, table_length, text_grounds, syntax_grounds, reads}
use Rattle.contracts.specs.Admitted.{Admitted, admitted_plan}
use Rattle.contracts.specs.Counting.{CountValues, count_refused, count_accepted}
use Rattle.contracts.specs.WriteCall.{writes}
use Rattle.contracts.proofs.Grounds.{ports-in, passes, core-passes, core-then}
use Rattle.contracts.proofs.Reading.{read-derived, accepted-admitted, admitted-read, read-decodes}
use Rattle.contracts.proofs.Writing.{write-broken, write_ground, write-accepted, write-number}
use Rattle.demands.specs.ReadBack.{written, read_back, ReadsBack}

-- What reading answers to a text that is too long or too deep, or whose table does not fit.
abbrev reading : Bool → Bool → Bool → ℕ
reading long deep short = cond long 1 (cond deep 4 (cond short 12 0))

module _ (P : Plan) (rules : plan_rule P ≡ true) where
  -- a plan's text that is not too long or too deep is admitted wherever the plan's table fits
  text-admitted : (room : ℕ) → unwritable P ≡ false → table_length P ≤ room → Admitted P.ports (plan_text P) room
  unfolding unwritable
  text-admitted room h fits =
      let F = plan-facts P rules in
      let e = plan-core P rules in
      record {
        ports1 = F.ports1;
        ports64 = F.ports64;
        short = ltb-false 4096 (length (plan_text P)) (or_left (ltb 4096 (length (plan_text P))) _ h);
        known = plan-known P rules;
        sets = sets_of P;
        tree = tree_of P;
        derived = plan-derives P rules;
        shallow = or_right (ltb 4096 (length (plan_text P))) _ h;
        names = plan-names P rules;
        constants = plan-constants P rules;
        quantifiers = plan-shallow P rules;
        few-nodes = subst (λ (Q : Plan). node_count Q.formula ≤ 512) (sym e) F.nodes512;
        few-cells = subst (λ (Q : Plan). own_cells Q ≤ 1048576) (sym e) F.cells-most;
        fits = subst (λ (Q : Plan). table_length Q ≤ room) (sym e) fits;
      }

  -- reading it leaves the plan's table
  text-read : (out : List ℕ) → unwritable P ≡ false → table_length P ≤ length out
      → reads P.ports (plan_text P) out ≡ (record { number = 0; nodes = node_count P.formula; cells = own_cells P }, encoding P ++ drop (table_length P) out)
  unfolding admitted_plan text-admitted
  text-read out h fits =
      admitted-read P.ports (plan_text P) out (text-admitted (length out) h fits)
      ∙ ap (λ (Q : Plan). (record { number = 0; nodes = node_count Q.formula; cells = own_cells Q }, encoding Q ++ drop (table_length Q) out)) (plan-core P rules)

  -- the number that reading it answers: 1 or 4, else 12 or none
  text-number : (out : List ℕ) → (reads P.ports (plan_text P) out).0.number
      ≡ reading (ltb 4096 (length (plan_text P))) (too_deep 0 (tree_of P)) (ltb (length out) (table_length P))
  unfolding text_grounds syntax_grounds refusal core_refusal
  text-number out =
      let F = plan-facts P rules in
      let C = core-passes P.ports (sets_of P) (tree_of P) (plan-free P rules) in
      read-derived P.ports (plan_text P) out (sets_of P) (tree_of P) (plan-derives P rules)
      ∙ rw (ports-in P.ports F.ports1 F.ports64, plan-known P rules, core-then P.ports (sets_of P) (tree_of P) _ C, plan-core P rules)

-- writing a table that decodes is writing its plan
module _ (bytes text : List ℕ) (P : Plan) (d : decode bytes ≡ sound P) where
  of-plan : writes (decode bytes) text ≡ writes (sound P) text
  of-plan = ap (λ (x : Decoded). writes x text) d

  number_is : (writes (decode bytes) text).0.number ≡ write_ground P text
  number_is = ap (λ (x : CountValues × List ℕ). x.0.number) of-plan ∙ write-number P text

  -- 17 is answered exactly where reading the plan's text with the table's u would answer 1 or 4
  pub unwritable-exactly : (out : List ℕ) → (writes (decode bytes) text).0.number ≡ 17
      ↔ (((reads (ports_field bytes) (plan_text P) out).0.number ≡ 1) ⊎ ((reads (ports_field bytes) (plan_text P) out).0.number ≡ 4))
  unfolding unwritable
  unwritable-exactly out =
      let r = ap (λ (u : ℕ). (reads u (plan_text P) out).0.number) (own_is bytes P d).ports-are ∙ text-number P (decode-sound bytes P d).rules out in
      rw (number_is, r) (go (ltb 4096 (length (plan_text P))) (too_deep 0 (tree_of P)) (ltb (length text) (length (plan_text P))) (ltb (length out) (table_length P)))
    where
      go : (a b e f : Bool) → ◌≡◌ {A = ℕ} (cond (a || b) 17 (cond e 12 0)) 17 ↔ ((reading a b f ≡ 1) ⊎ (reading a b f ≡ 4))
      go true b e f = ((λ q. inl refl), (λ q. refl))
      go false true e f = ((λ q. inr refl), (λ q. refl))
      go false false true true = ((λ q. absurd (omega arith)), ⊎_elim (λ q. absurd (omega arith)) (λ q. absurd (omega arith)))
      go false false true false = ((λ q. absurd (omega arith)), ⊎_elim (λ q. absurd (omega arith)) (λ q. absurd (omega arith)))
      go false false false true = ((λ q. absurd (omega arith)), ⊎_elim (λ q. absurd (omega arith)) (λ q. absurd (omega arith)))
      go false false false false = ((λ q. absurd (omega arith)), ⊎_elim (λ q. absurd (omega arith)) (λ q. absurd (omega arith)))

  module _ (accepted : (writes (decode bytes) text).0.number ≡ 0) where
    free : write_ground P text ≡ 0
    free = sym number_is ∙ accepted

    written_is : written bytes text ≡ plan_text P
    unfolding written count_accepted
    written_is =
        ap (λ (w : CountValues × List ℕ). take w.0.count w.1) (of-plan ∙ write-accepted P text free)
        ∙ take-append_seam (plan_text P) (drop (length (plan_text P)) text)

    -- For every table that decodes: if writing is accepted, reading its text with the table's u is accepted, given room, and leaves the
    -- table's own bytes.
    pub reads-back : (out : List ℕ) → own_bytes bytes ≤ length out → ReadsBack bytes P out (read_back bytes text out)
    unfolding read_back table_length
    reads-back out room =
        let own = own_is bytes P d in
        let e : read_back bytes text out ≡ (record { number = 0; nodes = node_count P.formula; cells = own_cells P }, encoding P ++ drop (table_length P) out) =
        ap₂ (λ (u : ℕ) (s : List ℕ). reads u s out) own.ports-are written_is
        ∙ text-read P (decode-sound bytes P d).rules out (passes (unwritable P) 16 _ free).0 (omega (arith, own.long)) in
        record {
          number_is = ap (λ (x : ReadValues × List ℕ). x.0.number) e;
          nodes-are = ap (λ (x : ReadValues × List ℕ). x.0.nodes) e;
          cells_are = ap (λ (x : ReadValues × List ℕ). x.0.cells) e;
          table_is = ap (λ (x : ReadValues × List ℕ). x.1) e ∙ ap₂ (λ (x : List ℕ) (k : ℕ). x ++ drop k out) (sym own.bytes-are) (sym own.long);
        }

-- An accepted writing has a plan: a broken table meets 11.
pub accepted-decodes : (bytes text : List ℕ) → (writes (decode bytes) text).0.number ≡ 0 → (P : Plan) × (decode bytes ≡ sound P)
unfolding count_refused
accepted-decodes bytes text h = go (decode bytes) refl
  where
    go : (x : Decoded) → decode bytes ≡ x → (P : Plan) × (decode bytes ≡ sound P)
    go broken e =
        let z : ◌≡◌ {A = ℕ} 11 0 = sym (ap (λ (w : CountValues × List ℕ). w.0.number) (ap (λ (x : Decoded). writes x text) e ∙ write-broken text)) ∙ h in
        absurd (omega arith)
    go (sound P) e = (P, e)

-- A text that was read and then written is read to the same table again: the same answer, and the same bytes in front.
pub read_again : (u : ℕ) (s table text out : List ℕ) → (reads u s table).0.number ≡ 0
    → (let T = (reads u s table).1 in (writes (decode T) text).0.number ≡ 0 → own_bytes T ≤ length out
    → (ports_field T ≡ u) × ((read_back T text out).0 ≡ (reads u s table).0) × ((read_back T text out).1 ≡ take (own_bytes T) T ++ drop (own_bytes T) out))
unfolding admitted_plan plan_of
read_again u s table text out h k room =
    let A = accepted-admitted u s table h in
    let T = (reads u s table).1 in
    let d = read-decodes u s table A in
    let r = reads-back T text (admitted_plan A) d k out room in (
      (own_is T (admitted_plan A) d).ports-are,
      (λ j. record { number = r.number_is j; nodes = r.nodes-are j; cells = r.cells_are j }) ∙ sym (ap (λ (x : ReadValues × List ℕ). x.0) (admitted-read u s table A)),
      r.table_is,
    )
