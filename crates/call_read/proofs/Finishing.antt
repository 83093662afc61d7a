-- Grounds 5 to 9 and 12, and the table of a text that passes. Assumes nothing.
use mathlib.Core.Path.{◌≡◌, refl, sym, ap, ◌∙◌, subst}
use mathlib.Core.Bool.{Bool, true, false, cond}
use mathlib.Core.List.{List, [], ◌∷◌, ◌++◌}
use Prim.Native.Nat.{ℕ, zero, suc, ◌-◌, ◌≤◌, ◌<◌}
use native.Mathlib.Omega.{arith}
use lib.Dec.{ltb}
use lib.ListN.{length, take, drop}
use borrow.Author.Tests.{lt-ltb, le-ltb, ltb-false}
use Rattle.std.specs.Prelude.{Result as Outcome, Ok, Err}
use Rattle.logic.specs.declared.refusal.Refusal.{Refusal}
use Rattle.logic.specs.Refusal.{refusal_number}
use Rattle.logic.specs.declared.refusal.Refusal.TheVariants.{TableTooShort}
use Rattle.logic.specs.Refusal.{answer_number}
use Rattle.logic.proofs.Refusals.{number-some, all-told}
use Rattle.logic.specs.Formula.{node_count}
use Rattle.logic.specs.Cells.{cell_count, own_cells}
use Rattle.logic.specs.Moves.{Ground, refusal}
use Rattle.text_tree.specs.Tree.{Tree, Declared, letters_of}
use Rattle.text_tree.proofs.Sets.{letters-take, sets-length}
use Rattle.text_grammar.specs.Parser.{Result, read}
use Rattle.text_grounds.specs.declared.CoreSize.{CoreSize}
use Rattle.text_core.specs.Names.{ground7}
use Rattle.text_core.specs.Core.{core_of, plan_of}
use Rattle.text_core.specs.inner.Refusal.{core_refusal}
use Rattle.text_grounds.specs.inner.Answered.{Answered, Answers}
use Rattle.text_core.specs.Grounds.{core_grounds}
use Rattle.text_grounds.proofs.Answering.{refusal-prefix}
use Rattle.table_format.specs.Bytes.{table_bytes, encoding}
use Rattle.text_emit.specs.inner.Emits.{PlanReady, WritesPlan}
use Rattle.contracts.specs.Read.{ReadValues, read_refused, read_values, table_length, read_or, ReadPromise}
use Rattle.call_read.specs.inner.Contract.{TextKept, Finishes}
use Rattle.contracts.proofs.Grounds.{refusal-first, CorePasses, core-passes, core-then, few-sets, whole-list}

-- a ground that applies decides
stops : (n u : ℕ) (r : Result) (B : List ℕ) → (n ≡ 0 → ⊥) → read_or n u r B ≡ (read_refused n, B)
unfolding read_or
stops zero u r B z = absurd (z refl)
stops (suc g) u r B z = refl

-- a refusal keeps reading's promise where the definition refuses with its number
pub refuses : (g : Refusal) (u : ℕ) (r : Result) (B : List ℕ) (given : ReadValues × List ℕ) → given ≡ read_or (refusal_number g) u r B → ReadPromise given (Err g) B
unfolding read_values
refuses g u r B given e =
    let q = sym (e ∙ stops (refusal_number g) u r B (number-some g)) in
    record { values-are = ap (λ (q : ReadValues × List ℕ). q.0) q; told = all-told (Err g); table_is = ap (λ (q : ReadValues × List ℕ). q.1) q }

some-nodes : (sets : List ℕ) (a : Tree) → 1 ≤ node_count (core_of sets a)
unfolding core_of node_count
some-nodes sets a = omega arith

-- the core's answer where it does not refuse
record Passing (u : ℕ) (sets : List Declared) (a : Tree) (c : CoreSize) : Type 0 where
  pub passing : CorePasses u sets a
  pub few : length sets ≤ 16
  pub nodes-are : c.nodes ≡ node_count (core_of (letters_of sets) a)
  pub cells_are : c.cells ≡ cell_count u (core_of (letters_of sets) a) 0

passing-of : (u : ℕ) (sets : List Declared) (a : Tree) (c : CoreSize) → Answered u sets a (Ok c) → Passing u sets a c
unfolding answer_number
passing-of u sets a c A =
    let z : core_refusal u sets a ≡ 0 = sym A.refused-is in
    let p = core-passes u sets a z in
    record { passing = p; few = few-sets sets a p.names; nodes-are = A.sizes-are.0; cells_are = A.sizes-are.1 }

module _ (u : ℕ) (t : List ℕ) (e : ℕ) (letters : List ℕ) (n : ℕ) (S : List ℕ) (own : S ≡ take n letters) where
  answered : (r : Outcome CoreSize Refusal) → Answers t e S u r → (sets : List Declared) (a : Tree) → TextKept t e letters n sets a → Answered u (take 17 sets) a r
  unfolding Answers
  answered r A sets a K = A (take 17 sets) a (letters-take 17 sets ∙ sym (own ∙ K.letters-are)) K.stored K.lettered

  pub finish-refused : (g : Refusal) → Answers t e S u (Err g) → (B : List ℕ) → Finishes u t e letters n B B (Err g)
  unfolding Finishes
  finish-refused g A B sets a K = refuses g u (read sets a) B _ (ap (λ (x : ℕ). read_or x u (read sets a) B) (go (refusal_number g) refl))
    where
      rest : List Ground
      rest = (12, ltb (length B) (table_length (plan_of u sets a))) ∷ []

      first : refusal_number g ≡ refusal (core_grounds u sets a)
      first = unfold core_refusal answer_number in (answered (Err g) A sets a K).refused-is ∙ refusal-prefix u sets a

      go : (k : ℕ) → refusal_number g ≡ k → refusal (core_grounds u sets a ++ rest) ≡ refusal_number g
      go zero q = absurd (number-some g q)
      go (suc k) q = refusal-first (core_grounds u sets a) rest k (sym first ∙ q) ∙ sym q

  module _ (c : CoreSize) (A : Answers t e S u (Ok c)) where
    passing-all : (sets : List Declared) (a : Tree) → TextKept t e letters n sets a → (letters_of sets ≡ S) × Passing u sets a c
    passing-all sets a K =
        let p = passing-of u (take 17 sets) a c (answered (Ok c) A sets a K) in
        let w = whole-list sets p.few in
        (ap letters_of (sym w) ∙ letters-take 17 sets ∙ sym (own ∙ K.letters-are), subst (λ (x : List Declared). Passing u x a c) w p)

    module _ (B : List ℕ) (nodes : ℕ) (same : nodes ≡ c.nodes) where
      pub finish-short : length B < table_bytes (length S) nodes → Finishes u t e letters n B B (Err TableTooShort)
      unfolding refusal_number Finishes read_or refusal table_length plan_of
      finish-short h sets a K =
          let w = passing-all sets a K in
          let P = w.1 in
          let count : nodes ≡ node_count (core_of (letters_of sets) a) = same ∙ P.nodes-are in
          let list : length S ≡ length sets = sym (sets-length sets S w.0) in
          let short : ltb (length B) (table_bytes (length sets) (node_count (core_of (letters_of sets) a))) ≡ true = lt-ltb (length B) _ (rw (list, count) at h) in
          refuses TableTooShort u (read sets a) B _ (ap (λ (x : ℕ). read_or x u (read sets a) B)
          (core-then u sets a _ P.passing ∙ ap (λ (x : Bool). cond x 12 0) short))

      pub finish-few : (sets : List Declared) (a : Tree) → TextKept t e letters n sets a → nodes ≤ 512
      finish-few sets a K = let P = (passing-all sets a K).1 in rw (same ∙ P.nodes-are) (ltb-false 512 _ P.passing.few-nodes)

      pub finish-ready : (sets : List Declared) (a : Tree) → TextKept t e letters n sets a → table_bytes (length S) nodes ≤ length B → PlanReady S nodes B
      finish-ready sets a K h =
          let w = passing-all sets a K in
          let P = w.1 in
          let count : nodes ≡ node_count (core_of (letters_of sets) a) = same ∙ P.nodes-are in
          record {
            few-sets = rw (← sets-length sets S w.0) P.few;
            some = rw count (some-nodes (letters_of sets) a);
            few = finish-few sets a K;
            room = h;
          }

      pub finish-accepted : (O : List ℕ) → table_bytes (length S) nodes ≤ length B → WritesPlan u S t e nodes B O
          → Finishes u t e letters n B O (Ok (record { nodes = c.nodes; cells = c.cells }))
      unfolding Finishes read_values read_or refusal table_length plan_of WritesPlan ground7 own_cells
      finish-accepted O h W sets a K =
          let w = passing-all sets a K in
          let P = w.1 in
          let count : nodes ≡ node_count (core_of (letters_of sets) a) = same ∙ P.nodes-are in
          let list : length S ≡ length sets = sym (sets-length sets S w.0) in
          let fits : ltb (length B) (table_bytes (length sets) (node_count (core_of (letters_of sets) a))) ≡ false = le-ltb (length B) _ (rw (list, count) at h) in
          let bytes : O ≡ encoding (plan_of u sets a) ++ drop (table_bytes (length sets) (node_count (core_of (letters_of sets) a))) B =
          rw count at (W sets a w.0 record { stored = K.stored; lettered = K.lettered; shallow = P.passing.quantifiers } (rw (← w.0) count)) in
          let none = ap (λ (x : ℕ). read_or x u (read sets a) B) (core-then u sets a _ P.passing ∙ ap (λ (x : Bool). cond x 12 0) fits) in
          record {
            values-are = (λ i. read_values (Ok (record { nodes = P.nodes-are i; cells = P.cells_are i }))) ∙ ap (λ (q : ReadValues × List ℕ). q.0) (sym none);
            told = all-told (Ok _);
            table_is = bytes ∙ ap (λ (q : ReadValues × List ℕ). q.1) (sym none);
          }

-- a part from the first place on
pub from_start : (n : ℕ) (l : List ℕ) → take (n - 0) (drop 0 l) ≡ take n l
from_start n l = let e : n - 0 ≡ n = omega arith in ap (λ (m : ℕ). take m l) e
