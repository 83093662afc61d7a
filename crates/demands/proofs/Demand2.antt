-- Demand 2: "A text is accepted exactly when 01's grammar, limits and table lengths admit it, and its stored core formula is true
-- under the same configurations as the text. After a load each cell holds the penalty of Definition 5 as 01 completes it, and
-- the root is 0 exactly when the formula is true."
use mathlib.Core.Path.{◌≡◌, sym, ap, ◌∙◌}
use mathlib.Core.Logic.{◌↔◌}
use mathlib.Core.Bool.{Bool, true, false, cond, not, ◌||◌}
use mathlib.Core.List.{List, []}
use Prim.Native.Nat.{ℕ, ◌≤◌}
use native.Mathlib.Omega.{arith}
use lib.Dec.{ltb}
use lib.ListN.{length, take}
use Rattle.logic.specs.Formula.{Forest, none, tree, Plan, node_count}
use Rattle.logic.specs.Configuration.{configured, configuration, in_masks, mask_count, own_masks, spelled, all_within}
use Rattle.logic.specs.Truth.{PlanTrue}
use Rattle.logic.specs.Cells.{own_cells, root_penalty}
use Rattle.logic.specs.Moves.{refusal}
use Rattle.logic.specs.Change.{some_of}
use Rattle.logic.proofs.Theorems.{Nonempty, root-zero}
use Rattle.text_tree.specs.Tree.{Tree, Declared, letters_of}
use Rattle.text_grammar.specs.Grammar.{Text, symbols}
use Rattle.text_grammar.specs.Parser.{failed, read}
use Rattle.text_grammar.proofs.Theorems.{unambiguous}
use Rattle.text_core.specs.Core.{plan_of}
use Rattle.text_core.specs.Meaning.{TreeTrue}
use Rattle.text_core.proofs.SameTruth.{plan-true}
use Rattle.table_format.specs.Decode.{Decoded, sound, decode}
use Rattle.table_format.proofs.Encoding.{decode-sound}
use Rattle.table_format.proofs.Facts.{plan-facts}
use Rattle.contracts.specs.State.{State, tables}
use Rattle.contracts.specs.Load.{LoadValues, load_grounds, loads}
use Rattle.contracts.specs.Call.{plan_grounds, table_grounds, tables_then, call_grounds}
use Rattle.contracts.proofs.LoadAnswers.{load-number, load_is, load-zero}
use Rattle.contracts.proofs.Lists.{load-free}
use Rattle.demands.specs.ReadThenLoad.{answer, loaded}
use Rattle.demands.specs.TextToPlan.{StoredTrue, LoadedTrue}
use Rattle.contracts.specs.Read.{ReadValues, text_grounds, reads}
use Rattle.contracts.specs.Admitted.{admitted_plan, TextTrue, Admitted}
use Rattle.contracts.proofs.Reading.{read-derived, read-outside, admitted-read, read-decodes, accepted-admitted, admitted-accepted}

-- Reading accepts exactly the admitted texts.
pub accepted-iff : (u : ℕ) (s B : List ℕ) → (reads u s B).0.number ≡ 0 ↔ Admitted u s (length B)
accepted-iff u s B = (accepted-admitted u s B, admitted-accepted u s B)

-- Its refusals by the grammar: of a text that the grammar derives, 4 to 9 and 12 by its sets and its tree, behind 10, 1 and 2; of any
-- other text 3, behind the same.
pub refused-derived : (u : ℕ) (s B : List ℕ) (sets : List Declared) (a : Tree) → Text (symbols s) sets a
    → (reads u s B).0.number ≡ refusal (text_grounds u s (length B) (read sets a))
refused-derived = read-derived

pub refused-outside : (u : ℕ) (s B : List ℕ) → ((sets : List Declared) (a : Tree) → Text (symbols s) sets a → ⊥)
    → (reads u s B).0.number ≡ refusal (text_grounds u s (length B) failed)
refused-outside = read-outside

-- load's answer over a plan: its number and its total
not-11 : (P : Plan) (s : State) → refusal (load_grounds (sound P) s) ≡ 11 → ⊥
unfolding load_grounds call_grounds plan_grounds tables_then table_grounds refusal some_of
not-11 P s e =
    go (ltb (length s.masks) (own_masks P) || (ltb (length s.cells) (own_cells P) || false)) (not (all_within P.ports (take (own_masks P) s.masks))) e
  where
    go : (a b : Bool) → ◌≡◌ {A = ℕ} (cond a 12 (cond b 13 0)) 11 → ⊥
    go true b q = omega arith
    go false true q = omega arith
    go false false q = omega arith

total-is : (P : Plan) (s : State) → refusal (load_grounds (sound P) s) ≡ 0 → (loads (sound P) s).0.cells ≡ own_cells P
total-is P s e = ap (λ (x : LoadValues × State). x.0.cells) (load_is P s e)

some-node : (f : Forest) → 1 ≤ node_count f → Nonempty f
unfolding node_count Nonempty
some-node none h = absurd (omega arith)
some-node (tree n c s) h = tt

-- the plan of a table has a root
nonempty : (bytes : List ℕ) (P : Plan) → decode bytes ≡ sound P → Nonempty P.formula
nonempty bytes P d = let F = plan-facts P (decode-sound bytes P d).rules in some-node P.formula (omega (arith, F.nodes2))

-- From load's own contract: an accepted load answers 0 exactly when the plan is true under its own masks, with every own cell
-- Definition 5's penalty and everything else as it was.
pub load-right : (bytes : List ℕ) (before : State) → (loads (decode bytes) before).0.number ≡ 0 → (P : Plan) → decode bytes ≡ sound P
    → (let r = loads (decode bytes) before in LoadedTrue P before r.0.root r.0.cells r.1)
load-right bytes before h P d =
    let k = spelled P (take (own_masks P) before.masks) in
    let given : loads (decode bytes) before ≡ loads (sound P) before = ap (λ (x : Decoded). loads x before) d in
    let free = load-free (sound P) before (sym (ap (λ (x : LoadValues × State). x.0.number) given) ∙ h) in
    let e = given ∙ load_is P before free in
    let r : (loads (decode bytes) before).0.root ≡ root_penalty P k = ap (λ (x : LoadValues × State). x.0.root) e in
    let z = root-zero P k (nonempty bytes P d) in
    record {
      zero-when-true = ((λ q. z.0 (sym r ∙ q)), (λ q. r ∙ z.1 q));
      root_is = r;
      total-is = ap (λ (x : LoadValues × State). x.0.cells) e;
      cells_are = ap (λ (x : LoadValues × State). x.1.cells) e;
      masks-kept = ap (λ (x : LoadValues × State). x.1.masks) e;
    }

module _ (u : ℕ) (s before : List ℕ) (accepted : (reads u s before).0.number ≡ 0) where
  admitted : Admitted u s (length before)
  admitted = accepted-admitted u s before accepted

  plan : Plan
  plan = admitted_plan admitted

  decodes : decode (reads u s before).1 ≡ sound plan
  unfolding plan
  decodes = read-decodes u s before admitted

  -- the plan is true exactly when the text is
  text-true : (masks : List ℕ) → PlanTrue plan (spelled plan (take (own_masks plan) masks)) ↔ TextTrue u masks s
  unfolding plan admitted_plan plan_of own_masks spelled configuration
  text-true masks =
      let A = admitted in
      let t = plan-true u (configured u (length A.sets) (in_masks (take (mask_count (length A.sets)) masks))) A.sets A.tree A.names in (
        (λ h. record { sets = A.sets; tree = A.tree; derived = A.derived; holds = t.0 h }),
        (λ T. t.1 (one T (unambiguous s T.sets A.sets T.tree A.tree T.derived A.derived))),
      )
    where
      one : (T : TextTrue u masks s) → (T.sets ≡ admitted.sets) × (T.tree ≡ admitted.tree)
          → TreeTrue u (configured u (length admitted.sets) (in_masks (take (mask_count (length admitted.sets)) masks))) (letters_of admitted.sets) [] admitted.tree
      one T e = rw (← e.0, ← e.1) T.holds

  -- The stored core formula is true under the same configurations as the text.
  pub stored-true : StoredTrue u s before
  stored-true = record { plan = plan; decodes = decodes; same_truth = text-true }

-- Read, then load.
module _ (u : ℕ) (s before : List ℕ) (accepted : (answer u s before).number ≡ 0) (masks cells : List ℕ) where
  taken : (reads u s before).0.number ≡ 0
  unfolding answer
  taken = accepted

  read-plan : Plan
  read-plan = plan u s before taken

  loads-plan : loaded u s before masks cells ≡ (loads (sound read-plan) (tables masks cells)).0
  unfolding loaded read-plan
  loads-plan = ap (λ (d : Decoded). (loads d (tables masks cells)).0) (decodes u s before taken)

  -- The table of an accepted reading never meets ground 11.
  pub never-11 : (loaded u s before masks cells).number ≡ 11 → ⊥
  never-11 e = not-11 read-plan (tables masks cells) (sym (load-number (sound read-plan) (tables masks cells)) ∙ sym (ap (λ (v : LoadValues). v.number) loads-plan) ∙ e)

  no-ground : (loaded u s before masks cells).number ≡ 0 → refusal (load_grounds (sound read-plan) (tables masks cells)) ≡ 0
  no-ground e = sym (load-number (sound read-plan) (tables masks cells)) ∙ sym (ap (λ (v : LoadValues). v.number) loads-plan) ∙ e

  -- Reading and an accepted load return the same cell total.
  pub same_total : (loaded u s before masks cells).number ≡ 0 → (loaded u s before masks cells).cells ≡ (answer u s before).cells
  unfolding answer read-plan plan
  same_total e =
      ap (λ (v : LoadValues). v.cells) loads-plan ∙ total-is read-plan (tables masks cells) (no-ground e)
      ∙ sym (ap (λ (x : ReadValues × List ℕ). x.0.cells) (admitted-read u s before (admitted u s before taken)))

  -- Demand 2, end to end: after an accepted reading and an accepted load the root is 0 exactly when the text is true under the masks.
  pub zero-when-true : (loaded u s before masks cells).number ≡ 0 → (loaded u s before masks cells).root ≡ 0 ↔ TextTrue u masks s
  unfolding read-plan
  zero-when-true e =
      let z = load-zero read-plan (tables masks cells) (nonempty (reads u s before).1 read-plan (decodes u s before taken)) (no-ground e) in
      let t = text-true u s before taken masks in
      let r : (loaded u s before masks cells).root ≡ (loads (sound read-plan) (tables masks cells)).0.root = ap (λ (v : LoadValues). v.root) loads-plan in
      ((λ h. t.0 (z.0 (sym r ∙ h))), (λ h. r ∙ z.1 (t.1 h)))
