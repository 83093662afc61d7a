-- The answers of a port put in test or taken out, by the grounds in the order in which the code tries them. Assumes nothing.
use mathlib.Core.Path.{◌≡◌, refl, sym, ap, ◌∙◌}
use mathlib.Core.Bool.{Bool, false, beq}
use mathlib.Core.List.{List, [], ◌++◌}
use Prim.Native.Nat.{ℕ, zero, suc, ◌≤◌, ◌<◌}
use native.Mathlib.Omega.{arith}
use lib.ListN.{length, get_or, set, take, drop}
use Rattle.std.specs.Prelude.{Ok, Err}
use Rattle.logic.specs.declared.refusal.Refusal.{Refusal}
use Rattle.logic.specs.Refusal.{refusal_number}
use Rattle.logic.proofs.Refusals.{all-told}
use Rattle.logic.specs.Formula.{Plan}
use Rattle.logic.specs.Configuration.{in_masks, own_masks, spelled}
use Rattle.logic.specs.Cells.{own_cells}
use Rattle.logic.specs.Moves.{refusal}
use Rattle.logic.specs.Change.{new_cells, differing}
use Rattle.logic.specs.InTest.{test_grounds, test_masks, test_change}
use Rattle.logic.proofs.InTest.{test-mask-flip}
use Rattle.table_format.specs.Decode.{Decoded, sound, decode}
use Rattle.cells_sum.specs.declared.After.{After}
use Rattle.cells_walk.specs.inner.Visit.{CellsFit}
use Rattle.contracts.specs.State.{State, tables, own_tables, with_rest}
use Rattle.contracts.specs.MoveCall.{MoveValues, move_refused, move_accepted, move_values, MadeAs}
use Rattle.contracts.specs.TestCall.{test_call_grounds, tested_cells, tested_tables, tests_own, tests}
use Rattle.contracts.proofs.Calls.{call-refuses, call-accepted}
use Rattle.contracts.proofs.Steps.{test-free}
use Rattle.call_open.specs.inner.Opening.{OpenPlan}
use Rattle.call_open.proofs.Opening.{one_table, Tries, tries-tables}
use Rattle.call_open.proofs.OpenPlan.{ports-fit, masks-long, own_is}
use Rattle.test_port.specs.inner.Port.{PortNumber}
use Rattle.test_make.specs.inner.Putting.{PortReady, flipped_masks, flipped_cells, Puts}

-- the grounds, tried
pub tries-test : (d : Decoded) (s : State) (into : Bool) (p : ℕ) → Tries d s.masks (length s.cells) (λ P k. test_grounds P k into p) (test_call_grounds d s into p)
unfolding test_call_grounds
tries-test d s into p = tries-tables d s (length s.cells) [] (λ P k. test_grounds P k into p) (one_table (length s.cells))

module _ {ports sets : ℕ} {bytes masks : List ℕ} {shortest : ℕ} {firsts ends uses : List ℕ} (opened : OpenPlan ports sets bytes masks shortest firsts ends uses) where
  pub port-asks : (ports ≤ 64) × (sets < length masks)
  port-asks = (ports-fit opened, omega (arith, masks-long opened))

  -- 14 and 20
  pub number_is : (into : Bool) (p n : ℕ) → PortNumber ports sets into p masks n
      → n ≡ refusal (test_grounds opened.plan (in_masks (take (own_masks opened.plan) masks)) into p)
  unfolding PortNumber
  number_is into p n number =
      number opened.plan (sym opened.ports-are) (sym opened.sets-are)
      ∙ ap (λ (xs : List ℕ). refusal (test_grounds opened.plan (in_masks xs) into p)) (own_is opened)

-- neither 14 nor 20 applies to the port
pub port-ready : {ports sets : ℕ} {bytes masks cells : List ℕ} {firsts ends uses : List ℕ} (o : OpenPlan ports sets bytes masks (length cells) firsts ends uses)
    → CellsFit cells → (into : Bool) (p n : ℕ) → PortNumber ports sets into p masks n → n ≡ 0
    → PortReady ports sets bytes firsts ends uses masks cells p
port-ready o fit into p n number z =
    let f = test-free o.plan _ into p (sym (number_is o into p n number) ∙ z) in
    record { tables-open = record { opened = o; cells_fit = fit }; below = omega (arith, f.0, o.ports-are) }

-- a ground applies
pub test-refused : (d : Decoded) (into : Bool) (p : ℕ) (s : State) (g : Refusal) → refusal (test_call_grounds d s into p) ≡ refusal_number g
    → MadeAs (tests d into p s) (Err g) s
unfolding tests move_values
test-refused d into p s g e =
    let given = call-refuses move_refused (tests_own into p) (test_call_grounds d s into p) d s g e in
    record {
      answers = record { values-are = sym (ap (λ (x : MoveValues × State). x.0) given); told = all-told (Err g) };
      tables-are = sym (ap (λ (x : MoveValues × State). x.1) given);
    }

-- the mask that the call writes is the one with the port flipped
same-masks : (P : Plan) (into : Bool) (p : ℕ) (own : List ℕ) → beq (in_masks own P.sets p) into ≡ false → flipped_masks P p own ≡ test_masks P into p own
unfolding flipped_masks test_masks in_masks
same-masks P into p own h = ap (set own P.sets) (sym (test-mask-flip into (get_or own P.sets 0) p h))

-- no ground applies
pub test-made : (bytes masks cells : List ℕ) (P : Plan) → decode bytes ≡ sound P → (into : Bool) (p : ℕ) (r : After) (masks' cells' : List ℕ)
    → refusal (test_call_grounds (decode bytes) (tables masks cells) into p) ≡ 0
    → refusal (test_grounds P (in_masks (take (own_masks P) masks)) into p) ≡ 0 → Puts bytes masks cells p r masks' cells'
    → MadeAs (tests (decode bytes) into p (tables masks cells)) (Ok (record { before = r.old; after = r.value; changed = r.changed })) (tables masks' cells')
unfolding tests tests_own tested_tables tested_cells move_values own_tables with_rest Puts flipped_cells
test-made bytes masks cells P d into p r masks' cells' free fits puts =
    let s = tables masks cells in
    let c = puts P d in
    let own = take (own_masks P) masks in
    let before = take (own_cells P) cells in
    let e : flipped_masks P p own ≡ test_masks P into p own = same-masks P into p own (test-free P (in_masks own) into p fits).1 in
    let again : List ℕ → List ℕ = λ ms. new_cells P (spelled P ms) (test_change P (in_masks own) p) before in
    let given = ap (λ (x : Decoded). tests x into p s) d
    ∙ call-accepted move_refused (tests_own into p) (test_call_grounds (sound P) s into p) P s
    (ap (λ (x : Decoded). refusal (test_call_grounds x s into p)) (sym d) ∙ free) in
    record {
      answers = record {
        values-are = (λ i. move_accepted (c.before-is i) ((c.after_is ∙ ap (λ (ms : List ℕ). get_or (again ms) 0 0) e) i)
            ((c.changed-is ∙ ap (λ (ms : List ℕ). differing before (again ms)) e) i))
            ∙ sym (ap (λ (x : MoveValues × State). x.0) given);
        told = all-told (Ok _);
      };
      tables-are = (λ i. tables ((c.masks-are ∙ ap (λ (ms : List ℕ). ms ++ drop (own_masks P) masks) e) i)
          ((c.cells_are ∙ ap (λ (ms : List ℕ). again ms ++ drop (own_cells P) cells) e) i))
          ∙ sym (ap (λ (x : MoveValues × State). x.1) given);
    }
