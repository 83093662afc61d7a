-- Load's answer and cells in each of its cases, and what an accepted load means. Assumes nothing.
use mathlib.Core.Path.{◌≡◌, refl, sym, ap, ◌∙◌}
use mathlib.Core.Logic.{◌↔◌}
use mathlib.Core.List.{List, [], ◌++◌}
use Prim.Native.Nat.{ℕ, zero, suc, ◌≤◌}
use lib.ListN.{get_or, take, drop, take-append-drop, get_or-append}
use Rattle.logic.specs.Formula.{Plan}
use Rattle.logic.specs.Configuration.{own_masks, spelled}
use Rattle.logic.specs.Truth.{PlanTrue}
use Rattle.logic.specs.Cells.{own_cells, cells, root_penalty}
use Rattle.logic.specs.Moves.{refusal}
use Rattle.std.specs.Prelude.{Ok, Err}
use Rattle.logic.specs.declared.refusal.Refusal.{Refusal}
use Rattle.logic.specs.Refusal.{refusal_number}
use Rattle.logic.specs.Change.{some_of}
use Rattle.logic.proofs.Refusals.{all-told}
use Rattle.logic.proofs.Theorems.{Nonempty, root-zero, length-cells}
use Rattle.table_format.specs.Decode.{Decoded, broken, sound, decode}
use Rattle.contracts.specs.State.{State, tables, own_tables, with_rest}
use Rattle.contracts.specs.Call.{plan_grounds, call_grounds, call_or, call}
use Rattle.contracts.specs.declared.Loaded.{Loaded}
use Rattle.contracts.specs.Load.{load_grounds, loaded_masks, loaded_tables, loads_own, loads, LoadValues, load_refused, load_values, LoadPromise}
use Rattle.contracts.proofs.Calls.{LentEnough, tables-pass, call-refused, call-refuses, call-accepted}

-- a ground applies
pub load-refused : (d : Decoded) (s : State) (g : ℕ) → refusal (load_grounds d s) ≡ suc g → loads d s ≡ (load_refused (suc g), s)
unfolding loads
load-refused d s g e = call-refused load_refused loads_own (load_grounds d s) d s g e

-- no ground applies
pub accepted : (P : Plan) (s : State) → LentEnough P s → refusal (load_grounds (sound P) s) ≡ 0
unfolding load_grounds refusal some_of
accepted P s l = tables-pass P s [] (λ Q k. []) l

-- Load accepts, with each own cell Definition 5's penalty; every mask and every cell past them is as it was.
pub load_is : (P : Plan) (s : State) → refusal (load_grounds (sound P) s) ≡ 0
    → (let k = spelled P (take (own_masks P) s.masks) in
    loads (sound P) s ≡ (record { number = 0; root = root_penalty P k; cells = own_cells P }, tables s.masks (cells P k ++ drop (own_cells P) s.cells)))
unfolding loads loads_own loaded_masks loaded_tables own_tables with_rest
load_is P s e =
    let k = spelled P (take (own_masks P) s.masks) in
    call-accepted load_refused loads_own (load_grounds (sound P) s) P s e
    ∙ (λ i. (record { number = 0; root = root_penalty P k; cells = own_cells P }, tables (take-append-drop (own_masks P) s.masks i) (cells P k ++ drop (own_cells P) s.cells)))

-- what the call promises of its answer in each case
pub load-refuses : (d : Decoded) (s : State) (g : Refusal) → refusal (load_grounds d s) ≡ refusal_number g → LoadPromise (loads d s) (Err g) s
unfolding loads load_values
load-refuses d s g e =
    let given = call-refuses load_refused loads_own (load_grounds d s) d s g e in
    record {
      values-are = sym (ap (λ (x : LoadValues × State). x.0) given);
      told = all-told (Err g);
      tables-are = sym (ap (λ (x : LoadValues × State). x.1) given);
    }

pub load-accepts : (bytes masks xs ys : List ℕ) (P : Plan) (r t : ℕ) → decode bytes ≡ sound P → refusal (load_grounds (sound P) (tables masks xs)) ≡ 0
    → ys ≡ cells P (spelled P (take (own_masks P) masks)) ++ drop (own_cells P) xs → 1 ≤ own_cells P → r ≡ get_or ys 0 0 → t ≡ own_cells P
    → LoadPromise (loads (decode bytes) (tables masks xs)) (Ok (record { root = r; cells = t })) (tables masks ys)
unfolding root_penalty load_values
load-accepts bytes masks xs ys P r t d e y one re te =
    let own = take (own_masks P) masks in
    let c = cells P (spelled P own) in
    let first : r ≡ get_or c 0 0 = re ∙ ap (λ (l : List ℕ). get_or l 0 0) y ∙ get_or-append c (drop (own_cells P) xs) 0 0 (rw (length-cells P (spelled P own)) one) in
    let given = ap (λ (x : Decoded). loads x (tables masks xs)) d ∙ load_is P (tables masks xs) e in
    record {
      values-are = (λ i. record { number = 0; root = first i; cells = te i }) ∙ sym (ap (λ (x : LoadValues × State). x.0) given);
      told = all-told (Ok _);
      tables-are = (λ i. tables masks (y i)) ∙ sym (ap (λ (x : LoadValues × State). x.1) given);
    }

-- the number that load answers
pub load-number : (d : Decoded) (s : State) → (loads d s).0.number ≡ refusal (load_grounds d s)
unfolding loads call call_or loads_own load_refused load_grounds call_grounds plan_grounds refusal
load-number broken s = refl
load-number (sound P) s = go (refusal (load_grounds (sound P) s))
  where
    go : (g : ℕ) → (call_or load_refused g (sound P) loads_own s).0.number ≡ g
    go zero = refl
    go (suc g) = refl

-- After an accepted load the root is 0 exactly when the formula is true under the plan's own masks (demand 2).
pub load-zero : (P : Plan) (s : State) → Nonempty P.formula → refusal (load_grounds (sound P) s) ≡ 0
    → (loads (sound P) s).0.root ≡ 0 ↔ PlanTrue P (spelled P (take (own_masks P) s.masks))
load-zero P s n e =
    let k = spelled P (take (own_masks P) s.masks) in
    let r : (loads (sound P) s).0.root ≡ root_penalty P k = ap (λ (x : LoadValues × State). x.0.root) (load_is P s e) in
    let z = root-zero P k n in
    ((λ h. z.0 (sym r ∙ h)), (λ t. r ∙ z.1 t))

-- After an accepted load each own cell is Definition 5's penalty, and every mask and every cell past them is as it was.
pub load_cells : (P : Plan) (s : State) → refusal (load_grounds (sound P) s) ≡ 0
    → (loads (sound P) s).1 ≡ tables s.masks (cells P (spelled P (take (own_masks P) s.masks)) ++ drop (own_cells P) s.cells)
load_cells P s e = ap (λ (x : LoadValues × State). x.1) (load_is P s e)
