-- Every run from an accepted load is right, by induction over its calls. Assumes nothing.
use mathlib.Core.Path.{◌≡◌, refl, sym, ap, ◌∙◌, subst}
use mathlib.Core.List.{List, [], ◌∷◌, ◌++◌}
use Prim.Native.Nat.{ℕ}
use native.Mathlib.Omega.{arith}
use lib.ListN.{take, drop, take-append-drop}
use lib.Seq.{length-take-le}
use Rattle.logic.specs.declared.Move.{Move}
use Rattle.logic.specs.Formula.{Plan}
use Rattle.logic.specs.Configuration.{in_masks, own_masks, spelled}
use Rattle.logic.specs.Cells.{own_cells}
use Rattle.logic.specs.Moves.{refusal}
use Rattle.table_format.specs.Decode.{Decoded, broken, sound, decode}
use Rattle.contracts.specs.State.{State, tables}
use Rattle.contracts.specs.Journal.{Journaled, room_of}
use Rattle.contracts.specs.Call.{plan_grounds, call_grounds}
use Rattle.contracts.specs.Load.{load_grounds, loads}
use Rattle.contracts.proofs.Calls.{lent-enough}
use Rattle.contracts.proofs.LoadAnswers.{load-number, load_cells}
use Rattle.contracts.specs.Book.{Book, first_book, book_step}
use Rattle.contracts.specs.Lists.{Asked, Exchange, step, run, begun, feed, book_after, book_cells, AllRight}
use Rattle.contracts.proofs.Journals.{empty_holds}
use Rattle.contracts.proofs.Steps.{StateHolds, own-holds, step_right}

-- An accepted load implies that no ground applies,
pub load-free : (d : Decoded) (before : State) → (loads d before).0.number ≡ 0 → refusal (load_grounds d before) ≡ 0
load-free d before h = sym (load-number d before) ∙ h

-- and that the bytes are the table of a plan.
pub load-decodes : (bytes : List ℕ) (before : State) → (loads (decode bytes) before).0.number ≡ 0
    → (P : Plan) × (decode bytes ≡ sound P)
unfolding load_grounds call_grounds plan_grounds refusal
load-decodes bytes before h = go (decode bytes) refl
  where
    go : (d : Decoded) → decode bytes ≡ d → (P : Plan) × (decode bytes ≡ sound P)
    go broken e =
        let z : ◌≡◌ {A = ℕ} 11 0 = sym (ap (λ (x : Decoded). refusal (load_grounds x before)) e) ∙ load-free (decode bytes) before h in
        absurd (omega arith)
    go (sound P) e = (P, e)

module _ (P : Plan) (before : State) (h : (loads (sound P) before).0.number ≡ 0) where
  abbrev own : List ℕ
  own = take (own_masks P) before.masks

  -- The tables as an accepted load leaves them, with any lent records, hold what they must.
  pub load-holds : (records : List Move) → (let x = begun (loads (sound P) before).1 records in
      StateHolds P (first_book P x) (drop (own_masks P) before.masks) (drop (own_cells P) before.cells) x)
  unfolding load_grounds book_cells spelled first_book begun room_of
  load-holds records =
      let free = load-free (sound P) before h in
      let lent = lent-enough P before [] (λ Q k. []) free in
      let tail-masks = drop (own_masks P) before.masks in
      let tail-cells = drop (own_cells P) before.cells in
      let left = tables before.masks (book_cells P (in_masks own) ++ tail-cells) in
      let e : (loads (sound P) before).1 ≡ left = load_cells P before free in
      subst (λ (t : State). StateHolds P (first_book P (begun t records)) tail-masks tail-cells (begun t records)) (sym e)
      (own-holds P (first_book P (begun left records)) tail-masks tail-cells (begun left records) (tables own (book_cells P (in_masks own)))
      record {
        spells = refl;
        enough = length-take-le (own_masks P) before.masks lent.masks-enough;
        within = lent.within;
        penalties = refl;
      }
      (λ i. tables (sym (take-append-drop (own_masks P) before.masks) i) (book_cells P (in_masks own) ++ tail-cells))
      (empty_holds records))

-- A list of calls from any tables and journal that hold what they must.
pub run-right : (bytes : List ℕ) (P : Plan) → decode bytes ≡ sound P → (b : Book) (tail-masks tail-cells : List ℕ)
    → (x : Journaled) (cs : List Asked) → StateHolds P b tail-masks tail-cells x
    → (let r = run (sound P) x cs in AllRight P b r.0 × StateHolds P (book_after P b r.0) tail-masks tail-cells r.1)
unfolding AllRight book_after run
run-right bytes P d b tm tc x [] h = (tt, h)
run-right bytes P d b tm tc x (c ∷ cs) h =
    let r = step (sound P) x c in
    let q = step_right bytes P d b tm tc x h c in
    let w = run-right bytes P d (book_step P b (feed r.0)) tm tc r.1 cs q.1 in
    ((q.0, w.0), w.1)

-- Two lists one after the other are one list.
pub run-append : (d : Decoded) (x : Journaled) (cs ds : List Asked)
    → (let r = run d x cs in let q = run d r.1 ds in run d x (cs ++ ds) ≡ (r.0 ++ q.0, q.1))
unfolding run
run-append d x [] ds = refl
run-append d x (c ∷ cs) ds =
    let r = step d x c in
    ap (λ (y : List Exchange × Journaled). (r.0 ∷ y.0, y.1)) (run-append d r.1 cs ds)
