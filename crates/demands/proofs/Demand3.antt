-- Demand 3, one claim over every list of calls: from the tables as an accepted load leaves them and an empty journal, masks and journal
-- are those of the book, each cell holds Definition 5's penalty under the masks, and every answer is right.
use mathlib.Core.Path.{◌≡◌, sym, ap, ◌∙◌, subst}
use mathlib.Core.Logic.{inl, inr, ◌↔◌}
use mathlib.Core.List.{List, Memᴰ}
use Prim.Native.Nat.{ℕ}
use native.Mathlib.Omega.{arith}
use lib.ListN.{drop}
use Rattle.logic.specs.declared.Move.{Move}
use Rattle.logic.specs.Formula.{Plan}
use Rattle.logic.specs.Configuration.{Sets, own_masks}
use Rattle.logic.specs.Cells.{own_cells}
use Rattle.call_one.specs.Lending.{Lent}
use Rattle.call_list.specs.Working.{Worked}
use Rattle.table_format.specs.Decode.{Decoded, sound, decode}
use Rattle.table_format.proofs.Encoding.{decode-sound}
use Rattle.table_format.proofs.Facts.{plan-sized}
use Rattle.contracts.specs.Load.{loads}
use Rattle.contracts.specs.State.{State}
use Rattle.contracts.specs.Journal.{Journaled}
use Rattle.contracts.specs.Least.{NoneBelow}
use Rattle.contracts.specs.MoveOrder.{candidates, Candidate, Rising}
use Rattle.contracts.specs.ImproveCall.{ImproveValues, no_better}
use Rattle.contracts.specs.Book.{first_book, book_made}
use Rattle.contracts.specs.Lists.{Asked, run, begun, book_after, book_root, book_best, ImprovedRight, AllRight, AsBook}
use Rattle.contracts.proofs.Candidates.{candidate-in, in-candidate}
use Rattle.contracts.proofs.Best.{best-is, is-best, best-in-order}
use Rattle.contracts.proofs.Lists.{load-holds, run-right}
use Rattle.move_order.proofs.Listing.{candidates-rising}

-- Demand 3. From the tables as an accepted load leaves them and an empty journal, whatever records are lent, for every list of calls:
-- each answer is right under the book before its call; afterwards the masks are the book's sets, each cell is Definition 5's penalty
-- under them, the journal is the book's, and what is past the plan's own is as it was. `run` is a function, so every list has its answers.
pub lists-right : (bytes : List ℕ) (before : State) → (loads (decode bytes) before).0.number ≡ 0
    → (P : Plan) → decode bytes ≡ sound P → (records : List Move) (cs : List Asked) → (let x = begun (loads (decode bytes) before).1 records in
    let r = run (decode bytes) x cs in
    AllRight P (first_book P x) r.0
    × AsBook P (book_after P (first_book P x) r.0) (drop (own_masks P) before.masks) (drop (own_cells P) before.cells) r.1)
lists-right bytes before h P d records cs =
    let l = sym (ap (λ (e : Decoded). (loads e before).0.number) d) ∙ h in
    let x = begun (loads (sound P) before).1 records in
    let q = run-right bytes P d (first_book P x) (drop (own_masks P) before.masks) (drop (own_cells P) before.cells) x cs (load-holds P before l records) in
    subst (λ (e : Decoded). (let y = begun (loads e before).1 records in
    let r = run e y cs in
    AllRight P (first_book P y) r.0
    × AsBook P (book_after P (first_book P y) r.0) (drop (own_masks P) before.masks) (drop (own_cells P) before.cells) r.1)) (sym d)
    (q.0, q.1.kept)

-- An accepted improve that is right answers "no better move" exactly when no legal move of its kinds lowers the root.
pub no-better-exactly : (P : Plan) (k : Sets) (kinds : ℕ) (v : ImproveValues) → ImprovedRight 0 P k kinds v
    → (v.found ≡ 0) ↔ NoneBelow (Candidate P kinds k) (λ m. book_root P (book_made P m k)) (book_root P k)
unfolding ImprovedRight
no-better-exactly P k kinds v (inl x) = (
  (λ e. absurd (omega (arith, e, x.found))),
  (λ H. let h = H v.chosen x.candidate in absurd (omega (arith, x.lowers, h))),
)
no-better-exactly P k kinds v (inr x) = unfold no_better in ((λ e. x.none), (λ H. ap (λ (w : ImproveValues). w.found) x.values-right))

-- "all legal moves of the given kinds that leave the least root": the moves that a right listing has are exactly the legal moves of the
-- kinds after which no other such move leaves a smaller root.
pub best-exactly : (P : Plan) (k : Sets) (kinds : ℕ) (m : Move)
    → Memᴰ m (book_best P k kinds) ↔ (Candidate P kinds k m × NoneBelow (Candidate P kinds k) (λ x. book_root P (book_made P x k)) (book_root P (book_made P m k)))
unfolding book_best
best-exactly P k kinds m = (
  (λ h. let q = best-is (λ x. book_root P (book_made P x k)) (candidates P kinds k) m h in
      (in-candidate P kinds k m q.0, λ n c. q.1 n (candidate-in P kinds k n c))),
  (λ h. is-best (λ x. book_root P (book_made P x k)) (candidates P kinds k) m (candidate-in P kinds k m h.0) (λ n d. h.1 n (in-candidate P kinds k n d))),
)

-- "each once, in this order", of every plan that has a table: each stands before all that follow it.
pub best-rising : (bytes : List ℕ) (P : Plan) → decode bytes ≡ sound P → (k : Sets) (kinds : ℕ) → Rising (book_best P k kinds)
unfolding book_best
best-rising bytes P d k kinds =
    best-in-order (λ x. book_root P (book_made P x k)) (candidates P kinds k) (candidates-rising P (plan-sized P (decode-sound bytes P d).rules) kinds k)

-- After an accepted load, and with a journal that is empty, every answer that `work` writes is right under the book before its call; and
-- it leaves the masks as the book's sets, each cell as Definition 5's penalty under them, and the journal as the book's, with what is past
-- the plan's own as it was.
pub work-right : (bytes : List ℕ) (before : State) → (loads (decode bytes) before).0.number ≡ 0
    → (P : Plan) → decode bytes ≡ sound P → (calls : List ℕ) (b : Lent) (count : ℕ) (a : Lent) (records : List Move)
    → (let x = begun (loads (decode bytes) before).1 records in
    b.tables ≡ x → (w : Worked bytes calls b count a)
    → AllRight P (first_book P x) (run (decode bytes) x w.asked).0
    × AsBook P (book_after P (first_book P x) (run (decode bytes) x w.asked).0) (drop (own_masks P) before.masks) (drop (own_cells P) before.cells) a.tables)
work-right bytes before h P d calls b count a records e w =
    let x = begun (loads (decode bytes) before).1 records in
    let q = lists-right bytes before h P d records w.asked in (
      q.0,
      subst (AsBook P (book_after P (first_book P x) (run (decode bytes) x w.asked).0) (drop (own_masks P) before.masks) (drop (own_cells P) before.cells))
          (sym (w.tables-are ∙ ap (λ (y : Journaled). (run (decode bytes) y w.asked).1) e)) q.1,
    )
