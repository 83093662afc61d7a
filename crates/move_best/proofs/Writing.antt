-- The second pass over the candidates: the records of the best so far. Assumes nothing.
use mathlib.Core.Path.{◌≡◌, refl, sym, ap, ap₂, ◌∙◌, subst}
use mathlib.Core.Bool.{Bool, true, false, cond, true≢false}
use mathlib.Core.List.Memᴰ
use mathlib.Core.List.{List, [], ◌∷◌, ◌++◌, append-nil, map, map-append, Memᴰ}
use Prim.Native.Nat.{ℕ, ◌+◌, ◌≤◌, ◌<◌}
use native.Mathlib.Omega.{arith}
use lib.Dec.{eqb}
use lib.ListN.{length, set, drop, length-append, length-map}
use borrow.Author.Tests.{eqb-true, eq-eqb, ne_eqb}
use Rattle.std.specs.Prelude.{Option, Some, None}
use Rattle.logic.specs.declared.Move.{Move}
use Rattle.logic.specs.Formula.{Plan}
use Rattle.logic.specs.Configuration.{in_masks}
use Rattle.logic.specs.inner.MoveFields.{Sized}
use Rattle.contracts.specs.State.{State}
use Rattle.contracts.specs.MoveOrder.{candidates, kept, none_smaller, best_of}
use Rattle.contracts.specs.ImproveCall.{root_after, best_moves}
use Rattle.contracts.specs.BestCall.{move_record}
use Rattle.contracts.proofs.Candidates.{kept-is, keep, kept_append}
use Rattle.contracts.proofs.Best.{best-is, is-best, best_none}
use Rattle.move_order.specs.inner.Stepping.{outset, NextOr}
use Rattle.move_list.specs.inner.Records.{RoomFor, Put}
use Rattle.move_list.proofs.Writing.{record-more}
use Rattle.move_rank.specs.declared.Choice.{Choice}
use Rattle.move_best.specs.inner.Choosing.{BestIs}
use Rattle.move_best.proofs.Choosing.{count-is}
use Rattle.move_best.proofs.Passing.{Passed, none_passed, here, here-among, here-joined, one-passed, all-passed}

-- whether a move is one of the best is told by what the first of them leaves
best-tells : (f : Move → ℕ) (ms : List Move) (x : Move) (xs : List Move) → best_of f ms ≡ x ∷ xs → (m : Move) → Memᴰ m ms
    → none_smaller f ms (f m) ≡ eqb (f m) (f x)
unfolding best_of
best-tells f ms x xs e m d = go (none_smaller f ms (f m)) refl
  where
    there : Memᴰ x ms × ((n : Move) → Memᴰ n ms → f x ≤ f n)
    there = best-is f ms x (subst (Memᴰ x) (sym e) (Memᴰ.head refl))

    go : (b : Bool) → none_smaller f ms (f m) ≡ b → b ≡ eqb (f m) (f x)
    go true h =
        let l = (best-is f ms m (keep (λ n. none_smaller f ms (f n)) m ms h d)).1 x there.0 in
        sym (eq-eqb (f m) (f x) (omega (arith, l, there.1 m d)))
    go false h =
        sym (ne_eqb (f m) (f x) (λ q. true≢false (sym (kept-is (λ n. none_smaller f ms (f n)) m ms (is-best f ms m d (λ n w. omega (arith, there.1 n w, q)))) ∙ h)))

-- records of some moves, and those of one more if it is told to be put
record-next : (m : Move) (list : List (List ℕ)) (c : Bool) (ms ns : List Move) → ns ≡ ms ++ cond c (m ∷ []) [] → (list' : List (List ℕ)) (i : ℕ)
    → list' ≡ map move_record ms ++ drop i list → i ≡ length ms → (c ≡ true → i < length list) → (list'' : List (List ℕ)) (j : ℕ)
    → list'' ≡ cond c (set list' i (move_record m)) list' → j ≡ cond c (i + 1) i → (list'' ≡ map move_record ns ++ drop j list) × (j ≡ length ns)
record-next m list true ms ns e list' i f n l list'' j g h = (
  g ∙ ap (λ (ys : List (List ℕ)). set ys i (move_record m)) f
      ∙ record-more (map move_record ms) list (move_record m) i (length-map ms move_record ∙ sym n) (l refl)
      ∙ ap₂ (λ (ys : List (List ℕ)) (k : ℕ). ys ++ drop k list) (sym (map-append move_record ms (m ∷ [])) ∙ ap (map move_record) (sym e)) (sym h),
  omega (arith, h, n, ap length e, length-append ms (m ∷ [])),
)
record-next m list false ms ns e list' i f n l list'' j g h =
    let q : ns ≡ ms = e ∙ append-nil ms in (
      g ∙ f ∙ ap₂ (λ (ks : List Move) (k : ℕ). map move_record ks ++ drop k list) (sym q) (sym h),
      h ∙ n ∙ ap length (sym q),
    )

module _ (P : Plan) (kinds : ℕ) (own : State) where
  abbrev root : Move → ℕ
  root m = root_after P m own.masks own.cells

  abbrev all : List Move
  all = candidates P kinds (in_masks own.masks)

  -- those of some moves that are among the best of all candidates
  abbrev best-of : List Move → List Move
  best-of ms = kept (λ m. none_smaller root all (root m)) ms

  -- The state of the pass: the records of the best among the moves passed, and the place of the next.
  pub record Written (list list' : List (List ℕ)) (i : ℕ) (at : Option Move) : Type 0 where
    pub passed : List Move
    pub walk : Passed P kinds own.masks at passed
    pub list-is : list' ≡ map move_record (best-of passed) ++ drop i list
    pub place_is : i ≡ length (best-of passed)

  module _ (Z : Sized P.ports P.sets) (list : List (List ℕ)) where
    -- before the first candidate
    pub written-first : (at : Option Move) → NextOr P kinds own.masks outset at → Written list list 0 at
    unfolding kept
    written-first at N = record { passed = []; walk = none_passed P Z kinds own.masks at N; list-is = refl; place_is = refl }

    module _ (list' : List (List ℕ)) (i : ℕ) where
      module _ (m : Move) (W : Written list list' i (Some m)) (best : Choice) (b : BestIs (best_moves P kinds own) P own best) (value : ℕ) (v : value ≡ root m) where
        -- the candidate here is one of the best if it leaves what the choice leaves
        tells : none_smaller root all (root m) ≡ eqb value best.value
        unfolding best_moves
        tells = go (best_of root all) refl b
          where
            among : Memᴰ m all
            among = here-among P Z kinds own.masks m W.passed W.walk

            go : (ms : List Move) → best_of root all ≡ ms → BestIs ms P own best → none_smaller root all (root m) ≡ eqb value best.value
            go [] e c = absurd (Memᴰ.not-nil (subst (Memᴰ m) (best_none root all e) among))
            go (x ∷ xs) e c = unfold BestIs in
                best-tells root all x xs e m among ∙ ap₂ eqb (sym v) (sym c.2)

        -- those passed with it
        more : best-of (W.passed ++ m ∷ []) ≡ best-of W.passed ++ cond (eqb value best.value) (m ∷ []) []
        unfolding kept
        more =
            kept_append _ W.passed (m ∷ [])
            ∙ ap (λ (c : Bool). best-of W.passed ++ cond c (m ∷ []) []) tells

        -- the list has a place for it
        pub written-room : best.count ≤ length list → length list' ≡ length list → RoomFor value best.value i list'
        unfolding RoomFor best_moves best_of
        written-room h l e =
            let ms = (here P Z kinds own.masks m W.passed W.walk).0 in
            let a : best-of (W.passed ++ m ∷ []) ++ best-of ms ≡ best_moves P kinds own =
            sym (kept_append _ (W.passed ++ m ∷ []) ms) ∙ ap best-of (here-joined P Z kinds own.masks m W.passed W.walk) in
            let one : best-of (W.passed ++ m ∷ []) ≡ best-of W.passed ++ m ∷ [] =
            more ∙ ap (λ (c : Bool). best-of W.passed ++ cond c (m ∷ []) []) (eq-eqb value best.value e) in
            omega (arith, h, l, W.place_is, count-is P own best (best_moves P kinds own) b, ap length a, ap length one, length-append (best-of (W.passed ++ m ∷ [])) (best-of ms), length-append (best-of W.passed) (m ∷ []))

        -- from one candidate to the next
        pub written_next : best.count ≤ length list → length list' ≡ length list → (list'' : List (List ℕ)) (j : ℕ) (next : Option Move)
            → Put m value best.value i list' list'' j → NextOr P kinds own.masks m next → Written list list'' j next
        unfolding RoomFor
        written_next h l list'' j next p N =
            let r = record-next m list (eqb value best.value) (best-of W.passed) (best-of (W.passed ++ m ∷ [])) more list' i W.list-is W.place_is
            (λ e. omega (arith, written-room h l (eqb-true value best.value e), l)) list'' j p.list-is p.next-is in
            record {
              passed = W.passed ++ m ∷ [];
              walk = one-passed P Z kinds own.masks m W.passed W.walk next N;
              list-is = r.0;
              place_is = r.1;
            }

      -- past the last
      pub written-end : Written list list' i None → list' ≡ map move_record (best_moves P kinds own) ++ drop (length (best_moves P kinds own)) list
      unfolding best_moves best_of
      written-end W =
          let a = all-passed P Z kinds own.masks W.passed W.walk in
          W.list-is ∙ ap (λ (k : ℕ). map move_record (best-of W.passed) ++ drop k list) W.place_is
          ∙ ap (λ (ms : List Move). map move_record (best-of ms) ++ drop (length (best-of ms)) list) a
