-- The opposite of a move takes it back: 14 applies to both or to neither, and after a legal move its opposite is legal and flips the
-- same pairs. Assumes nothing.
use mathlib.Core.Path.{◌≡◌, refl, sym, ap, ◌∙◌, fun_ext}
use mathlib.Core.Logic.{◌≢◌}
use mathlib.Core.Bool.{Bool, true, false, cond, not, ◌&&◌, true≢false}
use Prim.Native.Nat.{ℕ}
use lib.Dec.{eqb, ltb}
use borrow.Author.Tests.{eqb-false, eq-eqb, ne_eqb, not-true}
use Rattle.logic.specs.declared.Move.{Move}
use Rattle.logic.specs.Formula.{Plan}
use Rattle.logic.specs.Configuration.{Sets}
use Rattle.logic.specs.Moves.{MoveKind, add, drop, transfer, swap, unknown, move_kind, fields_known, fields_fit, known, fits, legal, Pair, kind_pairs, named_pairs, move_pairs, flip, flips}
use Rattle.logic.proofs.Lists.{and_left, and_right, and-true}
use Rattle.contracts.specs.Journal.{kind_opposite, opposite}
use Rattle.contracts.specs.Book.{book_made}

first_two : (a b c d : Bool) → (b && a && c && d) ≡ (a && b && c && d)
first_two true true c d = refl
first_two true false c d = refl
first_two false true c d = refl
first_two false false c d = refl

last-two : (e c d : Bool) → (e && d && c) ≡ (e && c && d)
last-two true true true = refl
last-two true true false = refl
last-two true false true = refl
last-two true false false = refl
last-two false c d = refl

kind-known : (κ : MoveKind) (P : Plan) (m : Move) → move_kind m.kind ≡ κ → known P (kind_opposite κ m) ≡ fields_known κ P m
unfolding known kind_opposite move_kind fields_known
kind-known add P m e = refl
kind-known drop P m e = refl
kind-known transfer P m e = first_two (ltb m.s P.sets) (ltb m.t P.sets) _ _
kind-known swap P m e = last-two (ltb m.s P.sets && eqb m.t 0) (ltb m.p P.ports) (ltb m.q P.ports)
kind-known unknown P m e = ap (λ (κ : MoveKind). fields_known κ P m) e

-- 14 of a record is 14 of its opposite.
pub opposite-known : (P : Plan) (m : Move) → known P (opposite m) ≡ known P m
unfolding opposite known
opposite-known P m = kind-known (move_kind m.kind) P m refl

twice : (b x : Bool) → cond b (not (cond b (not x) x)) (cond b (not x) x) ≡ x
twice true true = refl
twice true false = refl
twice false x = refl

-- a pair flipped twice is as it was
flip-again : (q : Pair) (k : Sets) → flip q (flip q k) ≡ k
unfolding flip
flip-again q k = fun_ext (λ S. fun_ext (λ p. twice (eqb S q.0 && eqb p q.1) (k S p)))

-- the opposite flips the same pairs, the last first
kind-back : (κ : MoveKind) (m : Move) (k : Sets) → move_kind m.kind ≡ κ → flips (named_pairs (kind_opposite κ m)) (flips (kind_pairs κ m) k) ≡ k
unfolding named_pairs kind_opposite move_kind kind_pairs flips
kind-back add m k e = flip-again (m.s, m.p) k
kind-back drop m k e = flip-again (m.s, m.p) k
kind-back transfer m k e = ap (flip (m.s, m.p)) (flip-again (m.t, m.p) (flip (m.s, m.p) k)) ∙ flip-again (m.s, m.p) k
kind-back swap m k e = ap (flip (m.s, m.p)) (flip-again (m.s, m.q) (flip (m.s, m.p) k)) ∙ flip-again (m.s, m.p) k
kind-back unknown m k e = ap (λ (κ : MoveKind). flips (kind_pairs κ m) k) e

-- A move and then its opposite leave every set as it was.
pub opposite-back : (P : Plan) (m : Move) (k : Sets) → book_made P (opposite m) (book_made P m k) ≡ k
unfolding book_made move_pairs named_pairs opposite
opposite-back P m k = kind-back (move_kind m.kind) m k refl

-- what a flip leaves at its own pair and at another
flip-at : (S p : ℕ) (k : Sets) → flip (S, p) k S p ≡ not (k S p)
unfolding flip
flip-at S p k = rw (eq-eqb S S refl, eq-eqb p p refl)

flip-set-off : (S p T q : ℕ) (k : Sets) → T ≢ S → flip (S, p) k T q ≡ k T q
unfolding flip
flip-set-off S p T q k n = rw (ne_eqb T S n)

flip-port-off : (S p q : ℕ) (k : Sets) → q ≢ p → flip (S, p) k S q ≡ k S q
unfolding flip
flip-port-off S p q k n = rw (eq-eqb S S refl, ne_eqb q p n)

-- what was in is out, and what was out is in
in-out : (S p : ℕ) (k : Sets) → k S p ≡ true → not (flip (S, p) k S p) ≡ true
in-out S p k h = ap not (flip-at S p k ∙ ap not h)

out-in : (S p : ℕ) (k : Sets) → not (k S p) ≡ true → flip (S, p) k S p ≡ true
out-in S p k h = flip-at S p k ∙ h

kind_fits : (κ : MoveKind) (m : Move) (k : Sets) → move_kind m.kind ≡ κ → fields_fit κ k m ≡ true → fits (flips (kind_pairs κ m) k) (kind_opposite κ m) ≡ true
unfolding fits kind_opposite move_kind kind_pairs flips fields_fit
kind_fits add m k e h = out-in m.s m.p k h
kind_fits drop m k e h = in-out m.s m.p k h
kind_fits transfer m k e h =
    let from = m.s in
    let to = m.t in
    let p = m.p in
    let x = and_left (not (eqb from to) && k from p) (not (k to p)) h in
    let out = and_right (not (eqb from to) && k from p) (not (k to p)) h in
    let differ : from ≢ to = eqb-false _ _ (not-true _ (and_left (not (eqb from to)) (k from p) x)) in
    let left = flip (from, p) k in
    and-true _ _
    (and-true _ _ (ap not (ne_eqb to from (λ z. differ (sym z))))
    (out-in to p left (ap not (flip-set-off from p to p k (λ z. differ (sym z))) ∙ out)))
    (ap not (flip-set-off to p from p left differ) ∙ in-out from p k (and_right (not (eqb from to)) (k from p) x))
kind_fits swap m k e h =
    let S = m.s in
    let in-it = and_left (k S m.p) (not (k S m.q)) h in
    let out = and_right (k S m.p) (not (k S m.q)) h in
    let differ : m.q ≢ m.p = λ z. true≢false (sym in-it ∙ ap (k S) (sym z) ∙ not-true _ out) in
    let left = flip (S, m.p) k in
    and-true _ _
    (out-in S m.q left (ap not (flip-port-off S m.p m.q k differ) ∙ out))
    (ap not (flip-port-off S m.q m.p left (λ z. differ (sym z))) ∙ in-out S m.p k in-it)
kind_fits unknown m k e h = absurd (true≢false (sym h))

-- After a legal move its opposite is legal.
pub opposite-legal : (P : Plan) (m : Move) (k : Sets) → legal P k m ≡ true → legal P (book_made P m k) (opposite m) ≡ true
unfolding legal book_made move_pairs named_pairs fits opposite
opposite-legal P m k h =
    and-true _ _ (opposite-known P m ∙ and_left (known P m) (fits k m) h)
    (kind_fits (move_kind m.kind) m k refl (and_right (known P m) (fits k m) h))
