-- A port that goes into test or out of it: what its masks spell, that true cells stay true, and that moves do not mind it. Assumes nothing.
use mathlib.Core.Path.{◌≡◌, refl, sym, ap, ap₂, ◌∙◌, fun_ext}
use mathlib.Core.Logic.{◌≢◌}
use mathlib.Core.Bool.{Bool, true, false, cond, not, ◌&&◌, beq, true≢false}
use mathlib.Core.List.{List, [], ◌∷◌}
use Prim.Native.Nat.{ℕ, ◌≤◌, ◌<◌}
use native.Mathlib.Decide.{ℕ_discrete}
use native.Mathlib.Omega.{arith}
use lib.Dec.{eqb, ltb}
use lib.ListN.{length, get_or, set}
use borrow.Author.Tests.{eq-eqb, ne_eqb, lt-ltb}
use Rattle.logic.specs.declared.Move.{Move}
use Rattle.logic.specs.Formula.{Plan}
use Rattle.logic.specs.inner.Flip.{flip_port}
use Rattle.logic.specs.inner.Literals.{ConstantsLow, SetsBelow}
use Rattle.logic.specs.inner.Agreement.{AgreeOff}
use Rattle.logic.specs.Configuration.{Sets, ports_in, out_of_test, configuration, configured, in_mask, in_masks, own_masks, spelled, enter, leave}
use Rattle.logic.specs.Cells.{own_cells, cells}
use Rattle.logic.specs.Moves.{MoveKind, add, drop, transfer, swap, unknown, move_kind, fields_fit, known, fits, legal, Pair, kind_pairs, named_pairs, move_pairs, flip, flips}
use Rattle.logic.specs.Change.{modulus, new_cells}
use Rattle.logic.specs.InTest.{test_masks, test_flip, test_change}
use Rattle.logic.proofs.Lists.{and_at}
use Rattle.logic.proofs.Masks.{enter-flip, leave-flip}
use Rattle.logic.proofs.Moves.{PairsKnown, known-pairs, mask-flip}
use Rattle.logic.proofs.Tables.{Stands}
use Rattle.logic.proofs.Theorems.{literals-65}
use Rattle.logic.proofs.Untouched.{agree_on}
use Rattle.logic.proofs.Update.{new-cells-true}

-- 20 does not apply: to enter or to leave is to flip
pub test-mask-flip : (into : Bool) (mask p : ℕ) → beq (in_mask mask p) into ≡ false → cond into (enter mask p) (leave mask p) ≡ flip_port mask p
test-mask-flip true mask p h = enter-flip mask p (other (in_mask mask p) h)
  where
    other : (b : Bool) → beq b true ≡ false → b ≡ false
    other true h = absurd (true≢false h)
    other false h = refl
test-mask-flip false mask p h = leave-flip mask p (other (in_mask mask p) h)
  where
    other : (b : Bool) → beq b false ≡ false → b ≡ true
    other true h = refl
    other false h = absurd (true≢false h)

pub test-masks : (P : Plan) (into : Bool) (p : ℕ) (ms : List ℕ) → beq (in_masks ms P.sets p) into ≡ false → own_masks P ≤ length ms
    → in_masks (test_masks P into p ms) ≡ test_flip P p (in_masks ms)
unfolding test_masks test_flip own_masks in_masks
test-masks P into p ms h l =
    ap (λ (v : ℕ). in_masks (set ms P.sets v)) (test-mask-flip into (get_or ms P.sets 0) p h)
    ∙ mask-flip ms P.sets p (omega arith)

pub test-spells : (P : Plan) (into : Bool) (p : ℕ) (ms : List ℕ) → beq (in_masks ms P.sets p) into ≡ false → own_masks P ≤ length ms
    → spelled P (test_masks P into p ms) ≡ configuration P (test_flip P p (in_masks ms))
unfolding spelled
test-spells P into p ms h l = ap (configuration P) (test-masks P into p ms h l)

-- the sets are as they were
pub test-sets : (P : Plan) (p : ℕ) (k : Sets) (S : ℕ) → S ≢ P.sets → test_flip P p k S ≡ k S
unfolding test_flip flip
test-sets P p k S ne = fun_ext (λ q. ap (λ (b : Bool). cond (b && eqb q p) (not (k S q)) (k S q)) (ne_eqb S P.sets ne))

-- and of the ports in test all but one
test-others : (P : Plan) (p : ℕ) (k : Sets) (q : ℕ) → q ≢ p → test_flip P p k P.sets q ≡ k P.sets q
unfolding test_flip flip
test-others P p k q ne =
    ap₂ (λ (a b : Bool). cond (a && b) (not (k P.sets q)) (k P.sets q)) (eq-eqb P.sets P.sets refl) (ne_eqb q p ne)

-- a set that does not hold the port has the same members out of test
same_size : (P : Plan) (p : ℕ) (k : Sets) (S : ℕ) → k S p ≡ false → out_of_test (k S) (test_flip P p k P.sets) ≡ out_of_test (k S) (k P.sets)
unfolding out_of_test
same_size P p k S h = fun_ext (λ q. go q (ℕ_discrete q p))
  where
    go : (q : ℕ) → Dec (q ≡ p) → (k S q && not (test_flip P p k P.sets q)) ≡ (k S q && not (k P.sets q))
    go q (yes e) =
        let f : k S q ≡ false = ap (k S) e ∙ h in
        ap (λ (b : Bool). b && not (test_flip P p k P.sets q)) f ∙ sym (ap (λ (b : Bool). b && not (k P.sets q)) f)
    go q (no ne) = ap (λ (b : Bool). k S q && not b) (test-others P p k q ne)

test-agree : (P : Plan) (p : ℕ) (k : Sets) → AgreeOff P.sets (test_change P k p) (configuration P k) (configuration P (test_flip P p k))
unfolding test_change configuration configured
test-agree P p k = record {
  members = λ S q l h. ap (λ (s : ℕ → Bool). s q) (test-sets P p k S (λ e. omega arith));
  sizes = λ S l h.
      let f : k S p ≡ false = and_at (ltb S P.sets) (k S p) h (lt-ltb S P.sets l) in
      ap (λ (s : ℕ → Bool). ports_in P.ports (out_of_test s (test_flip P p k P.sets))) (test-sets P p k S (λ e. omega arith))
      ∙ ap (ports_in P.ports) (same_size P p k S f);
}

-- True cells stay true when a port goes into test or out of it.
pub test-true : (P : Plan) → 1 ≤ P.ports → P.ports ≤ 64 → ConstantsLow P.formula 0 → SetsBelow P.sets P.formula 0 → own_cells P ≤ 1048576
    → (k : Sets) (p : ℕ) (table : List ℕ) → Stands table 0 (cells P (configuration P k))
    → new_cells P (configuration P (test_flip P p k)) (test_change P k p) table ≡ cells P (configuration P (test_flip P p k))
unfolding modulus
test-true P u1 u64 low below few k p table h =
    new-cells-true P u1 65 (omega arith) (test_change P k p) (configuration P k) (configuration P (test_flip P p k))
    (agree_on (test_change P k p) (configuration P k) (configuration P (test_flip P p k)) P.sets (test-agree P p k) P.formula 0 below)
    (literals-65 P u64 low k) (literals-65 P u64 low (test_flip P p k)) (omega arith) table h

both-flips : (b c x : Bool) → cond b (not (cond c (not x) x)) (cond c (not x) x) ≡ cond c (not (cond b (not x) x)) (cond b (not x) x)
both-flips true true x = refl
both-flips true false x = refl
both-flips false true x = refl
both-flips false false x = refl

-- of two pairs it is the same which is flipped first
flip-commutes : (q r : Pair) (k : Sets) → flip q (flip r k) ≡ flip r (flip q k)
unfolding flip
flip-commutes q r k = fun_ext (λ S. fun_ext (λ p. both-flips (eqb S q.0 && eqb p q.1) (eqb S r.0 && eqb p r.1) (k S p)))

pub flips-commute : (qs : List Pair) (r : Pair) (k : Sets) → flips qs (flip r k) ≡ flip r (flips qs k)
unfolding flips
flips-commute [] r k = refl
flips-commute (q ∷ qs) r k = ap (flips qs) (flip-commutes q r k) ∙ flips-commute qs r (flip q k)

set_tested : (P : Plan) (p : ℕ) (k : Sets) (S : ℕ) → S < P.sets → test_flip P p k S ≡ k S
set_tested P p k S l = test-sets P p k S (λ e. omega arith)

kind_fits : (κ : MoveKind) (P : Plan) (p : ℕ) (m : Move) (k : Sets) → PairsKnown P (kind_pairs κ m) → fields_fit κ (test_flip P p k) m ≡ fields_fit κ k m
unfolding kind_pairs PairsKnown fields_fit
kind_fits add P p m k h = ap (λ (s : ℕ → Bool). not (s m.p)) (set_tested P p k m.s h.0)
kind_fits drop P p m k h = ap (λ (s : ℕ → Bool). s m.p) (set_tested P p k m.s h.0)
kind_fits transfer P p m k h =
    ap₂ (λ (s t : ℕ → Bool). not (eqb m.s m.t) && s m.p && not (t m.p)) (set_tested P p k m.s h.0) (set_tested P p k m.t h.2.0)
kind_fits swap P p m k h = ap (λ (s : ℕ → Bool). s m.p && not (s m.q)) (set_tested P p k m.s h.0)
kind_fits unknown P p m k h = refl

-- a move is legal before a port goes into test or out of it as after
pub legal-tested : (P : Plan) (p : ℕ) (m : Move) (k : Sets) → known P m ≡ true → legal P (test_flip P p k) m ≡ legal P k m
unfolding legal fits move_pairs named_pairs
legal-tested P p m k h = ap (λ (b : Bool). known P m && b) (kind_fits (move_kind m.kind) P p m k (known-pairs P k m h))
