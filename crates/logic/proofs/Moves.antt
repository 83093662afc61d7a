-- The masks that a legal move leaves spell the sets with the move's pairs flipped; sets and their flips agree off the pairs.
-- Assumes nothing.
use mathlib.Core.Path.{◌≡◌, refl, sym, ap, ap₂, ◌∙◌, subst, fun_ext}
use mathlib.Core.Logic.{◌≢◌}
use mathlib.Core.Bool.{Bool, true, false, cond, not, ◌&&◌, true≢false}
use mathlib.Core.List.{List, [], ◌∷◌}
use Prim.Native.Nat.{ℕ, ◌≤◌, ◌<◌}
use native.Mathlib.Decide.{ℕ_discrete}
use native.Mathlib.Omega.{arith}
use lib.Dec.{eqb}
use lib.ListN.{length, get_or, set, length-set}
use lib.Seq.{get_or-set_same, get_or-set_other, set-set}
use borrow.Author.Tests.{eqb-false, eq-eqb, ne_eqb, ltb-true, not-true}
use Rattle.logic.specs.declared.Move.{Move}
use Rattle.logic.specs.Formula.{Plan}
use Rattle.logic.specs.inner.Flip.{flip_port}
use Rattle.logic.specs.Configuration.{Sets, ports_in, out_of_test, configuration, configured, in_mask, in_masks, own_masks, spelled, enter, leave}
use Rattle.logic.specs.Moves.{MoveKind, add, drop, transfer, swap, unknown, move_kind, fields_known, fields_fit, known, fits, legal, kind_masks, named_masks, move_masks, Pair, kind_pairs, named_pairs, move_pairs, flip, flips}
use Rattle.logic.specs.Change.{some_of, pairs_change}
use Rattle.logic.specs.inner.Agreement.{listed, AgreeOff}
use Rattle.logic.proofs.Lists.{or_left, or_right, or-false, and_left, and_right, and-false}
use Rattle.logic.proofs.Touched.{PortsBelow}
use Rattle.logic.proofs.Masks.{in-flip, in-flip-other, enter-flip, leave-flip}

-- a mask table with one port of one set flipped
abbrev flipped : List ℕ → ℕ → ℕ → List ℕ
flipped ms S p = set ms S (flip_port (get_or ms S 0) p)

-- to flip a port of a mask is to flip the pair
pub mask-flip : (ms : List ℕ) (S p : ℕ) → S < length ms → in_masks (flipped ms S p) ≡ flip (S, p) (in_masks ms)
unfolding in_masks flip
mask-flip ms S p h = fun_ext (λ Z. fun_ext (λ q. go Z q (ℕ_discrete Z S)))
  where
    v : ℕ
    v = flip_port (get_or ms S 0) p

    go : (Z q : ℕ) → Dec (Z ≡ S)
        → in_mask (get_or (set ms S v) Z 0) q ≡ cond (eqb Z S && eqb q p) (not (in_mask (get_or ms Z 0) q)) (in_mask (get_or ms Z 0) q)
    go Z q (yes e) = subst
        (λ (Y : ℕ). in_mask (get_or (set ms S v) Y 0) q ≡ cond (eqb Y S && eqb q p) (not (in_mask (get_or ms Y 0) q)) (in_mask (get_or ms Y 0) q))
        (sym e)
        (ap (λ (x : ℕ). in_mask x q) (get_or-set_same ms S v 0 h) ∙ in-flip (get_or ms S 0) p q
        ∙ sym (ap (λ (b : Bool). cond (b && eqb q p) (not (in_mask (get_or ms S 0) q)) (in_mask (get_or ms S 0) q)) (eq-eqb S S refl)))
    go Z q (no e) =
        ap (λ (x : ℕ). in_mask x q) (get_or-set_other ms S Z v 0 e)
        ∙ sym (ap (λ (b : Bool). cond (b && eqb q p) (not (in_mask (get_or ms Z 0) q)) (in_mask (get_or ms Z 0) q)) (ne_eqb Z S e))

flip_twice : (ms : List ℕ) (S p T q : ℕ) → S < length ms → T < length ms
    → in_masks (flipped (flipped ms S p) T q) ≡ flip (T, q) (flip (S, p) (in_masks ms))
flip_twice ms S p T q h l =
    mask-flip (flipped ms S p) T q (rw (length-set {A = ℕ} ms S (flip_port (get_or ms S 0) p)) l) ∙ ap (flip (T, q)) (mask-flip ms S p h)

-- p leaves S and enters T
transfer-flips : (ms : List ℕ) (S T p : ℕ) → S ≢ T → in_mask (get_or ms S 0) p ≡ true → in_mask (get_or ms T 0) p ≡ false
    → set (set ms S (leave (get_or ms S 0) p)) T (enter (get_or (set ms S (leave (get_or ms S 0) p)) T 0) p) ≡ flipped (flipped ms S p) T p
transfer-flips ms S T p ne i o =
    ap (λ (v : ℕ). set (set ms S v) T (enter (get_or (set ms S v) T 0) p)) (leave-flip (get_or ms S 0) p i)
    ∙ ap (set (flipped ms S p) T)
    (enter-flip (get_or (flipped ms S p) T 0) p
    (ap (λ (x : ℕ). in_mask x p) (get_or-set_other ms S T (flip_port (get_or ms S 0) p) 0 (λ e. ne (sym e))) ∙ o))

-- p leaves and q enters S
swap-flips : (ms : List ℕ) (S p q : ℕ) → S < length ms → in_mask (get_or ms S 0) p ≡ true → in_mask (get_or ms S 0) q ≡ false
    → set ms S (enter (leave (get_or ms S 0) p) q) ≡ flipped (flipped ms S p) S q
swap-flips ms S p q l i o =
    let v = flip_port (get_or ms S 0) p in
    ap (λ (x : ℕ). set ms S (enter x q)) (leave-flip (get_or ms S 0) p i)
    ∙ ap (set ms S) (enter-flip v q (in-flip-other (get_or ms S 0) p q differ ∙ o))
    ∙ ap (λ (x : ℕ). set ms S (flip_port x q)) (sym (get_or-set_same ms S v 0 l))
    ∙ sym (set-set ms S v (flip_port (get_or (set ms S v) S 0) q))
  where
    differ : q ≢ p
    differ e = true≢false (sym i ∙ ap (in_mask (get_or ms S 0)) (sym e) ∙ o)

four : (a b c d : Bool) → (a && b && c && d) ≡ true → (a ≡ true) × (b ≡ true) × (c ≡ true) × (d ≡ true)
four a b c d h =
    let x = and_left (a && b && c) d h in
    let y = and_left (a && b) c x in
    (and_left a b y, and_right a b y, and_right (a && b) c x, and_right (a && b && c) d h)

three : (a b c : Bool) → (a && b && c) ≡ true → (a ≡ true) × (b ≡ true) × (c ≡ true)
three a b c h = let x = and_left (a && b) c h in (and_left a b x, and_right a b x, and_right (a && b) c h)

-- every pair is of a set and a port of the plan
unfoldable pub PairsKnown : Plan → List Pair → Type 0
PairsKnown P [] = Unit {0}
PairsKnown P (q ∷ qs) = (q.0 < P.sets) × (q.1 < P.ports) × PairsKnown P qs

kind-known : (κ : MoveKind) (P : Plan) (m : Move) → fields_known κ P m ≡ true → PairsKnown P (kind_pairs κ m)
unfolding fields_known kind_pairs PairsKnown
kind-known add P m h = let r = four _ _ _ _ h in (ltb-true _ _ r.0, ltb-true _ _ r.2, tt)
kind-known drop P m h = let r = four _ _ _ _ h in (ltb-true _ _ r.0, ltb-true _ _ r.2, tt)
kind-known transfer P m h =
    let r = four _ _ _ _ h in (ltb-true _ _ r.0, ltb-true _ _ r.2, (ltb-true _ _ r.1, ltb-true _ _ r.2, tt))
kind-known swap P m h =
    let r = four _ _ _ _ h in (ltb-true _ _ r.0, ltb-true _ _ r.2, (ltb-true _ _ r.0, ltb-true _ _ r.3, tt))
kind-known unknown P m h = tt

-- 14 does not apply: the move's pairs are of the plan's sets and ports
pub known-pairs : (P : Plan) (k : Sets) (m : Move) → known P m ≡ true → PairsKnown P (move_pairs P k m)
unfolding known named_pairs move_pairs
known-pairs P k m h = kind-known (move_kind m.kind) P m h

pub known-ports : (P : Plan) (qs : List Pair) → PairsKnown P qs → PortsBelow P.ports qs
unfolding PairsKnown PortsBelow
known-ports P [] h = tt
known-ports P (q ∷ qs) h = (h.1, known-ports P qs h.2)

kind-masks : (κ : MoveKind) (P : Plan) (m : Move) (ms : List ℕ) → PairsKnown P (kind_pairs κ m) → fields_fit κ (in_masks ms) m ≡ true
    → P.sets ≤ length ms → in_masks (kind_masks κ m ms) ≡ flips (kind_pairs κ m) (in_masks ms)
unfolding kind_masks kind_pairs PairsKnown flips fields_fit in_masks
kind-masks add P m ms h f l =
    ap (λ (v : ℕ). in_masks (set ms m.s v)) (enter-flip (get_or ms m.s 0) m.p (not-true _ f))
    ∙ mask-flip ms m.s m.p (omega (arith, h.0))
kind-masks drop P m ms h f l =
    ap (λ (v : ℕ). in_masks (set ms m.s v)) (leave-flip (get_or ms m.s 0) m.p f)
    ∙ mask-flip ms m.s m.p (omega (arith, h.0))
kind-masks transfer P m ms h f l =
    let r = three (not (eqb m.s m.t)) (in_mask (get_or ms m.s 0) m.p) (not (in_mask (get_or ms m.t 0) m.p)) f in
    ap in_masks (transfer-flips ms m.s m.t m.p (eqb-false _ _ (not-true _ r.0)) r.1 (not-true _ r.2))
    ∙ flip_twice ms m.s m.p m.t m.p (omega (arith, h.0)) (omega (arith, h.2.0))
kind-masks swap P m ms h f l =
    let i = in_mask (get_or ms m.s 0) m.p in
    let o = in_mask (get_or ms m.s 0) m.q in
    let b : m.s < length ms = omega (arith, h.0) in
    ap in_masks (swap-flips ms m.s m.p m.q b (and_left i (not o) f) (not-true o (and_right i (not o) f)))
    ∙ flip_twice ms m.s m.p m.s m.q b b
kind-masks unknown P m ms h f l = refl

-- The masks that a legal move leaves spell the configuration with the move's pairs flipped.
pub move-masks : (P : Plan) (m : Move) (ms : List ℕ) → legal P (in_masks ms) m ≡ true → own_masks P ≤ length ms
    → in_masks (move_masks P m ms) ≡ flips (move_pairs P (in_masks ms) m) (in_masks ms)
unfolding named_masks move_masks named_pairs move_pairs legal known fits own_masks
move-masks P m ms h l =
    kind-masks (move_kind m.kind) P m ms (kind-known (move_kind m.kind) P m (and_left _ _ h)) (and_right (known P m) _ h) (omega arith)

pub move-spells : (P : Plan) (m : Move) (ms : List ℕ) → legal P (in_masks ms) m ≡ true → own_masks P ≤ length ms
    → spelled P (move_masks P m ms) ≡ configuration P (flips (move_pairs P (in_masks ms) m) (in_masks ms))
unfolding spelled
move-spells P m ms h l = ap (configuration P) (move-masks P m ms h l)

-- off its pairs, a flip leaves membership
flips-off : (qs : List Pair) (k : Sets) (S p : ℕ) → listed qs S p ≡ false → flips qs k S p ≡ k S p
unfolding flips flip listed some_of
flips-off [] k S p h = refl
flips-off (q ∷ qs) k S p h =
    flips-off qs (flip q k) S p (or_right (eqb S q.0 && eqb p q.1) _ h)
    ∙ ap (λ (b : Bool). cond b (not (k S p)) (k S p)) (or_left (eqb S q.0 && eqb p q.1) _ h)

-- a set that no pair names has no pair
unnamed : (qs : List Pair) (S p : ℕ) → some_of (λ (q : Pair). eqb S q.0) qs ≡ false → listed qs S p ≡ false
unfolding listed some_of
unnamed [] S p h = refl
unnamed (q ∷ qs) S p h =
    or-false _ _ (and-false (eqb S q.0) _ (λ e. absurd (true≢false (sym e ∙ or_left (eqb S q.0) _ h))))
    (unnamed qs S p (or_right (eqb S q.0) _ h))

-- the mask of ports in test is no set of the plan: no pair flips it
pub flips-in-test : (P : Plan) (qs : List Pair) (k : Sets) → PairsKnown P qs → flips qs k P.sets ≡ k P.sets
unfolding PairsKnown flips flip
flips-in-test P [] k h = refl
flips-in-test P (q ∷ qs) k h =
    flips-in-test P qs (flip q k) h.2
    ∙ fun_ext (λ p. ap (λ (b : Bool). cond (b && eqb p q.1) (not (k P.sets p)) (k P.sets p)) (ne_eqb P.sets q.0 (λ e. omega (arith, h.0))))

pub flips-agree : (P : Plan) (qs : List Pair) → PairsKnown P qs → (k : Sets)
    → AgreeOff P.sets (pairs_change qs) (configuration P k) (configuration P (flips qs k))
unfolding pairs_change configuration configured
flips-agree P qs w k =
    record {
      members = λ S p l h. flips-off qs k S p h;
      sizes = λ S l h.
          ap₂ (λ (s t : ℕ → Bool). ports_in P.ports (out_of_test s t)) (fun_ext (λ p. flips-off qs k S p (unnamed qs S p h))) (flips-in-test P qs k w);
    }
