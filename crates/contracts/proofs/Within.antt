-- The masks that a legal move leaves, or a port that goes into test or out of it, have no port of u or more, so that ground 13 does not
-- come up in a list. Assumes nothing.
use mathlib.Core.Path.{◌≡◌, refl, ap, ◌∙◌}
use mathlib.Core.Bool.{Bool, true, false, cond, not, beq}
use mathlib.Core.List.{List, [], ◌∷◌}
use Prim.Native.Nat.{ℕ, zero, suc, ◌^◌, ◌≤◌, ◌<◌}
use native.Mathlib.Omega.{arith}
use lib.Dec.{eqb}
use lib.ListN.{length, get_or, set, length-set}
use lib.Pow.{pow_pos}
use borrow.Author.Tests.{lt-ltb, ne_eqb}
use Rattle.logic.specs.declared.Move.{Move}
use Rattle.logic.specs.Formula.{Plan}
use Rattle.logic.specs.Configuration.{Sets, in_mask, in_masks, own_masks, within_ports, leave, all_within}
use Rattle.logic.specs.Moves.{MoveKind, add, drop, transfer, swap, unknown, move_kind, known, legal, kind_masks, named_masks, move_masks, Pair, move_pairs, flip, flips}
use Rattle.logic.specs.InTest.{test_masks, test_flip}
use Rattle.logic.proofs.InTest.{test-masks}
use Rattle.logic.proofs.Lists.{and_left, and_right, and-true, and-false}
use Rattle.logic.proofs.Touched.{PortsBelow}
use Rattle.logic.proofs.Masks.{within-ports}
use Rattle.logic.proofs.Moves.{known-pairs, known-ports, move-masks}

-- no set has a port of u or more
unfoldable pub NoneAbove : ℕ → Sets → Type 0
NoneAbove u k = (S p : ℕ) → u ≤ p → k S p ≡ false

empty-mask : (u p : ℕ) → u ≤ p → in_mask 0 p ≡ false
unfolding within_ports
empty-mask u p l = (within-ports u 0).0 (lt-ltb 0 (2 ^ u) (pow_pos u)) p l

-- ground 13's condition over the masks is that of the sets that they spell
pub within_none : (u : ℕ) (ms : List ℕ) → all_within u ms ≡ true → NoneAbove u (in_masks ms)
unfolding all_within in_masks NoneAbove
within_none u [] h S p l = empty-mask u p l
within_none u (m ∷ ms) h zero p l = (within-ports u m).0 (and_left (within_ports u m) (all_within u ms) h) p l
within_none u (m ∷ ms) h (suc S) p l = within_none u ms (and_right (within_ports u m) (all_within u ms) h) S p l

pub none_within : (u : ℕ) (ms : List ℕ) → NoneAbove u (in_masks ms) → all_within u ms ≡ true
unfolding all_within in_masks NoneAbove
none_within u [] H = refl
none_within u (m ∷ ms) H =
    and-true (within_ports u m) (all_within u ms) ((within-ports u m).1 (H 0)) (none_within u ms (λ S. H (suc S)))

-- a flip at a port below u moves no port of u or more
pub flip-none : (u : ℕ) (q : Pair) (k : Sets) → q.1 < u → NoneAbove u k → NoneAbove u (flip q k)
unfolding NoneAbove flip
flip-none u q k h H S p l =
    ap (λ (b : Bool). cond b (not (k S p)) (k S p)) (and-false (eqb S q.0) (eqb p q.1) (λ e. ne_eqb p q.1 (λ z. omega arith)))
    ∙ H S p l

flips-none : (u : ℕ) (qs : List Pair) (k : Sets) → PortsBelow u qs → NoneAbove u k → NoneAbove u (flips qs k)
unfolding flips PortsBelow
flips-none u [] k h H = H
flips-none u (q ∷ qs) k h H = flips-none u qs (flip q k) h.1 (flip-none u q k h.0 H)

pub move-within : (P : Plan) (m : Move) (own : List ℕ) → legal P (in_masks own) m ≡ true → own_masks P ≤ length own
    → all_within P.ports own ≡ true → all_within P.ports (move_masks P m own) ≡ true
unfolding legal
move-within P m own h l w =
    none_within P.ports (move_masks P m own)
    (rw (move-masks P m own h l)
    (flips-none P.ports (move_pairs P (in_masks own) m) (in_masks own) (known-ports P (move_pairs P (in_masks own) m) (known-pairs P (in_masks own) m (and_left (known P m) _ h)))
    (within_none P.ports own w)))

pub test-within : (P : Plan) (into : Bool) (p : ℕ) (own : List ℕ) → p < P.ports → beq (in_masks own P.sets p) into ≡ false → own_masks P ≤ length own
    → all_within P.ports own ≡ true → all_within P.ports (test_masks P into p own) ≡ true
unfolding test_flip
test-within P into p own l h e w =
    none_within P.ports (test_masks P into p own)
    (rw (test-masks P into p own h e) (flip-none P.ports (P.sets, p) (in_masks own) l (within_none P.ports own w)))

pub test-length : (P : Plan) (into : Bool) (p : ℕ) (ms : List ℕ) → length (test_masks P into p ms) ≡ length ms
unfolding test_masks
test-length P into p ms = length-set {A = ℕ} ms P.sets _

-- a move keeps the length of the mask table
kind-length : (κ : MoveKind) (m : Move) (ms : List ℕ) → length (kind_masks κ m ms) ≡ length ms
unfolding kind_masks
kind-length add m ms = length-set {A = ℕ} ms m.s _
kind-length drop m ms = length-set {A = ℕ} ms m.s _
kind-length transfer m ms =
    length-set {A = ℕ} (set ms m.s (leave (get_or ms m.s 0) m.p)) m.t _ ∙ length-set {A = ℕ} ms m.s _
kind-length swap m ms = length-set {A = ℕ} ms m.s _
kind-length unknown m ms = refl

pub named-length : (m : Move) (ms : List ℕ) → length (named_masks m ms) ≡ length ms
unfolding named_masks
named-length m ms = kind-length (move_kind m.kind) m ms

pub move-length : (P : Plan) (m : Move) (ms : List ℕ) → length (move_masks P m ms) ≡ length ms
unfolding move_masks
move-length P m ms = named-length m ms
