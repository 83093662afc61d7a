-- A legal move over open tables: what its masks and the walk ask, and its three numbers. Assumes nothing.
use mathlib.Core.Path.{◌≡◌, sym, ap, ◌∙◌, subst}
use mathlib.Core.Bool.{Bool, true, false, cond}
use mathlib.Core.List.{List}
use Prim.Native.Nat.{ℕ, ◌≤◌, ◌<◌}
use native.Mathlib.Omega.{arith}
use lib.Dec.{eqb}
use lib.ListN.{length, get_or, take}
use lib.Seq.{length-take-le, take_all}
use Rattle.logic.specs.declared.Move.{Move}
use Rattle.logic.specs.Formula.{Plan}
use Rattle.logic.specs.Configuration.{in_masks, mask_count, own_masks, spelled, all_within}
use Rattle.logic.specs.Cells.{own_cells}
use Rattle.logic.specs.Moves.{refusal, move_grounds, named_masks, move_masks, move_pairs, known, fits, legal}
use Rattle.logic.specs.Change.{pairs_change, new_cells, differing}
use Rattle.logic.proofs.Lists.{and_left, and_right}
use Rattle.cells_touch.specs.declared.Changed.{Changed}
use Rattle.cells_touch.specs.inner.Hits.{Describes, Tells}
use Rattle.cells_sum.specs.declared.After.{After}
use Rattle.cells_walk.specs.inner.Visit.{MasksSettled, CellsFit}
use Rattle.cells_walk.specs.inner.Root.{RootReady, RootGives}
use Rattle.call_open.specs.inner.Opening.{OpenPlan}
use Rattle.call_open.proofs.Opening.{open-longer}
use Rattle.call_open.proofs.OpenPlan.{facts, own-length, same-plan, ports-fit, sets-fit, masks-long, own_is, masks-ready, change-ready}
use Rattle.logic.specs.inner.MoveFields.{t_end, Fields}
use Rattle.move_legal.specs.inner.Legal.{LegalOver, MoveReady, MoveNumber}
use Rattle.logic.proofs.MoveFields.{known-fields}
use Rattle.contracts.specs.MoveCall.{move_accepted, cells_after, move_answer}
use Rattle.contracts.specs.ImproveCall.{root_now, root_after}
use Rattle.contracts.proofs.Grounds.{grounds-legal}
use Rattle.contracts.proofs.Within.{move-within, move-length}
use Rattle.move_try.specs.inner.Trying.{LegalMove, NumbersAre, GivesNumbers}

-- an open plan, and a move's number of 14 and 15
module _ {ports sets : ℕ} {bytes masks : List ℕ} {shortest : ℕ} {firsts ends uses : List ℕ} (opened : OpenPlan ports sets bytes masks shortest firsts ends uses) where
  abbrev P : Plan
  P = opened.plan

  abbrev own : List ℕ
  own = take (own_masks P) masks

  pub move-ready : MoveReady ports sets masks
  move-ready = record { ports64 = ports-fit opened; sets16 = sets-fit opened; own-masks = omega (arith, masks-long opened) }

  pub number_is : (m : Move) (n : ℕ) → MoveNumber ports sets m masks n → n ≡ refusal (move_grounds P (in_masks own) m)
  unfolding MoveNumber
  number_is m n number = number P (sym opened.ports-are) (sym opened.sets-are) ∙ ap (λ (xs : List ℕ). refusal (move_grounds P (in_masks xs) m)) (own_is opened)

-- neither 14 nor 15 applies to the move of open tables
pub legal-move : {ports sets : ℕ} {bytes masks cells : List ℕ} {shortest : ℕ} {firsts ends uses : List ℕ} {m : Move} {n : ℕ}
    (o : OpenPlan ports sets bytes masks shortest firsts ends uses) → shortest ≤ length cells → CellsFit cells
    → MoveNumber ports sets m masks n → n ≡ 0 → LegalMove ports sets bytes firsts ends uses masks cells m
legal-move {cells = cells} {m = m} {n = n} o l fit number z =
    let p = open-longer _ _ _ _ _ (length cells) _ _ _ o l in
    record {
      tables-open = record { opened = p; cells_fit = fit };
      is-legal = grounds-legal p.plan _ m (sym (number_is p m n number) ∙ z);
    }

-- a legal move over open tables
module _ {ports sets : ℕ} {bytes firsts ends uses masks cells : List ℕ} {m : Move} (move : LegalMove ports sets bytes firsts ends uses masks cells m) where
  abbrev opened : OpenPlan ports sets bytes masks (length cells) firsts ends uses
  opened = move.tables-open.opened

  abbrev Q : Plan
  Q = opened.plan

  abbrev mine : List ℕ
  mine = take (own_masks Q) masks

  is_known : known Q m ≡ true
  unfolding legal
  is_known = and_left (known Q m) _ move.is-legal

  abbrev fields : Fields Q.ports Q.sets m
  fields = known-fields Q m is_known

  -- the masks that the move changes
  pub legal-over : (u n : ℕ) → u ≡ ports → n ≡ sets → (xs : List ℕ) → xs ≡ take (mask_count sets) masks → LegalOver u n m xs
  unfolding legal
  legal-over u n eu en xs h =
      let l : length xs ≡ mask_count sets = ap length h ∙ length-take-le (mask_count sets) masks (masks-long opened) in
      record {
        known_over = record {
          fields = rw (eu ∙ opened.ports-are, en ∙ opened.sets-are) fields;
          ports-high = omega (arith, eu, ports-fit opened);
          masks-enough = omega (arith, en, l);
        };
        fitting = ap (λ (ys : List ℕ). fits (in_masks ys) m) (take_all (mask_count n) xs (omega (arith, en, l)) ∙ h ∙ own_is opened) ∙ and_right (known Q m) _ move.is-legal;
      }

  -- its sets, as the words of a change take them
  pub sets-ready : (m.s < 16) × (m.t < 16)
  unfolding t_end
  sets-ready = (omega (arith, fields.s-below, (facts opened).sets16), below (eqb m.kind 3) fields.t-below)
    where
      below : (b : Bool) → m.t < cond b Q.sets 1 → m.t < 16
      below true h = omega (arith, (facts opened).sets16)
      below false h = omega arith

  -- the masks after the move, as the walk is lent them
  masks-settled : (after : List ℕ) → after ≡ move_masks Q m mine → MasksSettled ports sets after
  masks-settled after h =
      masks-ready opened after (ap length h ∙ move-length Q m mine ∙ own-length opened)
      (ap (all_within Q.ports) h ∙ move-within Q m mine move.is-legal (omega (arith, own-length opened)) opened.within)

  -- what the code tells of the move's change
  pub told : (c : Changed) → Tells m c → Describes ports (pairs_change (move_pairs Q (in_masks mine) m)) c
  unfolding Tells
  told c tells =
      subst (λ (j : ℕ). Describes j (pairs_change (move_pairs Q (in_masks mine) m)) c) (sym opened.ports-are)
      (tells Q (in_masks mine) (facts opened).sets16 is_known)

  -- the masks that the code makes are those after the move
  pub masks-made : (xs after : List ℕ) → xs ≡ take (mask_count sets) masks → after ≡ named_masks m xs → after ≡ move_masks Q m mine
  unfolding move_masks
  masks-made xs after e h = h ∙ ap (named_masks m) (e ∙ own_is opened)

  module _ (c : Changed) (tells : Tells m c) (after : List ℕ) (h : after ≡ move_masks Q m mine) where
    pub root-ready : RootReady ports sets c bytes firsts ends uses after cells
    root-ready = change-ready move.tables-open (pairs_change (move_pairs Q (in_masks mine) m)) c (told c tells) after (masks-settled after h)

    -- the walk's three numbers are those of the move
    pub numbers-here : (r : After) → RootGives ports c bytes after cells r → NumbersAre Q mine (take (own_cells Q) cells) m r
    unfolding RootGives root_now root_after cells_after
    numbers-here r gives =
        let g = gives Q (pairs_change (move_pairs Q (in_masks mine) m)) opened.decodes (told c tells) in
        record {
          before-is = g.old-is;
          after_is = g.new_is ∙ ap (λ (ms : List ℕ). get_or (new_cells Q (spelled Q ms) (pairs_change (move_pairs Q (in_masks mine) m)) (take (own_cells Q) cells)) 0 0) h;
          changed-is = g.changed-is
              ∙ ap (λ (ms : List ℕ). differing (take (own_cells Q) cells) (new_cells Q (spelled Q ms) (pairs_change (move_pairs Q (in_masks mine) m)) (take (own_cells Q) cells))) h;
        }

    pub numbers-are : (r : After) → RootGives ports c bytes after cells r → GivesNumbers bytes masks cells m r
    unfolding GivesNumbers
    numbers-are r gives = λ R d.
        subst (λ (X : Plan). NumbersAre X (take (own_masks X) masks) (take (own_cells X) cells) m r) (same-plan opened R d) (numbers-here r gives)

-- the three numbers as the answer of a move
pub answer-is : (P : Plan) (own before : List ℕ) (m : Move) (r : After) → NumbersAre P own before m r
    → move_accepted r.old r.value r.changed ≡ move_answer P m own before
unfolding move_answer root_now root_after
answer-is P own before m r n = λ i. move_accepted (n.before-is i) (n.after_is i) (n.changed-is i)
