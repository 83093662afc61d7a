-- What a legal move adds to the atoms of a list: what the walks of them ask, and that their differences are its shares. Assumes nothing.
use mathlib.Core.Path.{◌≡◌, refl, sym, ap, ◌∙◌, subst}
use mathlib.Core.List.{List, [], ◌∷◌, ◌++◌}
use Prim.Native.Nat.{ℕ, ◌%◌}
use native.Mathlib.Omega.{arith}
use lib.ListN.{length, take, drop}
use lib.Seq.{take_all}
use Rattle.logic.specs.declared.Move.{Move}
use Rattle.logic.specs.Formula.{Plan}
use Rattle.logic.specs.Configuration.{in_masks, mask_count, own_masks, configured, configuration, spelled}
use Rattle.logic.specs.Moves.{move_pairs, move_masks}
use Rattle.logic.specs.Change.{pairs_change, modulus, cell_of}
use Rattle.move_masks.proofs.Copying.{copied-whole}
use Rattle.cells_touch.specs.declared.Changed.{Changed}
use Rattle.cells_touch.specs.inner.Hits.{Describes, Tells}
use Rattle.cells_visit.specs.inner.Walking.{WalkReady}
use Rattle.cells_atoms.specs.inner.Atoms.{over_tuples, difference}
use Rattle.cells_share.specs.inner.Listed.{Listed, of_listed, ListReady, ListGives}
use Rattle.call_open.specs.inner.Opening.{OpenPlan}
use Rattle.call_open.proofs.OpenPlan.{same-plan}
use Rattle.move_shares.specs.inner.Shares.{configuration_after, change_by, share_of}
use Rattle.move_try.specs.inner.Trying.{LegalMove}
use Rattle.move_try.proofs.OpenMove.{told, root-ready}
use Rattle.move_hard.specs.inner.Hard.{HardReady, HardGives}

-- a list of no atoms
none_of : (P : Plan) (masks cells : List ℕ) (m : Move) (xs : List Listed) → 0 ≡ length xs → 0 ≡ of_listed (share_of P masks cells m) xs % modulus
unfolding of_listed modulus
none_of P masks cells m [] h = refl
none_of P masks cells m (x ∷ xs) h = absurd (omega arith)

module _ {ports sets : ℕ} {bytes firsts ends uses masks cells : List ℕ} {m : Move} {work list : List ℕ} {count : ℕ}
    (hard : HardReady ports sets bytes firsts ends uses masks cells m work list count) where
  abbrev move : LegalMove ports sets bytes firsts ends uses masks cells m
  move = hard.move-ready.legal-move

  abbrev opened : OpenPlan ports sets bytes masks (length cells) firsts ends uses
  opened = move.tables-open.opened

  abbrev P : Plan
  P = opened.plan

  -- the masks are the plan's own
  all-masks : take (own_masks P) masks ≡ masks
  all-masks = take_all (own_masks P) masks (omega (arith, hard.masks-own))

  -- the masks that are copied are the plan's own
  pub copied : (xs : List ℕ) (s : ℕ) → xs ≡ take s masks ++ drop s work → s ≡ mask_count sets → xs ≡ take (mask_count sets) masks
  copied xs s h e = copied-whole masks work xs s h (hard.move-ready.work-long ∙ sym e) ∙ ap (λ (j : ℕ). take j masks) e

  -- no atom, no share
  pub no-shares : count ≡ 0 → HardGives ports sets bytes firsts ends uses masks cells m list count 0
  unfolding HardGives
  no-shares z = λ R d xs stands e. none_of R masks cells m xs (sym z ∙ e)

  module _ (c : Changed) (tells : Tells m c) (after : List ℕ) (h : after ≡ move_masks P m (take (own_masks P) masks)) where
    -- the walks are lent the masks after the move, and its change
    walk-ready : WalkReady ports sets c after cells (change_by P masks m)
    unfolding change_by
    walk-ready = record {
      says = subst (λ (xs : List ℕ). Describes ports (pairs_change (move_pairs P (in_masks xs) m)) c) all-masks (told move c tells);
      masks-settled = (root-ready move c tells after h).masks-settled;
      cells_fit = move.tables-open.cells_fit;
    }

    pub list-ready : ListReady ports sets c bytes firsts ends uses after cells list count
    list-ready = record {
      change = change_by P masks m;
      atoms = hard.atoms;
      ready = walk-ready;
      stands = hard.stands;
      count-is = hard.count-is;
      room = hard.room;
    }

    -- the differences of an atom's cells are its share
    shares-are : (xs : List Listed)
        → of_listed (λ n f b d. over_tuples ports d (difference ports (configured ports sets (in_masks after)) (change_by P masks m) (cell_of ports cells) n f b d) []) xs % modulus
        ≡ of_listed (share_of P masks cells m) xs % modulus
    unfolding share_of configuration_after spelled configuration
    shares-are xs =
        ap (λ (u : ℕ). of_listed (λ n f b d. over_tuples u d (difference u (configured u sets (in_masks after)) (change_by P masks m) (cell_of u cells) n f b d) []) xs % modulus)
        opened.ports-are
        ∙ ap (λ (s : ℕ). of_listed (λ n f b d. over_tuples P.ports d (difference P.ports (configured P.ports s (in_masks after)) (change_by P masks m) (cell_of P.ports cells) n f b d) []) xs % modulus)
        opened.sets-are
        ∙ ap (λ (ys : List ℕ). of_listed (λ n f b d. over_tuples P.ports d (difference P.ports (spelled P ys) (change_by P masks m) (cell_of P.ports cells) n f b d) []) xs % modulus)
        (h ∙ ap (move_masks P m) all-masks)

    pub shares-given : (r : ℕ) → ListGives ports sets c bytes firsts ends uses after cells list count r
        → HardGives ports sets bytes firsts ends uses masks cells m list count r
    unfolding ListGives HardGives
    shares-given r gives = λ R d xs stands e.
        subst (λ (X : Plan). r ≡ of_listed (share_of X masks cells m) xs % modulus) (same-plan opened R d)
        (gives (change_by P masks m) xs walk-ready stands e ∙ shares-are xs)
