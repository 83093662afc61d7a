-- A port put in test or taken out: the masks that the walk is lent, and what is written. Assumes nothing.
use mathlib.Core.Path.{◌≡◌, sym, ap, ap₂, ◌∙◌, subst}
use mathlib.Core.Bool.{true}
use mathlib.Core.List.{List, ◌++◌}
use Prim.Native.Nat.{ℕ, ◌≤◌, ◌<◌}
use native.Mathlib.Omega.{arith}
use lib.ListN.{length, get_or, set, take, drop, length-set, take-append-drop}
use lib.Seq.{get_or-take, take-set-lt, drop-set-lt}
use Rattle.logic.specs.Formula.{Plan}
use Rattle.logic.specs.Configuration.{in_mask, in_masks, mask_count, own_masks, spelled, all_within}
use Rattle.logic.specs.Cells.{own_cells}
use Rattle.logic.specs.Change.{new_cells, differing}
use Rattle.logic.specs.InTest.{test_change}
use Rattle.logic.specs.inner.Flip.{flip_port}
use Rattle.logic.proofs.Moves.{mask-flip}
use Rattle.cells_touch.specs.declared.Changed.{Changed}
use Rattle.cells_touch.specs.inner.Hits.{Describes}
use Rattle.cells_sum.specs.declared.After.{After}
use Rattle.cells_walk.specs.inner.Root.{RootReady, RootGives, RootWrites}
use Rattle.contracts.proofs.Within.{within_none, none_within, flip-none}
use Rattle.call_open.specs.inner.Opening.{OpenPlan}
use Rattle.call_open.proofs.OpenPlan.{own-length, same-plan, sets-fit, ports-fit, masks-long, masks-ready, change-ready}
use Rattle.test_change.specs.inner.Holders.{TellsTest}
use Rattle.test_make.specs.inner.Putting.{PortReady, flipped_masks, flipped_cells, Put, Puts}

module _ {ports sets : ℕ} {bytes firsts ends uses masks cells : List ℕ} {p : ℕ} (ready : PortReady ports sets bytes firsts ends uses masks cells p) where
  abbrev opened : OpenPlan ports sets bytes masks (length cells) firsts ends uses
  opened = ready.tables-open.opened

  abbrev P : Plan
  P = opened.plan

  abbrev own : List ℕ
  own = take (own_masks P) masks

  pub asks-change : (sets ≤ 16) × (sets ≤ length masks) × (p < 64)
  asks-change = (sets-fit opened, omega (arith, masks-long opened), omega (arith, ready.below, ports-fit opened))

  -- the mask after the sets' is flipped
  flipped-length : length (flipped_masks P p own) ≡ own_masks P
  unfolding flipped_masks
  flipped-length = length-set {A = ℕ} own P.sets _ ∙ own-length opened

  flipped-within : all_within P.ports (flipped_masks P p own) ≡ true
  unfolding flipped_masks own_masks
  flipped-within =
      none_within P.ports (flipped_masks P p own)
      (rw (mask-flip own P.sets p (omega (arith, own-length opened)))
      (flip-none P.ports (P.sets, p) (in_masks own) (omega (arith, ready.below, opened.ports-are)) (within_none P.ports own opened.within)))

  -- what the code tells of the change
  told : (c : Changed) → TellsTest sets masks p c → Describes ports (test_change P (in_masks own) p) c
  unfolding TellsTest in_masks own_masks
  told c tells =
      subst (λ (u : ℕ). Describes u (test_change P (in_masks own) p) c) (sym opened.ports-are)
      (tells P (in_masks own) (sym opened.sets-are) (omega (arith, ready.below, opened.ports-are))
      (λ S l. ap (λ (x : ℕ). in_mask x p) (get_or-take (own_masks P) masks S 0 (omega (arith, opened.sets-are)))))

  -- the table with one mask flipped, of which the plan's own are lent
  module _ (i j : ℕ) (ei : i ≡ sets) (ej : j ≡ mask_count sets) (new : List ℕ) (h : new ≡ set masks i (flip_port (get_or masks i 0) p)) where
    own_at : j ≡ own_masks P
    unfolding own_masks
    own_at = ej ∙ ap mask_count opened.sets-are

    pub lent-enough : j ≤ length new
    lent-enough = rw (h, length-set {A = ℕ} masks i (flip_port (get_or masks i 0) p)) (omega (arith, ej, masks-long opened))

    pub lent : take j new ≡ flipped_masks P p own
    unfolding flipped_masks own_masks
    lent =
        ap₂ take own_at (h ∙ ap (λ (x : ℕ). set masks x (flip_port (get_or masks x 0) p)) (ei ∙ opened.sets-are))
        ∙ take-set-lt (own_masks P) masks P.sets (flip_port (get_or masks P.sets 0) p) (omega arith)
        ∙ ap (λ (x : ℕ). set own P.sets (flip_port x p)) (sym (get_or-take (own_masks P) masks P.sets 0 (omega arith)))

    past : drop (own_masks P) new ≡ drop (own_masks P) masks
    unfolding own_masks
    past = ap (drop (own_masks P)) h ∙ drop-set-lt (own_masks P) masks i _ (omega (arith, ei, opened.sets-are))

    whole : new ≡ flipped_masks P p own ++ drop (own_masks P) masks
    whole = sym (take-append-drop (own_masks P) new) ∙ ap₂ ◌++◌ (ap (λ (x : ℕ). take x new) (sym own_at) ∙ lent) past

    pub root-ready : (c : Changed) → TellsTest sets masks p c → RootReady ports sets c bytes firsts ends uses (take j new) cells
    root-ready c tells =
        rw (lent) (change-ready ready.tables-open (test_change P (in_masks own) p) c (told c tells) (flipped_masks P p own)
        (masks-ready opened (flipped_masks P p own) flipped-length flipped-within))

    pub port-put : (c : Changed) → TellsTest sets masks p c → (r : After) (after : List ℕ) → RootGives ports c bytes (take j new) cells r
        → RootWrites ports c bytes (take j new) cells after → Puts bytes masks cells p r new after
    unfolding Puts flipped_cells RootGives RootWrites
    port-put c tells r after gives writes = λ Q d.
        let g = gives P (test_change P (in_masks own) p) opened.decodes (told c tells) in
        let again : List ℕ → List ℕ = λ ms. new_cells P (spelled P ms) (test_change P (in_masks own) p) (take (own_cells P) cells) in
        subst (λ (X : Plan). Put X p masks cells r new after) (same-plan opened Q d)
        record {
          before-is = g.old-is;
          after_is = g.new_is ∙ ap (λ (ms : List ℕ). get_or (again ms) 0 0) lent;
          changed-is = g.changed-is ∙ ap (λ (ms : List ℕ). differing (take (own_cells P) cells) (again ms)) lent;
          masks-are = whole;
          cells_are = writes P (test_change P (in_masks own) p) opened.decodes (told c tells)
              ∙ ap (λ (ms : List ℕ). again ms ++ drop (own_cells P) cells) lent;
        }
