-- The plan of open tables: its numbers and own masks, and what the walk of a change over it asks. Assumes nothing.
use mathlib.Core.Path.{◌≡◌, ap}
use mathlib.Core.Bool.{true}
use mathlib.Core.List.{List}
use Prim.Native.Nat.{ℕ, ◌≤◌}
use native.Mathlib.Omega.{arith}
use lib.ListN.{length, take}
use lib.Seq.{length-take-le}
use Rattle.logic.specs.Formula.{Plan}
use Rattle.logic.specs.Configuration.{mask_count, own_masks, all_within}
use Rattle.logic.specs.Change.{Change}
use Rattle.logic.proofs.Within.{within-at}
use Rattle.table_format.specs.Decode.{sound, decode}
use Rattle.table_format.specs.inner.Facts.{PlanFacts}
use Rattle.table_format.proofs.Encoding.{decode-sound, one-plan}
use Rattle.table_format.proofs.Facts.{plan-facts}
use Rattle.cells_touch.specs.declared.Changed.{Changed}
use Rattle.cells_touch.specs.inner.Hits.{Describes}
use Rattle.cells_walk.specs.inner.Visit.{MasksSettled}
use Rattle.cells_walk.specs.inner.Root.{RootReady}
use Rattle.call_open.specs.inner.Opening.{OpenPlan, OpenTables}

module _ {ports sets : ℕ} {bytes masks : List ℕ} {shortest : ℕ} {firsts ends uses : List ℕ} (opened : OpenPlan ports sets bytes masks shortest firsts ends uses) where
  abbrev P : Plan
  P = opened.plan

  abbrev own : List ℕ
  own = take (own_masks P) masks

  pub facts : PlanFacts P
  facts = plan-facts P (decode-sound bytes P opened.decodes).rules

  pub own-length : length own ≡ own_masks P
  own-length = length-take-le (own_masks P) masks opened.own-masks

  pub same-plan : (Q : Plan) → decode bytes ≡ sound Q → P ≡ Q
  same-plan Q d = one-plan bytes P Q (decode-sound bytes P opened.decodes) (decode-sound bytes Q d)

  pub ports-fit : ports ≤ 64
  ports-fit = omega (arith, opened.ports-are, facts.ports64)

  pub sets-fit : sets ≤ 16
  sets-fit = omega (arith, opened.sets-are, facts.sets16)

  pub masks-long : mask_count sets ≤ length masks
  unfolding own_masks
  masks-long = omega (arith, opened.sets-are, opened.own-masks)

  pub own_is : take (mask_count sets) masks ≡ own
  unfolding own_masks
  own_is = ap (λ (j : ℕ). take (mask_count j) masks) opened.sets-are

  -- masks after a change, as the walk is lent them: as many as the plan's own, and none with a port of u or more
  pub masks-ready : (after : List ℕ) → length after ≡ own_masks P → all_within P.ports after ≡ true → MasksSettled ports sets after
  unfolding own_masks
  masks-ready after l w = record {
    ports1 = omega (arith, opened.ports-are, facts.ports1);
    ports64 = ports-fit;
    sets16 = sets-fit;
    masks-long = omega (arith, opened.sets-are, l);
    within = λ S q. rw opened.ports-are (within-at P.ports after w S (omega (arith, opened.sets-are, l)));
  }

-- a change that the code tells, over open tables and settled masks
pub change-ready : {ports sets : ℕ} {bytes firsts ends uses masks cells : List ℕ} (t : OpenTables ports sets bytes firsts ends uses masks cells)
    (ch : Change) (c : Changed) → Describes ports ch c → (after : List ℕ) → MasksSettled ports sets after → RootReady ports sets c bytes firsts ends uses after cells
change-ready t ch c says after settled = record {
  plan = t.opened.plan;
  decodes = t.opened.decodes;
  ports-are = t.opened.ports-are;
  sets-are = t.opened.sets-are;
  indexed = t.opened.indexed;
  change = ch;
  says = says;
  masks-settled = settled;
  cells_fit = t.cells_fit;
  own-cells = t.opened.own-cells;
}
