use mathlib.Core.Path.{◌≡◌, refl, sym, ap, ap₂, ◌∙◌}
use Prim.Native.Nat.{ℕ}
use native.Mathlib.Omega.{arith}
use lib.ListN.{take}
use borrow.Author.Rules.{rules}
use borrow.Author.Tests.{not-true, not-false}
use Rattle.std.specs.Prelude.{Err}
use Rattle.logic.specs.Refusal.{answer_number}
use Rattle.logic.specs.Configuration.{mask_count, own_masks, all_within}
use Rattle.table_format.proofs.Encoding.{decode-sound}
use Rattle.table_format.proofs.Facts.{plan-facts}
use Rattle.call_open.proofs.Opening.{opens_not, opens-few-masks, opens-not-within, opens-all}
use Rattle.call_open.proofs.open_tables.Goals as goal

pub returns-in_err-o : goal.returns-in_err-o
unfolding answer_number
returns-in_err-o c =
    let e : c.from_residual.result ≡ Err c.in_err-o.field-0.0 = search rules in rw e (opens_not _ _ _ _ _ _ _ (c.in_err-o.ensures).number_is)

pub own_masks-requires : goal.own_masks-requires
own_masks-requires c =
    let a = (c.in_ok-o.ensures).opens _ refl in omega (arith, a.sets-are, (plan-facts a.plan (decode-sound _ a.plan a.decodes).rules).sets16)

pub returns-then-masks-own_masks : goal.returns-then-masks-own_masks
unfolding own_masks
returns-then-masks-own_masks c =
    let a = (c.in_ok-o.ensures).opens _ refl in opens-few-masks _ _ _ _ _ _ a.plan a.decodes (omega (arith, a.sets-are, c.own_masks.ensures, c.if-masks-own_masks.true))

pub own_masks-requires-2 : goal.own_masks-requires-2
own_masks-requires-2 c =
    let a = (c.in_ok-o.ensures).opens _ refl in omega (arith, a.sets-are, (plan-facts a.plan (decode-sound _ a.plan a.decodes).rules).sets16)

pub masks_ok-requires : goal.masks_ok-requires
masks_ok-requires c =
    let a = (c.in_ok-o.ensures).opens _ refl in (omega (arith, c.own_masks.ensures, c.own_masks-2.ensures, c.if-masks-own_masks.false), omega (arith, a.ports-are, (plan-facts a.plan (decode-sound _ a.plan a.decodes).rules).ports64))

pub returns-then-not-masks_ok : goal.returns-then-not-masks_ok
unfolding own_masks
returns-then-not-masks_ok c =
    let a = (c.in_ok-o.ensures).opens _ refl in opens-not-within _ _ _ _ _ _ a.plan a.decodes (omega (arith, a.sets-are, c.own_masks.ensures, c.if-masks-own_masks.false)) a.own-cells (ap₂ (λ (u n : ℕ). all_within u (take n c.args.masks.now)) (sym a.ports-are) (sym (c.own_masks-2.ensures ∙ ap mask_count a.sets-are)) ∙ sym c.masks_ok.ensures ∙ not-true _ c.if-not-masks_ok.true-raw)

pub returns : goal.returns
unfolding own_masks
returns c =
    let a = (c.in_ok-o.ensures).opens _ refl in opens-all _ _ _ _ _ _ a.plan a.decodes (omega (arith, a.sets-are, c.own_masks.ensures, c.if-masks-own_masks.false)) a.own-cells _ a.ports-are a.sets-are a.nodes-are a.cells_are a.indexed (ap₂ (λ (u n : ℕ). all_within u (take n c.args.masks.now)) (sym a.ports-are) (sym (c.own_masks-2.ensures ∙ ap mask_count a.sets-are)) ∙ sym c.masks_ok.ensures ∙ not-false _ c.if-not-masks_ok.false-raw)
