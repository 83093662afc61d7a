use native.Mathlib.Omega.{arith}
use Rattle.table_format.proofs.Ready.{ready}
use Rattle.text_form.specs.Form.{set_byte}
use Rattle.text_write.proofs.Texts.{letters-long, placed_below, plan-formed}
use Rattle.text_write.proofs.form_text.Goals as goal

pub put_letters-letters-requires : goal.put_letters-letters-requires
put_letters-letters-requires c =
    let r = ready c.args.table.now c.requires.plan c.args.nodes c.requires.decodes c.requires.nodes-are in (omega (arith, c.put_byte-from.ensures.end_is), omega (arith, r.facts.sets16, c.requires.sets-are))

pub put_bytes-at-requires : goal.put_bytes-at-requires
put_bytes-at-requires c =
    omega (arith, c.put_byte-from.ensures.end_is, c.put_letters-letters.ensures.end_is, letters-long (set_byte 0) c.args.sets, (ready c.args.table.now c.requires.plan c.args.nodes c.requires.decodes c.requires.nodes-are).facts.sets16, c.requires.sets-are)

pub below_root-below-requires : goal.below_root-below-requires
below_root-below-requires c =
    let r = ready c.args.table.now c.requires.plan c.args.nodes c.requires.decodes c.requires.nodes-are in (omega (arith, r.count), omega (arith, r.facts.nodes512, r.count), r.long)

pub form_trees-requires : goal.form_trees-requires
form_trees-requires c =
    rw c.below_root-below.ensures (placed_below c.args.table.now c.args.sets c.args.nodes _ c.requires (omega (arith, c.put_byte-from.ensures.end_is, c.put_letters-letters.ensures.end_is, c.put_bytes-at.ensures.end_is, letters-long (set_byte 0) c.args.sets, (ready c.args.table.now c.requires.plan c.args.nodes c.requires.decodes c.requires.nodes-are).facts.sets16, c.requires.sets-are)))

pub returns : goal.returns
returns c =
    plan-formed c.args.table.now c.args.sets c.args.nodes c.requires _ _ _ _ _ _ _ _ _ c.put_byte-from.ensures c.put_letters-letters.ensures c.put_bytes-at.ensures (rw c.below_root-below.ensures at c.form_trees.ensures)
