use Rattle.planroot_input.proofs.Gathering.{and_off, ends-word}
use mathlib.Core.Path.{refl, ◌∙◌}
use native.Mathlib.Omega.{arith}
use Rattle.planroot_input.proofs.Scan.end_word.Goals.{then-self, else-self}
use Rattle.planroot_input.proofs.Scan.end_word.Goals as goal

pub returns : goal.returns
returns c =
    rw (c.put.ensures, c.unwrap_or.ensures) (ends-word c.args.self c.args.masks.now c.run-mask.result _ _ c.requires c.run-mask.ensures (elim c.if-self.branch [ then-self w ↦ rw (w.if-self.true, w.result-is, w.is_some.ensures) refl | else-self w ↦ w.result-is ∙ and_off _ _ w.if-self.false ]) (omega (arith, c.min.ensures)))
