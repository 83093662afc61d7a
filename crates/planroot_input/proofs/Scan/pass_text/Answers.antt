use Rattle.planroot_input.proofs.Passing.{text-more}
use native.Mathlib.Omega.{arith}
use Rattle.planroot_input.proofs.Scan.pass_text.Goals as goal

pub returns : goal.returns
returns c =
    rw c.put.ensures (text-more c.args.self c.args.b c.args.text.now _ _ c.requires (omega (arith, c.min.ensures)))
