use mathlib.Core.Path.{ap, sym, ◌∙◌}
use mathlib.Core.Bool.{false≢true, ◌&&◌}
use Prim.Native.Nat.{ℕ, ◌-◌}
use native.Mathlib.Omega.{arith}
use lib.Dec.{leb}
use Rattle.table_format.specs.Bytes.{record_length}
use Rattle.move_tables.proofs.Flat.{none_yet, one_more, up_to}
use Rattle.move_tables.proofs.is_flat.Goals as goal

-- src/lib.rt:28:5
pub loop-j-init : goal.loop-j-init
loop-j-init c = (omega arith, none_yet _ _)

-- src/lib.rt:29:26
pub kind_at-requires : goal.kind_at-requires
unfolding record_length
kind_at-requires c = omega (arith, c.requires.1)

-- src/lib.rt:30:13
pub returns-then-is_quantifier : goal.returns-then-is_quantifier
returns-then-is_quantifier c = λ h. absurd (false≢true h)

-- src/lib.rt:28:5
pub loop-j-preserved : goal.loop-j-preserved
loop-j-preserved c = (omega arith, one_more _ _ _ c.loop-j.invariant.1 (ap (λ (x : ℕ). leb 1 x && leb x 2) (sym c.kind_at.ensures) ∙ sym c.is_quantifier.ensures ∙ c.if-is_quantifier.false))

-- src/lib.rt:23:1
pub returns : goal.returns
returns c = λ h. up_to _ _ _ c.loop-j.j (omega arith) c.loop-j.invariant.1
