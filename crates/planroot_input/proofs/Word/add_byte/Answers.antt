use Rattle.planroot_input.proofs.Runs.{adds-bad, adds-zero, adds-first, adds-digit, adds-large, adds-behind-0, stays-bad}
use mathlib.Core.Logic.{inl, inr}
use Rattle.planroot_input.proofs.Word.add_byte.Goals as goal

pub returns-in_default : goal.returns-in_default
returns-in_default c =
    adds-bad _ _ c.in_default.ensures

pub returns-in-Empty : goal.returns-in-Empty
returns-in-Empty c =
    rw c.in-Empty.is (adds-zero _ _ c.in-Some.ensures c.if-d-eq0.true)

pub returns-in-Empty-2 : goal.returns-in-Empty-2
returns-in-Empty-2 c =
    rw c.in-Empty.is (adds-first _ _ c.in-Some.ensures c.if-d-eq0.false)

pub returns-in-Some-longer : goal.returns-in-Some-longer
returns-in-Some-longer c =
    rw c.in-Number.is (adds-digit _ _ c.in-Some.ensures _ _ c.in-Some-longer.ensures)

pub returns-in-None : goal.returns-in-None
returns-in-None c =
    rw c.in-Number.is (adds-large _ _ c.in-Some.ensures _ c.in-None.ensures)

pub returns-in-Zero : goal.returns-in-Zero
returns-in-Zero c =
    elim c.in-Zero.is [ inl e ↦ rw e (adds-behind-0 _) | inr e ↦ rw e (stays-bad _) ]
