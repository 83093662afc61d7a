use Rattle.planroot_input.proofs.Runs.{judges-empty, judges-zero, judges-number, judges-bad}
use mathlib.Core.Logic.{inl, inr}
use Rattle.planroot_input.proofs.Word.run.Goals as goal

pub returns-in-Zero : goal.returns-in-Zero
returns-in-Zero c =
    rw c.in-Zero.is judges-zero

pub returns-in-Number : goal.returns-in-Number
returns-in-Number c =
    rw c.in-Number.is (judges-number c.in-Number.n)

pub returns-in-Empty : goal.returns-in-Empty
returns-in-Empty c =
    elim c.in-Empty.is [ inl e ↦ rw e judges-empty | inr e ↦ rw e judges-bad ]
