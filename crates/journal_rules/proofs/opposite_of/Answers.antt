use mathlib.Core.Path.{sym, ap, ◌∙◌}
use Prim.Native.Nat.{ℕ}
use native.Mathlib.Omega.{arith}
use Rattle.logic.specs.Moves.{add, drop, transfer, swap, move_kind}
use Rattle.contracts.specs.Journal.{kind_opposite}
use Rattle.journal_rules.proofs.Opposites.{of_fields, of-kind, of_none}
use Rattle.journal_rules.proofs.opposite_of.Goals as goal

pub returns-in-1 : goal.returns-in-1
unfolding move_kind kind_opposite
returns-in-1 c =
    sym (of-kind _ add (ap move_kind c.in-1.is))

pub returns-in-2 : goal.returns-in-2
unfolding move_kind kind_opposite
returns-in-2 c =
    sym (of-kind _ drop (ap move_kind c.in-2.is))

pub returns-in-3 : goal.returns-in-3
unfolding move_kind kind_opposite
returns-in-3 c =
    let m = c.args.m in ap (λ (k : ℕ). of_fields k m.t m.s m.p m.q) c.in-3.is ∙ sym (of-kind m transfer (ap move_kind c.in-3.is))

pub returns-in-4 : goal.returns-in-4
unfolding move_kind kind_opposite
returns-in-4 c =
    let m = c.args.m in ap (λ (k : ℕ). of_fields k m.s m.t m.q m.p) c.in-4.is ∙ sym (of-kind m swap (ap move_kind c.in-4.is))

pub returns-in_default : goal.returns-in_default
returns-in_default c =
    sym (of_none _ (omega arith) (omega arith) (omega arith) (omega arith))
