use Rattle.std.proofs.Common.{refl, arith}
use Rattle.text_tree.specs.Tree.{conj, disj, imp, rev}
use Rattle.text_tree.specs.inner.Stored.{join_operator}
use Rattle.text_core.specs.Core.{join_with}
use Rattle.text_counts.proofs.Counting.{join-two, join-iff}
use Rattle.text_counts.proofs.join_total.Goals as goal

pub returns-in-5 : goal.returns-in-5
unfolding join_operator join_with
returns-in-5 c =
    join-two _ _ _ _ _ _ conj _ _ _ _ _ c.in-5.is c.at.ensures c.at-in-5.ensures c.pair.ensures (λ w x. refl)

pub returns-in-6 : goal.returns-in-6
unfolding join_operator join_with
returns-in-6 c =
    join-two _ _ _ _ _ _ disj _ _ _ _ _ c.in-6.is c.at-in-6.ensures c.at-in-6-2.ensures c.pair-in-6.ensures (λ w x. refl)

pub returns-in-7 : goal.returns-in-7
unfolding join_operator join_with
returns-in-7 c =
    join-two _ _ _ _ _ _ imp _ _ _ _ _ c.in-7.is c.at-in-7.ensures c.at-in-7-2.ensures c.pair-in-7.ensures (λ w x. refl)

pub returns-in-8 : goal.returns-in-8
unfolding join_operator join_with
returns-in-8 c =
    join-two _ _ _ _ _ _ rev _ _ _ _ _ c.in-8.is c.at-in-8.ensures c.at-in-8-2.ensures c.pair-in-8.ensures (λ w x. refl)

pub returns-in_default : goal.returns-in_default
returns-in_default c =
    join-iff _ _ _ _ _ _ _ _ _ _ _ _ (λ e. omega arith) (λ e. omega arith) (λ e. omega arith) (λ e. omega arith) c.at-in_default.ensures c.at-in_default-2.ensures c.pair-forth.ensures
    c.at-in_default-3.ensures c.at-in_default-4.ensures c.pair-back.ensures c.pair-in_default.ensures
