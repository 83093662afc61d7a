use Rattle.std.proofs.Common.{ℕ, ◌*◌, true, sym, ap, ◌∙◌, mul-one, arith}
use borrow.Author.Tests.{eqb-false}
use Rattle.cells_join.specs.inner.Joined.{merged, HeldPlaced}
use Rattle.cells_join.proofs.Prefix.{spread-pos}
use Rattle.cells_join.proofs.Held.{kind-compared, joins-two, joins-later, joins-ports}
use Rattle.cells_join.proofs.Limits.{low-of-kind}
use Rattle.cells_join.proofs.join_child.Goals as goal

pub join_rows-requires : goal.join_rows-requires
unfolding HeldPlaced
join_rows-requires c =
    let w = c.requires.waits (omega arith) in
    let e = ap (λ (s : ℕ). c.args.over * s) (c.requires.later (omega (arith, c.requires.over1, w))) ∙ mul-one c.args.over in
    (w.0, omega (arith, w), omega (arith, c.requires.room), c.requires.held_low.row (omega arith), rw e at c.requires.low, (λ z. let ne = eqb-false c.args.held c.args.over z in c.requires.held_low.own (omega (arith, w.0, ne))))

pub returns-then-held-ne0 : goal.returns-then-held-ne0
returns-then-held-ne0 c =
    joins-two c.args.join c.args.above c.args.ports c.args.over c.args.held c.args.at c.args.cells.now _ c.requires (omega arith) c.join_rows.ensures

pub returns-then-s-eq1 : goal.returns-then-s-eq1
returns-then-s-eq1 c =
    joins-later c.args.join c.args.above c.args.ports c.args.over c.args.held c.args.at c.args.cells.now c.requires (omega arith) (sym c.spread_of-s.ensures ∙ c.if-s-eq1.true)

pub gather_rows-requires : goal.gather_rows-requires
gather_rows-requires c =
    (rw c.spread_of-s.ensures (spread-pos c.args.above c.args.ports c.requires.ports1), c.requires.after, rw c.spread_of-s.ensures c.requires.room, rw (c.join_of.ensures, c.spread_of-s.ensures) (low-of-kind c.args.join c.args.above c.args.at _ c.args.cells.now c.requires.alike c.requires.low), rw c.join_of.ensures (kind-compared c.args.above))

pub returns : goal.returns
returns c =
    joins-ports c.args.join c.args.above c.args.ports c.args.over c.args.held c.args.at c.args.cells.now _ c.requires (omega arith) (λ q. c.if-s-eq1.false (c.spread_of-s.ensures ∙ q)) (c.gather_rows.ensures ∙ (λ j. merged (c.join_of.ensures j) true c.args.over (c.spread_of-s.ensures j) c.args.at c.args.cells.now))
