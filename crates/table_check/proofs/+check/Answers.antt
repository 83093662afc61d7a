use mathlib.Core.Path.{sym, ap, ◌∙◌}
use Prim.Native.Nat.{ℕ, ◌-◌, ◌*◌}
use native.Mathlib.Omega.{arith}
use lib.Bits.{bit_or}
use borrow.Author.Tests.{eqb-true}
use Rattle.table_check.proofs.Judging.{bad-kids, bad-arity, accept-tree, accept-none, placed-kids, length-kids, rules-here, depth-here, placed-low, counted-low}
use Rattle.table_check.proofs.Siblings.{passed-all, passed-tree, tree-ahead}
use Rattle.table_format.specs.Bytes.{record_length}
use Rattle.table_format.proofs.FieldRules.{uses-fit}
use Rattle.table_check.proofs.+check.Goals as goal

pub check_children-returns-then-is_empty : goal.check_children-returns-then-is_empty
check_children-returns-then-is_empty t c =
    accept-none c.args.part.now (eqb-true _ 0 (sym c.if-is_empty.ensures))

pub check_forest-overflow_mul-rest : goal.check_forest-overflow_mul-rest
unfolding record_length
check_forest-overflow_mul-rest t c =
    omega (arith, (tree-ahead c.loop-rest.invariant c.in_ok-t.ensures).2, (placed-low c.loop-rest.invariant.place).2)

pub check_forest-slice_bounds-rest-count : goal.check_forest-slice_bounds-rest-count
unfolding record_length
check_forest-slice_bounds-rest-count t c =
    (tree-ahead c.loop-rest.invariant c.in_ok-t.ensures).2

pub check_forest-slice_bounds-rest-start : goal.check_forest-slice_bounds-rest-start
unfolding record_length
check_forest-slice_bounds-rest-start t c =
    (tree-ahead c.loop-rest.invariant c.in_ok-t.ensures).2

pub check_forest-overflow_add-cells : goal.check_forest-overflow_add-cells
check_forest-overflow_add-cells t c =
    omega (arith, (placed-low (passed-tree c.loop-rest.invariant c.in_ok-t.ensures).place).1)

pub check_forest-loop-rest-preserved : goal.check_forest-loop-rest-preserved
unfolding record_length
check_forest-loop-rest-preserved t c =
    passed-tree c.loop-rest.invariant c.in_ok-t.ensures

pub check_forest-returns : goal.check_forest-returns
check_forest-returns t c =
    passed-all c.loop-rest.invariant (eqb-true _ 0 (sym c.loop-rest-test.ensures))

pub check_tree-slice_bounds-children-end : goal.check_tree-slice_bounds-children-end
unfolding record_length
check_tree-slice_bounds-children-end t c =
    c.in_ok-end.ensures.within

pub check_tree-check_children-requires : goal.check_tree-check_children-requires
unfolding record_length
check_tree-check_children-requires t c =
    let h = c.in_ok-end.ensures in
    (omega (arith, h.after, h.within, length-kids h, c.decreases), (c.requires.1.depth, (placed-low c.requires.1).0, placed-kids c.requires.1 h c.kind_of-kind.result))

pub check_tree-returns-in_err-c : goal.check_tree-returns-in_err-c
unfolding record_length
check_tree-returns-in_err-c t c =
    let h = c.in_ok-end.ensures in
    rw c.from_residual-in_err-c.ensures (bad-kids (λ q. omega (arith, q, h.long)) h.end_is.is c.kind_of-kind.ensures c.in_err-c.ensures)

pub check_tree-returns-then-not-arity_ok : goal.check_tree-returns-then-not-arity_ok
unfolding record_length
check_tree-returns-then-not-arity_ok t c =
    let h = c.in_ok-end.ensures in
    bad-arity (λ q. omega (arith, q, h.long)) h.end_is.is c.kind_of-kind.ensures c.in_ok-c.ensures (sym c.arity_ok.ensures ∙ c.if-not-arity_ok.true)

pub check_tree-uses_of-requires : goal.check_tree-uses_of-requires
check_tree-uses_of-requires t c =
    let h = c.in_ok-end.ensures in
    rw (c.kind_of-kind.ensures, c.a_of.ensures, c.b_of.ensures) (uses-fit c.args.place.now.sets c.args.place.now.depth _ _ _ _ (depth-here h) c.requires.1.sets16 (rules-here h).0)

pub check_tree-overflow_add-result : goal.check_tree-overflow_add-result
unfolding record_length
check_tree-overflow_add-result t c =
    let p = c.requires.1 in
    let low = placed-low p in
    omega (arith, low.0, (counted-low c.args.part.now (record_length * (c.in_ok-end.end - c.args.i) - record_length) record_length c.in_ok-c.ensures p.ports1 p.ports64 low.2).1)

pub check_tree-returns : goal.check_tree-returns
unfolding record_length
check_tree-returns t c =
    accept-tree c.in_ok-end.ensures c.kind_of-kind.ensures c.a_of.ensures c.b_of.ensures c.requires.1.width_is c.in_ok-c.ensures
    (sym c.arity_ok.ensures ∙ c.if-not-arity_ok.false) c.note.ensures (ap (λ (v : ℕ). bit_or v c.in_ok-c.c.uses) c.uses_of.ensures)
