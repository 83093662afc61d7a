use native.Mathlib.Omega.{arith}
use Rattle.cells_literals.proofs.Penalties.{member-fields, port-fields, size-fields, runs, blocks, member-cells, port-cells, size-cells}
use Rattle.cells_literals.proofs.put_literal.Goals as goal

pub block_of-block-requires : goal.block_of-block-requires
block_of-block-requires c =
    (c.requires.ports64, c.requires.depth3, omega (arith, c.from.ensures, (port-fields c.requires c.in-7.is).0))

pub block_of-other-requires : goal.block_of-other-requires
block_of-other-requires c =
    (c.requires.ports64, c.requires.depth3, omega (arith, c.from-in-7.ensures, (port-fields c.requires c.in-7.is).1))

pub put_comparison-requires : goal.put_comparison-requires
put_comparison-requires c =
    let f = port-fields c.requires c.in-7.is in
    blocks c.requires _ _ f.0 f.1 (cc) (cc)

pub returns-in-7 : goal.returns-in-7
returns-in-7 c =
    port-cells c.requires c.in-7.is _ _ _ (cc) (cc) c.put_comparison.ensures

pub set_size-requires : goal.set_size-requires
set_size-requires c =
    (omega (arith, c.from-in-8.ensures, (size-fields c.requires c.in-8.is).0), omega (arith, c.requires.all-masks))

pub returns-in-8 : goal.returns-in-8
returns-in-8 c =
    size-cells c.requires c.in-8.is _ _ (cc) c.put_size.ensures

pub mask_at-mask-requires : goal.mask_at-mask-requires
mask_at-mask-requires c =
    omega (arith, c.from-in_default.ensures, (member-fields c.requires (λ e. omega arith) (λ e. omega arith)).1, c.requires.all-masks)

pub block_of-block-requires-in_default : goal.block_of-block-requires-in_default
block_of-block-requires-in_default c =
    (c.requires.ports64, c.requires.depth3, omega (arith, c.from-in_default-2.ensures, (member-fields c.requires (λ e. omega arith) (λ e. omega arith)).0))

pub put_members-requires : goal.put_members-requires
put_members-requires c =
    runs c.requires c.args.a _ (member-fields c.requires (λ e. omega arith) (λ e. omega arith)).0 (cc)

pub returns-in_default : goal.returns-in_default
returns-in_default c =
    member-cells c.requires (λ e. omega arith) (λ e. omega arith) _ _ _ (cc) (cc) c.put_members.ensures
