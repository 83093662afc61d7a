use Rattle.std.proofs.Common.{◌≡◌, ◌/◌, length, set, ap, arith}
use Rattle.move_slots.specs.inner.Taking.{asked_sizes}
use Rattle.move_slots.proofs.asked_sizes.Goals as goal

pub returns : goal.returns
unfolding asked_sizes
returns c =
    (ap (set c.args.sizes (c.args.slot / 4)) c.asked_size.ensures, (let h : length c.args.sizes ≡ 16 = omega (arith, c.well_formed) in h))
