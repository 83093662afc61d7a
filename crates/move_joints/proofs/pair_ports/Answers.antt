use mathlib.Core.Path.{ap₂}
use lib.Bits.{bit_or}
use Rattle.move_joints.proofs.Numbers.{first-few, second-few, ports-ready, pair-gives}
use Rattle.move_joints.proofs.pair_ports.Goals as goal

pub pair_sizes-asked-requires : goal.pair_sizes-asked-requires
pair_sizes-asked-requires c =
    (first-few _ _ _ _ _ _ _ _ _ _ _ _ c.requires.0, second-few _ _ _ _ _ _ _ _ _ _ _ _ c.requires.0, c.requires.0.atom.given.sizes-low _, c.requires.0.atom.given.sizes-low _)

pub variable_bits-requires : goal.variable_bits-requires
variable_bits-requires c =
    first-few _ _ _ _ _ _ _ _ _ _ _ _ c.requires.0

pub variable_bits-requires-2 : goal.variable_bits-requires-2
variable_bits-requires-2 c =
    second-few _ _ _ _ _ _ _ _ _ _ _ _ c.requires.0

pub size_bit-requires : goal.size_bit-requires
size_bit-requires c =
    first-few _ _ _ _ _ _ _ _ _ _ _ _ c.requires.0

pub size_bit-requires-2 : goal.size_bit-requires-2
size_bit-requires-2 c =
    second-few _ _ _ _ _ _ _ _ _ _ _ _ c.requires.0

pub all_ports-requires : goal.all_ports-requires
all_ports-requires c =
    ports-ready _ _ _ _ _ _ c.args.sizes.now _ _ _ c.args.s c.args.t c.args.tested _ c.pair_sizes-asked.ensures.0 c.pair_sizes-asked.ensures.1 _ _ (ap₂ bit_or c.variable_bits.ensures c.variable_bits-2.ensures) (ap₂ bit_or c.size_bit.ensures c.size_bit-2.ensures) _ c.requires.0 c.requires.1

pub returns : goal.returns
returns c =
    pair-gives _ _ _ _ _ _ c.args.sizes.now _ _ _ c.args.s c.args.t c.args.tested _ c.pair_sizes-asked.ensures.0 c.pair_sizes-asked.ensures.1 _ _ (ap₂ bit_or c.variable_bits.ensures c.variable_bits-2.ensures) (ap₂ bit_or c.size_bit.ensures c.size_bit-2.ensures) _ _ _ c.all_ports.ensures
