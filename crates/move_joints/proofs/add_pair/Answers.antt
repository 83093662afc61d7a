use mathlib.Core.Path.{refl, ap, ◌∙◌}
use Prim.Native.Nat.{ℕ}
use native.Mathlib.Omega.{arith}
use Rattle.move_slots.specs.inner.Slots.{slot_of}
use Rattle.move_slots.proofs.Atom.{ports-few, node-low}
use Rattle.move_joints.proofs.Adding.{row_room, pair-added}
use Rattle.move_joints.proofs.Numbers.{first-few, second-few}
use Rattle.move_joints.proofs.add_pair.Goals as goal

pub pair_ports-brings-requires : goal.pair_ports-brings-requires
pair_ports-brings-requires c =
    (c.requires.0, ports-few _ _ _ _ _ _ _ _ _ _ _ c.requires.0.atom)

pub uses_at-used-requires : goal.uses_at-used-requires
uses_at-used-requires c =
    node-low _ _ _ _ _ _ _ _ _ _ _ c.requires.0.atom

pub slot_of-first-requires : goal.slot_of-first-requires
slot_of-first-requires c =
    (first-few _ _ _ _ _ _ _ _ _ _ _ _ c.requires.0, c.left_outcome.ensures.1)

pub slot_of-second-requires : goal.slot_of-second-requires
slot_of-second-requires c =
    (second-few _ _ _ _ _ _ _ _ _ _ _ _ c.requires.0, c.entered_outcome.ensures.1)

pub bounds-own-first : goal.bounds-own-first
bounds-own-first c =
    omega (arith, c.slot_of-first.ensures.1, c.requires.1.own-long)

pub bounds-own-second : goal.bounds-own-second
bounds-own-second c =
    omega (arith, c.slot_of-second.ensures.1, c.requires.1.own-long)

pub cells_from-requires : goal.cells_from-requires
cells_from-requires c =
    omega (arith, c.slot_of-first.ensures.1, c.requires.1.mine-long)

pub cells_from-requires-2 : goal.cells_from-requires-2
cells_from-requires-2 c =
    omega (arith, c.slot_of-second.ensures.1, c.requires.1.mine-long)

pub overflow_mul-s : goal.overflow_mul-s
overflow_mul-s c =
    omega (arith, first-few _ _ _ _ _ _ _ _ _ _ _ _ c.requires.0)

pub overflow_add-s : goal.overflow_add-s
overflow_add-s c =
    omega (arith, first-few _ _ _ _ _ _ _ _ _ _ _ _ c.requires.0, second-few _ _ _ _ _ _ _ _ _ _ _ _ c.requires.0)

pub overflow_mul-s-2 : goal.overflow_mul-s-2
overflow_mul-s-2 c =
    omega (arith, first-few _ _ _ _ _ _ _ _ _ _ _ _ c.requires.0, second-few _ _ _ _ _ _ _ _ _ _ _ _ c.requires.0)

pub add_joint-requires : goal.add_joint-requires
add_joint-requires c =
    (ports-few _ _ _ _ _ _ _ _ _ _ _ c.requires.0.atom, omega (arith, ports-few _ _ _ _ _ _ _ _ _ _ _ c.requires.0.atom), row_room _ _ _ _ c.requires.1.mine-long c.slot_of-first.ensures.1 (ports-few _ _ _ _ _ _ _ _ _ _ _ c.requires.0.atom) c.cells_from.ensures, row_room _ _ _ _ c.requires.1.mine-long c.slot_of-second.ensures.1 (ports-few _ _ _ _ _ _ _ _ _ _ _ c.requires.0.atom) c.cells_from-2.ensures, omega (arith, first-few _ _ _ _ _ _ _ _ _ _ _ _ c.requires.0, second-few _ _ _ _ _ _ _ _ _ _ _ _ c.requires.0, ports-few _ _ _ _ _ _ _ _ _ _ _ c.requires.0.atom, c.requires.1.joint-long))

pub returns : goal.returns
returns c =
    pair-added _ _ _ _ _ _ _ _ _ _ _ _ c.args.test c.args.tested c.args.mine.now c.args.own.now _ _ _ _ _ _ c.uses_at-used.result c.pair_ports-brings.result c.slot_of-first.result c.slot_of-second.result c.with_difference.result c.with_difference-rest.result c.uses_at-used.ensures refl c.pair_ports-brings.ensures (c.slot_of-first.ensures.0 ∙ ap (λ (j : ℕ). slot_of c.uses_at-used.result c.args.s j) c.left_outcome.ensures.0) (c.slot_of-second.ensures.0 ∙ ap (λ (j : ℕ). slot_of c.uses_at-used.result c.args.t j) c.entered_outcome.ensures.0) c.with_difference.ensures c.with_difference-rest.ensures c.cells_from.ensures c.cells_from-2.ensures c.add_joint.ensures (ports-few _ _ _ _ _ _ _ _ _ _ _ c.requires.0.atom) (omega (arith, first-few _ _ _ _ _ _ _ _ _ _ _ _ c.requires.0, second-few _ _ _ _ _ _ _ _ _ _ _ _ c.requires.0, c.requires.1.joint-long))
