use mathlib.Core.Path.{refl, subst}
use Prim.Native.Nat.{ℕ}
use native.Mathlib.Omega.{arith}
use borrow.Author.Tests.{not-false}
use Rattle.move_tables.specs.inner.Taking.{Crossed}
use Rattle.move_tables.proofs.Standing.{node-low, depth_low, flat-asked}
use Rattle.move_tables.proofs.Steps.{hard-tree, flat-tree, crossing-tree, slots-asked, joints-asked}
use borrow.Author.Rules.{rules}
use Rattle.move_tables.proofs.take_atom.Goals as goal

pub end_at-requires : goal.end_at-requires
end_at-requires c =
    node-low c.requires.stands

pub is_flat-requires : goal.is_flat-requires
is_flat-requires c =
    flat-asked c.requires.stands _ c.end_at.ensures

pub listed_as-requires : goal.listed_as-requires
listed_as-requires c =
    (node-low c.requires.stands, depth_low c.requires.stands)

pub returns-then-not-is_flat : goal.returns-then-not-is_flat
returns-then-not-is_flat c =
    hard-tree _ _ _ _ _ _ _ _ _ _ _ _ _ _ _ _ _ (c.requires.is-atom refl) _ _ c.requires.room.lists-long c.listed_as.ensures refl refl

pub take_slots-requires : goal.take_slots-requires
take_slots-requires c =
    slots-asked c.requires _ c.end_at.ensures (c.is_flat.ensures (not-false _ c.if-not-is_flat.false-raw))

pub take_joints-requires : goal.take_joints-requires
take_joints-requires c =
    joints-asked c.requires _ c.end_at.ensures (c.is_flat.ensures (not-false _ c.if-not-is_flat.false-raw)) _ _ (search rules) (search rules)

pub uses_at-requires : goal.uses_at-requires
uses_at-requires c =
    node-low c.requires.stands

pub returns-then-crossings-eq0 : goal.returns-then-crossings-eq0
returns-then-crossings-eq0 c =
    flat-tree _ _ _ _ _ _ _ _ _ _ _ _ _ _ _ _ _ (c.requires.is-atom refl) _ _ _ _ _ _ c.end_at.ensures (c.is_flat.ensures (not-false _ c.if-not-is_flat.false-raw)) c.take_slots.ensures c.take_joints.ensures _ c.if-crossings-eq0.true (subst (λ (x : ℕ). Crossed x c.crossings.result) c.uses_at.ensures c.crossings.ensures)

pub listed_as-requires-2 : goal.listed_as-requires-2
listed_as-requires-2 c =
    (node-low c.requires.stands, depth_low c.requires.stands)

pub overflow_add-lists : goal.overflow_add-lists
overflow_add-lists c =
    record { fits = omega (arith, node-low c.requires.stands, c.requires.room.few-crossed) }

pub offset_bounds-lists-count-2 : goal.offset_bounds-lists-count-2
offset_bounds-lists-count-2 c =
    record { fits = omega (arith, node-low c.requires.stands, c.requires.room.few-crossed) }

pub bounds-lists-count-2 : goal.bounds-lists-count-2
bounds-lists-count-2 c =
    omega (arith, node-low c.requires.stands, c.requires.room.few-crossed, c.requires.room.lists-long)

pub overflow_add-result-2 : goal.overflow_add-result-2
overflow_add-result-2 c =
    record { fits = omega (arith, node-low c.requires.stands, c.requires.room.few-crossed) }

pub returns : goal.returns
returns c =
    crossing-tree _ _ _ _ _ _ _ _ _ _ _ _ _ _ _ _ _ (c.requires.is-atom refl) _ _ _ _ _ _ c.end_at.ensures (c.is_flat.ensures (not-false _ c.if-not-is_flat.false-raw)) c.take_slots.ensures c.take_joints.ensures _ _ c.requires.room.lists-long c.listed_as-2.ensures refl refl
