use mathlib.Core.Path.{refl}
use native.Mathlib.Omega.{arith}
use Rattle.call_open.proofs.OpenPlan.{sets-fit, masks-long}
use Rattle.move_fill.proofs.Filling.{walks-asked, told_none, take-asked, told-full}
use borrow.Author.Rules.{rules}
use Rattle.move_fill.proofs.fill_tables.Goals as goal

pub walks_cheaper-requires : goal.walks_cheaper-requires
walks_cheaper-requires c =
    walks-asked c.requires _ c.end_at.ensures

pub returns-then-walks_cheaper : goal.returns-then-walks_cheaper
returns-then-walks_cheaper c =
    told_none c.requires _ _ refl refl refl

pub set_sizes-sizes-requires : goal.set_sizes-sizes-requires
set_sizes-sizes-requires c =
    (sets-fit c.requires.tables-open.opened, omega (arith, masks-long c.requires.tables-open.opened))

pub take_atoms-requires : goal.take_atoms-requires
take_atoms-requires c =
    take-asked c.requires _ c.set_sizes-sizes.ensures _ c.end_at-2.ensures _ _ (search rules) (search rules) _ refl refl

pub returns : goal.returns
returns c =
    told-full c.requires _ c.set_sizes-sizes.ensures _ _ _ _ _ _ _ _ _ c.end_at-2.ensures refl refl c.take_atoms.ensures refl (search rules) (search rules) (search rules) (search rules)
