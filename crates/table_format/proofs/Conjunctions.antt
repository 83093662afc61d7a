-- A test of several parts holds where each part does. Assumes nothing.
use mathlib.Core.Path.{◌≡◌}
use mathlib.Core.Bool.{Bool, true, ◌&&◌}
use Rattle.logic.proofs.Lists.{and_left, and_right, and-true}

pub two-true : (a b : Bool) → (a && b) ≡ true → (a ≡ true) × (b ≡ true)
two-true a b h = (and_left a b h, and_right a b h)

pub three-true : (a b c : Bool) → (a && b && c) ≡ true → (a ≡ true) × (b ≡ true) × (c ≡ true)
three-true a b c h =
    let x = two-true (a && b) c h in
    let y = two-true a b x.0 in
    (y.0, y.1, x.1)

pub four-true : (a b c d : Bool) → (a && b && c && d) ≡ true → (a ≡ true) × (b ≡ true) × (c ≡ true) × (d ≡ true)
four-true a b c d h =
    let x = two-true (a && b && c) d h in
    let y = three-true a b c x.0 in
    (y.0, y.1, y.2, x.1)

pub all_three : (a b c : Bool) → a ≡ true → b ≡ true → c ≡ true → (a && b && c) ≡ true
all_three a b c x y z = and-true (a && b) c (and-true a b x y) z
