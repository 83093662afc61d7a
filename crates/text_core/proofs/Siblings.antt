-- A part of the core stands before its later siblings and does not depend on them: what writing it record by record rests on.
-- Assumes nothing.
use mathlib.Core.Path.{◌≡◌, refl, sym, ap, ◌∙◌}
use mathlib.Core.Bool.{Bool, true, false, not}
use mathlib.Core.List.{List}
use Prim.Native.Nat.{ℕ}
use Rattle.logic.specs.Formula.{Forest, none, tree}
use Rattle.text_tree.specs.Tree.{Tree, leaf, neg, par, bind, join}
use Rattle.text_core.specs.Core.{Above, alone, inside, Part, joint, two, place}
use Rattle.text_core.proofs.Decided.{joined}

unfoldable pub append : Forest → Forest → Forest
append none s = s
append (tree n c r) s = tree n c (append r s)

append_assoc : (f g h : Forest) → append (append f g) h ≡ append f (append g h)
unfolding append
append_assoc none g h = refl
append_assoc (tree n c r) g h = ap (tree n c) (append_assoc r g h)

abbrev Before : Part → Type 0
Before F = (above : Above) (s : Forest) → F above s ≡ append (F above none) s

row_before : (j : Bool) (F G : Part) → Before F → Before G → (s : Forest) → F (inside j) (G (inside j) s) ≡ append (F (inside j) (G (inside j) none)) s
row_before j F G A B s =
    A (inside j) (G (inside j) s) ∙ ap (append (F (inside j) none)) (B (inside j) s)
    ∙ sym (append_assoc (F (inside j) none) (G (inside j) none) s) ∙ ap (λ (f : Forest). append f s) (sym (A (inside j) (G (inside j) none)))

two-before : (j : Bool) (F G : Part) → Before F → Before G → Before (two j F G)
unfolding two joint append
two-before j F G A B alone s = refl
two-before true F G A B (inside true) s = row_before true F G A B s
two-before false F G A B (inside true) s = refl
two-before true F G A B (inside false) s = refl
two-before false F G A B (inside false) s = row_before false F G A B s

pub place-before : (sets vars : List ℕ) (p : Bool) (a : Tree) (above : Above) (s : Forest) → place sets vars p a above s ≡ append (place sets vars p a above none) s
unfolding place append
place-before sets vars p (leaf l) above s = refl
place-before sets vars p (neg a) above s = place-before sets vars (not p) a above s
place-before sets vars p (par a) above s = place-before sets vars p a above s
place-before sets vars p (bind q v a) above s = refl
place-before sets vars p (join j a b) above s =
    let A : Bool → Part = λ i. place sets vars i a in
    let B : Bool → Part = λ i. place sets vars i b in
    joined (λ (F x : Part). Before F) two two (λ i F G x y. two-before i F G) j p A B A B (λ i. place-before sets vars i a) (λ i. place-before sets vars i b) above s
