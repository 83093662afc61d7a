-- Changes that are alike at and below a cell touch the same cells there and come to the same numbers. Assumes nothing.
use mathlib.Core.Path.{◌≡◌, refl, sym, ap, ap₂, ◌∙◌}
use mathlib.Core.Bool.{Bool, true, false, cond, ◌||◌}
use mathlib.Core.List.{List, ◌∷◌}
use Prim.Native.Nat.{ℕ, ◌+◌, ◌^◌, ◌≤◌}
use Rattle.logic.specs.Formula.{Literal, Node, root, all, any, and, or, lit, Forest, none, tree, child_depth}
use Rattle.logic.specs.inner.Literals.{Every, OfLiteral, OfTest}
use Rattle.logic.specs.Configuration.{Configuration}
use Rattle.logic.specs.Truth.{Tuple}
use Rattle.logic.specs.Penalty.{literal_penalty, combine}
use Rattle.logic.specs.Cells.{sibling_first}
use Rattle.logic.specs.Change.{some_of, Change, hit, node_hit, forest_hit, touched, Renewal, renew, OldCells, renewals, new_cell}
use Rattle.logic.proofs.Touched.{trees_touched, PortsBelow, Inner, touched-below}
use Rattle.cells_walk.specs.inner.Below.{Directly}
use Rattle.cells_walk.proofs.Frame.{below-directly}
use Rattle.cells_atoms.specs.inner.Alike.{AlikeAt, Alike}
use Rattle.cells_atoms.specs.inner.Atoms.{Regular, AllRegular}

pub or-none : (b : Bool) → (b || false) ≡ b
or-none true = refl
or-none false = refl

-- a literal without a child is touched where its test is hit
leaf-hit : (ch : Change) (l : Literal) (c : Forest) (e : Tuple) → c ≡ none → touched ch (lit l) c e ≡ hit ch l.test e
unfolding touched node_hit forest_hit
leaf-hit ch l c e r = ap (λ (f : Forest). hit ch l.test e || forest_hit ch f e) r ∙ or-none (hit ch l.test e)

-- two cells that are renewed alike if they are touched
same-cell : (a a' : Bool) (x x' y : ℕ) → a ≡ a' → (a ≡ true → x ≡ x') → cond a x y ≡ cond a' x' y
same-cell true a' x x' y h g = g refl ∙ ap (λ (b : Bool). cond b x' y) h
same-cell false a' x x' y h g = ap (λ (b : Bool). cond b x' y) h

module _ (u : ℕ) (u1 : 1 ≤ u) (k : Configuration) (ch : Change) (k' : Configuration) (ch' : Change)
    (ports : PortsBelow u ch.pairs) (ports' : PortsBelow u ch'.pairs) where
  -- a cell is touched by both or by neither, if that is so directly below it
  inner-touched : (n : Node) (c : Forest) (e : Tuple) → Inner n → ((x : Tuple) → Directly u n e x → trees_touched ch c x ≡ trees_touched ch' c x)
      → touched ch n c e ≡ touched ch' n c e
  inner-touched n c e i H =
      touched-below u u1 ch ports n c e i ∙ ap (some_of (λ (b : Bool). b)) (below-directly u n e _ _ H) ∙ sym (touched-below u u1 ch' ports' n c e i)

  node-touched : (n : Node) (c : Forest) (e : Tuple) → Regular n c → OfTest (λ t. AlikeAt k ch k' ch' t e) n
      → ((x : Tuple) → Directly u n e x → trees_touched ch c x ≡ trees_touched ch' c x) → touched ch n c e ≡ touched ch' n c e
  unfolding Inner OfLiteral Regular touched node_hit forest_hit
  node-touched root c e r a H = absurd r
  node-touched all c e r a H = inner-touched all c e tt H
  node-touched any c e r a H = inner-touched any c e tt H
  node-touched and c e r a H = inner-touched and c e tt H
  node-touched or c e r a H = inner-touched or c e tt H
  node-touched (lit l) c e r a H = leaf-hit ch l c e r ∙ a.same-hit ∙ sym (leaf-hit ch' l c e r)

  trees-touched : (f : Forest) (d : ℕ) (e : Tuple) → AllRegular f d → Alike u k ch k' ch' f e → trees_touched ch f e ≡ trees_touched ch' f e
  unfolding trees_touched Alike AllRegular Every
  trees-touched none d e r a = refl
  trees-touched (tree n c s) d e r a =
      ap₂ ◌∷◌ (node-touched n c e r.0 a.0 (λ x w. trees-touched c (child_depth n d) x r.1 (a.1 x w))) (trees-touched s d e r.2 a.2)

  -- a touched cell is renewed alike
  same-renewed : (n : Node) (c : Forest) (e : Tuple) (old : ℕ) (xs : List Renewal) → Regular n c → OfTest (λ t. AlikeAt k ch k' ch' t e) n → touched ch n c e ≡ true
      → renew k n e old xs ≡ renew k' n e old xs
  unfolding renew combine literal_penalty OfLiteral Regular
  same-renewed root c e old xs r a h = refl
  same-renewed all c e old xs r a h = refl
  same-renewed any c e old xs r a h = refl
  same-renewed and c e old xs r a h = refl
  same-renewed or c e old xs r a h = refl
  same-renewed (lit l) c e old xs r a h = a.same-penalty (sym (leaf-hit ch l c e r) ∙ h)

  module _ (t : OldCells) where
    cell-from : (n : Node) (c : Forest) (b d : ℕ) (e : Tuple) → Regular n c → OfTest (λ t. AlikeAt k ch k' ch' t e) n → touched ch n c e ≡ touched ch' n c e
        → ((x : Tuple) → Directly u n e x → renewals u k ch t c (b + u ^ d) (child_depth n d) x ≡ renewals u k' ch' t c (b + u ^ d) (child_depth n d) x)
        → new_cell u k ch t n c b d e ≡ new_cell u k' ch' t n c b d e
    unfolding new_cell
    cell-from n c b d e r a h H =
        same-cell (touched ch n c e) (touched ch' n c e) _ _ (t b e) h
        (λ i. same-renewed n c e (t b e) _ r a i ∙ ap (renew k' n e (t b e)) (below-directly u n e _ _ H))

    renewals-alike : (f : Forest) (b d : ℕ) (e : Tuple) → AllRegular f d → Alike u k ch k' ch' f e → renewals u k ch t f b d e ≡ renewals u k' ch' t f b d e
    unfolding renewals new_cell Alike AllRegular Every
    renewals-alike none b d e r a = refl
    renewals-alike (tree n c s) b d e r a =
        let h = node-touched n c e r.0 a.0 (λ x w. trees-touched c (child_depth n d) x r.1 (a.1 x w)) in
        ap₂ ◌∷◌
        (ap₂ (λ (x : Bool) (y : ℕ). record { hit = x; old = t b e; new = y }) h
        (cell-from n c b d e r.0 a.0 h (λ x w. renewals-alike c (b + u ^ d) (child_depth n d) x r.1 (a.1 x w))))
        (renewals-alike s (sibling_first u n c b d) d e r.2 a.2)

    -- Of a cell at which two changes are alike: it is touched by both or by neither, and has the same new number.
    module _ (n : Node) (c : Forest) (b d : ℕ) (e : Tuple) (r : AllRegular (tree n c none) d) (a : Alike u k ch k' ch' (tree n c none) e) where
      pub touched-alike : touched ch n c e ≡ touched ch' n c e
      unfolding Alike AllRegular Every
      touched-alike = node-touched n c e r.0 a.0 (λ x w. trees-touched c (child_depth n d) x r.1 (a.1 x w))

      pub new-cell-alike : new_cell u k ch t n c b d e ≡ new_cell u k' ch' t n c b d e
      unfolding Alike AllRegular Every
      new-cell-alike = cell-from n c b d e r.0 a.0 touched-alike (λ x w. renewals-alike c (b + u ^ d) (child_depth n d) x r.1 (a.1 x w))
