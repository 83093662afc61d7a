-- A row is a line of cells, and so is one cell alone. Assumes nothing.
use mathlib.Core.Path.{◌≡◌, refl, sym, ap, ◌∙◌}
use mathlib.Core.Bool.{Bool, cond}
use mathlib.Core.List.{◌∷◌}
use Prim.Native.Nat.{ℕ, suc, ◌*◌, ◌^◌, ◌/◌, ◌%◌, ◌≤◌}
use native.Mathlib.Omega.{arith}
use lib.ListN.{length}
use borrow.Author.Tests.{eq-eqb}
use Rattle.logic.specs.Truth.{Tuple, port_of}
use Rattle.logic.specs.Cells.{place_of}
use Rattle.logic.proofs.Lists.{TupleOf, more}
use Rattle.logic.proofs.Tables.{length-tuple}
use Rattle.logic.proofs.Untouched.{port-out}
use Rattle.cells_walk.specs.inner.Visit.{packed}
use Rattle.cells_walk.proofs.Steps.{port-packed}
use Rattle.cells_flip.specs.inner.Flips.{Line}

pub row_line : {u d : ℕ} {e : Tuple} {digits : ℕ} → TupleOf u d e → digits ≡ packed e → 1 ≤ u → u ≤ 64 → Line u (suc d) u d (place_of u e * u) digits (λ x. x ∷ e)
unfolding place_of port_of
row_line {u = u} {d = d} {e = e} {digits = digits} t q some h = record {
  few = omega arith;
  some = some;
  tuples = λ x l. more l t;
  places = λ x l. refl;
  same = λ x v l k n. port-out x e v (omega (arith, length-tuple t)) ∙ sym (ap (λ (y : ℕ). y / 256 ^ v % 256) q ∙ port-packed v (omega arith) t (omega arith));
  own-port = λ x l k. ap (λ (b : Bool). cond b x (port_of e d)) (eq-eqb d (length e) (sym (length-tuple t)));
}

pub cell-line : {u d : ℕ} {e : Tuple} → TupleOf u d e → 1 ≤ u → u ≤ 64 → d ≤ 3 → Line u d 1 3 (place_of u e) (packed e) (λ x. e)
cell-line {u = u} {d = d} {e = e} t h k low = record {
  few = h;
  some = omega arith;
  tuples = λ x l. t;
  places = λ x l. omega arith;
  same = λ x v l m n. sym (port-packed v (omega arith) t m);
  own-port = λ x l m. absurd (omega arith);
}
