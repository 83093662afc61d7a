-- Load's answer by what the opening of its tables gives. Assumes nothing.
use mathlib.Core.Path.{◌≡◌, ap₂}
use mathlib.Core.List.{List, [], ◌++◌}
use Prim.Native.Nat.{ℕ, ◌-◌}
use native.Mathlib.Omega.{arith}
use lib.ListN.{length, drop}
use Rattle.std.specs.Prelude.{Err}
use Rattle.logic.specs.declared.refusal.Refusal.{Refusal}
use Rattle.logic.specs.Refusal.{refusal_number}
use Rattle.logic.specs.Formula.{node_count}
use Rattle.logic.specs.Configuration.{own_masks}
use Rattle.logic.specs.Cells.{own_cells}
use Rattle.table_format.specs.Decode.{Decoded}
use Rattle.contracts.specs.State.{tables}
use Rattle.contracts.specs.Load.{load_grounds, loads, LoadPromise}
use Rattle.contracts.proofs.LoadAnswers.{load-refuses}
use Rattle.call_open.specs.inner.Opening.{open_number, OpenPlan}
use Rattle.call_open.proofs.Opening.{one_table, tries-tables, shut}
use Rattle.cells_fill.specs.inner.Fill.{FillReady}
use Rattle.logic.proofs.Lent.{lent_to, back_to, lent_length}

-- one of 11 to 13 applies
pub load-shut : (d : Decoded) (masks xs : List ℕ) (g : Refusal) → refusal_number g ≡ open_number d masks (length xs)
    → LoadPromise (loads d (tables masks xs)) (Err g) (tables masks xs)
unfolding load_grounds
load-shut d masks xs g q =
    load-refuses d (tables masks xs) g (shut (tries-tables d (tables masks xs) (length xs) [] (λ P k. []) (one_table (length xs))) g q)

-- the plan's own cells, lent from the whole cell table, can be filled
pub fill-ready : (ports sets nodes total : ℕ) (bytes masks xs x y z : List ℕ) (o : OpenPlan ports sets bytes masks (length xs) x y z) → nodes ≡ node_count o.plan.formula
    → total ≡ own_cells o.plan → FillReady bytes ports sets nodes masks (lent_to 0 total xs)
unfolding own_masks
fill-ready ports sets nodes total bytes masks xs x y z o e te = record {
  plan = o.plan;
  decodes = o.decodes;
  ports-are = o.ports-are;
  sets-are = o.sets-are;
  nodes-are = e;
  own-masks = omega (arith, o.sets-are, o.own-masks);
  within = rw (o.ports-are, o.sets-are) o.within;
  own-cells =
      omega (arith, lent_length 0 total xs (omega arith) (omega (arith, te, o.own-cells)), te);
}

-- the whole cell table after the plan's own cells come back
pub own_back : (total own : ℕ) (xs ys zs : List ℕ) → total ≡ own → ys ≡ zs → back_to 0 total xs ys ≡ zs ++ drop own xs
own_back total own xs ys zs te e =
    let all : total - 0 ≡ own = omega (arith, te) in
    ap₂ (λ (l : List ℕ) (n : ℕ). l ++ drop n xs) e all
