-- Tables cut to a plan's own: they are open too, and have the same best moves. Assumes nothing.
use mathlib.Core.Path.{◌≡◌, sym, ap, ◌∙◌, subst}
use mathlib.Core.List.{List, ◌++◌, map}
use Prim.Native.Nat.{ℕ, ◌-◌, ◌≤◌, ◌<◌}
use native.Mathlib.Omega.{arith}
use native.Mathlib.Decide.{dec_lt}
use lib.ListN.{length, take, drop, get_or, replicate, length-replicate, get_or-replicate, get_or-eq_default}
use lib.Seq.{take-take, get_or-take}
use Rattle.logic.specs.Formula.{Plan}
use Rattle.logic.specs.Configuration.{mask_count, own_masks, all_within}
use Rattle.logic.specs.Cells.{own_cells}
use Rattle.logic.specs.Change.{modulus}
use Rattle.logic.proofs.Lent.{lent_to, lent_length}
use Rattle.table_format.specs.Decode.{sound, decode}
use Rattle.cells_walk.specs.inner.Visit.{CellsFit}
use Rattle.contracts.specs.State.{State, tables, own_tables}
use Rattle.contracts.specs.ImproveCall.{best_moves}
use Rattle.contracts.specs.BestCall.{move_record}
use Rattle.call_open.specs.inner.Opening.{OpenPlan, OpenTables}
use Rattle.call_open.proofs.OpenPlan.{same-plan}
use Rattle.move_rank.specs.declared.Choice.{Choice}
use Rattle.move_best.specs.inner.Choosing.{BestIs, Chooses, Lists}
use Rattle.move_fill.specs.inner.Filling.{AllZero, FillReady}

-- the first numbers of a list, as they are lent
lent-first : (n : ℕ) (xs : List ℕ) → lent_to 0 n xs ≡ take n xs
lent-first n xs = let e : n - 0 ≡ n = omega arith in ap (λ (k : ℕ). take k xs) e

-- a table of noughts as it is made
pub zeros-empty : (n : ℕ) → AllZero (replicate n 0)
unfolding AllZero
zeros-empty n i = go (dec_lt i n)
  where
    go : Dec (i < n) → ◌≡◌ {A = ℕ} (get_or (replicate n 0) i 0) 0
    go (yes l) = get_or-replicate n i 0 0 l
    go (no l) = get_or-eq_default (replicate n 0) 0 (omega (arith, length-replicate {A = ℕ} n 0, l))

module _ {ports sets : ℕ} {bytes firsts ends uses masks : List ℕ} {shortest : ℕ} (o : OpenPlan ports sets bytes masks shortest firsts ends uses)
    (cells : List ℕ) (long : shortest ≤ length cells) (fit : CellsFit cells)
    (i j : ℕ) (i-is : i ≡ mask_count sets) (j-is : (P : Plan) → decode bytes ≡ sound P → j ≡ own_cells P) where
  abbrev P : Plan
  P = o.plan

  abbrev masks' : List ℕ
  masks' = lent_to 0 i masks

  abbrev cells' : List ℕ
  cells' = lent_to 0 j cells

  masks-are : i ≡ own_masks P
  unfolding own_masks
  masks-are = omega (arith, i-is, o.sets-are)

  cells_are : j ≡ own_cells P
  cells_are = j-is P o.decodes

  pub masks-length : length masks' ≡ i
  masks-length = lent_length 0 i masks (omega arith) (omega (arith, masks-are, o.own-masks)) ∙ omega arith

  pub cells-length : length cells' ≡ j
  cells-length = lent_length 0 j cells (omega arith) (omega (arith, cells_are, o.own-cells, long)) ∙ omega arith

  -- what is the plan's own of the parts is its own of the whole
  own-masks : take (own_masks P) masks' ≡ take (own_masks P) masks
  own-masks = ap (take (own_masks P)) (lent-first i masks) ∙ take-take (own_masks P) i masks (omega (arith, masks-are))

  own-cells : take (own_cells P) cells' ≡ take (own_cells P) cells
  own-cells = ap (take (own_cells P)) (lent-first j cells) ∙ take-take (own_cells P) j cells (omega (arith, cells_are))

  own_same : (Q : Plan) → decode bytes ≡ sound Q → own_tables Q (tables masks' cells') ≡ own_tables Q (tables masks cells)
  unfolding own_tables
  own_same Q d =
      subst (λ (R : Plan). own_tables R (tables masks' cells') ≡ own_tables R (tables masks cells)) (same-plan o Q d)
      (λ k. tables (own-masks k) (own-cells k))

  cells_fit : CellsFit cells'
  unfolding CellsFit
  cells_fit k = go (dec_lt k j)
    where
      go : Dec (k < j) → get_or cells' k 0 < modulus
      go (yes l) = subst (λ (x : ℕ). x < modulus) (sym (ap (λ (xs : List ℕ). get_or xs k 0) (lent-first j cells) ∙ get_or-take j cells k 0 l)) (fit k)
      go (no l) = subst (λ (x : ℕ). x < modulus) (sym (get_or-eq_default cells' 0 (omega (arith, cells-length, l)))) (unfold modulus in omega arith)

  pub own_open : OpenTables ports sets bytes firsts ends uses masks' cells'
  own_open = record {
    opened = record {
      plan = P;
      decodes = o.decodes;
      ports-are = o.ports-are;
      sets-are = o.sets-are;
      indexed = o.indexed;
      own-masks = omega (arith, masks-length, masks-are);
      own-cells = omega (arith, cells-length, cells_are);
      within = ap (all_within P.ports) own-masks ∙ o.within;
    };
    cells_fit = cells_fit;
  }

  -- empty tables are ready to be filled
  pub fill-ready : (one still joint lists : List ℕ) → length one ≡ 4096 → length still ≡ 64 → length joint ≡ 16384 → length lists ≡ 1024 → AllZero one → AllZero still → AllZero joint
      → FillReady ports sets bytes firsts ends uses masks' cells' one still joint lists
  unfolding own_masks
  fill-ready one still joint lists a b c d x y z =
      let T = own_open in
      record {
        tables-open = T;
        masks-own = omega (arith, masks-length, i-is, T.opened.sets-are);
        cells-own = cells-length ∙ j-is T.opened.plan T.opened.decodes;
        one-long = a;
        still-long = b;
        joint-long = c;
        one-empty = x;
        still-empty = y;
        joint-empty = z;
        lists-long = d;
      }

  -- the choice among the candidates, and their list
  pub chooses-whole : (kinds : ℕ) (r : Choice) → Chooses bytes masks' cells' kinds r → Chooses bytes masks cells kinds r
  unfolding Chooses
  chooses-whole kinds r h Q d = subst (λ (own : State). BestIs (best_moves Q kinds own) Q own r) (own_same Q d) (h Q d)

  pub lists-whole : (kinds : ℕ) (list list' : List (List ℕ)) → Lists bytes masks' cells' kinds list list' → Lists bytes masks cells kinds list list'
  unfolding Lists
  lists-whole kinds list list' h Q d =
      subst (λ (own : State). list' ≡ map move_record (best_moves Q kinds own) ++ drop (length (best_moves Q kinds own)) list) (own_same Q d) (h Q d)
