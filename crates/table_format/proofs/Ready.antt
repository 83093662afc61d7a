-- What a table that decodes says of its length and its cells. Assumes nothing.
use mathlib.Core.Path.{◌≡◌, refl, sym, ap, ap₂, ◌∙◌, subst}
use mathlib.Core.List.{List, ◌++◌}
use Prim.Native.Nat.{ℕ, suc, ◌≤◌}
use lib.ListN.{length}
use Rattle.logic.specs.Formula.{root, Forest, none, tree, Plan, node_count}
use Rattle.logic.specs.Cells.{cell_count, own_cells}
use Rattle.table_format.specs.Bytes.{table_bytes, sets_field, records, encoding}
use Rattle.table_format.specs.Decode.{sound, decode}
use Rattle.table_format.specs.inner.Tests.{below_root}
use Rattle.table_format.proofs.Encoding.{decode-sound}
use Rattle.table_format.proofs.Rooted.{rooted, RootedIs, rooted-nodes, rooted-cells, rooted-long, rooted-below, is-rooted, rooted-is}

pub own-zero : (u n : ℕ) (c : Forest) → own_cells (rooted u n c) ≡ cell_count u (tree root c none) 0
unfolding own_cells
own-zero u n c = refl

pub own-count : (P : Plan) → own_cells P ≡ cell_count P.ports P.formula 0
unfolding own_cells
own-count P = refl

-- What a table that passed gives for filling.
pub record TableReady (bytes : List ℕ) (P : Plan) (nodes : ℕ) : Type 0 where
  pub below : Forest
  pub is-root : P ≡ rooted P.ports P.sets below
  pub facts : RootedIs P.ports P.sets below
  pub count : nodes ≡ suc (node_count below)
  pub total : own_cells P ≡ suc (cell_count P.ports below 0)
  pub long : table_bytes (sets_field bytes) nodes ≤ length bytes
  pub part : below_root bytes nodes ≡ records below 1 0

pub ready : (bytes : List ℕ) (P : Plan) (nodes : ℕ) → decode bytes ≡ sound P → nodes ≡ node_count P.formula → TableReady bytes P nodes
ready bytes P nodes d k =
    let t = decode-sound bytes P d in
    let r = is-rooted P t.rules in
    let c = r.0 in
    let e : bytes ≡ encoding (rooted P.ports P.sets c) ++ t.rest = t.is ∙ ap (λ (Q : Plan). encoding Q ++ t.rest) r.1 in
    let kk : nodes ≡ suc (node_count c) = k ∙ ap (λ (Q : Plan). node_count Q.formula) r.1 ∙ rooted-nodes c in
    record {
      below = c;
      is-root = r.1;
      facts = rooted-is P t.rules;
      count = kk;
      total = ap own_cells r.1 ∙ rooted-cells P.ports P.sets c;
      long = subst (λ (l : List ℕ). table_bytes (sets_field l) nodes ≤ length l) (sym e) (rw kk (rooted-long P.ports P.sets c t.rest));
      part = ap₂ below_root e kk ∙ rooted-below P.ports P.sets c t.rest;
    }
