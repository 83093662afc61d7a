-- A whole plan: its masks, its root and what stands below the root. Assumes nothing.
use mathlib.Core.Path.{◌≡◌, refl, sym, ap, ap₂, ◌∙◌, subst}
use mathlib.Core.Bool.{true}
use mathlib.Core.Logic.{inl}
use mathlib.Core.List.{List, [], ◌∷◌, ◌++◌, append-nil}
use Prim.Native.Nat.{ℕ, suc, ◌+◌, ◌≤◌}
use native.Mathlib.Nat.{mul-one, mul-suc, pow-zero}
use native.Mathlib.Omega.{arith}
use lib.ListN.{length, get_or, take, drop, length-drop, take-append-drop}
use lib.Seq.{length-take-le, drop-drop}
use borrow.Author.Tests.{eq-eqb}
use Rattle.logic.specs.Formula.{root, Forest, none, tree, Plan, kind_number, node_count, child_depth}
use Rattle.logic.specs.Penalty.{penalty}
use Rattle.logic.specs.Cells.{cell_count, tuple_at, tabulate, layout, own_cells, cells}
use Rattle.logic.specs.Configuration.{Configuration, own_masks, spelled, all_within, configuration}
use Rattle.table_format.specs.Bytes.{record_length}
use Rattle.table_format.specs.Rules.{tree_count, arity_rule}
use Rattle.table_format.specs.Decode.{sound, decode}
use Rattle.table_format.specs.inner.Tests.{below_root}
use Rattle.table_format.proofs.Parts.{span-within}
use Rattle.table_format.proofs.Bytes.{record-pos}
use Rattle.table_format.proofs.Encoding.{length-records, decode-sound, one-plan}
use Rattle.table_format.proofs.Rooted.{rooted, RootedIs, rooted-cells}
use Rattle.cells_join.specs.inner.Joined.{join_into, join_of, spread_of}
use Rattle.cells_fill.specs.inner.Fill.{treewise, config, table, FillPlaced, Fills, FillsPlan}
use Rattle.cells_fill.proofs.Values.{own-cell, table-tree}
use Rattle.cells_fill.proofs.Trees.{low_below}
use Rattle.logic.proofs.Lent.{nothing-behind}
use Rattle.table_format.proofs.Ready.{TableReady, own-zero}

pub placed-plan : (bytes : List ℕ) (P : Plan) (nodes : ℕ) (masks xs : List ℕ) → TableReady bytes P nodes → own_masks P ≤ length masks → all_within P.ports (take (own_masks P) masks) ≡ true
    → own_cells P ≤ length xs
    → FillPlaced (below_root bytes nodes) 1 0 P.ports P.sets 0 1 1 1 (take (own_masks P) masks) xs
unfolding own_masks kind_number child_depth spread_of
placed-plan bytes P nodes masks xs r m st l =
    let f = r.facts in
    record {
      trees = record {
        forest = r.below;
        up = 0;
        width_is = sym (pow-zero P.ports);
        is = r.part;
        rules = f.rules;
        few = omega (arith, f.few);
        nodes = omega (
          arith,
          ap length r.part,
          length-records r.below 1 0,
          mul-one record_length,
          mul-suc record_length (node_count r.below),
          span-within record_length record-pos (suc (node_count r.below)) 512 f.nodes512,
        );
        ports1 = f.ports1;
        ports64 = f.ports64;
        depth4 = omega arith;
        sets-masks = omega (arith, length-take-le (own_masks P) masks m);
        within = st;
        room = omega (arith, r.total);
      };
      parent = root;
      outer = 0;
      kind-is = refl;
      depth_is = refl;
      over-is = sym (pow-zero P.ports);
      after = omega arith;
      alone = inl refl;
    }

-- the root over what is filled below it
root-cells : (u : ℕ) (k : Configuration) (c : Forest) → table u k (tree root c none) 0 ≡ penalty u k root c [] ∷ table u k c 0
unfolding tabulate tuple_at child_depth table layout
root-cells u k c =
    table-tree u k root c none 0
    ∙ ap₂ (λ (a : ℕ) (b : List ℕ). tabulate a (λ i. penalty u k root c []) ++ b) (pow-zero u) (append-nil (table u k c 0))

root-own : (P : Plan) (own : List ℕ) (c : Forest) (x : ℕ) → RootedIs P.ports P.sets c
    → join_into (join_of 0) true x (treewise P.ports (config P.ports P.sets own) root c (tuple_at P.ports 0 0))
    ≡ penalty P.ports (config P.ports P.sets own) root c []
unfolding kind_number join_of arity_rule child_depth tuple_at
root-own P own c x f =
    own-cell P.ports (config P.ports P.sets own) root c [] x f.ports1 (omega arith) (eq-eqb (tree_count c) 1 f.one)
    (low_below P.ports P.sets own root c none 0 [] f.ports1 f.ports64 f.rules (omega (arith, rooted-cells P.ports P.sets c, own-zero P.ports P.sets c, f.few)))

first_one : (g : ℕ → ℕ) → tabulate 1 g ≡ g 0 ∷ []
unfolding tabulate
first_one g = refl

plan-table : (P : Plan) (own : List ℕ) (c : Forest) → P ≡ rooted P.ports P.sets c
    → cells P (spelled P own) ≡ penalty P.ports (config P.ports P.sets own) root c [] ∷ table P.ports (config P.ports P.sets own) c 0
unfolding cells spelled configuration table
plan-table P own c e =
    ap (λ (Q : Plan). layout P.ports (λ n c b d x. penalty P.ports (config P.ports P.sets own) n c x) Q.formula 0 0) e
    ∙ root-cells P.ports (config P.ports P.sets own) c

pub plan-filled : (bytes : List ℕ) (P : Plan) (nodes r : ℕ) (masks xs zs : List ℕ) → decode bytes ≡ sound P → TableReady bytes P nodes → length xs ≡ own_cells P
    → Fills (below_root bytes nodes) 1 0 P.ports P.sets 0 1 1 (take (own_masks P) masks) xs zs r
    → FillsPlan bytes masks zs
unfolding Fills FillsPlan kind_number child_depth
plan-filled bytes P nodes r masks xs zs d rd l fl Q dq = subst (λ (R : Plan). zs ≡ cells R (spelled R (take (own_masks R) masks))) one whole
  where
    u : ℕ
    u = P.ports

    c : Forest
    c = rd.below

    own : List ℕ
    own = take (own_masks P) masks

    one : P ≡ Q
    one = one-plan bytes P Q (decode-sound bytes P d) (decode-sound bytes Q dq)

    m : ℕ
    m = cell_count u c 0

    X : List ℕ
    X = take m (drop 1 xs)

    -- the root's cell as it was
    A : List ℕ
    A = take 1 xs

    got : zs ≡ tabulate 1 (λ t. join_into (join_of 0) true (get_or A t 0) (treewise u (config u P.sets own) root c (tuple_at u 0 t))) ++ ([] ++ (table u (config u P.sets own) c 0 ++ drop (1 + m) xs))
    got =
        let one : length A ≡ 1 = length-take-le 1 xs (omega (arith, rd.total)) in
        (fl root 0 c 0 refl refl (sym (pow-zero u)) rd.part).cells_are A [] X (drop (1 + m) xs)
        (sym (take-append-drop 1 xs) ∙ ap (λ (b : List ℕ). A ++ b) (sym (take-append-drop m (drop 1 xs)) ∙ ap (λ (b : List ℕ). X ++ b) (drop-drop m 1 xs)))
        one (omega arith) (length-take-le m (drop 1 xs) (rw (length-drop 1 xs) (omega (arith, rd.total))))

    whole : zs ≡ cells P (spelled P own)
    whole =
        got
        ∙ ap (λ (a : List ℕ). a ++ (table u (config u P.sets own) c 0 ++ drop (1 + m) xs))
        (first_one (λ t. join_into (join_of 0) true (get_or A t 0) (treewise u (config u P.sets own) root c (tuple_at u 0 t)))
        ∙ ap (λ (x : ℕ). x ∷ []) (root-own P own c (get_or A 0 0) rd.facts))
        ∙ nothing-behind (1 + m) (penalty u (config u P.sets own) root c [] ∷ table u (config u P.sets own) c 0) xs (omega (arith, rd.total))
        ∙ sym (plan-table P own c rd.is-root)
