-- The check of a whole table: the header, the root's record, and the records below it. Assumes nothing.
use mathlib.Core.Path.{◌≡◌, sym, ap, ◌∙◌}
use mathlib.Core.List.{List, [], ◌∷◌, ◌++◌}
use Prim.Native.Nat.{ℕ, suc, ◌+◌, ◌^◌, ◌≤◌, ◌<◌}
use native.Mathlib.Nat.{mul-one, pow-zero}
use native.Mathlib.Numerals.{add-one}
use native.Mathlib.Omega.{arith}
use lib.Bits.{or_zero_l}
use lib.ListN.{set}
use Rattle.std.specs.Prelude.{Some}
use Rattle.logic.specs.Formula.{Forest, node_count, child_depth}
use Rattle.logic.specs.Cells.{cell_count, first_cells}
use Rattle.table_check.specs.declared.Checked.{Checked}
use Rattle.table_format.specs.declared.Index.{Index}
use Rattle.table_format.specs.Bytes.{record_length, ports_field, sets_field, nodes_field}
use Rattle.table_format.specs.inner.Fields.{Bytes}
use Rattle.table_format.specs.Rules.{tree_count}
use Rattle.table_format.specs.inner.Index.{ends, node_uses, forest_uses, uses_table, laid}
use Rattle.table_format.specs.Decode.{broken, decode}
use Rattle.table_format.specs.inner.Tests.{below_root, Sound}
use Rattle.table_check.specs.inner.Check.{Placed, Judged, PlanJudged, IndexRoom}
use Rattle.table_format.proofs.Parts.{one-fits, span-within}
use Rattle.table_format.proofs.Bytes.{record-pos}
use Rattle.table_format.proofs.Encoding.{decode-complete}
use Rattle.table_format.proofs.Laid.{same-forest, table-tree, laid-nothing, length-firsts, length-ends, length-uses}
use Rattle.table_format.proofs.Rooted.{OpenTable, open-table, refused, FrontIs, length-below, rooted, count-below, rooted-cells, rooted-nodes, table_of}

-- A refusal stands where no table is open.
pub refuse-plan : {l : List ℕ} → (OpenTable l → ⊥) → decode l ≡ broken
refuse-plan {l} h = refused l (λ P t. h (open-table l P t))

-- where the records below the root stand
pub placed_below : {l : List ℕ} → FrontIs l → {x : Index} → IndexRoom x
    → Placed (below_root l (nodes_field l)) 1 0 0 (ports_field l) (sets_field l) 1 1 x
placed_below {l} f room = record {
  few = omega (
    arith,
    length-below l f,
    mul-one record_length,
    one-fits record_length record-pos (nodes_field l) (omega (arith, f.nodes2)),
    span-within record_length record-pos (nodes_field l) 512 f.nodes512,
  );
  parents = omega arith;
  ports1 = f.ports1;
  ports64 = f.ports64;
  sets16 = f.sets16;
  width_is = sym (pow-zero (ports_field l));
  depth = omega arith;
  first-low = omega arith;
  room = room;
}

-- the numbers as the code reads them
module _ {l : List ℕ} (f : FrontIs l) {n K : ℕ} (en : n ≡ sets_field l) (ek : K ≡ nodes_field l) {part : List ℕ} (lent : part ≡ below_root l K) where
  pub bad-below : ((g : Forest) → Sound part 1 0 0 n 0 g → ⊥) → OpenTable l → ⊥
  bad-below h o = (rw (en, lent ∙ ap (below_root l) ek) at h) o.below o.parts

  module _ {u : ℕ} (eu : u ≡ ports_field l) {rc : Checked} {x x₁ : Index} (judged : Judged part 1 0 0 u n 0 1 (Some rc) x x₁) where
    below-judged : Judged (below_root l (nodes_field l)) 1 0 0 (ports_field l) (sets_field l) 0 1 (Some rc) x x₁
    below-judged = rw (eu, en, lent ∙ ap (below_root l) ek) at judged

    pub bad-count : (rc.trees ≡ 1 → ⊥) → OpenTable l → ⊥
    bad-count h o =
        let a = below-judged in
        h (a.2.trees ∙ ap tree_count (same-forest a.0 o.below 1 0 (sym a.1.is ∙ o.parts.is)) ∙ o.one)

    pub bad-total : 1048576 ≤ rc.cells → OpenTable l → ⊥
    bad-total h o =
        let a = below-judged in
        let c = a.2.cells ∙ ap (λ (g : Forest). cell_count (ports_field l) g 0) (same-forest a.0 o.below 1 0 (sym a.1.is ∙ o.parts.is)) in
        omega (arith, o.few)

    pub accept-plan : Bytes l → rc.trees ≡ 1 → rc.cells < 1048576 → IndexRoom x
        → {x₂ : Index} → (x₂.firsts ≡ set x₁.firsts 0 0) × (x₂.ends ≡ set x₁.ends 0 K) × (x₂.uses ≡ set x₁.uses 0 rc.uses)
        → PlanJudged l (Some (record { ports = u; sets = n; nodes = K; cells = rc.cells + 1 })) x x₂
    unfolding first_cells ends uses_table node_uses child_depth
    accept-plan b one few room {x₂} m =
        let a = below-judged in
        let c = a.0 in
        let u' = ports_field l in
        let i = a.2 in
        let t = table_of l c f b a.1 (sym i.trees ∙ one) (rw i.cells at few) in
        let kk : K ≡ suc (node_count c) = ek ∙ count-below l f c a.1 in (
          rooted u' (sets_field l) c,
          decode-complete l (rooted u' (sets_field l) c) t,
          record {
            ports-are = eu;
            sets-are = en;
            nodes-are = kk ∙ sym (rooted-nodes c);
            cells_are = ap (λ (w : ℕ). w + 1) i.cells ∙ add-one (cell_count u' c 0) ∙ sym (rooted-cells u' (sets_field l) c);
            firsts-are = table-tree 0 K 0 (first_cells u' c 1 0) [] x.firsts x₁.firsts x₂.firsts x₂.firsts (omega (arith, length-firsts u' c 1 0)) (omega (arith, room.of-firsts)) i.firsts-are m.0 (sym (laid-nothing x₂.firsts K))
                ∙ ap (λ (w : ℕ). laid x.firsts 0 (0 ∷ (first_cells u' c w 0 ++ []))) (let e : 1 ≡ 0 + u' ^ 0 = omega (arith, pow-zero u') in e);
            ends-are = table-tree 0 K K (ends c 1) [] x.ends x₁.ends x₂.ends x₂.ends (omega (arith, length-ends c 1)) (omega (arith, room.of-ends)) i.ends-are m.1 (sym (laid-nothing x₂.ends K))
                ∙ ap (λ (w : ℕ). laid x.ends 0 (w ∷ (ends c 1 ++ []))) (let e : K ≡ 0 + suc (node_count c) = omega arith in e);
            uses-are = table-tree 0 K rc.uses (uses_table c) [] x.uses x₁.uses x₂.uses x₂.uses (omega (arith, length-uses c)) (omega (arith, room.of-uses)) i.uses-are m.2 (sym (laid-nothing x₂.uses K))
                ∙ ap (λ (w : ℕ). laid x.uses 0 (w ∷ (uses_table c ++ []))) (i.used ∙ sym (or_zero_l (forest_uses c)));
          },
        )
