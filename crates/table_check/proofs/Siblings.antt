-- The check of siblings one tree after the other: what is left to check says what the whole part is. Assumes nothing.
use mathlib.Core.Path.{◌≡◌, refl, sym, ap, ap₂, ◌∙◌, subst}
use mathlib.Core.List.{List, [], ◌∷◌, ◌++◌}
use Prim.Native.Nat.{ℕ, suc, ◌+◌, ◌-◌, ◌*◌, ◌/◌, ◌%◌, ◌^◌, ◌≤◌, ◌<◌, max}
use native.Mathlib.Nat.{add-zero, zero-add}
use native.Mathlib.Numerals.{add-one}
use native.Mathlib.Omega.{arith}
use lib.Arith.{bin_ind}
use lib.Bits.{bit_or, or_step, or_zero_l, or_zero_r}
use lib.ListN.{length, set, take, drop, length-append, length-set, length-take, length-drop}
use borrow.Author.Tests.{leb-true}
use Rattle.std.specs.Prelude.{Some}
use Rattle.logic.specs.Formula.{Node, Forest, none, tree, kind_number, child_depth}
use Rattle.logic.specs.Cells.{cell_count, sibling_first, first_cells}
use Rattle.logic.proofs.Lists.{and-true}
use Rattle.table_check.specs.declared.Checked.{Checked}
use Rattle.table_check.specs.declared.CheckedTree.{CheckedTree}
use Rattle.table_format.specs.declared.Index.{Index}
use Rattle.table_format.specs.Bytes.{record_length, end_field, record_of, records}
use Rattle.table_format.specs.Rules.{every_node, tree_count, arity_rule, nesting_rule, depth_rule, inner_rule, node_rule}
use Rattle.table_format.specs.inner.Index.{ends, forest_uses, uses_table, laid}
use Rattle.table_check.specs.inner.Check.{Placed, PartIndexed, Judged, FirstTree, TreeJudged}
use Rattle.table_format.specs.inner.Tests.{Sound}
use Rattle.table_format.proofs.Conjunctions.{four-true}
use Rattle.table_format.proofs.Parts.{rest_all, length-rest-all, one-fits, first_below, siblings-below}
use Rattle.table_format.proofs.Bytes.{record-pos, end-of-record}
use Rattle.table_format.proofs.Laid.{later_of, table-tree, laid-nothing, length-firsts, length-ends, length-uses, width_low}
use Rattle.table_check.proofs.Judging.{bad-rest, cells-few}

-- the halves and the last bits of a union
or-half : (a b : ℕ) → bit_or a b / 2 ≡ bit_or (a / 2) (b / 2)
or-half a b = let s = or_step a b in let m : max (a % 2) (b % 2) < 2 = omega arith in omega arith

or-last : (a b : ℕ) → bit_or a b % 2 ≡ max (a % 2) (b % 2)
or-last a b = let s = or_step a b in let m : max (a % 2) (b % 2) < 2 = omega arith in omega arith

max_assoc : (a b c : ℕ) → max (max a b) c ≡ max a (max b c)
max_assoc a b c = omega arith

or_assoc : (a b c : ℕ) → bit_or (bit_or a b) c ≡ bit_or a (bit_or b c)
or_assoc = bin_ind (λ (n : ℕ). (b c : ℕ) → bit_or (bit_or n b) c ≡ bit_or n (bit_or b c)) (λ b c. refl)
    λ n ih b c. or_step (bit_or n b) c
    ∙ ap₂ (λ (x y : ℕ). x * 2 + y)
    (ap (λ (x : ℕ). bit_or x (c / 2)) (or-half n b) ∙ ih (b / 2) (c / 2) ∙ ap (bit_or (n / 2)) (sym (or-half b c)))
    (ap (λ (x : ℕ). max x (c % 2)) (or-last n b) ∙ max_assoc (n % 2) (b % 2) (c % 2) ∙ ap (max (n % 2)) (sym (or-last b c)))
    ∙ sym (or_step n (bit_or b c))

-- a table has room for every node after some entries are written as well
room_after : (l vs m : List ℕ) (i j v : ℕ) → m ≡ set (laid l i vs) j v → 512 ≤ length l → 512 ≤ length m
unfolding laid
room_after l vs m i j v q h =
    let n = length-append (take i l) (vs ++ drop (i + length vs) l) in
    let k = length-append vs (drop (i + length vs) l) in
    omega (arith, h, ap length q, length-set (laid l i vs) j v, n, k, length-take i l, length-drop (i + length vs) l)

-- a part's first tree before its later siblings
module _ {l : List ℕ} {i parent d ports sets above first : ℕ} {r : CheckedTree} {x x₁ : Index} {n : Node} {c : Forest}
    (t : FirstTree l i parent d ports sets above first r x x₁ n c) where
  end-field : r.end ≡ end_field l
  end-field = sym (ap end_field t.is ∙ end-of-record n parent r.end (records c (suc i) i ++ later_of l i r.end))

  some-ahead : record_length ≤ record_length * (r.end - i)
  some-ahead = one-fits record_length record-pos (r.end - i) (omega (arith, t.end_is))

  depth_low : d ≤ 3
  unfolding node_rule depth_rule
  depth_low = leb-true d 3 (four-true (inner_rule sets n d) (depth_rule d) (arity_rule (kind_number n) (tree_count c)) (nesting_rule (kind_number n) c) t.rules).1

  tree-sound : (s : Forest) → Sound (later_of l i r.end) r.end parent d sets above s → Sound l i parent d sets above (tree n c s)
  unfolding records every_node nesting_rule
  tree-sound s rest = record {
    is = t.is
        ∙ ap (λ (w : List ℕ). record_of n parent r.end ++ (records c (suc i) i ++ w)) rest.is
        ∙ ap (λ (j : ℕ). record_of n parent j ++ (records c (suc i) i ++ records s j parent)) t.end_is;
    rules = and-true _ _ (and-true _ _ t.rules t.below) rest.rules;
    nested = and-true _ _ t.nested rest.nested;
  }

  no-tree : ((s : Forest) → Sound (later_of l i r.end) r.end parent d sets above s → ⊥) → (f : Forest) → Sound l i parent d sets above f → ⊥
  no-tree h f s =
      let some : length l ≡ 0 → ⊥ = λ q. omega (arith, q, t.within, some-ahead, record-pos) in
      bad-rest some end-field h f s

  module _ {width : ℕ} (place : Placed l i parent d ports sets width first x) where
    node-low : i < 512
    node-low = first_below record_length record-pos i (length l) 512 (omega (arith, some-ahead, t.within)) place.few

    tree-indexed : (s : Forest) (rs ra : Checked) (x₂ : Index) → PartIndexed r.end d ports (first + r.cells) s rs x₁ x₂
        → ra.trees ≡ rs.trees + 1 → ra.cells ≡ r.cells + rs.cells → ra.uses ≡ bit_or r.uses rs.uses
        → PartIndexed i d ports first (tree n c s) ra x x₂
    unfolding tree_count cell_count forest_uses first_cells ends uses_table sibling_first
    tree-indexed s rs ra x₂ js tr ce us =
        let cs = first_cells ports c (first + ports ^ d) (child_depth n d) in
        let fs : first + r.cells ≡ first + ports ^ d + cell_count ports c (child_depth n d) = omega (arith, t.cells) in
        let one = sym (add-one i) in
        record {
          trees = tr ∙ ap (λ (a : ℕ). a + 1) js.trees ∙ add-one (tree_count s);
          cells = ce ∙ ap₂ ◌+◌ t.cells js.cells;
          used = us ∙ ap₂ bit_or t.used js.used;
          firsts-are = table-tree i r.end first cs (first_cells ports s (first + r.cells) d) x.firsts (laid x.firsts (suc i) cs) x₁.firsts x₂.firsts
              (omega (arith, t.end_is, length-firsts ports c (first + ports ^ d) (child_depth n d))) (omega (arith, node-low, place.room.of-firsts))
              (ap (λ (j : ℕ). laid x.firsts j cs) one) t.firsts-are js.firsts-are
              ∙ ap (λ (j : ℕ). laid x.firsts i (first ∷ (cs ++ first_cells ports s j d))) fs;
          ends-are = table-tree i r.end r.end (ends c (suc i)) (ends s r.end) x.ends (laid x.ends (suc i) (ends c (suc i))) x₁.ends x₂.ends
              (omega (arith, t.end_is, length-ends c (suc i))) (omega (arith, node-low, place.room.of-ends))
              (ap (λ (j : ℕ). laid x.ends j (ends c (suc i))) one) t.ends-are js.ends-are
              ∙ ap (λ (j : ℕ). laid x.ends i (j ∷ (ends c (suc i) ++ ends s j))) t.end_is;
          uses-are = table-tree i r.end r.uses (uses_table c) (uses_table s) x.uses (laid x.uses (suc i) (uses_table c)) x₁.uses x₂.uses
              (omega (arith, t.end_is, length-uses c)) (omega (arith, node-low, place.room.of-uses))
              (ap (λ (j : ℕ). laid x.uses j (uses_table c)) one) t.uses-are js.uses-are
              ∙ ap (λ (j : ℕ). laid x.uses i (j ∷ (uses_table c ++ uses_table s))) t.used;
        }

    -- where the later siblings stand
    placed-rest : Placed (later_of l i r.end) r.end parent d ports sets width (first + r.cells) x₁
    placed-rest = record {
      few = rw (length-drop (record_length * (r.end - i)) l)
          (siblings-below record_length record-pos i r.end (length l) 512 (omega (arith, t.end_is)) t.within place.few);
      parents = place.parents;
      ports1 = place.ports1;
      ports64 = place.ports64;
      sets16 = place.sets16;
      width_is = place.width_is;
      depth = place.depth;
      first-low = omega (
        arith,
        place.first-low,
        t.cells,
        t.end_is,
        width_low ports d place.ports1 place.ports64 depth_low,
        cells-few ports sets c (child_depth n d) place.ports1 place.ports64 t.below,
      );
      room = record {
        of-firsts = room_after x.firsts _ x₁.firsts (suc i) i first t.firsts-are place.room.of-firsts;
        of-ends = room_after x.ends _ x₁.ends (suc i) i r.end t.ends-are place.room.of-ends;
        of-uses = room_after x.uses _ x₁.uses (suc i) i r.uses t.uses-are place.room.of-uses;
      };
    }

-- A part of which the trees before the rest are checked: where the trees of the rest stand, and that what is found of them is,
-- with the totals so far, found of the whole part.
pub record Passed (part : List ℕ) (i parent d ports sets above width first : ℕ) (x : Index) (rest : List ℕ) (node trees cells used : ℕ) (x₁ : Index) : Type 0 where
  pub within : length rest ≤ length part
  pub trees-few : trees ≤ node
  pub place : Placed rest node parent d ports sets width (first + cells) x₁
  pub accepts : (s : Forest) (rs r : Checked) (x₂ : Index) → Sound rest node parent d sets above s
      → PartIndexed node d ports (first + cells) s rs x₁ x₂
      → r.trees ≡ trees + rs.trees → r.cells ≡ cells + rs.cells → r.uses ≡ bit_or used rs.uses
      → (f : Forest) × Sound part i parent d sets above f × PartIndexed i d ports first f r x x₂
  pub refuses : ((s : Forest) → Sound rest node parent d sets above s → ⊥) → (f : Forest) → Sound part i parent d sets above f → ⊥

pub passed_none : {part : List ℕ} {i parent d ports sets above width first : ℕ} {x : Index} → Placed part i parent d ports sets width first x
    → Passed part i parent d ports sets above width first x part i 0 0 0 x
passed_none {part} {i} {parent} {d} {ports} {sets} {width} {first} {x} place = record {
  within = omega arith;
  trees-few = omega arith;
  place = subst (λ (w : ℕ). Placed part i parent d ports sets width w x) (sym (add-zero first)) place;
  accepts = λ s rs r x₂ sound k tr ce us. (
    s,
    sound,
    record {
      trees = tr ∙ zero-add rs.trees ∙ k.trees;
      cells = ce ∙ zero-add rs.cells ∙ k.cells;
      used = us ∙ or_zero_l rs.uses ∙ k.used;
      firsts-are = k.firsts-are ∙ ap (λ (w : ℕ). laid x.firsts i (first_cells ports s w d)) (add-zero first);
      ends-are = k.ends-are;
      uses-are = k.uses-are;
    },
  );
  refuses = λ h. h;
}

module _ {part : List ℕ} {i parent d ports sets above width first : ℕ} {x : Index} {rest : List ℕ} {node trees cells used : ℕ} {x₁ : Index}
    (p : Passed part i parent d ports sets above width first x rest node trees cells used x₁) where
  -- where all are passed
  pub passed-all : length rest ≡ 0 → Judged part i parent d ports sets above first (Some (record { trees = trees; cells = cells; uses = used })) x x₁
  unfolding records every_node nesting_rule tree_count cell_count forest_uses first_cells ends uses_table
  passed-all h =
      let nothing : Checked = record { trees = 0; cells = 0; uses = 0 } in
      let all : Checked = record { trees = trees; cells = cells; uses = used } in
      p.accepts none nothing all x₁
      record { is = no_bytes rest h; rules = refl; nested = refl }
      record { trees = refl; cells = refl; used = refl; firsts-are = sym (laid-nothing x₁.firsts node); ends-are = sym (laid-nothing x₁.ends node); uses-are = sym (laid-nothing x₁.uses node) }
      (sym (add-zero trees)) (sym (add-zero cells)) (sym (or_zero_r used))
    where
      no_bytes : (w : List ℕ) → length w ≡ 0 → w ≡ []
      no_bytes [] q = refl
      no_bytes (b ∷ w) q = absurd (omega arith)

  -- a good tree is passed as well
  module _ {t : CheckedTree} {x₂ : Index}
      (f : TreeJudged rest node parent d ports sets above (first + cells) (Some t) x₁ x₂) where
    abbrev far : ℕ
    far = record_length * (t.end - node)

    pub tree-ahead : (node < t.end) × (1 ≤ far) × (far ≤ length rest)
    tree-ahead =
        let o = some-ahead f.2 in (
          omega (arith, f.2.end_is),
          omega (arith, o, record-pos),
          f.2.within,
        )

    -- the rest behind the tree, as the code lends it
    abbrev lent : List ℕ
    lent = take (length rest - far) (drop far rest)

    rest-is : drop far rest ≡ lent
    rest-is = sym (rest_all far rest)

    pub passed-tree : Passed part i parent d ports sets above width first x lent t.end (trees + 1) (cells + t.cells) (bit_or used t.uses) x₂
    passed-tree =
        let more : first + cells + t.cells ≡ first + (cells + t.cells) = omega arith in
        record {
          within = omega (arith, p.within, length-rest-all far rest);
          trees-few = omega (arith, p.trees-few, tree-ahead.0);
          place = subst (λ (w : ℕ). Placed lent t.end parent d ports sets width w x₂) more
              (subst (λ (w : List ℕ). Placed w t.end parent d ports sets width (first + cells + t.cells) x₂) rest-is
              (placed-rest f.2 p.place));
          accepts = λ s rs r x₃ sound k tr ce us.
              let both : Checked = record { trees = rs.trees + 1; cells = t.cells + rs.cells; uses = bit_or t.uses rs.uses } in
              p.accepts (tree f.0 f.1 s) both r x₃
              (tree-sound f.2 s
              (subst (λ (w : List ℕ). Sound w t.end parent d sets above s) (sym rest-is) sound))
              (tree-indexed f.2 p.place s rs both x₃
              (subst (λ (w : ℕ). PartIndexed t.end d ports w s rs x₂ x₃) (sym more) k) refl refl refl)
              (omega (arith, tr)) (omega (arith, ce)) (us ∙ or_assoc used t.uses rs.uses);
          refuses = λ h. p.refuses (no-tree f.2
              (λ s q. h s (subst (λ (w : List ℕ). Sound w t.end parent d sets above s) rest-is q)));
        }
