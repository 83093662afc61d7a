-- What the check of a table's records asks and gives: internal to the crate.
use Rattle.std.specs.Prelude.{◌≡◌, true, Option, MatchOption, List, ◌++◌, ℕ, suc, ◌+◌, ◌-◌, ◌*◌, ◌^◌, ◌≤◌, ◌<◌, length, drop, set}
use Rattle.std.specs.Int.Bits.{bit_or}
use Rattle.logic.specs.Formula.{Node, Forest, Plan, kind_number, node_count, child_depth}
use Rattle.logic.specs.Cells.{cell_count, own_cells, first_cells}
use Rattle.table_check.specs.declared.Checked.{Checked}
use Rattle.table_check.specs.declared.CheckedTree.{CheckedTree}
use Rattle.table_check.specs.declared.Info.{Info}
use Rattle.table_check.specs.declared.Place.{Place}
use Rattle.table_format.specs.declared.Index.{Index}
use Rattle.table_format.specs.Bytes.{record_length, end_field, record_of, records}
use Rattle.table_format.specs.Rules.{every_node, tree_count, may_nest, node_rule}
use Rattle.table_format.specs.Decode.{broken, sound, decode}
use Rattle.table_format.specs.inner.Index.{ends, node_uses, forest_uses, uses_table, laid}
use Rattle.table_format.specs.inner.Tests.{Sound, record_rule, kind_depth, kind_width}
use Rattle.table_format.specs.inner.Fields.{FieldIs}

-- The index has an entry of every node.
pub record IndexRoom (index : Index) : Type 0 where
  pub of-firsts : 512 ≤ length index.firsts
  pub of-ends : 512 ≤ length index.ends
  pub of-uses : 512 ≤ length index.uses

-- Where a part of the records stands: i is its first node, d its depth, first its first cell, width the cells of a node.
pub record Placed (l : List ℕ) (i parent d ports sets width first : ℕ) (index : Index) : Type 0 where
  pub few : record_length * i + length l ≤ record_length * 512
  pub parents : parent < 65536
  pub ports1 : 1 ≤ ports
  pub ports64 : ports ≤ 64
  pub sets16 : sets ≤ 16
  pub width_is : width ≡ ports ^ d
  pub depth : d ≤ 4
  pub first-low : first ≤ 262144 * i
  pub room : IndexRoom index

-- What is known of the forest, and what the index tables hold of it.
pub record PartIndexed (i d ports first : ℕ) (f : Forest) (r : Checked) (index index' : Index) : Type 0 where
  pub trees : r.trees ≡ tree_count f
  pub cells : r.cells ≡ cell_count ports f d
  pub used : r.uses ≡ forest_uses f
  pub firsts-are : index'.firsts ≡ laid index.firsts i (first_cells ports f first d)
  pub ends-are : index'.ends ≡ laid index.ends i (ends f i)
  pub uses-are : index'.uses ≡ laid index.uses i (uses_table f)

-- Ground 11 for some records: accepted they are trees that keep the rules, refused no forest that keeps them has these records.
abbrev pub Judged : (l : List ℕ) (i parent d ports sets above first : ℕ) (r : Option Checked) (index index' : Index) → Type 0
Judged l i parent d ports sets above first r index index' = MatchOption r
    ((f : Forest) → Sound l i parent d sets above f → ⊥)
    (λ c. (f : Forest) × Sound l i parent d sets above f × PartIndexed i d ports first f c index index')

-- What the check of a part's first record asks: its rules, and that the part has the whole tree, which ends at e.
pub record FirstRecord (l : List ℕ) (i parent d sets above e : ℕ) : Type 0 where
  pub long : record_length ≤ length l
  pub rule : record_rule sets d above parent l ≡ true
  pub end_is : FieldIs end_field l e
  pub after : i < e
  pub within : record_length * (e - i) ≤ length l

-- The end of a part's first tree, or None where no forest that keeps the rules begins so.
abbrev pub EndJudged : (l : List ℕ) (i parent d sets above : ℕ) (r : Option ℕ) → Type 0
EndJudged l i parent d sets above r = MatchOption r
    ((f : Forest) → Sound l i parent d sets above f → ⊥)
    (λ e. FirstRecord l i parent d sets above e)

-- A part's first tree, a node n over c: its records stand before the later siblings', it keeps the rules, and the index tables
-- hold the entries of the children and of the node itself.
pub record FirstTree (l : List ℕ) (i parent d ports sets above first : ℕ) (r : CheckedTree) (index index' : Index) (n : Node) (c : Forest) : Type 0 where
  pub is : l ≡ record_of n parent r.end ++ (records c (suc i) i ++ drop (record_length * (r.end - i)) l)
  pub within : record_length * (r.end - i) ≤ length l
  pub end_is : r.end ≡ i + suc (node_count c)
  pub rules : node_rule sets n c d ≡ true
  pub below : every_node (node_rule sets) c (child_depth n d) ≡ true
  pub nested : may_nest above (kind_number n) ≡ true
  pub cells : r.cells ≡ ports ^ d + cell_count ports c (child_depth n d)
  pub used : r.uses ≡ bit_or (node_uses n) (forest_uses c)
  pub firsts-are : index'.firsts ≡ set (laid index.firsts (suc i) (first_cells ports c (first + ports ^ d) (child_depth n d))) i first
  pub ends-are : index'.ends ≡ set (laid index.ends (suc i) (ends c (suc i))) i r.end
  pub uses-are : index'.uses ≡ set (laid index.uses (suc i) (uses_table c)) i r.uses

-- Ground 11 for a part's first tree: accepted it is a tree that keeps the rules, refused no forest that keeps them begins so.
abbrev pub TreeJudged : (l : List ℕ) (i parent d ports sets above first : ℕ) (r : Option CheckedTree) (index index' : Index) → Type 0
TreeJudged l i parent d ports sets above first r index index' = MatchOption r
    ((f : Forest) → Sound l i parent d sets above f → ⊥)
    (λ t. (n : Node) × (c : Forest) × FirstTree l i parent d ports sets above first t index index' n c)

-- What the check of a whole table gives: the plan that it decodes to, with the plan's numbers and its index tables.
pub record PlanIndexed (P : Plan) (r : Info) (index index' : Index) : Type 0 where
  pub ports-are : r.ports ≡ P.ports
  pub sets-are : r.sets ≡ P.sets
  pub nodes-are : r.nodes ≡ node_count P.formula
  pub cells_are : r.cells ≡ own_cells P
  pub firsts-are : index'.firsts ≡ laid index.firsts 0 (first_cells P.ports P.formula 0 0)
  pub ends-are : index'.ends ≡ laid index.ends 0 (ends P.formula 0)
  pub uses-are : index'.uses ≡ laid index.uses 0 (uses_table P.formula)

-- Ground 11 for a whole table: accepted it decodes to a sound plan, refused it is broken.
abbrev pub PlanJudged : (bytes : List ℕ) (r : Option Info) (index index' : Index) → Type 0
PlanJudged bytes r index index' = MatchOption r
    (decode bytes ≡ broken)
    (λ p. (P : Plan) × (decode bytes ≡ sound P) × PlanIndexed P p index index')

-- The same over a place. The place of the children of node i, a node of some kind:
abbrev pub children_place : (i kind : ℕ) (p : Place) → Place
children_place i kind p =
    record { parent = i; above = kind; depth = kind_depth kind p.depth; ports = p.ports; sets = p.sets; width = kind_width kind p.width p.ports }

abbrev pub PlacedAt : (l : List ℕ) (i : ℕ) (p : Place) (first : ℕ) (index : Index) → Type 0
PlacedAt l i p first index = Placed l i p.parent p.depth p.ports p.sets p.width first index

abbrev pub JudgedAt : (l : List ℕ) (i : ℕ) (p : Place) (first : ℕ) (r : Option Checked) (index index' : Index) → Type 0
JudgedAt l i p first r index index' = Judged l i p.parent p.depth p.ports p.sets p.above first r index index'

abbrev pub EndJudgedAt : (l : List ℕ) (i : ℕ) (p : Place) (r : Option ℕ) → Type 0
EndJudgedAt l i p r = EndJudged l i p.parent p.depth p.sets p.above r

abbrev pub TreeJudgedAt : (l : List ℕ) (i : ℕ) (p : Place) (first : ℕ) (r : Option CheckedTree) (index index' : Index) → Type 0
TreeJudgedAt l i p first r index index' = TreeJudged l i p.parent p.depth p.ports p.sets p.above first r index index'
