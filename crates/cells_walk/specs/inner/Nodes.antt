-- What the tables of a plan say of each node: its record's bytes, its first cell, its end, and the sets used at or below it.
use Rattle.std.specs.Prelude.{◌≡◌, true, List, ℕ, suc, ◌+◌, ◌*◌, ◌^◌, ◌≤◌, ◌<◌, length, get_or}
use Rattle.std.specs.Int.Bits.{bit_or}
use Rattle.logic.specs.Formula.{Test, isin, notin, port, size, Node, Forest, none, tree, kind_number, node_count, child_depth}
use Rattle.logic.specs.inner.Literals.{Every, OfTest}
use Rattle.logic.specs.Cells.{sibling_first}
use Rattle.table_format.specs.Bytes.{record_length, kind_field, relation_field, a_field, b_field, records_of, record_at, relation_byte, a_byte, b_byte}
use Rattle.table_format.specs.Rules.{tree_count, arity_rule}
use Rattle.table_format.specs.inner.Index.{node_uses, forest_uses}

pub record NodeIs (bytes firsts ends uses : List ℕ) (i : ℕ) (n : Node) (c : Forest) (b : ℕ) : Type 0 where
  pub kind-is : kind_field (record_at bytes i) ≡ kind_number n
  pub relation-is : relation_field (record_at bytes i) ≡ relation_byte n
  pub a-is : a_field (record_at bytes i) ≡ a_byte n
  pub b-is : b_field (record_at bytes i) ≡ b_byte n
  pub whole : record_length * i + record_length ≤ length (records_of bytes)
  pub first-is : get_or firsts i 0 ≡ b
  pub end_is : get_or ends i 0 ≡ i + suc (node_count c)
  pub uses-are : get_or uses i 0 ≡ bit_or (node_uses n) (forest_uses c)

-- The tables hold a forest: its first node is i, its first cell b, its depth d.
unfoldable pub IndexHolds : ℕ → List ℕ → List ℕ → List ℕ → List ℕ → ℕ → Forest → ℕ → ℕ → Type 0
IndexHolds u bytes firsts ends uses i none b d = Unit {0}
IndexHolds u bytes firsts ends uses i (tree n c s) b d =
    NodeIs bytes firsts ends uses i n c b
    × IndexHolds u bytes firsts ends uses (suc i) c (b + u ^ d) (child_depth n d)
    × IndexHolds u bytes firsts ends uses (i + suc (node_count c)) s (sibling_first u n c b d) d

-- What the rules of the table say of a node: its depth, a literal's variables, set and constant, and how many children it has.
unfoldable pub TestFits : ℕ → ℕ → Test → Type 0
TestFits sets d (isin v S) = (v < d) × (S < sets)
TestFits sets d (notin v S) = (v < d) × (S < sets)
TestFits sets d (port r v w) = (v < d) × (w < d)
TestFits sets d (size r S c) = (S < sets) × (c ≤ 64)

pub record NodeFits (sets : ℕ) (n : Node) (c : Forest) (d : ℕ) : Type 0 where
  pub depth3 : d ≤ 3
  pub literal : OfTest (TestFits sets d) n
  pub children : arity_rule (kind_number n) (tree_count c) ≡ true

unfoldable pub Fitting : ℕ → Forest → ℕ → Type 0
Fitting sets f d = Every (NodeFits sets) f d
