-- What forming the text of some trees asks and gives.
use Rattle.std.specs.Prelude.{◌≡◌, Bool, true, false, ◌||◌, List, [], ◌++◌, ℕ, ◌+◌, ◌*◌, ◌≤◌, ltb, length}
use Rattle.logic.specs.Formula.{Forest, none, tree, Plan, kind_number, node_count, child_depth}
use Rattle.table_format.specs.Bytes.{record_length, kind_field, relation_field, a_field, b_field, node_of, records}
use Rattle.table_format.specs.Rules.{every_node, node_rule}
use Rattle.table_format.specs.Decode.{sound, decode}
use Rattle.text_tree.specs.Tree.{too_deep}
use Rattle.text_form.specs.Form.{tree_of}
use Rattle.text_form.specs.Spelling.{plan_text}
use Rattle.text_put.specs.inner.Puts.{Puts, most_places}
use Rattle.text_node.specs.inner.Nodes.{only_if, brackets_at, nest_below, own_bytes, join_at}
use Rattle.text_write.specs.declared.Extent.{Extent}

-- The bytes of later siblings behind what joins them to the first.
unfoldable pub later_bytes : ℕ → Forest → List ℕ → List ℕ
later_bytes above none bytes = []
later_bytes above (tree n c s) bytes = join_at above ++ bytes

-- The bytes of trees at depth d below a node of a kind, in the order of the walk.
unfoldable pub forest_bytes : ℕ → Forest → ℕ → List ℕ
forest_bytes above none d = []
forest_bytes above (tree n c s) d =
    let bracket = brackets_at above (kind_number n) in
    only_if bracket 40
    ++ (own_bytes n d ++ (forest_bytes (kind_number n) c (child_depth n d) ++ (only_if bracket 41 ++ later_bytes above s (forest_bytes above s d))))

-- Whether one of several trees is nested too deep, the first or a later one.
unfoldable pub later_deep : Forest → Bool → Bool
later_deep none deep = false
later_deep (tree n c s) deep = deep

-- Whether more than 64 of `(` and quantifiers stand around one token of the trees, with so many around the whole.
unfoldable pub forest_deep : ℕ → ℕ → Forest → Bool
forest_deep nest above none = ltb 64 nest
forest_deep nest above (tree n c s) =
    forest_deep (nest_below (kind_number n) (brackets_at above (kind_number n)) nest) (kind_number n) c || later_deep s (forest_deep nest above s)

-- What the first node of a part writes before its children, by the fields of its record.
unfoldable pub open_bytes : List ℕ → ℕ → Bool → List ℕ
open_bytes l depth bracket = only_if bracket 40 ++ own_bytes (node_of (kind_field l) (relation_field l) (a_field l) (b_field l)) depth

-- A record whose fields keep their rules, and a place that can be counted on from.
pub record NodePlaced (l : List ℕ) (depth at : ℕ) : Type 0 where
  pub long : record_length ≤ length l
  pub a-low : a_field l ≤ 64
  pub b-low : b_field l ≤ 64
  pub depth3 : depth ≤ 3
  pub room : at + 9 ≤ most_places

-- No node puts more bytes: eight of its own, two brackets, three that join it.
abbrev pub node_most : ℕ
node_most = 13

-- Where the records of some trees stand, and that their text and nesting can be counted.
pub record FormPlaced (l : List ℕ) (i depth nest at : ℕ) : Type 0 where
  pub forest : Forest
  pub up : ℕ
  pub sets : ℕ
  pub is : l ≡ records forest i up
  pub sets16 : sets ≤ 16
  pub rules : every_node (node_rule sets) forest depth ≡ true
  pub nodes : record_length * i + length l ≤ record_length * 512
  pub depth4 : depth ≤ 4
  pub room : at + node_most * node_count forest ≤ most_places
  pub nests : nest + node_count forest ≤ most_places

-- The trees' bytes are put, and the nesting is told.
pub record Formed (above depth nest at : ℕ) (f : Forest) (before after : List ℕ) (r : Extent) : Type 0 where
  pub puts : Puts at (forest_bytes above f depth) before r.end after
  pub deep_is : r.deep ≡ forest_deep nest above f

unfoldable pub Forms : List ℕ → ℕ → ℕ → ℕ → ℕ → ℕ → List ℕ → List ℕ → Extent → Type 0
Forms l i above depth nest at before after r = (f : Forest) (up : ℕ) → l ≡ records f i up → Formed above depth nest at f before after r

-- A table that passed its check, with the counts of its header.
pub record FormReady (bytes : List ℕ) (sets nodes : ℕ) : Type 0 where
  pub plan : Plan
  pub decodes : decode bytes ≡ sound plan
  pub sets-are : sets ≡ plan.sets
  pub nodes-are : nodes ≡ node_count plan.formula

-- The plan's text is put from the start, and its nesting is told.
pub record FormedPlan (P : Plan) (before after : List ℕ) (r : Extent) : Type 0 where
  pub puts : Puts 0 (plan_text P) before r.end after
  pub deep_is : r.deep ≡ too_deep 0 (tree_of P)

unfoldable pub FormsPlan : List ℕ → List ℕ → List ℕ → Extent → Type 0
FormsPlan bytes before after r = (P : Plan) → decode bytes ≡ sound P → FormedPlan P before after r
