-- The rules of a record and of the header as tests of their bytes.
use Rattle.std.specs.Prelude.{◌≡◌, Bool, true, false, cond, ◌&&◌, List, ℕ, ◌+◌, ◌-◌, ◌*◌, ◌^◌, ◌≤◌, ◌<◌, eqb, leb, ltb, length, take, drop}
use Rattle.logic.specs.Formula.{Forest}
use Rattle.table_format.specs.Bytes.{header_length, record_length, table_bytes, records_of, kind_field, relation_field, a_field, b_field, parent_field, end_field, marked, version_field, ports_field, sets_field, nodes_field, records}
use Rattle.table_format.specs.Rules.{every_node, may_nest, nesting_rule, depth_rule, node_rule}

-- The rules of a node's first four bytes, by its kind: what an encoding and the rule of an inner node ask of them.
unfoldable pub field_rule : ℕ → ℕ → ℕ → ℕ → ℕ → ℕ → Bool
field_rule sets d kind r a b =
    cond (eqb kind 0) false
    (cond (leb kind 4) (eqb r 0 && eqb a 0 && eqb b 0)
    (cond (leb kind 6) (eqb r 0 && ltb a d && ltb b sets)
    (cond (eqb kind 7) (leb r 5 && ltb a d && ltb b d)
    (cond (eqb kind 8) (leb r 5 && ltb a sets && leb b 64)
    false))))

-- The rules of a whole record but its end.
unfoldable pub record_rule : ℕ → ℕ → ℕ → ℕ → List ℕ → Bool
record_rule sets d above parent l =
    field_rule sets d (kind_field l) (relation_field l) (a_field l) (b_field l) && depth_rule d && may_nest above (kind_field l)
    && eqb (parent_field l) parent

-- The depth and the cells of the children of an inner node of a kind, where it has depth d and width cells.
unfoldable pub kind_depth : ℕ → ℕ → ℕ
kind_depth kind d = cond (leb kind 2) (d + 1) d

unfoldable pub kind_width : ℕ → ℕ → ℕ → ℕ
kind_width kind width ports = cond (leb kind 2) (width * ports) width

-- The uses of an inner node by its kind, a and b; they fit where the fields keep the rules.
unfoldable pub kind_uses : ℕ → ℕ → ℕ → ℕ
kind_uses kind a b =
    cond (leb kind 4) 0 (cond (leb kind 6) (2 ^ (4 * b + a)) (cond (eqb kind 7) 0 (2 ^ (4 * a + 3))))

pub record UsesFit (kind a b : ℕ) : Type 0 where
  pub variable : 4 < kind → kind ≤ 6 → a ≤ 2
  pub set : 4 < kind → kind ≤ 6 → b ≤ 15
  pub sized : 7 < kind → a ≤ 15

-- The part is the records of a forest that keeps the rules.
pub record Sound (l : List ℕ) (i parent d sets above : ℕ) (f : Forest) : Type 0 where
  pub is : l ≡ records f i parent
  pub rules : every_node (node_rule sets) f d ≡ true
  pub nested : nesting_rule above f ≡ true

-- The records below the root of a table of so many nodes.
abbrev pub below_root : List ℕ → ℕ → List ℕ
below_root l nodes = take (record_length * nodes - record_length) (drop record_length (records_of l))

-- The rules of a header but its node count, and of the root's record where the plan has so many nodes.
unfoldable pub header_rule : List ℕ → Bool
header_rule l =
    marked l && eqb (version_field l) 1
    && ((leb 1 (ports_field l) && leb (ports_field l) 64) && (leb 1 (sets_field l) && leb (sets_field l) 16))

unfoldable pub root_rule : ℕ → List ℕ → Bool
root_rule nodes l =
    (eqb (kind_field l) 0 && eqb (relation_field l) 0 && eqb (a_field l) 0) && eqb (b_field l) 0
    && (eqb (parent_field l) 65535 && eqb (end_field l) nodes)

-- The header and the root's record keep the rules, and no record is cut off.
unfoldable pub front_rule : List ℕ → Bool
front_rule l =
    let nodes = nodes_field l in
    leb header_length (length l) && header_rule l && leb 2 nodes && leb nodes 512 && leb (table_bytes (sets_field l) nodes) (length l)
    && root_rule nodes (records_of l)
