-- Which byte strings begin with the table of which plan. What follows the last record is free.
use Rattle.std.specs.Prelude.{◌≡◌, Bool, true, false, cond, ◌&&◌, List, [], ◌∷◌, ◌++◌, ℕ, zero, suc, ◌-◌, ◌*◌, eqb, take, drop}
use Rattle.logic.specs.Formula.{Forest, none, tree, Plan}
use Rattle.table_format.specs.Bytes.{record_length, table_bytes, records_of, kind_field, relation_field, a_field, b_field, end_field, ports_field, sets_field, nodes_field, node_of, encoding}
use Rattle.table_format.specs.Rules.{plan_rule}

-- The table of a plan: the bytes begin with the plan's encoding, and the plan keeps the rules.
pub record TableOf (bytes : List ℕ) (P : Plan) : Type 0 where
  pub rest : List ℕ
  pub is : bytes ≡ encoding P ++ rest
  pub rules : plan_rule P ≡ true

-- The forest that records spell, the first of them numbered i, if each end is right; m bounds the number of records.
unfoldable pub forest_of : ℕ → List ℕ → ℕ → Forest
forest_of zero l i = none
forest_of (suc m) [] i = none
forest_of (suc m) (x ∷ xs) i =
    let l = x ∷ xs in
    let span = record_length * (end_field l - i) in
    tree (node_of (kind_field l) (relation_field l) (a_field l) (b_field l))
    (forest_of m (take (span - record_length) (drop record_length l)) (suc i))
    (forest_of m (drop span l) (end_field l))

-- "Bytes [..] past a plan's own": how many bytes are the plan's own, by the set count and the node count in the header.
unfoldable pub own_bytes : List ℕ → ℕ
own_bytes l = table_bytes (sets_field l) (nodes_field l)

-- The plan that bytes would be the table of.
unfoldable pub candidate : List ℕ → Plan
candidate bytes =
    let nodes = nodes_field bytes in
    record {
      ports = ports_field bytes;
      sets = sets_field bytes;
      formula = forest_of nodes (take (record_length * nodes) (records_of bytes)) 0;
    }

unfoldable pub begins : List ℕ → List ℕ → Bool
begins [] ys = true
begins (x ∷ xs) [] = false
begins (x ∷ xs) (y ∷ ys) = eqb x y && begins xs ys

pub data Decoded : Type 0 where
  broken : Decoded
  sound : Plan → Decoded

-- Ground 11: "plan table breaks a rule above or is cut short". The total decoding: bytes are the table of their candidate or
-- of no plan.
unfoldable pub decode : List ℕ → Decoded
decode bytes =
    cond (begins (encoding (candidate bytes)) bytes && plan_rule (candidate bytes)) (sound (candidate bytes)) broken
