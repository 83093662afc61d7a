-- A part of a table whose records keep the rules, opened: its first record, its children's part and its later siblings'. What every
-- walk over a plan's records rests on. Assumes nothing.
use mathlib.Core.Path.{◌≡◌, sym, ap, ap₂, ◌∙◌}
use mathlib.Core.Bool.{true}
use mathlib.Core.List.{List, ◌++◌}
use Prim.Native.Nat.{ℕ, suc, ◌+◌, ◌-◌, ◌*◌, ◌≤◌, ◌<◌}
use native.Mathlib.Numerals.{add-one}
use native.Mathlib.Omega.{arith}
use lib.ListN.{length}
use borrow.Author.Tests.{leb-true}
use Rattle.logic.specs.Formula.{Node, Forest, none, tree, kind_number, node_count, child_depth}
use Rattle.table_format.specs.Bytes.{record_length, kind_field, relation_field, a_field, b_field, end_field, relation_byte, a_byte, b_byte, node_of, records}
use Rattle.table_format.specs.Rules.{every_node, node_rule, depth_rule, tree_count, arity_rule}
use Rattle.table_format.specs.Decode.{forest_of}
use Rattle.table_format.specs.inner.Tests.{field_rule, kind_depth}
use Rattle.table_format.proofs.Parts.{siblings_of, length-rest-all, one-fits, length-children, end_below, children-below, siblings-below, span-within}
use Rattle.table_format.proofs.Bytes.{record-pos, kind-of-record, relation-of-record, a-of-record, b-of-record, end-of-record}
use Rattle.table_format.proofs.Encoding.{forest-of-records, length-records, node-of-record, children-part, siblings-part}
use Rattle.table_format.proofs.FieldRules.{node-fields, kind-depth}
use Rattle.table_format.proofs.Laid.{kids_of, rest_of}
use Rattle.table_format.proofs.Rooted.{every-node}

-- records name their forest, whatever the parent's number
pub one-forest : (l : List ℕ) (f g : Forest) (i p q : ℕ) → l ≡ records f i p → l ≡ records g i q → f ≡ g
one-forest l f g i p q a b =
    sym (forest-of-records (node_count f + node_count g) f i p (omega arith))
    ∙ ap (λ (x : List ℕ). forest_of (node_count f + node_count g) x i) (sym a ∙ b)
    ∙ forest-of-records (node_count f + node_count g) g i q (omega arith)

-- a record's bytes are not those of no forest
pub not_none : (l : List ℕ) (i up : ℕ) → l ≡ records none i up → record_length ≤ length l → ⊥
unfolding records
not_none l i up q h = omega (arith, ap length q, record-pos)

-- What a part that is not empty begins with: its first node m with its children c, and its later siblings s.
pub record PartOpened (l : List ℕ) (i up depth sets : ℕ) (m : Node) (c s : Forest) (e : ℕ) : Type 0 where
  pub end_is : e ≡ i + suc (node_count c)
  pub kind : kind_field l ≡ kind_number m
  pub node-is : node_of (kind_field l) (relation_field l) (a_field l) (b_field l) ≡ m
  pub fields : field_rule sets depth (kind_field l) (relation_field l) (a_field l) (b_field l) ≡ true
  pub depth3 : depth ≤ 3
  pub below : child_depth m depth ≡ kind_depth (kind_field l) depth
  pub arity : arity_rule (kind_number m) (tree_count c) ≡ true
  pub rules-kids : every_node (node_rule sets) c (child_depth m depth) ≡ true
  pub rules-rest : every_node (node_rule sets) s depth ≡ true
  pub kids : kids_of l i e ≡ records c (i + 1) i
  pub rest : siblings_of record_length (e - i) l ≡ records s e up
  pub long : length l ≡ record_length * node_count (tree m c s)

pub part-opened : (l : List ℕ) (i up depth sets e : ℕ) (m : Node) (c s : Forest) → l ≡ records (tree m c s) i up
    → every_node (node_rule sets) (tree m c s) depth ≡ true → e ≡ end_field l → PartOpened l i up depth sets m c s e
unfolding records depth_rule
part-opened l i up depth sets e m c s is rules en =
    let r = every-node sets m c s depth rules in
    let E = i + suc (node_count c) in
    let t = records c (suc i) i ++ records s E up in
    let q : e ≡ E = en ∙ ap end_field is ∙ end-of-record m up E t in
    let k : kind_field l ≡ kind_number m = ap kind_field is ∙ kind-of-record m up E t in
    let f : field_rule sets depth (kind_number m) (relation_byte m) (a_byte m) (b_byte m) ≡ true = node-fields sets depth m r.0 in
    record {
      end_is = q;
      kind = k;
      node-is = ap (λ (x : List ℕ). node_of (kind_field x) (relation_field x) (a_field x) (b_field x)) is ∙ node-of-record m up E t;
      fields = ap (λ (x : List ℕ). field_rule sets depth (kind_field x) (relation_field x) (a_field x) (b_field x)) is
          ∙ (λ j. field_rule sets depth (kind-of-record m up E t j) (relation-of-record m up E t j) (a-of-record m up E t j) (b-of-record m up E t j)) ∙ f;
      depth3 = leb-true depth 3 r.1;
      below = kind-depth sets depth m r.0 ∙ ap (λ (x : ℕ). kind_depth x depth) (sym k);
      arity = r.2;
      rules-kids = r.4;
      rules-rest = r.5;
      kids = ap₂ (λ (x : ℕ) (y : List ℕ). kids_of y i x) q is ∙ children-part m c s i up
          ∙ ap (λ (x : ℕ). records c x i) (sym (add-one i));
      rest = ap₂ (λ (x : ℕ) (y : List ℕ). siblings_of record_length (x - i) y) q is ∙ siblings-part m c s i up ∙ ap (λ (x : ℕ). records s x up) (sym q);
      long = ap length is ∙ length-records (tree m c s) i up;
    }

-- Where its parts stand in the table, and that both are shorter.
pub record PartSpan (l : List ℕ) (i e : ℕ) : Type 0 where
  pub after : i < e
  pub few : e ≤ 512
  pub within : record_length * (e - i) ≤ length l
  pub kids-long : length (kids_of l i e) ≡ record_length * (e - i) - record_length
  pub rest-long : length (rest_of l i e) ≡ length l - record_length * (e - i)
  pub kids-shorter : length (kids_of l i e) < length l
  pub rest-shorter : length (rest_of l i e) < length l
  pub kids-nodes : record_length * (i + 1) + length (kids_of l i e) ≤ record_length * 512
  pub rest-nodes : record_length * e + length (rest_of l i e) ≤ record_length * 512

pub part-span : (l : List ℕ) (i up depth sets : ℕ) (m : Node) (c s : Forest) (e : ℕ) → PartOpened l i up depth sets m c s e
    → record_length * i + length l ≤ record_length * 512 → PartSpan l i e
unfolding node_count
part-span l i up depth sets m c s e o nodes =
    let q = o.end_is in
    let after : i < e = omega arith in
    let within : record_length * (e - i) ≤ length l = omega (arith, o.long, span-within record_length record-pos (e - i) (node_count (tree m c s)) (omega arith)) in
    let one : record_length ≤ record_length * (e - i) = one-fits record_length record-pos (e - i) (omega arith) in
    let lk = length-children record_length record-pos (e - i) l within in
    let lr = length-rest-all (record_length * (e - i)) l in
    record {
      after = after;
      few = end_below record_length record-pos i e (length l) 512 after within nodes;
      within = within;
      kids-long = lk;
      rest-long = lr;
      kids-shorter = omega (arith, record-pos);
      rest-shorter = omega (arith, record-pos);
      kids-nodes = rw lk (children-below record_length record-pos i e (length l) 512 after within nodes);
      rest-nodes = rw lr (siblings-below record_length record-pos i e (length l) 512 after within nodes);
    }
