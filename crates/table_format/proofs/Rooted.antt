-- A plan's table as one root over its formula, and its bytes part by part. Assumes nothing.
use mathlib.Core.Path.{◌≡◌, refl, sym, ap, ◌∙◌, subst}
use mathlib.Core.Bool.{Bool, true, false, ◌&&◌, not, false≢true}
use mathlib.Core.List.{List, ◌++◌, append_assoc, append-nil}
use Prim.Native.Nat.{ℕ, suc, ◌+◌, ◌-◌, ◌*◌, ◌≤◌, ◌<◌}
use native.Mathlib.Nat.{mul-suc, pow-zero}
use native.Mathlib.Omega.{arith}
use lib.Dec.{eqb, leb}
use lib.ListN.{length, take, drop, length-append}
use lib.Seq.{take_at, drop_at}
use borrow.Author.Tests.{eqb-true, eq-eqb, leb-true, le-leb}
use Rattle.logic.specs.Formula.{Node, Forest, root, all, tree, any, kind_number, and, node_count, or, child_depth, lit, none, Plan}
use Rattle.logic.specs.Cells.{cell_count, own_cells}
use Rattle.logic.proofs.Lists.{and-true}
use Rattle.logic.proofs.Relations.{test-kind-range}
use Rattle.table_format.specs.Bytes.{header_length, record_length, records_from, table_bytes, records_of, kind_field, relation_field, a_field, b_field, parent_field, end_field, marked, version_field, ports_field, sets_field, nodes_field, relation_byte, a_byte, b_byte, record_of, records, header, encoding}
use Rattle.table_format.specs.inner.Fields.{Bytes}
use Rattle.table_format.specs.Rules.{every_node, tree_count, arity_rule, may_nest, nesting_rule, depth_rule, inner_rule, formula_rule, node_rule, most_cells, plan_rule}
use Rattle.table_format.specs.Decode.{TableOf, Decoded, broken, sound, decode}
use Rattle.table_format.specs.inner.Tests.{below_root, header_rule, root_rule, front_rule, Sound}
use Rattle.table_format.proofs.Conjunctions.{two-true, four-true, three-true, all_three}
use Rattle.table_format.proofs.Parts.{one-fits, cancel-children, length-children, parts_join}
use Rattle.table_format.proofs.Bytes.{record-pos, header-within, length-record, kind-of-record, relation-of-record, a-of-record, b-of-record, parent-of-record, end-of-record, length-header, records-of-header, length-records-of, header-marked, version-of-header, ports-of-header, sets-of-header, nodes-of-header, record_is, header-split, records-bytes-of}
use Rattle.table_format.proofs.Encoding.{length-records, decode-sound}

pub sound-length : {l : List ℕ} {i parent d sets above : ℕ} {f : Forest} → Sound l i parent d sets above f → length l ≡ record_length * node_count f
sound-length {i} {parent} {f} s = ap length s.is ∙ length-records f i parent

-- the rules of a tree's own node, of its children and of its siblings
pub every-node : (sets : ℕ) (n : Node) (c s : Forest) (d : ℕ) → every_node (node_rule sets) (tree n c s) d ≡ true
    → (inner_rule sets n d ≡ true) × (depth_rule d ≡ true) × (arity_rule (kind_number n) (tree_count c) ≡ true) × (nesting_rule (kind_number n) c ≡ true)
    × (every_node (node_rule sets) c (child_depth n d) ≡ true) × (every_node (node_rule sets) s d ≡ true)
unfolding every_node node_rule
every-node sets n c s d h =
    let x = two-true (node_rule sets n c d && every_node (node_rule sets) c (child_depth n d)) (every_node (node_rule sets) s d) h in
    let y = two-true (node_rule sets n c d) (every_node (node_rule sets) c (child_depth n d)) x.0 in
    let z = four-true (inner_rule sets n d) (depth_rule d) (arity_rule (kind_number n) (tree_count c)) (nesting_rule (kind_number n) c) y.0 in
    (z.0, z.1, z.2, z.3, y.1, x.1)

-- no kind is refused below the root
pub nested-below-root : (f : Forest) → nesting_rule 0 f ≡ true
unfolding nesting_rule may_nest
nested-below-root none = refl
nested-below-root (tree n c s) = and-true _ _ (ap not (no-clash (eqb 0 (kind_number n)))) (nested-below-root s)
  where
    no-clash : (b : Bool) → (b && leb 3 0 && leb 0 4) ≡ false
    no-clash true = refl
    no-clash false = refl

only-root : (n : Node) → kind_number n ≡ 0 → n ≡ root
unfolding kind_number
only-root root h = refl
only-root all h = absurd (omega arith)
only-root any h = absurd (omega arith)
only-root and h = absurd (omega arith)
only-root or h = absurd (omega arith)
only-root (lit l) h = absurd (omega (arith, test-kind-range l.test))

abbrev pub rooted : ℕ → ℕ → Forest → Plan
rooted u n c = record { ports = u; sets = n; formula = tree root c none }

-- a header, the root's record and what follows it: the encoding of a root over c
abbrev rooted_bytes : ℕ → ℕ → ℕ → List ℕ → List ℕ
rooted_bytes u n k t = header u n k ++ (record_of root 65535 k ++ t)

rooted-encoding : (u n : ℕ) (c : Forest) (rest : List ℕ) → encoding (rooted u n c) ++ rest ≡ rooted_bytes u n (suc (node_count c)) (records c 1 0 ++ rest)
unfolding encoding records node_count
rooted-encoding u n c rest =
    let k : suc (node_count c) + 0 ≡ suc (node_count c) = omega arith in
    let e : 0 + suc (node_count c) ≡ suc (node_count c) = omega arith in
    (λ i. header u n (k i) ++ (record_of root 65535 (e i) ++ append-nil (records c 1 0) i) ++ rest)
    ∙ append_assoc (header u n (suc (node_count c))) (record_of root 65535 (suc (node_count c)) ++ records c 1 0) rest
    ∙ ap (λ (x : List ℕ). header u n (suc (node_count c)) ++ x) (append_assoc (record_of root 65535 (suc (node_count c))) (records c 1 0) rest)

-- What the front of a table says, one by one.
pub record FrontIs (l : List ℕ) : Type 0 where
  pub mark : marked l ≡ true
  pub version : version_field l ≡ 1
  pub ports1 : 1 ≤ ports_field l
  pub ports64 : ports_field l ≤ 64
  pub sets1 : 1 ≤ sets_field l
  pub sets16 : sets_field l ≤ 16
  pub nodes2 : 2 ≤ nodes_field l
  pub nodes512 : nodes_field l ≤ 512
  pub whole : table_bytes (sets_field l) (nodes_field l) ≤ length l
  pub kind : kind_field (records_of l) ≡ 0
  pub relation : relation_field (records_of l) ≡ 0
  pub a : a_field (records_of l) ≡ 0
  pub b : b_field (records_of l) ≡ 0
  pub parent : parent_field (records_of l) ≡ 65535
  pub end_is : end_field (records_of l) ≡ nodes_field l

pub front-is : (l : List ℕ) → front_rule l ≡ true → FrontIs l
unfolding front_rule header_rule root_rule
front-is l h =
    let K = nodes_field l in
    let D = records_of l in
    let u = ports_field l in
    let n = sets_field l in
    let f = three-true (leb header_length (length l) && header_rule l && leb 2 K && leb K 512) (leb (table_bytes n K) (length l)) (root_rule K D) h in
    let c = four-true (leb header_length (length l)) (header_rule l) (leb 2 K) (leb K 512) f.0 in
    let hd = three-true (marked l) (eqb (version_field l) 1) ((leb 1 u && leb u 64) && (leb 1 n && leb n 16)) c.1 in
    let counts = two-true (leb 1 u && leb u 64) (leb 1 n && leb n 16) hd.2 in
    let ports = two-true (leb 1 u) (leb u 64) counts.0 in
    let sets = two-true (leb 1 n) (leb n 16) counts.1 in
    let r = three-true (eqb (kind_field D) 0 && eqb (relation_field D) 0 && eqb (a_field D) 0) (eqb (b_field D) 0) (eqb (parent_field D) 65535 && eqb (end_field D) K) f.2 in
    let fields = three-true (eqb (kind_field D) 0) (eqb (relation_field D) 0) (eqb (a_field D) 0) r.0 in
    let links = two-true (eqb (parent_field D) 65535) (eqb (end_field D) K) r.2 in
    record {
      mark = hd.0;
      version = eqb-true _ _ hd.1;
      ports1 = leb-true _ _ ports.0;
      ports64 = leb-true _ _ ports.1;
      sets1 = leb-true _ _ sets.0;
      sets16 = leb-true _ _ sets.1;
      nodes2 = leb-true _ _ c.2;
      nodes512 = leb-true _ _ c.3;
      whole = leb-true _ _ f.1;
      kind = eqb-true _ _ fields.0;
      relation = eqb-true _ _ fields.1;
      a = eqb-true _ _ fields.2;
      b = eqb-true _ _ r.1;
      parent = eqb-true _ _ links.0;
      end_is = eqb-true _ _ links.1;
    }

pub header-fits : (l : List ℕ) → FrontIs l → header_length ≤ length l
header-fits l f = omega (arith, f.whole, header-within (sets_field l))

is_front : (l : List ℕ) → FrontIs l → front_rule l ≡ true
unfolding front_rule header_rule root_rule
is_front l f =
    all_three _ _ _
    (and-true _ _
    (all_three _ _ _ (le-leb header_length (length l) (header-fits l f))
    (all_three _ _ _ f.mark (eq-eqb _ _ f.version)
    (and-true _ _ (and-true _ _ (le-leb _ _ f.ports1) (le-leb _ _ f.ports64)) (and-true _ _ (le-leb _ _ f.sets1) (le-leb _ _ f.sets16))))
    (le-leb _ _ f.nodes2)) (le-leb _ _ f.nodes512))
    (le-leb _ _ f.whole)
    (all_three _ _ _ (all_three _ _ _ (eq-eqb _ _ f.kind) (eq-eqb _ _ f.relation) (eq-eqb _ _ f.a)) (eq-eqb _ _ f.b)
    (and-true _ _ (eq-eqb _ _ f.parent) (eq-eqb _ _ f.end_is)))

-- the part of a table whose front is right
module _ (l : List ℕ) (f : FrontIs l) where
  after-header : record_length * nodes_field l ≤ length (records_of l)
  after-header = omega (arith, f.whole, length-records-of l)

  root-fits : record_length ≤ length (records_of l)
  root-fits = omega (arith, after-header, one-fits record_length record-pos (nodes_field l) (omega (arith, f.nodes2)))

  pub length-below : length (below_root l (nodes_field l)) ≡ record_length * nodes_field l - record_length
  length-below = length-children record_length record-pos (nodes_field l) (records_of l) after-header

  pub count-below : {sets : ℕ} (c : Forest) → Sound (below_root l (nodes_field l)) 1 0 0 sets 0 c → nodes_field l ≡ suc (node_count c)
  count-below c s = cancel-children record_length record-pos (node_count c) (nodes_field l) (sym (sound-length s) ∙ length-below) (omega (arith, f.nodes2))

-- what the rules of a root over c come to
pub record RootedIs (u n : ℕ) (c : Forest) : Type 0 where
  pub ports1 : 1 ≤ u
  pub ports64 : u ≤ 64
  pub sets1 : 1 ≤ n
  pub sets16 : n ≤ 16
  pub nodes2 : 2 ≤ suc (node_count c)
  pub nodes512 : suc (node_count c) ≤ 512
  pub one : tree_count c ≡ 1
  pub rules : every_node (node_rule n) c 0 ≡ true
  pub few : cell_count u c 0 < 1048576

pub rooted-cells : (u n : ℕ) (c : Forest) → own_cells (rooted u n c) ≡ suc (cell_count u c 0)
unfolding own_cells cell_count child_depth
rooted-cells u n c = omega (arith, pow-zero u)

pub rooted-nodes : (c : Forest) → node_count (tree root c none) ≡ suc (node_count c)
unfolding node_count
rooted-nodes c = omega arith

rooted-rule : (u n : ℕ) (c : Forest) → RootedIs u n c → plan_rule (rooted u n c) ≡ true
unfolding plan_rule formula_rule arity_rule kind_number tree_count most_cells
rooted-rule u n c r =
    and-true _ _
    (and-true _ _
    (and-true _ _
    (and-true _ _
    (and-true _ _ (and-true _ _ (and-true _ _ (le-leb _ _ r.ports1) (le-leb _ _ r.ports64)) (le-leb _ _ r.sets1)) (le-leb _ _ r.sets16))
    (le-leb 2 (node_count (tree root c none)) (omega (arith, rooted-nodes c, r.nodes2)))) (le-leb (node_count (tree root c none)) 512 (omega (arith, rooted-nodes c, r.nodes512))))
    (and-true _ _ (eq-eqb _ _ r.one) r.rules))
    (le-leb (own_cells (rooted u n c)) 1048576 (omega (arith, rooted-cells u n c, r.few)))

rule-rooted : (u n : ℕ) (c : Forest) → plan_rule (rooted u n c) ≡ true → RootedIs u n c
unfolding plan_rule formula_rule arity_rule kind_number tree_count most_cells
rule-rooted u n c h =
    let k = node_count (tree root c none) in
    let F = eqb (tree_count c) 1 && every_node (node_rule n) c 0 in
    let a = two-true (leb 1 u && leb u 64 && leb 1 n && leb n 16 && leb 2 k && leb k 512 && F) _ h in
    let b = two-true (leb 1 u && leb u 64 && leb 1 n && leb n 16 && leb 2 k && leb k 512) F a.0 in
    let d = two-true (leb 1 u && leb u 64 && leb 1 n && leb n 16 && leb 2 k) (leb k 512) b.0 in
    let e = two-true (leb 1 u && leb u 64 && leb 1 n && leb n 16) (leb 2 k) d.0 in
    let f = two-true (leb 1 u && leb u 64 && leb 1 n) (leb n 16) e.0 in
    let g = two-true (leb 1 u && leb u 64) (leb 1 n) f.0 in
    let i = two-true (leb 1 u) (leb u 64) g.0 in
    let j = two-true (eqb (tree_count c) 1) (every_node (node_rule n) c 0) b.1 in
    record {
      ports1 = leb-true _ _ i.0;
      ports64 = leb-true _ _ i.1;
      sets1 = leb-true _ _ g.1;
      sets16 = leb-true _ _ f.1;
      nodes2 = omega (arith, rooted-nodes c, leb-true 2 k e.1);
      nodes512 = omega (arith, rooted-nodes c, leb-true k 512 d.1);
      one = eqb-true _ _ j.0;
      rules = j.1;
      few = omega (arith, rooted-cells u n c, leb-true (own_cells (rooted u n c)) 1048576 a.1);
    }

-- a sound front over sound records is a plan's table
pub table_of : (l : List ℕ) (c : Forest) → FrontIs l → Bytes l → Sound (below_root l (nodes_field l)) 1 0 0 (sets_field l) 0 c → tree_count c ≡ 1
    → cell_count (ports_field l) c 0 < 1048576 → TableOf l (rooted (ports_field l) (sets_field l) c)
unfolding kind_number relation_byte a_byte b_byte
table_of l c f b s t few =
    let D = records_of l in
    let K = nodes_field l in
    let u = ports_field l in
    let n = sets_field l in
    let kk = count-below l f c s in
    let rest = drop (record_length * K) D in
    record {
      rest = rest;
      is = header-split l b (omega (arith, f.whole)) f.mark f.version
          ∙ ap (λ (x : List ℕ). header u n K ++ x)
          (record_is root 65535 K D (records-bytes-of l b) (root-fits l f) f.kind f.relation f.a f.b f.parent f.end_is
          ∙ ap (λ (x : List ℕ). record_of root 65535 K ++ x)
          (parts_join record_length record-pos K D (after-header l f) (omega (arith, f.nodes2))
          ∙ ap (λ (x : List ℕ). x ++ rest) s.is))
          ∙ ap (λ (x : ℕ). rooted_bytes u n x (records c 1 0 ++ rest)) kk
          ∙ sym (rooted-encoding u n c rest);
      rules = rooted-rule u n c record {
        ports1 = f.ports1;
        ports64 = f.ports64;
        sets1 = f.sets1;
        sets16 = f.sets16;
        nodes2 = omega (arith, f.nodes2);
        nodes512 = omega (arith, f.nodes512);
        one = t;
        rules = s.rules;
        few = few;
      };
    }

-- What the table of a plan looks like.
pub record OpenTable (l : List ℕ) : Type 0 where
  pub below : Forest
  pub front : front_rule l ≡ true
  pub parts : Sound (below_root l (nodes_field l)) 1 0 0 (sets_field l) 0 below
  pub one : tree_count below ≡ 1
  pub few : cell_count (ports_field l) below 0 < 1048576

module _ (u n : ℕ) (c : Forest) (rest : List ℕ) where
  abbrev k : ℕ
  k = suc (node_count c)

  abbrev tail : List ℕ
  tail = records c 1 0 ++ rest

  abbrev root-on : List ℕ
  root-on = record_of root 65535 k ++ tail

  abbrev bytes : List ℕ
  bytes = rooted_bytes u n k tail

  past-header : records_of bytes ≡ root-on
  past-header = records-of-header u n k root-on

  bytes-long : table_bytes (sets_field bytes) k ≤ length bytes
  bytes-long = omega (
    arith,
    ap records_from (sets-of-header u n k root-on),
    length-append (header u n k) root-on,
    length-header u n k,
    length-append (record_of root 65535 k) tail,
    length-record root 65535 k,
    length-append (records c 1 0) rest,
    length-records c 1 0,
    mul-suc record_length (node_count c),
  )

  bytes_below : below_root bytes k ≡ records c 1 0
  bytes_below =
      let e : record_length * node_count c ≡ record_length * k - record_length = omega (arith, mul-suc record_length (node_count c)) in
      ap (λ (x : List ℕ). take (record_length * k - record_length) x) (ap (drop record_length) past-header ∙ drop_at (record_of root 65535 k) tail record_length (length-record root 65535 k))
      ∙ take_at (records c 1 0) rest (record_length * k - record_length) (length-records c 1 0 ∙ e)

  -- where the records below the root stand in the table of a root over c
  pub rooted-long : (let l = encoding (rooted u n c) ++ rest in table_bytes (sets_field l) k ≤ length l)
  rooted-long = rw (rooted-encoding u n c rest) bytes-long

  pub rooted-below : below_root (encoding (rooted u n c) ++ rest) k ≡ records c 1 0
  rooted-below = ap (λ (x : List ℕ). below_root x k) (rooted-encoding u n c rest) ∙ bytes_below

  open-bytes : RootedIs u n c → OpenTable bytes
  unfolding kind_number relation_byte a_byte b_byte
  open-bytes r =
      let nodes : nodes_field bytes ≡ k = nodes-of-header u n k root-on in
      let ports : ports_field bytes ≡ u = ports-of-header u n k root-on in
      let sets : sets_field bytes ≡ n = sets-of-header u n k root-on in
      record {
        below = c;
        front = is_front bytes record {
          mark = header-marked u n k root-on;
          version = version-of-header u n k root-on;
          ports1 = omega (arith, ports, r.ports1);
          ports64 = omega (arith, ports, r.ports64);
          sets1 = omega (arith, sets, r.sets1);
          sets16 = omega (arith, sets, r.sets16);
          nodes2 = omega (arith, nodes, r.nodes2);
          nodes512 = omega (arith, nodes, r.nodes512);
          whole = rw nodes bytes-long;
          kind = ap kind_field past-header ∙ kind-of-record root 65535 k tail;
          relation = ap relation_field past-header ∙ relation-of-record root 65535 k tail;
          a = ap a_field past-header ∙ a-of-record root 65535 k tail;
          b = ap b_field past-header ∙ b-of-record root 65535 k tail;
          parent = ap parent_field past-header ∙ parent-of-record root 65535 k tail;
          end_is = ap end_field past-header ∙ end-of-record root 65535 k tail ∙ sym nodes;
        };
        parts = record {
          is = ap (below_root bytes) nodes ∙ bytes_below;
          rules = ap (λ (x : ℕ). every_node (node_rule x) c 0) sets ∙ r.rules;
          nested = nested-below-root c;
        };
        one = r.one;
        few = rw ports r.few;
      }

open-rooted : (u n : ℕ) (c : Forest) (rest : List ℕ) → RootedIs u n c → OpenTable (encoding (rooted u n c) ++ rest)
open-rooted u n c rest r = subst OpenTable (sym (rooted-encoding u n c rest)) (open-bytes u n c rest r)

no-trees : (f : Forest) → tree_count f ≡ 0 → f ≡ none
unfolding tree_count
no-trees none h = refl
no-trees (tree n c s) h = absurd (omega arith)

formula-part : (P : Plan) → plan_rule P ≡ true → formula_rule P.sets P.formula ≡ true
unfolding plan_rule
formula-part P h =
    (two-true (leb 1 P.ports && leb P.ports 64 && leb 1 P.sets && leb P.sets 16 && leb 2 (node_count P.formula) && leb (node_count P.formula) 512)
    (formula_rule P.sets P.formula) (two-true _ (leb (own_cells P) most_cells) h).0).1

-- a formula that keeps the rules is a root over one tree
formula-rooted : (sets : ℕ) (f : Forest) → formula_rule sets f ≡ true → (c : Forest) × (f ≡ tree root c none)
unfolding formula_rule
formula-rooted sets none h = absurd (false≢true h)
formula-rooted sets (tree n c s) h =
    let a = two-true (eqb (kind_number n) 0 && eqb (tree_count s) 0 && arity_rule (kind_number n) (tree_count c)) (every_node (node_rule sets) c 0) h in
    let b = two-true (eqb (kind_number n) 0 && eqb (tree_count s) 0) (arity_rule (kind_number n) (tree_count c)) a.0 in
    let d = two-true (eqb (kind_number n) 0) (eqb (tree_count s) 0) b.0 in
    let r = only-root n (eqb-true _ _ d.0) in
    let z = no-trees s (eqb-true _ _ d.1) in
    (c, λ i. tree (r i) c (z i))

pub is-rooted : (P : Plan) → plan_rule P ≡ true → (c : Forest) × (P ≡ rooted P.ports P.sets c)
is-rooted P h =
    let r = formula-rooted P.sets P.formula (formula-part P h) in
    (r.0, λ i. record { ports = P.ports; sets = P.sets; formula = r.1 i })

pub rooted-is : (P : Plan) (h : plan_rule P ≡ true) → RootedIs P.ports P.sets (is-rooted P h).0
rooted-is P h = rule-rooted P.ports P.sets (is-rooted P h).0 (ap plan_rule (sym (is-rooted P h).1) ∙ h)

pub open-table : (l : List ℕ) (P : Plan) → TableOf l P → OpenTable l
open-table l P t =
    let c = is-rooted P t.rules in
    subst OpenTable (sym (t.is ∙ ap (λ (Q : Plan). encoding Q ++ t.rest) c.1))
    (open-rooted P.ports P.sets c.0 t.rest (rooted-is P t.rules))

-- a table of no plan
pub refused : (l : List ℕ) → ((P : Plan) → TableOf l P → ⊥) → decode l ≡ broken
refused l h = go (decode l) refl
  where
    go : (x : Decoded) → decode l ≡ x → x ≡ broken
    go broken e = refl
    go (sound P) e = absurd (h P (decode-sound l P e))
