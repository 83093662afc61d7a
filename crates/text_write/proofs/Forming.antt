-- Forming the text of some trees, from what the node's functions and the two calls put. Assumes nothing.
use mathlib.Core.Path.{◌≡◌, refl, sym, ap, ap₂, ◌∙◌, subst}
use mathlib.Core.Bool.{Bool, true, false, cond, ◌||◌}
use mathlib.Core.List.{List, [], ◌∷◌, ◌++◌, append_assoc, append-nil}
use Prim.Native.Nat.{ℕ, suc, ◌+◌, ◌-◌, ◌*◌, ◌≤◌, ◌<◌}
use native.Mathlib.Nat.{mul-add, suc-add}
use native.Mathlib.Omega.{arith}
use lib.Dec.{ltb, leb}
use lib.ListN.{length, length-append}
use borrow.Author.Tests.{ltb-true, leb-true}
use Rattle.logic.specs.Formula.{Test, isin, notin, port, size, Node, root, all, any, and, or, lit, Forest, none, tree, kind_number, node_count, child_depth}
use Rattle.table_format.specs.Bytes.{record_length, kind_field, relation_field, a_field, b_field, end_field, a_byte, b_byte, test_a, test_b, node_of, records}
use Rattle.table_format.specs.Rules.{every_node, node_rule, test_rule, literal_rule, inner_rule}
use Rattle.table_format.specs.inner.Tests.{kind_depth}
use Rattle.table_format.proofs.Parts.{rest_all, some-record, one-fits}
use Rattle.table_format.proofs.Bytes.{record-pos}
use Rattle.table_format.proofs.Conjunctions.{two-true}
use Rattle.table_format.proofs.Encoding.{length-records}
use Rattle.table_format.proofs.FieldRules.{fields-node, kind-depth-le}
use Rattle.table_format.proofs.Laid.{kids_of, rest_of}
use Rattle.table_format.proofs.Opened.{one-forest, not_none, PartOpened, part-opened, part-span}
use Rattle.text_form.specs.Form.{variable_byte, lettered_test}
use Rattle.text_form.specs.Spelling.{relation_bytes, spaced, constant_bytes, test_bytes}
use Rattle.text_put.specs.inner.Puts.{Puts, most_places}
use Rattle.text_put.proofs.Digits.{digits-few}
use Rattle.text_put.proofs.Putting.{puts_none, puts-more}
use Rattle.text_node.specs.inner.Nodes.{only_if, brackets_at, nest_below, quantifier_bytes, own_bytes, join_at}
use Rattle.text_node.proofs.Nodes.{spaced-few}
use Rattle.text_write.specs.declared.Extent.{Extent}
use Rattle.text_write.specs.inner.Forming.{later_bytes, forest_bytes, later_deep, forest_deep, open_bytes, NodePlaced, FormPlaced, Formed, Forms}

-- how many bytes a node puts

pub only-few : (w : Bool) (b : ℕ) → length (only_if w b) ≤ 1
unfolding only_if
only-few true b = omega arith
only-few false b = omega arith

test-few : (t : Test) → length (test_bytes (lettered_test t)) ≤ 8
unfolding test_bytes lettered_test constant_bytes
test-few (isin v S) = omega arith
test-few (notin v S) = omega arith
test-few (port r v w) = omega (arith, spaced-few r, length-append (spaced (relation_bytes r)) (variable_byte w ∷ []))
test-few (size r S c) = omega (arith, spaced-few r, digits-few 2 c, length-append (spaced (relation_bytes r)) (constant_bytes c))

pub own-few : (n : Node) (d : ℕ) → length (own_bytes n d) ≤ 8
unfolding own_bytes quantifier_bytes
own-few root d = omega arith
own-few all d = omega arith
own-few any d = omega arith
own-few and d = omega arith
own-few or d = omega arith
own-few (lit l) d = test-few l.test

pub join-few : (above : ℕ) → length (join_at above) ≡ 3
unfolding join_at
join-few above = refl

later-few : (above : ℕ) (s : Forest) (bytes : List ℕ) → length (later_bytes above s bytes) ≤ 3 + length bytes
unfolding later_bytes
later-few above none bytes = omega arith
later-few above (tree n c s) bytes = omega (arith, length-append (join_at above) bytes, join-few above)

-- no node puts more than 13
bytes-few : (above : ℕ) (f : Forest) (d : ℕ) → length (forest_bytes above f d) ≤ 13 * node_count f
unfolding forest_bytes node_count
bytes-few above none d = omega arith
bytes-few above (tree n c s) d =
    let w = brackets_at above (kind_number n) in
    let C = forest_bytes (kind_number n) c (child_depth n d) in
    let S = forest_bytes above s d in
    let L = later_bytes above s S in
    omega (
      arith,
      only-few w 40,
      only-few w 41,
      own-few n d,
      bytes-few (kind_number n) c (child_depth n d),
      bytes-few above s d,
      later-few above s S,
      length-append (only_if w 40) (own_bytes n d ++ (C ++ (only_if w 41 ++ L))),
      length-append (own_bytes n d) (C ++ (only_if w 41 ++ L)),
      length-append C (only_if w 41 ++ L),
      length-append (only_if w 41) L,
    )

-- the fields of a node that keeps its rules are low

test_low : (sets d : ℕ) (t : Test) → sets ≤ 16 → d ≤ 3 → test_rule sets d t ≡ true → (test_a t ≤ 64) × (test_b t ≤ 64)
unfolding test_rule test_a test_b
test_low sets d (isin v S) n h e = let p = two-true (ltb v d) (ltb S sets) e in (omega (arith, ltb-true v d p.0), omega (arith, ltb-true S sets p.1))
test_low sets d (notin v S) n h e = let p = two-true (ltb v d) (ltb S sets) e in (omega (arith, ltb-true v d p.0), omega (arith, ltb-true S sets p.1))
test_low sets d (port r v w) n h e = let p = two-true (ltb v d) (ltb w d) e in (omega (arith, ltb-true v d p.0), omega (arith, ltb-true w d p.1))
test_low sets d (size r S c) n h e = let p = two-true (ltb S sets) (leb c 64) e in (omega (arith, ltb-true S sets p.0), leb-true c 64 p.1)

node-low : (sets d : ℕ) (n : Node) → sets ≤ 16 → d ≤ 3 → inner_rule sets n d ≡ true → (a_byte n ≤ 64) × (b_byte n ≤ 64)
unfolding a_byte b_byte inner_rule literal_rule
node-low sets d root n h e = (omega arith, omega arith)
node-low sets d all n h e = (omega arith, omega arith)
node-low sets d any n h e = (omega arith, omega arith)
node-low sets d and n h e = (omega arith, omega arith)
node-low sets d or n h e = (omega arith, omega arith)
node-low sets d (lit l) n h e = test_low sets d l.test n h e

pub nest-few : (kind : ℕ) (w : Bool) (nest : ℕ) → nest_below kind w nest ≤ nest + 1
unfolding nest_below
nest-few kind true nest = omega arith
nest-few kind false nest = go (leb kind 2)
  where
    go : (t : Bool) → cond t (suc nest) nest ≤ nest + 1
    go true = omega arith
    go false = omega arith

-- no records: nothing is put
pub form-none : (l : List ℕ) (i above depth nest at : ℕ) (out : List ℕ) (r : Extent) → length l < record_length → r.end ≡ at → r.deep ≡ ltb 64 nest
    → Forms l i above depth nest at out out r
unfolding Forms records forest_bytes forest_deep node_count
form-none l i above depth nest at out r h e d none up is = record { puts = rw e (puts_none at out); deep_is = d }
form-none l i above depth nest at out r h e d (tree m c s) up is =
    absurd (omega (arith, some-record record_length record-pos (length l) (node_count c + node_count s) (ap length is ∙ length-records (tree m c s) i up ∙ ap (λ (x : ℕ). record_length * x) (suc-add (node_count c) (node_count s)))))

-- What the code needs before each call.
pub record FormFacts (l : List ℕ) (i depth nest at e kind : ℕ) : Type 0 where
  pub after : i < e
  pub few : e ≤ 512
  pub within : record_length * (e - i) ≤ length l
  pub kids-shorter : length (kids_of l i e) < length l
  pub rest-shorter : length (rest_of l i e) < length l
  pub node : NodePlaced l depth at
  pub nest-room : nest + 1 ≤ most_places
  pub kids : (below around inner : ℕ) → below ≡ kind_depth kind depth → around ≤ nest + 1 → inner ≤ at + 9 → FormPlaced (kids_of l i e) (i + 1) below around inner
  pub kids-end : (below around inner : ℕ) (x y : List ℕ) (r : Extent) → below ≡ kind_depth kind depth → inner ≤ at + 9 → Forms (kids_of l i e) (i + 1) kind below around inner x y r
      → (r.end + 4 ≤ most_places) × ((next : ℕ) → next ≤ r.end + 4 → FormPlaced (rest_of l i e) e depth nest next)

pub form-facts : (l : List ℕ) (i depth nest at : ℕ) → FormPlaced l i depth nest at → record_length ≤ length l → (e : ℕ) → e ≡ end_field l
    → (kind : ℕ) → kind ≡ kind_field l → FormFacts l i depth nest at e kind
unfolding node_count Forms
form-facts l i depth nest at p long e en kind ki = rw ki (go p.forest refl)
  where
    go : (f : Forest) → p.forest ≡ f → FormFacts l i depth nest at e (kind_field l)
    go none q = absurd (not_none l i p.up (p.is ∙ ap (λ (x : Forest). records x i p.up) q) long)
    go (tree m c s) q =
        let is = p.is ∙ ap (λ (x : Forest). records x i p.up) q in
        let o = part-opened l i p.up depth p.sets e m c s is (ap (λ (x : Forest). every_node (node_rule p.sets) x depth) (sym q) ∙ p.rules) en in
        let sp = part-span l i p.up depth p.sets m c s e o p.nodes in
        let room : at + 13 * node_count (tree m c s) ≤ 65536 = rw q at p.room in
        let nests : nest + node_count (tree m c s) ≤ 65536 = rw q at p.nests in
        let n = fields-node p.sets depth (kind_field l) (relation_field l) (a_field l) (b_field l) o.fields in
        let low = node-low p.sets depth (node_of (kind_field l) (relation_field l) (a_field l) (b_field l)) p.sets16 o.depth3 n.inner in
        record {
          after = sp.after;
          few = sp.few;
          within = sp.within;
          kids-shorter = sp.kids-shorter;
          rest-shorter = sp.rest-shorter;
          node = record { long = long; a-low = rw n.a-is at low.0; b-low = rw n.b-is at low.1; depth3 = o.depth3; room = omega arith };
          nest-room = omega arith;
          kids = λ below around inner bd ar inn. record {
            forest = c;
            up = i;
            sets = p.sets;
            is = o.kids;
            sets16 = p.sets16;
            rules = ap (every_node (node_rule p.sets) c) (bd ∙ sym o.below) ∙ o.rules-kids;
            nodes = sp.kids-nodes;
            depth4 = omega (arith, kind-depth-le (kind_field l) depth, o.depth3);
            room = omega arith;
            nests = omega arith;
          };
          kids-end = λ below around inner x y r bd inn K.
              let F = K c i o.kids in
              let kids-most : r.end ≤ at + 9 + 13 * node_count c = omega (arith, F.puts.end_is, bytes-few (kind_field l) c below) in (
                omega arith,
                λ next nx. record {
                  forest = s;
                  up = p.up;
                  sets = p.sets;
                  is = rest_all (record_length * (e - i)) l ∙ o.rest;
                  sets16 = p.sets16;
                  rules = o.rules-rest;
                  nodes = sp.rest-nodes;
                  depth4 = p.depth4;
                  room = omega arith;
                  nests = omega arith;
                },
              );
        }

-- a bracket and a node's own bytes have at most nine
pub open-few : (l : List ℕ) (depth : ℕ) (w : Bool) → length (open_bytes l depth w) ≤ 9
unfolding open_bytes
open-few l depth w =
    let n = node_of (kind_field l) (relation_field l) (a_field l) (b_field l) in
    omega (arith, only-few w 40, own-few n depth, length-append (only_if w 40) (own_bytes n depth))

-- what a node's record puts, from its two parts
pub open-put : (l : List ℕ) (depth : ℕ) (w : Bool) (at own end : ℕ) (out x out' : List ℕ) (kind relation a b : ℕ) → kind ≡ kind_field l → relation ≡ relation_field l → a ≡ a_field l
    → b ≡ b_field l → Puts at (only_if w 40) out own x → Puts own (own_bytes (node_of kind relation a b) depth) x end out' → Puts at (open_bytes l depth w) out end out'
unfolding open_bytes
open-put l depth w at own end out x out' kind relation a b k r p q A B =
    rw (← k, ← r, ← p, ← q) (puts-more at out (only_if w 40) (own_bytes (node_of kind relation a b) depth) own end x out' A B)

-- The first tree of a part is put: what opens it, its children, its bracket.
pub record FirstPut (l : List ℕ) (i above depth nest at e kind : ℕ) (out v : List ℕ) (closed : ℕ) (deep : Bool) : Type 0 where
  pub bracket : Bool
  pub below : ℕ
  pub around : ℕ
  pub inner : ℕ
  pub y : List ℕ
  pub z : List ℕ
  pub kids : Extent
  pub kind-is : kind ≡ kind_field l
  pub end_is : e ≡ end_field l
  pub bracket-is : bracket ≡ brackets_at above kind
  pub below-is : below ≡ kind_depth kind depth
  pub around-is : around ≡ nest_below kind bracket nest
  pub opened : Puts at (open_bytes l depth bracket) out inner y
  pub kids-put : Forms (kids_of l i e) (i + 1) kind below around inner y z kids
  pub closed-put : Puts kids.end (only_if bracket 41) z closed v
  pub deep_is : deep ≡ kids.deep

-- the same over the opened part
first-put : (l : List ℕ) (i above depth nest at e kind : ℕ) (out v : List ℕ) (closed : ℕ) (deep : Bool) (up sets : ℕ) (m : Node) (c s : Forest)
    → PartOpened l i up depth sets m c s e → FirstPut l i above depth nest at e kind out v closed deep
    → (let w = brackets_at above (kind_number m) in
    Puts at (only_if w 40 ++ (own_bytes m depth ++ (forest_bytes (kind_number m) c (child_depth m depth) ++ only_if w 41))) out closed v
    × (deep ≡ forest_deep (nest_below (kind_number m) w nest) (kind_number m) c))
unfolding Forms open_bytes
first-put l i above depth nest at e kind out v closed deep up sets m c s o F =
    let k : kind ≡ kind_number m = F.kind-is ∙ o.kind in
    let w : F.bracket ≡ brackets_at above (kind_number m) = F.bracket-is ∙ ap (brackets_at above) k in
    let d : F.below ≡ child_depth m depth = F.below-is ∙ ap (λ (x : ℕ). kind_depth x depth) F.kind-is ∙ sym o.below in
    let K = F.kids-put c i o.kids in
    let n = node_of (kind_field l) (relation_field l) (a_field l) (b_field l) in
    let T = forest_bytes kind c F.below ++ only_if F.bracket 41 in
    let A = puts-more at out _ T F.inner closed F.y v F.opened (puts-more F.inner F.y _ _ F.kids.end closed F.z v K.puts F.closed-put) in
    let B : Puts at (only_if F.bracket 40 ++ (own_bytes n depth ++ T)) out closed v = subst (λ (b : List ℕ). Puts at b out closed v) (append_assoc (only_if F.bracket 40) (own_bytes n depth) T) A in (
      rw (o.node-is, k, d, w) at B,
      F.deep_is ∙ K.deep_is ∙ ap (λ (x : ℕ). forest_deep x kind c) F.around-is ∙ (λ j. forest_deep (nest_below (k j) (w j) nest) (k j) c),
    )

pub or-none : (b : Bool) → (b || false) ≡ b
or-none true = refl
or-none false = refl

-- a part is longer than its first tree exactly where a sibling follows
module _ (l : List ℕ) (i up depth sets e : ℕ) (m : Node) (c : Forest) where
  span-is : (s : Forest) → PartOpened l i up depth sets m c s e → length l ≡ record_length * (e - i) + record_length * node_count s
  unfolding node_count
  span-is s o = let q : suc (node_count c) ≡ e - i = omega (arith, o.end_is) in o.long ∙ mul-add record_length (suc (node_count c)) (node_count s) ∙ ap (λ (x : ℕ). record_length * x + record_length * node_count s) q

  not_more : PartOpened l i up depth sets m c none e → record_length * (e - i) < length l → ⊥
  unfolding node_count
  not_more o h = omega (arith, span-is none o)

  not_last : (n : Node) (d t : Forest) → PartOpened l i up depth sets m c (tree n d t) e → length l ≤ record_length * (e - i) → ⊥
  unfolding node_count
  not_last n d t o h = omega (arith, record-pos, span-is (tree n d t) o, one-fits record_length record-pos (node_count (tree n d t)) (omega arith))

-- what is put behind four pieces
puts-around : (at : ℕ) (out : List ℕ) (closed : ℕ) (v : List ℕ) (end : ℕ) (t A B C D E : List ℕ) → Puts at (A ++ (B ++ (C ++ D))) out closed v → Puts closed E v end t
    → Puts at (A ++ (B ++ (C ++ (D ++ E)))) out end t
puts-around at out closed v end t A B C D E P Q =
    let e : (A ++ (B ++ (C ++ D))) ++ E ≡ A ++ (B ++ (C ++ (D ++ E))) =
    append_assoc A (B ++ (C ++ D)) E ∙ ap (λ (z : List ℕ). A ++ z) (append_assoc B (C ++ D) E ∙ ap (λ (z : List ℕ). B ++ z) (append_assoc C D E)) in
    rw (← e) (puts-more at out (A ++ (B ++ (C ++ D))) E closed end v t P Q)

-- the first tree, where it is the last, and where others follow
module _ (l : List ℕ) (i above depth nest at : ℕ) (p : FormPlaced l i depth nest at) (long : record_length ≤ length l) (e kind : ℕ) (out v : List ℕ) (closed : ℕ) (deep : Bool)
    (F : FirstPut l i above depth nest at e kind out v closed deep) where
  pub form-last : (r : Extent) → length l ≤ record_length * (e - i) → r.end ≡ closed → r.deep ≡ deep → Forms l i above depth nest at out v r
  unfolding Forms forest_bytes later_bytes forest_deep later_deep
  form-last r last re rd f up is = go f is (one-forest l p.forest f i p.up up p.is is)
    where
      go : (f : Forest) → l ≡ records f i up → p.forest ≡ f → Formed above depth nest at f out v r
      go none q g = absurd (not_none l i up q long)
      go (tree m c (tree n d t)) q g =
          let o = part-opened l i up depth p.sets e m c (tree n d t) q (ap (λ (x : Forest). every_node (node_rule p.sets) x depth) (sym g) ∙ p.rules) F.end_is in
          absurd (not_last l i up depth p.sets e m c n d t o last)
      go (tree m c none) q g =
          let o = part-opened l i up depth p.sets e m c none q (ap (λ (x : Forest). every_node (node_rule p.sets) x depth) (sym g) ∙ p.rules) F.end_is in
          let w = brackets_at above (kind_number m) in
          let P = first-put l i above depth nest at e kind out v closed deep up p.sets m c none o F in
          record { puts = rw (re, append-nil (only_if w 41)) P.0; deep_is = rd ∙ P.1 ∙ sym (or-none (forest_deep (nest_below (kind_number m) w nest) (kind_number m) c)) }

  pub form-more : (r s : Extent) (next : ℕ) (u t : List ℕ) → record_length * (e - i) < length l → Puts closed (join_at above) v next u
      → Forms (rest_of l i e) e above depth nest next u t s → r.end ≡ s.end → r.deep ≡ (deep || s.deep) → Forms l i above depth nest at out t r
  unfolding Forms forest_bytes later_bytes forest_deep later_deep
  form-more r s next u t more J S re rd f up is = go f is (one-forest l p.forest f i p.up up p.is is)
    where
      go : (f : Forest) → l ≡ records f i up → p.forest ≡ f → Formed above depth nest at f out t r
      go none q g = absurd (not_none l i up q long)
      go (tree m c none) q g =
          let o = part-opened l i up depth p.sets e m c none q (ap (λ (x : Forest). every_node (node_rule p.sets) x depth) (sym g) ∙ p.rules) F.end_is in
          absurd (not_more l i up depth p.sets e m c o more)
      go (tree m c (tree n d h)) q g =
          let o = part-opened l i up depth p.sets e m c (tree n d h) q (ap (λ (x : Forest). every_node (node_rule p.sets) x depth) (sym g) ∙ p.rules) F.end_is in
          let w = brackets_at above (kind_number m) in
          let P = first-put l i above depth nest at e kind out v closed deep up p.sets m c (tree n d h) o F in
          let R = S (tree n d h) up (rest_all (record_length * (e - i)) l ∙ o.rest) in
          record {
            puts = rw re (puts-around at out closed v s.end t (only_if w 40) (own_bytes m depth) (forest_bytes (kind_number m) c (child_depth m depth)) (only_if w 41)
                (join_at above ++ forest_bytes above (tree n d h) depth) P.0 (puts-more closed v (join_at above) _ next s.end u t J R.puts));
            deep_is = rd ∙ ap₂ ◌||◌ P.1 R.deep_is;
          }
