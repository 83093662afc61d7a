-- The tables of a plan that passed its check hold its formula, and its nodes fit. Assumes nothing.
use mathlib.Core.Path.{◌≡◌, sym, ap, ap₂, ◌∙◌, subst}
use mathlib.Core.Bool.{true}
use mathlib.Core.List.{List, ◌∷◌, ◌++◌, append_assoc}
use Prim.Native.Nat.{ℕ, suc, ◌+◌, ◌*◌, ◌^◌, ◌≤◌}
use native.Mathlib.Nat.{mul-suc, mul-add, mul-zero, zero-add, add-zero}
use native.Mathlib.Numerals.{add-one}
use native.Mathlib.Omega.{arith}
use lib.Bits.{bit_or}
use lib.Dec.{eqb, ltb}
use lib.ListN.{length, get_or, drop, length-append, length-drop, get_or-append}
use lib.Seq.{drop_at, drop-drop}
use borrow.Author.Tests.{leb-true, ltb-true}
use Rattle.logic.specs.Formula.{Test, isin, notin, port, size, Node, root, Forest, none, tree, Plan, kind_number, node_count, child_depth}
use Rattle.logic.specs.inner.Literals.{Every, OfLiteral}
use Rattle.logic.specs.Cells.{sibling_first, first_cells}
use Rattle.logic.proofs.Lists.{and_left, and_right}
use Rattle.logic.proofs.Tables.{Stands, stands-left, stands-right}
use Rattle.table_format.specs.Bytes.{record_length, kind_field, relation_field, a_field, b_field, records_of, record_at, record_of, records, header, encoding}
use Rattle.table_format.specs.Rules.{every_node, arity_rule, depth_rule, test_rule, node_rule, plan_rule}
use Rattle.table_format.specs.Decode.{sound, decode}
use Rattle.table_format.specs.inner.Index.{ends, node_uses, forest_uses, uses_table, laid}
use Rattle.table_format.proofs.Bytes.{kind-of-record, relation-of-record, a-of-record, b-of-record, length-record, records-of-header}
use Rattle.table_format.proofs.Encoding.{length-records, decode-sound}
use Rattle.table_format.proofs.Laid.{length-firsts, length-ends, length-uses}
use Rattle.table_format.proofs.Facts.{of_inner}
use Rattle.table_format.proofs.Rooted.{every-node, RootedIs, is-rooted, rooted-is}
use Rattle.cells_walk.specs.inner.Nodes.{NodeIs, IndexHolds, TestFits, Fitting}

-- the record of the node m after another
record-after : (bytes : List ℕ) (i m : ℕ) → record_at bytes (i + m) ≡ drop (record_length * m) (record_at bytes i)
unfolding record_at
record-after bytes i m =
    ap (λ (x : ℕ). drop x (records_of bytes)) (mul-add record_length i m) ∙ sym (drop-drop (record_length * m) (record_length * i) (records_of bytes))

module _ (u : ℕ) (bytes firsts ends' uses : List ℕ) where
  -- what stands in the tables from node i on
  record Standing (i : ℕ) (f : Forest) (b d p : ℕ) (rest : List ℕ) : Type 0 where
    start : record_length * i ≤ length (records_of bytes)
    bytes-are : record_at bytes i ≡ records f i p ++ rest
    firsts-are : Stands firsts i (first_cells u f b d)
    ends-are : Stands ends' i (ends f i)
    uses-are : Stands uses i (uses_table f)

  stands_one : (table : List ℕ) (i x : ℕ) (xs : List ℕ) → Stands table i (x ∷ xs) → get_or table i 0 ≡ x
  unfolding Stands
  stands_one table i x xs h = ap (λ (j : ℕ). get_or table j 0) (sym (add-zero i)) ∙ h 0 (omega arith)

  stands-rest : (table : List ℕ) (i x : ℕ) (xs : List ℕ) → Stands table i (x ∷ xs) → Stands table (suc i) xs
  unfolding Stands
  stands-rest table i x xs h j l = ap (λ (m : ℕ). get_or table m 0) (let e : suc i + j ≡ i + suc j = omega arith in e) ∙ h (suc j) (omega arith)

  stands-later : (table : List ℕ) (i m : ℕ) (x : ℕ) (xs ys : List ℕ) → length xs ≡ m → Stands table i (x ∷ (xs ++ ys)) → Stands table (i + suc m) ys
  stands-later table i m x xs ys e h =
      subst (λ (j : ℕ). Stands table j ys) (let q : suc i + length xs ≡ i + suc m = omega arith in q)
      (stands-right table (suc i) xs ys (stands-rest table i x (xs ++ ys) h))

  -- the parts of the records of a tree and its siblings
  module _ (n : Node) (c s : Forest) (i b d p : ℕ) (rest : List ℕ) (st : Standing i (tree n c s) b d p rest) where
    abbrev end : ℕ
    end = i + suc (node_count c)

    abbrev later : List ℕ
    later = records c (suc i) i ++ (records s end p ++ rest)

    split : record_at bytes i ≡ record_of n p end ++ later
    unfolding records
    split = st.bytes-are ∙ append_assoc (record_of n p end) (records c (suc i) i ++ records s end p) rest
        ∙ ap (λ (l : List ℕ). record_of n p end ++ l) (append_assoc (records c (suc i) i) (records s end p) rest)

    below : record_at bytes (i + 1) ≡ later
    below = record-after bytes i 1 ∙ ap₂ drop (let e : record_length * 1 ≡ record_length = omega arith in e) split ∙ drop_at (record_of n p end) later record_length (length-record n p end)

    long : length (record_at bytes i) ≡ record_length + (record_length * node_count c + length (records s end p ++ rest))
    long = ap length split ∙ length-append (record_of n p end) later
        ∙ ap₂ ◌+◌ (length-record n p end) (length-append (records c (suc i) i) (records s end p ++ rest) ∙ ap (λ (x : ℕ). x + length (records s end p ++ rest)) (length-records c (suc i) i))

    room : record_length * i + (record_length + (record_length * node_count c + length (records s end p ++ rest))) ≡ length (records_of bytes)
    unfolding record_at
    room = omega (arith, long, length-drop (record_length * i) (records_of bytes), st.start)

    one_more : record_length * (i + 1) ≡ record_length * i + record_length
    one_more = mul-add record_length i 1 ∙ ap (λ (x : ℕ). record_length * i + x) (let e : record_length * 1 ≡ record_length = omega arith in e)

    -- the children, and the later siblings
    children-standing : Standing (suc i) c (b + u ^ d) (child_depth n d) i (records s end p ++ rest)
    unfolding first_cells ends uses_table
    children-standing = record {
      start = rw (← (add-one i)) (omega (arith, one_more, room));
      bytes-are = ap (record_at bytes) (sym (add-one i)) ∙ below;
      firsts-are = stands-left firsts (suc i) (first_cells u c (b + u ^ d) (child_depth n d)) _ (stands-rest firsts i _ _ st.firsts-are);
      ends-are = stands-left ends' (suc i) (ends c (suc i)) _ (stands-rest ends' i _ _ st.ends-are);
      uses-are = stands-left uses (suc i) (uses_table c) _ (stands-rest uses i _ _ st.uses-are);
    }

    siblings-standing : Standing end s (sibling_first u n c b d) d p rest
    unfolding first_cells ends uses_table
    siblings-standing = record {
      start = rw (mul-add record_length i (suc (node_count c)), mul-suc record_length (node_count c)) (omega (arith, room));
      bytes-are = ap (record_at bytes) (let e : end ≡ i + 1 + node_count c = omega arith in e) ∙ record-after bytes (i + 1) (node_count c) ∙ ap (drop (record_length * node_count c)) below
          ∙ drop_at (records c (suc i) i) (records s end p ++ rest) (record_length * node_count c) (length-records c (suc i) i);
      firsts-are = stands-later firsts i (node_count c) _ (first_cells u c (b + u ^ d) (child_depth n d)) _ (length-firsts u c (b + u ^ d) (child_depth n d)) st.firsts-are;
      ends-are = stands-later ends' i (node_count c) _ (ends c (suc i)) _ (length-ends c (suc i)) st.ends-are;
      uses-are = stands-later uses i (node_count c) _ (uses_table c) _ (length-uses c) st.uses-are;
    }

    node-standing : NodeIs bytes firsts ends' uses i n c b
    unfolding first_cells ends uses_table
    node-standing = record {
      kind-is = ap kind_field split ∙ kind-of-record n p end later;
      relation-is = ap relation_field split ∙ relation-of-record n p end later;
      a-is = ap a_field split ∙ a-of-record n p end later;
      b-is = ap b_field split ∙ b-of-record n p end later;
      whole = omega (arith, room);
      first-is = stands_one firsts i b _ st.firsts-are;
      end_is = stands_one ends' i end _ st.ends-are;
      uses-are = stands_one uses i (bit_or (node_uses n) (forest_uses c)) _ st.uses-are;
    }

  holds-standing : (f : Forest) (i b d p : ℕ) (rest : List ℕ) → Standing i f b d p rest → IndexHolds u bytes firsts ends' uses i f b d
  unfolding IndexHolds
  holds-standing none i b d p rest st = Prim.tt
  holds-standing (tree n c s) i b d p rest st = (
    node-standing n c s i b d p rest st,
    holds-standing c (suc i) (b + u ^ d) (child_depth n d) i (records s (i + suc (node_count c)) p ++ rest) (children-standing n c s i b d p rest st),
    holds-standing s (i + suc (node_count c)) (sibling_first u n c b d) d p rest (siblings-standing n c s i b d p rest st),
  )

-- what is laid from place 0 on stands there
laid-stands : (xs vs : List ℕ) → Stands (laid xs 0 vs) 0 vs
unfolding laid Stands
laid-stands xs vs i h =
    ap (λ (j : ℕ). get_or (vs ++ drop (0 + length vs) xs) j 0) (zero-add i) ∙ get_or-append vs (drop (0 + length vs) xs) 0 i h

-- the tables of a plan that passed
pub plan-holds : (bytes firsts ends' uses : List ℕ) (P : Plan) → decode bytes ≡ sound P → (x y z : List ℕ) → firsts ≡ laid x 0 (first_cells P.ports P.formula 0 0)
    → ends' ≡ laid y 0 (ends P.formula 0) → uses ≡ laid z 0 (uses_table P.formula) → IndexHolds P.ports bytes firsts ends' uses 0 P.formula 0 0
unfolding encoding record_at
plan-holds bytes firsts ends' uses P h x y z fs es us =
    let t = decode-sound bytes P h in
    let k = node_count P.formula in
    let w : bytes ≡ header P.ports P.sets k ++ (records P.formula 0 65535 ++ t.rest) =
    t.is ∙ append_assoc (header P.ports P.sets k) (records P.formula 0 65535) t.rest in
    let own : records_of bytes ≡ records P.formula 0 65535 ++ t.rest =
    ap records_of w ∙ records-of-header P.ports P.sets k (records P.formula 0 65535 ++ t.rest) in
    holds-standing P.ports bytes firsts ends' uses P.formula 0 0 0 65535 t.rest record {
      start = omega (arith, mul-zero record_length);
      bytes-are = ap₂ drop (mul-zero record_length) own;
      firsts-are = subst (λ (xs : List ℕ). Stands xs 0 (first_cells P.ports P.formula 0 0)) (sym fs) (laid-stands x (first_cells P.ports P.formula 0 0));
      ends-are = subst (λ (xs : List ℕ). Stands xs 0 (ends P.formula 0)) (sym es) (laid-stands y (ends P.formula 0));
      uses-are = subst (λ (xs : List ℕ). Stands xs 0 (uses_table P.formula)) (sym us) (laid-stands z (uses_table P.formula));
    }

-- the rules of the table
test_fits : (sets d : ℕ) (t : Test) → test_rule sets d t ≡ true → TestFits sets d t
unfolding test_rule TestFits
test_fits sets d (isin v S) h = (ltb-true v d (and_left (ltb v d) _ h), ltb-true S sets (and_right (ltb v d) _ h))
test_fits sets d (notin v S) h = (ltb-true v d (and_left (ltb v d) _ h), ltb-true S sets (and_right (ltb v d) _ h))
test_fits sets d (port r v w) h = (ltb-true v d (and_left (ltb v d) _ h), ltb-true w d (and_right (ltb v d) _ h))
test_fits sets d (size r S c) h = (ltb-true S sets (and_left (ltb S sets) _ h), leb-true c 64 (and_right (ltb S sets) _ h))

rules-fit : (sets : ℕ) (f : Forest) (d : ℕ) → every_node (node_rule sets) f d ≡ true → Fitting sets f d
unfolding Fitting Every depth_rule
rules-fit sets none d h = Prim.tt
rules-fit sets (tree n c s) d h =
    let r = every-node sets n c s d h in (
      record { depth3 = leb-true d 3 r.1; literal = of_inner sets (TestFits sets) (λ t i. test_fits sets i t) n d r.0; children = r.2 },
      rules-fit sets c (child_depth n d) r.4,
      rules-fit sets s d r.5,
    )

pub plan-fits : (P : Plan) → plan_rule P ≡ true → Fitting P.sets P.formula 0
unfolding Fitting Every OfLiteral arity_rule kind_number child_depth
plan-fits P h =
    let c = is-rooted P h in
    subst (λ (Q : Plan). Fitting Q.sets Q.formula 0) (sym c.1) (rooted-fits P.ports P.sets c.0 (rooted-is P h))
  where
    rooted-fits : (u n : ℕ) (f : Forest) → RootedIs u n f → Fitting n (tree root f none) 0
    rooted-fits u n f r = (
      record { depth3 = omega arith; literal = Prim.tt; children = ap (λ (m : ℕ). eqb m 1) r.one },
      rules-fit n f 0 r.rules,
      Prim.tt,
    )
