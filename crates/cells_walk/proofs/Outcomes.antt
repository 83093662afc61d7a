-- What a visited cell, the trees of a forest and the ports of a quantifier come to. Assumes nothing.
use mathlib.Core.Path.{◌≡◌, refl, sym, ap, ◌∙◌, subst}
use mathlib.Core.Bool.{Bool, true, false, cond, not, ◌||◌}
use mathlib.Core.List.{List, [], ◌∷◌}
use Prim.Native.Nat.{ℕ, suc, ◌+◌, ◌-◌, ◌^◌, ◌%◌, ◌≤◌, ◌<◌}
use native.Mathlib.Omega.{arith}
use lib.Dec.{eqb}
use Rattle.logic.specs.Formula.{Literal, Node, lit, Forest, none, tree, kind_number, child_depth}
use Rattle.logic.specs.Configuration.{Configuration, indicator}
use Rattle.logic.specs.Truth.{Tuple}
use Rattle.logic.specs.Penalty.{literal_penalty, combine, each_port, below, sum}
use Rattle.logic.specs.Cells.{sibling_first}
use Rattle.logic.specs.Change.{Change, node_hit, forest_hit, touched, modulus, OldCells, Renewal, renew, renewals, new_cell}
use Rattle.logic.proofs.Bound.{LiteralsAtMost}
use Rattle.logic.proofs.Changed.{untouched-kept}
use Rattle.logic.proofs.Lists.{or_left, or_right}
use Rattle.logic.proofs.Touched.{Inner}
use Rattle.table_format.specs.Rules.{tree_count, arity_rule}
use Rattle.cells_sum.specs.inner.Walk.{adds, begun, most_cell, taken, gathered, changes, Joined}
use Rattle.cells_sum.proofs.Sums.{taken-same, gathered-append, sum-port}
use Rattle.cells_walk.proofs.Count.{changes-untouched}
use Rattle.cells_walk.proofs.Gather.{new-cell-gathered}
use Rattle.cells_sum.specs.declared.After.{After}
use Rattle.cells_sum.specs.declared.Sum.{Sum}
use Rattle.cells_walk.specs.inner.Visit.{CellAfter, TreesAfter, PortsAfter, RecordAfresh}

-- numbers modulo 2^32
count-more : (a x y r s : ℕ) → r ≡ (a + x) % modulus → s ≡ (r + y) % modulus → s ≡ (a + (x + y)) % modulus
unfolding modulus
count-more a x y r s h k = omega arith

count-first : (i x y r s : ℕ) → s ≡ x % modulus → x ≡ y → r ≡ (i + s) % modulus → r ≡ (i + y + 0) % modulus
unfolding modulus
count-first i x y r s h q k = omega arith

pub begun-fits : (add : Bool) (old : ℕ) → old < modulus → begun add old < modulus
unfolding begun most_cell modulus
begun-fits true old h = h
begun-fits false old h = omega arith

pub taken-fits : (add : Bool) (acc : ℕ) (x : Renewal) → acc < modulus → taken add acc x < modulus
unfolding taken modulus
taken-fits true acc x h = omega arith
taken-fits false acc x h = omega arith

pub gathered-fits : (add : Bool) (acc : ℕ) (xs : List Renewal) → acc < modulus → gathered add acc xs < modulus
unfolding gathered
gathered-fits add acc [] h = h
gathered-fits add acc (x ∷ xs) h = gathered-fits add (taken add acc x) xs (taken-fits add acc x h)

small : 65 < modulus
unfolding modulus
small = omega arith

-- a cell that keeps its number adds nothing
same_sum : (acc old new : ℕ) → new ≡ old → acc < modulus → old < modulus → (acc + (new + (modulus - old))) % modulus ≡ acc
unfolding modulus
same_sum acc old new h l m = omega arith

count-tree : (a i j y w m q : ℕ) → w ≡ (i + j + 0) % modulus → m ≡ (a + w) % modulus → q ≡ (m + y) % modulus → q ≡ (a + (i + j + y)) % modulus
unfolding modulus
count-tree a i j y w m q h g l = omega arith

pub no-trees : (f : Forest) → tree_count f ≡ 0 → f ≡ none
unfolding tree_count
no-trees none h = refl
no-trees (tree n c s) h = absurd (omega arith)

module _ (u : ℕ) (k : Configuration) (ch : Change) (t : OldCells) where
  -- a cell that is not touched
  pub untouched-after : (n : Node) (c : Forest) (b d : ℕ) (e : Tuple) (r : After) → touched ch n c e ≡ false → r.old ≡ t b e → r.value ≡ r.old → r.changed ≡ 0
      → CellAfter u k ch t n c b d e r
  unfolding modulus
  untouched-after n c b d e r h o v z = record {
    old-is = o;
    new_is = v ∙ o ∙ sym (untouched-kept u k ch t n c b d e h);
    changed-is = z ∙ sym (ap (λ (x : ℕ). x % 4294967296) (changes-untouched u k ch t n c b d e h));
  }

  -- a literal, which has nothing below it
  pub literal-cell : (l : Literal) (c : Forest) (b d : ℕ) (e : Tuple) (r : After) → touched ch (lit l) c e ≡ true → tree_count c ≡ 0 → r.old ≡ t b e
      → r.value ≡ literal_penalty k l e → r.changed ≡ (indicator (not (eqb r.value r.old)) + 0) % modulus → CellAfter u k ch t (lit l) c b d e r
  unfolding new_cell renew combine changes below sum child_depth
  literal-cell l c b d e r h z o v m =
      let w : new_cell u k ch t (lit l) c b d e ≡ literal_penalty k l e = ap (λ (x : Bool). cond x (literal_penalty k l e) (t b e)) h in
      record {
        old-is = o;
        new_is = v ∙ sym w;
        changed-is = m ∙ (λ i. (indicator (not (eqb ((v ∙ sym w) i) (o i))) + 0) % modulus)
            ∙ count_none (indicator (not (eqb (new_cell u k ch t (lit l) c b d e) (t b e)))) (changes u k ch t c (b + u ^ d) d e)
            (ap (λ (f : Forest). changes u k ch t f (b + u ^ d) d e) (no-trees c z));
      }
    where
      count_none : (x y : ℕ) → y ≡ 0 → (x + 0) % modulus ≡ (x + (y + 0) + 0) % modulus
      count_none x y q = ap (λ (j : ℕ). j % modulus) (let w : x + 0 ≡ x + (y + 0) + 0 = omega arith in w)

  -- an inner node, from what its cells directly below come to
  pub inner-cell : 1 ≤ u → ((b : ℕ) (e : Tuple) → t b e < modulus) → (n : Node) (c : Forest) (b d : ℕ) (e : Tuple) (r : After) (s : Sum)
      → LiteralsAtMost 65 k c (child_depth n d) → Inner n → arity_rule (kind_number n) (tree_count c) ≡ true → touched ch n c e ≡ true → r.old ≡ t b e
      → s.value ≡ gathered (adds n) (begun (adds n) (t b e)) (below u n e (renewals u k ch t c (b + u ^ d) (child_depth n d)))
      → s.changed ≡ sum (below u n e (λ x. changes u k ch t c (b + u ^ d) (child_depth n d) x ∷ [])) % modulus
      → r.value ≡ s.value → r.changed ≡ (indicator (not (eqb s.value r.old)) + s.changed) % modulus
      → CellAfter u k ch t n c b d e r
  unfolding changes
  inner-cell u1 low n c b d e r s lits inner ar h o sv sc v m =
      let w = new-cell-gathered u u1 k ch t low 65 small n c b d e lits inner ar h in
      let new : s.value ≡ new_cell u k ch t n c b d e = sv ∙ sym w in
      record {
        old-is = o;
        new_is = v ∙ new;
        changed-is = count-first _ _ _ r.changed s.changed sc refl (m ∙ (λ i. (indicator (not (eqb (new i) (o i))) + s.changed) % modulus));
      }

  -- a tree and its later siblings
  pub trees-more : (add : Bool) (n : Node) (c s : Forest) (b d : ℕ) (e : Tuple) (acc mid r : Sum) (x : After) → CellAfter u k ch t n c b d e x → Joined add acc x mid
      → TreesAfter u k ch t add s (sibling_first u n c b d) d e mid r → TreesAfter u k ch t add (tree n c s) b d e acc r
  unfolding renewals gathered changes new_cell
  trees-more add n c s b d e acc mid r x cell join rest =
      let one : Renewal = record { hit = true; old = x.old; new = x.value } in
      record {
        value-is = rest.value-is
            ∙ ap (λ (y : ℕ). gathered add y (renewals u k ch t s (sibling_first u n c b d) d e))
            (join.value-is ∙ taken-same add acc.value one _ cell.old-is cell.new_is);
        changed-is = count-tree acc.changed _ _ (changes u k ch t s (sibling_first u n c b d) d e) x.changed mid.changed r.changed cell.changed-is join.changed-is rest.changed-is;
      }

  pub trees-none : (add : Bool) (b d : ℕ) (e : Tuple) (acc : Sum) → acc.changed < modulus → TreesAfter u k ch t add none b d e acc acc
  unfolding renewals gathered changes modulus
  trees-none add b d e acc h = record { value-is = refl; changed-is = omega arith }

  -- a forest of one tree
  pub one-tree : (add : Bool) (n : Node) (c s : Forest) (b d : ℕ) (e : Tuple) (acc r : Sum) (x : After) → tree_count (tree n c s) ≡ 1
      → CellAfter u k ch t n c b d e x → Joined add acc x r → TreesAfter u k ch t add (tree n c s) b d e acc r
  unfolding tree_count modulus
  one-tree add n c none b d e acc r x o cell join =
      trees-more add n c none b d e acc r r x cell join (trees-none add (sibling_first u n c b d) d e r (omega (arith, join.changed-is)))
  one-tree add n c (tree m f s) b d e acc r x o cell join = absurd (omega arith)

  -- nothing of an untouched forest goes into a sum
  untouched-sum : (f : Forest) (b d : ℕ) (e : Tuple) (acc : ℕ) → forest_hit ch f e ≡ false → acc < modulus → ((x : ℕ) (y : Tuple) → t x y < modulus)
      → gathered true acc (renewals u k ch t f b d e) ≡ acc
  unfolding renewals gathered taken forest_hit touched
  untouched-sum none b d e acc h l low = refl
  untouched-sum (tree n c s) b d e acc h l low =
      let q = or_left (node_hit ch n e || forest_hit ch c e) _ h in
      let z : cond (node_hit ch n e || forest_hit ch c e) (renew k n e (t b e) (below u n e (renewals u k ch t c (b + u ^ d) (child_depth n d)))) (t b e) ≡ t b e =
      ap (λ (x : Bool). cond x (renew k n e (t b e) (below u n e (renewals u k ch t c (b + u ^ d) (child_depth n d)))) (t b e)) q in
      ap (λ (x : ℕ). gathered true x (renewals u k ch t s (sibling_first u n c b d) d e)) (same_sum acc (t b e) _ z l (low b e))
      ∙ untouched-sum s (sibling_first u n c b d) d e acc (or_right (node_hit ch n e || forest_hit ch c e) _ h) l low

  untouched-changes : (f : Forest) (b d : ℕ) (e : Tuple) → forest_hit ch f e ≡ false → changes u k ch t f b d e ≡ 0
  unfolding changes forest_hit touched
  untouched-changes none b d e h = refl
  untouched-changes (tree n c s) b d e h =
      let one = changes-untouched u k ch t n c b d e (or_left (node_hit ch n e || forest_hit ch c e) _ h) in
      let rest = untouched-changes s (sibling_first u n c b d) d e (or_right (node_hit ch n e || forest_hit ch c e) _ h) in
      omega (arith, one, rest)

  -- one port more below a quantifier, and one that is not touched
  pub port-more : (add : Bool) (f : Forest) (b d : ℕ) (e : Tuple) (m : ℕ) (acc mid r : Sum) → PortsAfter u k ch t add f b d e m acc mid
      → TreesAfter u k ch t add f b (suc d) (m ∷ e) mid r → PortsAfter u k ch t add f b d e (suc m) acc r
  unfolding each_port
  port-more add f b d e m acc mid r before one = record {
    value-is = one.value-is ∙ ap (λ (x : ℕ). gathered add x (renewals u k ch t f b (suc d) (m ∷ e))) before.value-is
        ∙ sym (gathered-append add acc.value (each_port m (λ x. renewals u k ch t f b (suc d) (x ∷ e))) (renewals u k ch t f b (suc d) (m ∷ e)));
    changed-is = count-more acc.changed (sum (each_port m (λ x. changes u k ch t f b (suc d) (x ∷ e) ∷ []))) (changes u k ch t f b (suc d) (m ∷ e)) mid.changed r.changed
        before.changed-is one.changed-is
        ∙ ap (λ (x : ℕ). (acc.changed + x) % modulus) (sym (sum-port m (λ x. changes u k ch t f b (suc d) (x ∷ e))));
  }

  pub port-skipped : (f : Forest) (b d : ℕ) (e : Tuple) (m : ℕ) (acc r : Sum) → acc.value < modulus → ((x : ℕ) (y : Tuple) → t x y < modulus)
      → forest_hit ch f (m ∷ e) ≡ false → PortsAfter u k ch t true f b d e m acc r → PortsAfter u k ch t true f b d e (suc m) acc r
  unfolding modulus
  port-skipped f b d e m acc r l low h before =
      port-more true f b d e m acc r r before record {
        value-is = sym (untouched-sum f b (suc d) (m ∷ e) r.value h (rw before.value-is (gathered-fits true acc.value _ l)) low);
        changed-is = kept r.changed _ (changes u k ch t f b (suc d) (m ∷ e)) before.changed-is (untouched-changes f b (suc d) (m ∷ e) h);
      }
    where
      kept : (x y z : ℕ) → x ≡ y % 4294967296 → z ≡ 0 → x ≡ (x + z) % 4294967296
      kept x y z p q = omega arith

  pub ports-none : (add : Bool) (f : Forest) (b d : ℕ) (e : Tuple) (acc : Sum) → acc.changed < modulus → PortsAfter u k ch t add f b d e 0 acc acc
  unfolding each_port gathered sum modulus
  ports-none add f b d e acc h = record { value-is = refl; changed-is = omega arith }

-- a literal's outcome by its own number
pub literal-outcome : (u sets d : ℕ) (bytes : List ℕ) (i : ℕ) (masks : List ℕ) (digits old value : ℕ) (r : After) → RecordAfresh u sets d bytes i masks digits value
    → (r.old ≡ old) × (r.value ≡ value) × (r.changed ≡ (indicator (not (eqb value old)) + 0) % 4294967296)
    → RecordAfresh u sets d bytes i masks digits r.value × (r.old ≡ old) × (r.changed ≡ (indicator (not (eqb r.value old)) + 0) % 4294967296)
literal-outcome u sets d bytes i masks digits old value r fresh is = (
  subst (λ (v : ℕ). RecordAfresh u sets d bytes i masks digits v) (sym is.1) fresh,
  is.0,
  is.2 ∙ ap (λ (v : ℕ). (indicator (not (eqb v old)) + 0) % 4294967296) (sym is.1),
)
