-- What a row comes to: from the rows directly below it, from a literal's number, or cell by cell. Assumes nothing.
use mathlib.Core.Path.{◌≡◌, refl, sym, ap, ap₂, ◌∙◌}
use mathlib.Core.Bool.{Bool, true, false, cond, not}
use mathlib.Core.List.{List, [], ◌∷◌}
use Prim.Native.Nat.{ℕ, zero, suc, ◌+◌, ◌^◌, ◌%◌, ◌≤◌, ◌<◌}
use native.Mathlib.Decide.{ℕ_discrete}
use native.Mathlib.Omega.{arith}
use lib.Dec.{eqb}
use lib.ListN.{length, get_or, set}
use lib.Seq.{get_or-set_same, get_or-set_other}
use Rattle.logic.specs.Formula.{Literal, Node, lit, Forest, none, tree, kind_number, child_depth}
use Rattle.logic.specs.Configuration.{Configuration, indicator}
use Rattle.logic.specs.Truth.{Tuple}
use Rattle.logic.specs.Penalty.{literal_penalty, combine, each_port, below, sum}
use Rattle.logic.specs.Cells.{sibling_first}
use Rattle.logic.specs.Change.{Change, touched, modulus, OldCells, renew, renewals, new_cell}
use Rattle.logic.proofs.Bound.{LiteralsAtMost}
use Rattle.logic.proofs.Changed.{untouched-kept}
use Rattle.table_format.specs.Rules.{tree_count, arity_rule}
use Rattle.cells_sum.specs.declared.After.{After}
use Rattle.cells_sum.specs.declared.Sum.{Sum}
use Rattle.cells_sum.specs.inner.Walk.{adds, begun, taken, gathered, changes}
use Rattle.cells_sum.proofs.Sums.{sum-port, taken-same}
use Rattle.cells_row.specs.inner.Row.{row_gathered}
use Rattle.cells_row.proofs.Rows.{gathered-rows, sums_same, sums-together}
use Rattle.cells_walk.proofs.Count.{single, changes-untouched}
use Rattle.cells_walk.proofs.Gather.{new-cell-gathered}
use Rattle.cells_walk.proofs.KindOf.{Joint}
use Rattle.cells_walk.proofs.Outcomes.{no-trees}
use Rattle.cells_walk.specs.inner.Visit.{CellAfter, PortsAfter, RowAfter, RowJoined, RowTreesAfter}

abbrev over : ℕ → (ℕ → ℕ) → ℕ
over u f = sum (each_port u (λ x. f x ∷ []))

over_none : (f : ℕ → ℕ) → over 0 f ≡ 0
unfolding each_port sum
over_none f = refl

over_zero : (u : ℕ) (f : ℕ → ℕ) → ((x : ℕ) → x < u → f x ≡ 0) → over u f ≡ 0
over_zero zero f h = over_none f
over_zero (suc u) f h = omega (arith, sum-port u f, over_zero u f (λ x l. h x (omega arith)), h u (omega arith))

-- numbers modulo 2^32
small : 65 < modulus
unfolding modulus
small = omega arith

nothing-changed : (x : ℕ) → x ≡ 0 → 0 ≡ x % modulus
unfolding modulus
nothing-changed x h = omega arith

kept-count : (x y : ℕ) → y ≡ 0 → x < modulus → x ≡ (x + y) % modulus
unfolding modulus
kept-count x y h l = omega arith

own-and-below : (m own down all r : ℕ) → m ≡ (0 + down) % modulus → r ≡ (m + own) % modulus → all ≡ own + down → r ≡ all % modulus
unfolding modulus
own-and-below m own down all r h k e = omega arith

one_more : (before first rest all more mid r : ℕ) → more ≡ first % modulus → mid ≡ (before + more) % modulus → r ≡ (mid + rest) % modulus → all ≡ first + rest
    → r ≡ (before + all) % modulus
unfolding modulus
one_more before first rest all more mid r h k l e = omega arith

over-mod : (a x y z : ℕ) → y ≡ x % modulus → z ≡ (a + y) % modulus → z ≡ (a + x) % modulus
unfolding modulus
over-mod a x y z h i = omega arith

one_cell : (before first more r : ℕ) → before ≡ first % modulus → r ≡ (before + more % modulus) % modulus → r ≡ (first + more) % modulus
unfolding modulus
one_cell before first more r h k = omega arith

module _ (u : ℕ) (k : Configuration) (ch : Change) (t : OldCells) where
  -- how many cells at or below the cell of a node at each port differ from before
  abbrev counted : Node → Forest → ℕ → ℕ → Tuple → ℕ → ℕ
  counted n c b d e x = changes u k ch t (tree n c none) b (suc d) (x ∷ e)

  -- a row that is not touched keeps its numbers
  pub row-kept : (n : Node) (c : Forest) (b d : ℕ) (e : Tuple) (out : List ℕ) → ((x : ℕ) → touched ch n c (x ∷ e) ≡ false)
      → ((x : ℕ) → x < u → get_or out x 0 ≡ t b (x ∷ e)) → RowAfter u k ch t n c b d e out 0
  row-kept n c b d e out h old = record {
    numbers = λ x l. old x l ∙ sym (untouched-kept u k ch t n c b (suc d) (x ∷ e) (h x));
    changed-is = nothing-changed _ (over_zero u (counted n c b d e) (λ x l. changes-untouched u k ch t n c b (suc d) (x ∷ e) (h x)));
  }

  -- a literal that has one number at every port
  pub row-literal : (l : Literal) (c : Forest) (b d : ℕ) (e : Tuple) (out : List ℕ) (r : ℕ) → ((x : ℕ) → x < u → touched ch (lit l) c (x ∷ e) ≡ true) → tree_count c ≡ 0
      → ((x : ℕ) → x < u → get_or out x 0 ≡ literal_penalty k l (x ∷ e))
      → r ≡ over u (λ x. indicator (not (eqb (get_or out x 0) (t b (x ∷ e))))) % modulus → RowAfter u k ch t (lit l) c b d e out r
  unfolding new_cell renew combine changes below sum child_depth
  row-literal l c b d e out r h z v m =
      let new : (x : ℕ) → x < u → get_or out x 0 ≡ new_cell u k ch t (lit l) c b (suc d) (x ∷ e) =
      λ x i. v x i ∙ sym (ap (λ (y : Bool). cond y (literal_penalty k l (x ∷ e)) (t b (x ∷ e))) (h x i)) in
      record {
        numbers = new;
        changed-is = m ∙ ap (λ (y : ℕ). y % modulus) (sums_same u _ (counted (lit l) c b d e)
            (λ x i. ap (λ (y : ℕ). indicator (not (eqb y (t b (x ∷ e))))) (new x i) ∙ own x));
      }
    where
      alone : (x : ℕ) → x ≡ x + (0 + 0) + 0
      alone x = omega arith

      own : (x : ℕ) → indicator (not (eqb (new_cell u k ch t (lit l) c b (suc d) (x ∷ e)) (t b (x ∷ e)))) ≡ counted (lit l) c b d e x
      own x = alone _ ∙ ap (λ (y : ℕ). indicator (not (eqb (new_cell u k ch t (lit l) c b (suc d) (x ∷ e)) (t b (x ∷ e)))) + (y + 0) + 0)
          (sym (ap (λ (f : Forest). changes u k ch t f (b + u ^ suc d) (suc d) (x ∷ e)) (no-trees c z)))

  -- an "and" or an "or" that is touched at every port
  pub row-joint : 1 ≤ u → ((x : ℕ) (y : Tuple) → t x y < modulus) → (n : Node) (c : Forest) (b d : ℕ) (e : Tuple) (acc out : List ℕ) (m r : ℕ) → Joint n
      → LiteralsAtMost 65 k c (child_depth n (suc d)) → arity_rule (kind_number n) (tree_count c) ≡ true → ((x : ℕ) → x < u → touched ch n c (x ∷ e) ≡ true)
      → ((x : ℕ) → x < u → get_or acc x 0 ≡ begun (adds n) (t b (x ∷ e))) → RowTreesAfter u k ch t (adds n) c (b + u ^ suc d) d e acc 0 out m
      → r ≡ (m + over u (λ x. indicator (not (eqb (get_or out x 0) (t b (x ∷ e)))))) % modulus → RowAfter u k ch t n c b d e out r
  unfolding changes
  row-joint u1 low n c b d e acc out m r q lits ar h start rows i =
      let below-is : (x : ℕ) → below u n (x ∷ e) (renewals u k ch t c (b + u ^ suc d) (child_depth n (suc d))) ≡ renewals u k ch t c (b + u ^ suc d) (suc d) (x ∷ e) =
      λ x. q.renewed u (x ∷ e) _ ∙ ap (λ (y : ℕ). renewals u k ch t c (b + u ^ suc d) y (x ∷ e)) (q.level (suc d)) in
      let new : (x : ℕ) → x < u → get_or out x 0 ≡ new_cell u k ch t n c b (suc d) (x ∷ e) =
      λ x l. rows.numbers x l ∙ ap₂ (gathered (adds n)) (start x l) (sym (below-is x))
      ∙ sym (new-cell-gathered u u1 k ch t low 65 small n c b (suc d) (x ∷ e) lits q.inner ar (h x l)) in
      let down : (x : ℕ) → sum (below u n (x ∷ e) (λ y. changes u k ch t c (b + u ^ suc d) (child_depth n (suc d)) y ∷ [])) ≡ changes u k ch t c (b + u ^ suc d) (suc d) (x ∷ e) =
      λ x. ap sum (q.counted u (x ∷ e) _) ∙ single _ ∙ ap (λ (y : ℕ). changes u k ch t c (b + u ^ suc d) y (x ∷ e)) (q.level (suc d)) in
      record {
        numbers = new;
        changed-is = own-and-below m _ _ _ r rows.changed-is i
            (sums_same u (counted n c b d e) _ (λ x l. add_none _ _ _ _ (ap (λ (y : ℕ). indicator (not (eqb y (t b (x ∷ e))))) (sym (new x l))) (down x))
            ∙ sums-together u _ _);
      }
    where
      add_none : (x x' y y' : ℕ) → x ≡ x' → y ≡ y' → x + y + 0 ≡ x' + y'
      add_none x x' y y' g j = omega arith

  -- a row that goes into a row
  pub row-joined : (add : Bool) (n : Node) (c : Forest) (b d : ℕ) (e : Tuple) (acc new out : List ℕ) (more : ℕ) → RowAfter u k ch t n c b d e new more
      → ((x : ℕ) → x < u → get_or out x 0 ≡ taken add (get_or acc x 0) record { hit = true; old = t b (x ∷ e); new = get_or new x 0 })
      → RowJoined u k ch t add n c b d e acc out more
  row-joined add n c b d e acc new out more row step = record {
    numbers = λ x l. step x l ∙ taken-same add (get_or acc x 0) _ _ refl (row.numbers x l);
    changed-is = row.changed-is;
  }

  -- the rows of no tree, and of a tree and its later siblings
  pub rows_none : (add : Bool) (b d : ℕ) (e : Tuple) (acc : List ℕ) (before : ℕ) → before < modulus → RowTreesAfter u k ch t add none b d e acc before acc before
  unfolding renewals gathered changes
  rows_none add b d e acc before h = record {
    numbers = λ x l. refl;
    changed-is = kept-count before _ (over_zero u (λ x. 0) (λ x l. refl)) h;
  }

  pub rows_more : (add : Bool) (n : Node) (c s : Forest) (b d : ℕ) (e : Tuple) (acc mid out : List ℕ) (before more m r : ℕ) → RowJoined u k ch t add n c b d e acc mid more
      → m ≡ (before + more) % modulus
      → RowTreesAfter u k ch t add s (sibling_first u n c b (suc d)) d e mid m out r → RowTreesAfter u k ch t add (tree n c s) b d e acc before out r
  unfolding renewals gathered changes new_cell
  rows_more add n c s b d e acc mid out before more m r row j rest = record {
    numbers = λ x l. rest.numbers x l
        ∙ ap (λ (y : ℕ). gathered add y (renewals u k ch t s (sibling_first u n c b (suc d)) (suc d) (x ∷ e)))
        (row.numbers x l ∙ taken-same add (get_or acc x 0) _ _ refl refl);
    changed-is = one_more before _ _ _ more m r row.changed-is j rest.changed-is
        (sums_same u _ _ (λ x l. apart _ _ _) ∙ sums-together u (counted n c b d e) (λ x. changes u k ch t s (sibling_first u n c b (suc d)) (suc d) (x ∷ e)));
  }
    where
      apart : (x y z : ℕ) → x + y + z ≡ x + y + 0 + z
      apart x y z = omega arith

  -- a quantifier's sum or minimum from its child's row
  pub row-gathered : (add : Bool) (n : Node) (c : Forest) (b d : ℕ) (e : Tuple) (new old : List ℕ) (more : ℕ) (acc r : Sum) → RowAfter u k ch t n c b d e new more
      → ((x : ℕ) → x < u → get_or old x 0 ≡ t b (x ∷ e)) → r.value ≡ row_gathered add acc.value new old u → r.changed ≡ (acc.changed + more) % modulus
      → PortsAfter u k ch t add (tree n c none) b d e u acc r
  unfolding renewals new_cell
  row-gathered add n c b d e new old more acc r row was v m = record {
    value-is = v ∙ gathered-rows add acc.value u new old
        (λ x. record { hit = touched ch n c (x ∷ e); old = t b (x ∷ e); new = new_cell u k ch t n c b (suc d) (x ∷ e) })
        (λ x l. (was x l, row.numbers x l));
    changed-is = over-mod acc.changed _ more r.changed row.changed-is m;
  }

  -- A row renewed cell by cell: the ports below m are done, the others hold their old numbers.
  pub record RowUpTo (n : Node) (c : Forest) (b d : ℕ) (e : Tuple) (m : ℕ) (out : List ℕ) (changed : ℕ) : Type 0 where
    pub done : (x : ℕ) → x < m → get_or out x 0 ≡ new_cell u k ch t n c b (suc d) (x ∷ e)
    pub left : (x : ℕ) → m ≤ x → x < u → get_or out x 0 ≡ t b (x ∷ e)
    pub changed-is : changed ≡ over m (counted n c b d e) % modulus

  module _ (n : Node) (c : Forest) (b d : ℕ) (e : Tuple) where
    pub up-to-none : (out : List ℕ) → ((x : ℕ) → x < u → get_or out x 0 ≡ t b (x ∷ e)) → RowUpTo n c b d e 0 out 0
    up-to-none out old = record {
      done = λ x l. absurd (omega arith);
      left = λ x g l. old x l;
      changed-is = nothing-changed _ (over_none (counted n c b d e));
    }

    pub up-to-next : (m : ℕ) (out : List ℕ) (before r : ℕ) (x : After) → RowUpTo n c b d e m out before → m < u → u ≤ length out → CellAfter u k ch t n c b (suc d) (m ∷ e) x
        → r ≡ (before + x.changed) % modulus → RowUpTo n c b d e (suc m) (set out m x.value) r
    up-to-next m out before r x s l room cell j = record {
      done = λ y g. here y g (ℕ_discrete y m);
      left = λ y g h. get_or-set_other out m y x.value 0 (λ z. omega arith) ∙ s.left y (omega arith) h;
      changed-is = one_cell before _ _ r s.changed-is (j ∙ ap (λ (y : ℕ). (before + y) % modulus) cell.changed-is)
          ∙ ap (λ (y : ℕ). y % modulus) (sym (sum-port m (counted n c b d e)));
    }
      where
        here : (y : ℕ) → y < suc m → Dec (y ≡ m) → get_or (set out m x.value) y 0 ≡ new_cell u k ch t n c b (suc d) (y ∷ e)
        here y g (yes i) = rw i (get_or-set_same out m x.value 0 (omega arith) ∙ cell.new_is)
        here y g (no i) = get_or-set_other out m y x.value 0 i ∙ s.done y (omega arith)

    pub up-to-skip : (m : ℕ) (out : List ℕ) (r : ℕ) → RowUpTo n c b d e m out r → m < u → touched ch n c (m ∷ e) ≡ false → RowUpTo n c b d e (suc m) out r
    up-to-skip m out r s l h = record {
      done = λ y g. here y g (ℕ_discrete y m);
      left = λ y g j. s.left y (omega arith) j;
      changed-is = s.changed-is ∙ ap (λ (y : ℕ). y % modulus) (same _ _ _ (sum-port m (counted n c b d e)) (changes-untouched u k ch t n c b (suc d) (m ∷ e) h));
    }
      where
        same : (x y z : ℕ) → z ≡ x + y → y ≡ 0 → x ≡ z
        same x y z p q = omega arith

        here : (y : ℕ) → y < suc m → Dec (y ≡ m) → get_or out y 0 ≡ new_cell u k ch t n c b (suc d) (y ∷ e)
        here y g (yes i) = rw i (s.left m (omega arith) l ∙ sym (untouched-kept u k ch t n c b (suc d) (m ∷ e) h))
        here y g (no i) = s.done y (omega arith)

    pub up-to-all : (out : List ℕ) (r : ℕ) → RowUpTo n c b d e u out r → RowAfter u k ch t n c b d e out r
    up-to-all out r s = record { numbers = s.done; changed-is = s.changed-is }
