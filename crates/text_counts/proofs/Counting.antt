-- Totals: the cells and nodes of the core, and how they are held up to a limit. Assumes nothing.
use mathlib.Core.Path.{◌≡◌, refl, sym, ap, ◌∙◌}
use mathlib.Core.Bool.{Bool, true, false, not, true≢false}
use mathlib.Core.List.{List, [], ◌∷◌}
use mathlib.Core.Logic.{◌⊎◌, inl, inr}
use Prim.Native.Nat.{ℕ, zero, suc, ◌+◌, ◌*◌, ◌-◌, ◌^◌, ◌≤◌, ◌<◌, min}
use native.Mathlib.Nat.{pow-zero, pow-suc, mul-add, mul_assoc, mul-one, one-mul, mul-le-mul, mul-le-mul_right}
use native.Mathlib.Omega.{arith}
use lib.ListN.{length, get_or}
use borrow.Author.Tests.{lt-ltb}
use Rattle.std.proofs.lemmas.Bool.{cases_lt}
use Rattle.logic.proofs.Lists.{or-true-left}
use Rattle.logic.specs.Formula.{Node, Forest, none, tree, child_depth, node_count}
use Rattle.logic.specs.Cells.{cell_count}
use Rattle.text_tree.specs.Tree.{Quantifier, forall, exists, Join, conj, disj, imp, rev, iff, Tree, leaf, neg, par, bind, join}
use Rattle.text_tree.specs.inner.Stored.{join_operator, Stored, literal_code, JoinAt, Joins}
use Rattle.text_tree.proofs.Joins.{no-tree, join-other, join-no-negation, next-join, next-right, none_left}
use Rattle.text_counts.specs.declared.Totals.{Totals}
use Rattle.text_counts.specs.declared.Total.{Total}
use Rattle.text_core.specs.Core.{Above, alone, inside, joint_node, Part, joint, two, quantifier_node, join_with, place, core_of}
use Rattle.text_counts.specs.inner.Counts.{PartTotal, joint_total, two_total, part_total, Held, total_at, HeldBoth, PairHeld, JoinHeld, BothJoined, Scaled, Quantified, HasTotals, CountsNodes, CountsCells}
use Rattle.text_core.proofs.Decided.{joined}
use Rattle.text_tree.proofs.Table.{stored-after, stored-within, on-leaf, on-neg, on-bind, on-join}

one_more : (x y z : ℕ) → x * (1 + y + z) ≡ x + x * (y + z)
one_more x y z = ap (λ (n : ℕ). x * n) grouped ∙ mul-add x 1 (y + z) ∙ ap (λ (n : ℕ). n + x * (y + z)) (mul-one x)
  where
    grouped : 1 + y + z ≡ 1 + (y + z)
    grouped = omega arith

-- the cells of a part
module _ (u : ℕ) where
  Counts : Part → PartTotal → Type 0
  Counts F w = (d : ℕ) (above : Above) (s : Forest) → cell_count u (F above s) d ≡ u ^ d * w above + cell_count u s d

  joint-counts : (j : Bool) (d : ℕ) (c s : Forest) → cell_count u (tree (joint_node j) c s) d ≡ u ^ d + cell_count u c d + cell_count u s d
  unfolding cell_count joint_node child_depth
  joint-counts true d c s = refl
  joint-counts false d c s = refl

  none-counts : (d : ℕ) → cell_count u none d ≡ 0
  unfolding cell_count
  none-counts d = refl

  two-counts : (j : Bool) (F G : Part) (f g : PartTotal) → Counts F f → Counts G g → Counts (two j F G) (two_total j f g)
  unfolding Counts
  two-counts j F G f g A B d above s = go j above
    where
      row : (j : Bool) (s : Forest) → cell_count u (F (inside j) (G (inside j) s)) d ≡ u ^ d * (f (inside j) + g (inside j)) + cell_count u s d
      row j s = omega (arith, A d (inside j) (G (inside j) s), B d (inside j) s, mul-add (u ^ d) (f (inside j)) (g (inside j)))

      merged : (j : Bool) → cell_count u (F (inside j) (G (inside j) s)) d ≡ u ^ d * (0 + f (inside j) + g (inside j)) + cell_count u s d
      merged j = row j s ∙ ap (λ (x : ℕ). u ^ d * x + cell_count u s d) (omega arith)

      apart : (j : Bool) → cell_count u (tree (joint_node j) (F (inside j) (G (inside j) none)) s) d ≡ u ^ d * (1 + f (inside j) + g (inside j)) + cell_count u s d
      apart j = joint-counts j d (F (inside j) (G (inside j) none)) s
          ∙ omega (arith, row j none, one_more (u ^ d) (f (inside j)) (g (inside j)), none-counts d)

      go : (j : Bool) (above : Above) → cell_count u (two j F G above s) d ≡ u ^ d * two_total j f g above + cell_count u s d
      go j alone = unfold two joint two_total joint_total in apart j
      go true (inside true) = unfold two joint two_total joint_total in merged true
      go false (inside true) = unfold two joint two_total joint_total joint_node in apart false
      go true (inside false) = unfold two joint two_total joint_total joint_node in apart true
      go false (inside false) = unfold two joint two_total joint_total in merged false

  leaf-counts : (l : Node) (w : PartTotal) → ((above : Above) → w above ≡ 1) → ((d : ℕ) → child_depth l d ≡ d) → Counts (λ above s. tree l none s) w
  unfolding Counts cell_count
  leaf-counts l w e h d above s = rw e (omega (arith, mul-one (u ^ d)))

  bind-counts : (p : Bool) (q : Quantifier) (F : Part) (w x : PartTotal) → Counts F w → ((above : Above) → x above ≡ 1 + u * w alone)
      → Counts (λ above s. tree (quantifier_node p q) (F alone none) s) x
  unfolding Counts cell_count
  bind-counts p q F w x A e d above s = rw (e, deeper p q d)
      (omega (arith, A (suc d) alone none, none-counts (suc d), ap (λ (n : ℕ). n * w alone) (pow-suc u d), mul_assoc (u ^ d) u (w alone), mul-add (u ^ d) 1 (u * w alone), mul-one (u ^ d)))
    where
      deeper : (p : Bool) (q : Quantifier) (d : ℕ) → child_depth (quantifier_node p q) d ≡ suc d
      deeper true forall d = unfold child_depth quantifier_node in refl
      deeper true exists d = unfold child_depth quantifier_node in refl
      deeper false forall d = unfold child_depth quantifier_node in refl
      deeper false exists d = unfold child_depth quantifier_node in refl

  module _ (sets : List ℕ) where
    place-counts : (vars : List ℕ) (p : Bool) (a : Tree) → Counts (place sets vars p a) (part_total u p a)
    unfolding place part_total
    place-counts vars p (leaf l) = leaf-counts _ _ (λ above. refl) (λ d. unfold child_depth in refl)
    place-counts vars p (neg a) = place-counts vars (not p) a
    place-counts vars p (par a) = place-counts vars p a
    place-counts vars p (bind q v a) = bind-counts p q _ (part_total u p a) _ (place-counts (v ∷ vars) p a) (λ above. refl)
    place-counts vars p (join j a b) =
        joined Counts two two_total two-counts j p _ _ (λ i. part_total u i a) (λ i. part_total u i b) (λ i. place-counts vars i a) (λ i. place-counts vars i b)

    pub core-cells : (a : Tree) → cell_count u (core_of sets a) 0 ≡ 1 + part_total u true a alone
    unfolding core_of cell_count child_depth Counts
    core-cells a =
        let w = part_total u true a alone in
        omega (arith, place-counts [] true a 0 alone none, pow-zero u, ap (λ (n : ℕ). n * w) (pow-zero u), one-mul w)

-- one port makes a cell of each node
one-pow : (d : ℕ) → 1 ^ d ≡ 1
one-pow zero = refl
one-pow (suc d) = omega (arith, pow-suc 1 d, mul-one (1 ^ d), one-pow d)

pub nodes-cells : (f : Forest) (d : ℕ) → node_count f ≡ cell_count 1 f d
unfolding node_count cell_count
nodes-cells none d = refl
nodes-cells (tree n c s) d = omega (arith, one-pow d, nodes-cells c (child_depth n d), nodes-cells s d)

-- totals up to a limit
sum-held : (l a b x A B : ℕ) → a ≡ min l A → b ≡ min l B → x ≡ min l (a + b) → x ≡ min l (A + B)
sum-held l a b x A B h g e = omega arith

more-held : (l x y A B : ℕ) → x ≡ min l (A + B) → y ≡ min l (1 + x) → y ≡ min l (1 + A + B)
more-held l x y A B h e = omega arith

same-held : (l x A B : ℕ) → x ≡ min l (A + B) → x ≡ min l (0 + A + B)
same-held l x A B h = omega arith

module _ (limit : ℕ) (f g : Total) (x y : ℕ) (Y : y ≡ min limit (1 + x)) where
  pub pair-and : x ≡ min limit (f.and + g.and) → PairHeld limit true f g (record { alone = y; and = x; or = y })
  unfolding PairHeld two_total joint_total
  pair-and X w v F G =
      let S = sum-held limit _ _ x _ _ F.is-and G.is-and X in
      let M = more-held limit x y _ _ S Y in
      record { is-alone = M; is-and = same-held limit x _ _ S; is-or = M }

  pub pair_or : x ≡ min limit (f.or + g.or) → PairHeld limit false f g (record { alone = y; and = y; or = x })
  unfolding PairHeld two_total joint_total
  pair_or X w v F G =
      let S = sum-held limit _ _ x _ _ F.is-or G.is-or X in
      let M = more-held limit x y _ _ S Y in
      record { is-alone = M; is-and = M; is-or = same-held limit x _ _ S }

-- an operator's number names it
join_of : ℕ → Join
join_of (suc (suc (suc (suc (suc zero))))) = conj
join_of (suc (suc (suc (suc (suc (suc zero)))))) = disj
join_of (suc (suc (suc (suc (suc (suc (suc zero))))))) = imp
join_of (suc (suc (suc (suc (suc (suc (suc (suc zero)))))))) = rev
join_of (suc (suc (suc (suc (suc (suc (suc (suc (suc n))))))))) = iff
join_of zero = iff
join_of (suc zero) = iff
join_of (suc (suc zero)) = iff
join_of (suc (suc (suc zero))) = iff
join_of (suc (suc (suc (suc zero)))) = iff

join-of : (j : Join) → join_of (join_operator j) ≡ j
unfolding join_of join_operator
join-of conj = refl
join-of disj = refl
join-of imp = refl
join-of rev = refl
join-of iff = refl

pub same-join : (n : ℕ) (j k : Join) → n ≡ join_operator j → n ≡ join_operator k → j ≡ k
same-join n j k h g = sym (join-of j) ∙ ap join_of (sym h ∙ g) ∙ join-of k

-- the two parts of a join, each read at a polarity
module _ (limit : ℕ) (a b : Totals) where
  pair_read : (r : Total) (j i k : Bool) (f g : Total) → f ≡ total_at a i → g ≡ total_at b k → PairHeld limit j f g r
      → (w x : Bool → PartTotal) → HeldBoth limit w a → HeldBoth limit x b → Held limit (two_total j (w i) (x k)) r
  unfolding PairHeld HeldBoth
  pair_read r j i k f g f-is g-is P w x A B = P (w i) (x k) (rw f-is (A i)) (rw g-is (B k))

  module _ (operator : ℕ) (p : Bool) (r : Total) where
    pub join-two : (J : Join) (j i k : Bool) (f g : Total) → operator ≡ join_operator J → f ≡ total_at a i → g ≡ total_at b k → PairHeld limit j f g r
        → ((w x : Bool → PartTotal) → join_with two_total J p w x ≡ two_total j (w i) (x k)) → JoinHeld limit operator p a b r
    unfolding JoinHeld
    join-two J j i k f g o f-is g-is P e K o' w x A B =
        rw (same-join operator K J o' o, e w x) (pair_read r j i k f g f-is g-is P w x A B)

    pub join-iff : (forth back fa fb ba bb : Total) → (operator ≡ 5 → ⊥) → (operator ≡ 6 → ⊥) → (operator ≡ 7 → ⊥) → (operator ≡ 8 → ⊥)
        → fa ≡ total_at a (not p) → fb ≡ total_at b p → PairHeld limit (not p) fa fb forth
        → ba ≡ total_at a p → bb ≡ total_at b (not p) → PairHeld limit (not p) ba bb back
        → PairHeld limit p forth back r → JoinHeld limit operator p a b r
    unfolding JoinHeld join_operator PairHeld join_with
    join-iff forth back fa fb ba bb n5 n6 n7 n8 e1 e2 P e3 e4 Q R conj o w x A B = absurd (n5 o)
    join-iff forth back fa fb ba bb n5 n6 n7 n8 e1 e2 P e3 e4 Q R disj o w x A B = absurd (n6 o)
    join-iff forth back fa fb ba bb n5 n6 n7 n8 e1 e2 P e3 e4 Q R imp o w x A B = absurd (n7 o)
    join-iff forth back fa fb ba bb n5 n6 n7 n8 e1 e2 P e3 e4 Q R rev o w x A B = absurd (n8 o)
    join-iff forth back fa fb ba bb n5 n6 n7 n8 e1 e2 P e3 e4 Q R iff o w x A B =
        R _ _ (pair_read forth (not p) (not p) p fa fb e1 e2 P w x A B) (pair_read back (not p) p (not p) ba bb e3 e4 Q w x A B)

-- one more than u times a total
pub scaled-is : (limit u x m r : ℕ) → 1 ≤ u → limit < 4294967296 → m ≡ min 4294967295 (u * x) → r ≡ min limit (1 + m) → Scaled limit u x r
unfolding Scaled
scaled-is limit u x m r h fits M R w e = go (cases_lt limit w)
  where
    go : (limit < w) ⊎ (w ≤ limit) → r ≡ min limit (1 + u * w)
    go (inl l) = omega (arith, mul-le-mul_right w h, one-mul w, mul-le-mul_right x h, one-mul x)
    go (inr l) = let same : x ≡ w = omega arith in omega (arith, ap (λ (n : ℕ). u * n) same)

pub both-held : (limit : ℕ) (w : Bool → PartTotal) (r : Totals) → Held limit (w true) r.plus → Held limit (w false) r.minus → HeldBoth limit w r
unfolding HeldBoth total_at
both-held limit w r P M true = P
both-held limit w r P M false = M

abbrev same : ℕ → Total
same x = record { alone = x; and = x; or = x }

pub alike : (limit n x : ℕ) (r : Total) → r ≡ same x → x ≡ min limit n → Held limit (λ above. n) r
alike limit n x r e h = rw e (record { is-alone = h; is-and = h; is-or = h })

pub quantified : (limit u x y : ℕ) (b : Totals) (p n : Total) → p ≡ same x → n ≡ same y → Scaled limit u b.plus.alone x → Scaled limit u b.minus.alone y
    → Quantified limit u b (record { plus = p; minus = n })
unfolding Quantified Scaled HeldBoth total_at
quantified limit u x y b p n P N X Y w B =
    both-held limit (λ i above. 1 + u * w i alone) _ (alike limit _ x p P (X _ (B true).is-alone)) (alike limit _ y n N (Y _ (B false).is-alone))

pub both-joined : (limit operator : ℕ) (a b r : Totals) → JoinHeld limit operator true a b r.plus → JoinHeld limit operator false a b r.minus → BothJoined limit operator a b r
unfolding BothJoined total_at
both-joined limit operator a b r P M true = P
both-joined limit operator a b r P M false = M

-- the totals of a stored tree, by its last record
module _ (t : List ℕ) (e u limit : ℕ) where
  pub totals-early : (r : Totals) → e < 2 → HasTotals t e u limit r
  unfolding HasTotals
  totals-early r h a d = absurd (omega (arith, stored-after d))

  pub totals-past : (r : Totals) → length t < e → HasTotals t e u limit r
  unfolding HasTotals
  totals-past r h a d = absurd (omega (arith, stored-within d))

  module _ (r : Totals) where
    abbrev Goal : Tree → Type 0
    Goal a = HeldBoth limit (λ i. part_total u i a) r

    through : (a : Tree) → Goal a → Goal (par a)
    unfolding part_total
    through a h = h

    pub totals-leaf : literal_code (get_or t (e - 1) 0) ≡ true → HeldBoth limit (λ i above. 1) r → HasTotals t e u limit r
    unfolding HasTotals part_total
    totals-leaf h H = on-leaf t e Goal through h (λ l d. H)

    pub totals-neg : (b : Totals) → get_or t (e - 1) 0 ≡ 2 → (total_at r true ≡ total_at b false) × (total_at r false ≡ total_at b true) → HasTotals t (e - 2) u limit b → HasTotals t e u limit r
    unfolding HasTotals part_total HeldBoth
    totals-neg b h E B = on-neg t e Goal through h (λ a d. go a d)
      where
        go : (a : Tree) → Stored t (e - 2) a → (i : Bool) → Held limit (part_total u (not i) a) (total_at r i)
        go a d true = rw E.0 (B a d false)
        go a d false = rw E.1 (B a d true)

    pub totals-bind : (b : Totals) → literal_code (get_or t (e - 1) 0) ≡ false → (get_or t (e - 1) 0 ≡ 2 → ⊥) → get_or t (e - 1) 0 < 5
        → Quantified limit u b r → HasTotals t (e - 2) u limit b → HasTotals t e u limit r
    unfolding HasTotals part_total Quantified
    totals-bind b n m h Q B = on-bind t e Goal through n m h (λ q v a s d. Q (λ i. part_total u i a) (B a d))

    pub totals-join : (a b : Totals) → literal_code (get_or t (e - 1) 0) ≡ false → (get_or t (e - 1) 0 ≡ 2 → ⊥) → 5 ≤ get_or t (e - 1) 0
        → BothJoined limit (get_or t (e - 1) 0) a b r → HasTotals t (get_or t (e - 2) 0) u limit a → HasTotals t (e - 2) u limit b → HasTotals t e u limit r
    unfolding HasTotals part_total BothJoined JoinHeld HeldBoth
    totals-join a b n m h J A B =
        on-join t e Goal through n m h (λ j x y o i c d k. J k j o (λ l. part_total u l x) (λ l. part_total u l y) (A x c) (B y d))

    pub totals-none : (JoinAt t e → ⊥) → literal_code (get_or t (e - 1) 0) ≡ false → (get_or t (e - 1) 0 < 2) ⊎ (5 ≤ get_or t (e - 1) 0) → HasTotals t e u limit r
    unfolding HasTotals literal_code
    totals-none f n (inl h) a d = absurd (true≢false (sym (or-true-left _ _ (lt-ltb _ 2 h)) ∙ n))
    totals-none f n (inr h) a d = absurd (no-tree t e f n (λ m. omega arith) h a d)

-- the joins at the end of a tree, taken from the one that stands first: of n, so many are left
pub totals-next : (t : List ℕ) (e u limit n left : ℕ) (a b r : Totals) → Joins t e n → 0 < left → left ≤ n → HasTotals t (e - 2 * left) u limit b
    → HasTotals t (get_or t (e - 2 * (left - 1) - 2) 0) u limit a → BothJoined limit (get_or t (e - 2 * (left - 1) - 1) 0) a b r
    → HasTotals t (e - 2 * (left - 1)) u limit r
totals-next t e u limit n left a b r J some l B A R =
    let j = next-join t e n left J some l in
    totals-join t (e - 2 * (left - 1)) u limit r a b (join-other t _ j) (join-no-negation t _ j) j.low R A (rw (next-right t e n left J some l) B)

pub totals-done : (t : List ℕ) (e u limit left : ℕ) (r : Totals) → left ≤ 0 → HasTotals t (e - 2 * left) u limit r → HasTotals t e u limit r
totals-done t e u limit left r h B = rw (none_left e left h) at B

-- the whole core has the root besides
pub counts-cells : (t : List ℕ) (e u : ℕ) (w : Totals) (r : ℕ) → HasTotals t e u 1048577 w → r ≡ min 1048577 (1 + w.plus.alone) → CountsCells t e u r
unfolding CountsCells HasTotals HeldBoth total_at
counts-cells t e u w r W h sets a d = omega (arith, core-cells u sets a, (W a d true).is-alone)

pub counts-nodes : (t : List ℕ) (e : ℕ) (w : Totals) (r : ℕ) → HasTotals t e 1 513 w → r ≡ min 513 (1 + w.plus.alone) → CountsNodes t e r
unfolding CountsNodes HasTotals HeldBoth total_at
counts-nodes t e w r W h sets a d = omega (arith, nodes-cells (core_of sets a) 0, core-cells 1 sets a, (W a d true).is-alone)

-- one more than u times a total, full and not
pub scaled-full : (limit u x : ℕ) → 1 ≤ u → limit ≤ x → Scaled limit u x limit
unfolding Scaled
scaled-full limit u x h g w e = omega (arith, mul-le-mul_right w h, one-mul w)

pub scaled-low : (limit u x r : ℕ) → x < limit → r ≡ min limit (1 + u * x) → Scaled limit u x r
unfolding Scaled
scaled-low limit u x r h e w g = let same : x ≡ w = omega arith in e ∙ ap (λ (n : ℕ). min limit (1 + u * n)) same

pub scaled_fits : (u x limit : ℕ) → u ≤ 64 → x < limit → limit ≤ 1048577 → u * x < 4294967296
scaled_fits u x limit h g l =
    let low : x ≤ 1048577 = omega arith in
    let m : u * x ≤ 64 * 1048577 = mul-le-mul h low in omega arith
