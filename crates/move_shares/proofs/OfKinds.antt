-- The share that an add, a drop and a transfer have of an atom: the resizing's, and the flip's at the move's port. Assumes nothing.
use mathlib.Core.Path.{◌≡◌, refl, sym, ap, ap₂, ◌∙◌, subst, fun_ext}
use mathlib.Core.Logic.{◌≢◌}
use mathlib.Core.Bool.{Bool, true, false, cond, not, ◌&&◌, ◌||◌}
use mathlib.Core.List.{List, [], ◌∷◌}
use Prim.Native.Nat.{ℕ, zero, suc, ◌+◌, ◌-◌, ◌%◌, ◌≤◌, ◌<◌}
use native.Mathlib.Decide.{ℕ_discrete}
use native.Mathlib.Omega.{arith}
use lib.Dec.{eqb}
use lib.ListN.{get_or}
use borrow.Author.Tests.{eqb-true, eqb-false, eq-eqb, ne_eqb, not-true}
use Rattle.logic.specs.declared.Move.{Move}
use Rattle.logic.specs.Formula.{Test, isin, notin, port, size, Node, root, all, any, and, or, lit, Forest, none, tree, Plan, child_depth}
use Rattle.logic.specs.inner.Literals.{Every, OfLiteral, OfTest}
use Rattle.logic.specs.Configuration.{Sets, Configuration, indicator, ports_in, out_of_test, configured, configuration, in_mask, in_masks, spelled, own_masks}
use Rattle.logic.specs.Truth.{Tuple, port_of}
use Rattle.logic.specs.Penalty.{size_penalty, test_penalty}
use Rattle.logic.specs.Moves.{move_kind, fields_fit, known, fits, legal, Pair, kind_pairs, named_pairs, move_pairs, flips}
use Rattle.logic.specs.Cells.{place_of}
use Rattle.logic.specs.Change.{some_of, Change, pairs_change, modulus, cell_of, new_cell}
use Rattle.logic.proofs.Lists.{and_left, and_right}
use Rattle.logic.proofs.Bound.{sizes-64}
use Rattle.logic.proofs.MoveFields.{known-fields}
use Rattle.logic.proofs.Moves.{PairsKnown, known-pairs, known-ports, move-spells, flips-in-test}
use Rattle.cells_walk.specs.inner.Nodes.{TestFits, Fitting}
use Rattle.cells_walk.specs.inner.Visit.{CellsFit}
use Rattle.cells_atoms.specs.inner.Alike.{AlikeAt, Alike}
use Rattle.cells_atoms.specs.inner.Atoms.{over_tuples, difference}
use Rattle.cells_atoms.proofs.Alike.{new-cell-alike}
use Rattle.cells_atoms.proofs.Atoms.{difference-is, new-cell-fits}
use Rattle.cells_atoms.proofs.Ports.{by_way_of}
use Rattle.cells_atoms.proofs.Tuples.{tuples-two}
use Rattle.cells_flip.proofs.Words.{literals-66}
use Rattle.cells_ports.specs.inner.Ports.{resized_by, flipped_by}
use Rattle.move_shares.specs.inner.Shares.{configuration_after, change_by, share_of, entering, leaving, Outcome, changing, sized_as, pairs_of, resizing, flipping, resized_to, flipped_to, resized_share, flipped_share, whole_share, SizesAre, ShareReady, TreeReady}
use Rattle.move_shares.proofs.Alike.{tuples-mod}
use Rattle.move_shares.proofs.Words.{Proper, proper-one, proper-two, flips-are, sized-low}

-- Sets that differ at one port only.
pub ports-same : (u : ℕ) (s s' : ℕ → Bool) → ((q : ℕ) → q < u → s' q ≡ s q) → ports_in u s' ≡ ports_in u s
unfolding ports_in
ports-same zero s s' H = refl
ports-same (suc u) s s' H = omega (arith, ports-same u s s' (λ q l. H q (omega arith)), ap indicator (H u (omega arith)))

pub ports-but-one : (u : ℕ) (s s' : ℕ → Bool) (p : ℕ) → p < u → ((q : ℕ) → q ≢ p → s' q ≡ s q) → ports_in u s' + indicator (s p) ≡ ports_in u s + indicator (s' p)
unfolding ports_in
ports-but-one zero s s' p l H = absurd (omega arith)
ports-but-one (suc u) s s' p l H = go (ℕ_discrete p u) (λ i. ports-but-one u s s' p i H)
  where
    go : Dec (p ≡ u) → (p < u → ports_in u s' + indicator (s p) ≡ ports_in u s + indicator (s' p))
        → ports_in u s' + indicator (s' u) + indicator (s p) ≡ ports_in u s + indicator (s u) + indicator (s' p)
    go (yes e) h =
        omega (arith, ports-same u s s' (λ q i. H q (λ z. omega arith)), ap (λ (q : ℕ). indicator (s q)) e, ap (λ (q : ℕ). indicator (s' q)) e)
    go (no n) h = omega (arith, h (omega arith), ap indicator (H u (λ z. n (sym z))))

-- What becomes of a set's size where a port flips, by whether it was in the set.
turned : ℕ → ℕ → Bool → ℕ
turned test p inside = cond inside (leaving test p) (entering test p)

one_of : (b : Bool) (x y : ℕ) → x ≤ 2 → y ≤ 2 → cond b x y ≤ 2
one_of true x y h i = h
one_of false x y h i = i

entering-low : (test p : ℕ) → entering test p ≤ 2
unfolding entering
entering-low test p = one_of (in_mask test p) 1 2 (omega arith) (omega arith)

leaving-low : (test p : ℕ) → leaving test p ≤ 2
unfolding leaving
leaving-low test p = one_of (in_mask test p) 1 0 (omega arith) (omega arith)

turned-size : (test p : ℕ) (inside : Bool) (x y : ℕ) → y + indicator (inside && not (in_mask test p)) ≡ x + indicator (not inside && not (in_mask test p))
    → y ≡ x + turned test p inside - 1
unfolding turned entering leaving indicator
turned-size test p inside x y = go inside (in_mask test p)
  where
    go : (a b : Bool) → y + cond (a && not b) 1 0 ≡ x + cond (not a && not b) 1 0 → y ≡ x + cond a (cond b 1 0) (cond b 1 2) - 1
    go true true h = omega arith
    go true false h = omega arith
    go false true h = omega arith
    go false false h = omega arith

flip-size : (u test p : ℕ) (s s' : ℕ → Bool) → p < u → ((q : ℕ) → s' q ≡ cond (eqb q p) (not (s q)) (s q))
    → ports_in u (out_of_test s' (in_mask test)) ≡ ports_in u (out_of_test s (in_mask test)) + turned test p (s p) - 1
unfolding out_of_test
flip-size u test p s s' l H =
    turned-size test p (s p) _ _
    (ports-but-one u (out_of_test s (in_mask test)) (out_of_test s' (in_mask test)) p l
    (λ q n. ap (λ (b : Bool). b && not (in_mask test q)) (H q ∙ ap (λ (b : Bool). cond b (not (s q)) (s q)) (ne_eqb q p n)))
    ∙ ap (λ (b : Bool). ports_in u (out_of_test s (in_mask test)) + indicator (b && not (in_mask test p)))
    (H p ∙ ap (λ (b : Bool). cond b (not (s p)) (s p)) (eq-eqb p p refl)))

-- Each set's outcome is that of a flip at x.
unfoldable Turns : ℕ → Sets → ℕ → List Outcome → Type 0
Turns test k x [] = Unit {0}
Turns test k x (z ∷ zs) = (z.1 ≡ turned test x (k z.0 x)) × Turns test k x zs

sized-is : (test : ℕ) (k : Sets) (x : ℕ) (sizes : List ℕ) (zs : List Outcome) → Turns test k x zs → (S : ℕ)
    → sized_as sizes zs S ≡ cond (changing zs S) (get_or sizes S 0 + turned test x (k S x) - 1) (get_or sizes S 0)
unfolding sized_as changing some_of Turns
sized-is test k x sizes [] h S = refl
sized-is test k x sizes (z ∷ zs) h S = go (eqb S z.0) refl (sized-is test k x sizes zs h.1 S)
  where
    go : (b : Bool) → eqb S z.0 ≡ b
        → sized_as sizes zs S ≡ cond (changing zs S) (get_or sizes S 0 + turned test x (k S x) - 1) (get_or sizes S 0)
        → cond b (get_or sizes S 0 + z.1 - 1) (sized_as sizes zs S) ≡ cond (b || changing zs S) (get_or sizes S 0 + turned test x (k S x) - 1) (get_or sizes S 0)
    go true e i = ap (λ (j : ℕ). get_or sizes S 0 + j - 1) (h.0 ∙ ap (λ (Z : ℕ). turned test x (k Z x)) (sym (eqb-true S z.0 e)))
    go false e i = i

-- the size of a set after the flips at x
size-after : (u test x : ℕ) (k : Sets) (sizes : List ℕ) (zs : List Outcome) → x < u → Proper zs → Turns test k x zs
    → (S : ℕ) → get_or sizes S 0 ≡ ports_in u (out_of_test (k S) (in_mask test))
    → ports_in u (out_of_test (flips (pairs_of zs x) k S) (in_mask test)) ≡ sized_as sizes zs S
size-after u test x k sizes zs l proper turns S is = go (changing zs S) refl ∙ sym (sized-is test k x sizes zs turns S)
  where
    flipped : (b : Bool) → changing zs S ≡ b → (q : ℕ) → flips (pairs_of zs x) k S q ≡ cond (b && eqb q x) (not (k S q)) (k S q)
    flipped b e q = flips-are zs x proper k S q ∙ ap (λ (a : Bool). cond (a && eqb q x) (not (k S q)) (k S q)) e

    go : (b : Bool) → changing zs S ≡ b
        → ports_in u (out_of_test (flips (pairs_of zs x) k S) (in_mask test)) ≡ cond (changing zs S) (get_or sizes S 0 + turned test x (k S x) - 1) (get_or sizes S 0)
    go true e =
        flip-size u test x (k S) (flips (pairs_of zs x) k S) l (flipped true e)
        ∙ ap (λ (j : ℕ). j + turned test x (k S x) - 1) (sym is) ∙ sym (ap (λ (a : Bool). cond a (get_or sizes S 0 + turned test x (k S x) - 1) (get_or sizes S 0)) e)
    go false e =
        ap (λ (s : ℕ → Bool). ports_in u (out_of_test s (in_mask test))) (fun_ext (λ q. flipped false e q))
        ∙ sym is ∙ sym (ap (λ (a : Bool). cond a (get_or sizes S 0 + turned test x (k S x) - 1) (get_or sizes S 0)) e)

-- a rule of tests that follows from another
of_test : (A B : Test → Type 0) → ((t : Test) → A t → B t) → (n : Node) → OfTest A n → OfTest B n
unfolding OfLiteral
of_test A B H root h = tt
of_test A B H all h = tt
of_test A B H any h = tt
of_test A B H and h = tt
of_test A B H or h = tt
of_test A B H (lit l) h = H l.test h

-- Configurations with the same members, and the same sizes of a fitting forest's sets, come to the same under one change.
module _ (u sets : ℕ) (k k' : Configuration) (ch : Change) (members : (S p : ℕ) → k.member S p ≡ k'.member S p) (sizes : (S : ℕ) → S < sets → k.size S ≡ k'.size S) where
  test-alike : (d : ℕ) (e : Tuple) (t : Test) → TestFits sets d t → AlikeAt k ch k' ch t e
  unfolding TestFits test_penalty
  test-alike d e (port r v w) f = record { same-hit = refl; same-penalty = λ i. refl }
  test-alike d e (size r S c) f = record { same-hit = refl; same-penalty = λ i. ap (λ (s : ℕ). size_penalty r s c) (sizes S f.0) }
  test-alike d e (isin v S) f = record { same-hit = refl; same-penalty = λ i. ap (λ (b : Bool). indicator (not b)) (members S (port_of e v)) }
  test-alike d e (notin v S) f = record { same-hit = refl; same-penalty = λ i. ap indicator (members S (port_of e v)) }

  pub same_alike : (f : Forest) (d : ℕ) (e : Tuple) → Fitting sets f d → Alike u k ch k' ch f e
  unfolding Fitting Every Alike
  same_alike none d e h = tt
  same_alike (tree n c s) d e h = (
    of_test (TestFits sets d) (λ t. AlikeAt k ch k' ch t e) (test-alike d e) n h.0.literal,
    (λ x w. same_alike c (child_depth n d) x h.1),
    same_alike s d e h.2,
  )

-- the change that the pairs at x make
pairs-named : (zs : List Outcome) (x S : ℕ) → some_of (λ (q : Pair). eqb S q.0) (pairs_of zs x) ≡ changing zs S
unfolding pairs_of changing some_of
pairs-named [] x S = refl
pairs-named (z ∷ zs) x S = ap (λ (a : Bool). eqb S z.0 || a) (pairs-named zs x S)

pairs-change : (zs : List Outcome) (x : ℕ) → pairs_change (pairs_of zs x) ≡ flipping zs x
unfolding pairs_change flipping
pairs-change zs x = ap (λ (r : ℕ → Bool). record { pairs = pairs_of zs x; resized = r }) (fun_ext (λ S. pairs-named zs x S))

-- Some sets flip at x as their outcomes say: what that adds to a tree.
module _ (P : Plan) (own before sizes : List ℕ) (ready : ShareReady P own before sizes) (zs : List Outcome) (x : ℕ) (low : x < P.ports) (proper : Proper zs)
    (turns : Turns (get_or own P.sets 0) (in_masks own) x zs) (known_at_lem : PairsKnown P (pairs_of zs x)) where
  abbrev after : Configuration
  after = configuration P (flips (pairs_of zs x) (in_masks own))

  sizes-after : (S : ℕ) → S < P.sets → after.size S ≡ sized_as sizes zs S
  unfolding configuration configured spelled in_masks SizesAre
  sizes-after S l =
      ap (λ (t : ℕ → Bool). ports_in P.ports (out_of_test (flips (pairs_of zs x) (in_masks own) S) t)) (flips-in-test P (pairs_of zs x) (in_masks own) known_at_lem)
      ∙ size-after P.ports (get_or own P.sets 0) x (in_masks own) sizes zs low proper turns S (ready.sizes-are S l)

  sizes-low : (S : ℕ) → S < P.sets → sized_as sizes zs S ≤ 65
  unfolding configuration spelled SizesAre
  sizes-low S l = sized-low sizes zs proper S (rw (ready.sizes-are S l) (sizes-64 P.ports P.sets (in_masks own) ready.settled.ports64 S))

  module _ (n : Node) (c : Forest) (b d : ℕ) (stands : TreeReady P n c d) where
    -- of a cell
    cell-by : (e : Tuple) → difference P.ports after (flipping zs x) (cell_of P.ports before) n c b d e % modulus
        ≡ (resized_by P.ports (resized_to own sizes zs) (resizing zs) (cell_of P.ports before) n c b d e
        + flipped_by P.ports (resized_to own sizes zs) (resizing zs) (flipped_to own sizes zs x) (flipping zs x) (cell_of P.ports before) n c b d e) % modulus
    unfolding resized_by flipped_by cell_of CellsFit resized_to flipped_to flipping modulus configuration configured
    cell-by e =
        let u = P.ports in
        let t = cell_of u before in
        difference-is u after (flipping zs x) t n c b d e (ready.cells_fit (b + place_of u e))
        ∙ ap (λ (y : ℕ). (y + (modulus - t b e)) % modulus)
        (new-cell-alike u ready.settled.ports1 after (flipping zs x) (flipped_to own sizes zs x) (flipping zs x)
        (known-ports P (pairs_of zs x) known_at_lem) (known-ports P (pairs_of zs x) known_at_lem) t n c b d e stands.regular
        (same_alike u P.sets after (flipped_to own sizes zs x) (flipping zs x) (λ S p. refl) sizes-after (tree n c none) d e stands.fitting))
        ∙ by_way_of (new_cell u (flipped_to own sizes zs x) (flipping zs x) t n c b d e) (new_cell u (resized_to own sizes zs) (resizing zs) t n c b d e) (t b e)
        (new-cell-fits u (resized_to own sizes zs) (resizing zs) t (λ b e. ready.cells_fit (b + place_of u e)) 66 (omega arith) n c b d e
        (literals-66 P.sets (resized_to own sizes zs) sizes-low (tree n c none) d stands.fitting))

    flips-add : over_tuples P.ports d (difference P.ports after (flipping zs x) (cell_of P.ports before) n c b d) [] % modulus
        ≡ whole_share P.ports own sizes before zs x n c b d % modulus
    unfolding whole_share resized_share flipped_share
    flips-add =
        tuples-mod P.ports _ _ d (λ e w. cell-by e)
        ∙ ap (λ (y : ℕ). y % modulus) (tuples-two P.ports d _ _ [])

-- A legal move that flips some sets at its port p.
share-flips : (P : Plan) (own before sizes : List ℕ) (m : Move) → ShareReady P own before sizes → legal P (in_masks own) m ≡ true → (zs : List Outcome)
    → move_pairs P (in_masks own) m ≡ pairs_of zs m.p → Proper zs → Turns (get_or own P.sets 0) (in_masks own) m.p zs
    → (n : Node) (c : Forest) (b d : ℕ) → TreeReady P n c d
    → share_of P own before m n c b d % modulus ≡ whole_share P.ports own sizes before zs m.p n c b d % modulus
unfolding share_of configuration_after change_by legal own_masks
share-flips P own before sizes m ready h zs is proper turns n c b d stands =
    let k = in_masks own in
    let known-here = and_left (known P m) _ h in
    ap₂ (λ (a : Configuration) (ch : Change). over_tuples P.ports d (difference P.ports a ch (cell_of P.ports before) n c b d) [] % modulus)
    (move-spells P m own h ready.settled.masks-long ∙ ap (λ (qs : List Pair). configuration P (flips qs k)) is)
    (ap pairs_change is ∙ pairs-change zs m.p)
    ∙ flips-add P own before sizes ready zs m.p (known-fields P m known-here).p-below proper turns (subst (PairsKnown P) is (known-pairs P k m known-here)) n c b d stands

-- The kinds whose pairs have one port.
module _ (P : Plan) (own before sizes : List ℕ) (m : Move) (ready : ShareReady P own before sizes) (h : legal P (in_masks own) m ≡ true)
    (n : Node) (c : Forest) (b d : ℕ) (stands : TreeReady P n c d) where
  abbrev test : ℕ
  test = get_or own P.sets 0

  pairs-of : (j : ℕ) → m.kind ≡ j → move_pairs P (in_masks own) m ≡ kind_pairs (move_kind j) m
  unfolding move_pairs named_pairs
  pairs-of j e = ap (λ (i : ℕ). kind_pairs (move_kind i) m) e

  fits-of : (j : ℕ) → m.kind ≡ j → fields_fit (move_kind j) (in_masks own) m ≡ true
  unfolding legal fits
  fits-of j e = ap (λ (i : ℕ). fields_fit (move_kind i) (in_masks own) m) (sym e) ∙ and_right (known P m) _ h

  pub share-add : m.kind ≡ 1 → share_of P own before m n c b d % modulus ≡ whole_share P.ports own sizes before ((m.s, entering test m.p) ∷ []) m.p n c b d % modulus
  unfolding move_kind kind_pairs fields_fit pairs_of Turns turned
  share-add e =
      share-flips P own before sizes m ready h ((m.s, entering test m.p) ∷ []) (pairs-of 1 e) (proper-one _ _ (entering-low test m.p))
      (sym (ap (turned test m.p) (not-true (in_masks own m.s m.p) (fits-of 1 e))), tt) n c b d stands

  pub share-drop : m.kind ≡ 2 → share_of P own before m n c b d % modulus ≡ whole_share P.ports own sizes before ((m.s, leaving test m.p) ∷ []) m.p n c b d % modulus
  unfolding move_kind kind_pairs fields_fit pairs_of Turns turned
  share-drop e =
      share-flips P own before sizes m ready h ((m.s, leaving test m.p) ∷ []) (pairs-of 2 e) (proper-one _ _ (leaving-low test m.p))
      (sym (ap (turned test m.p) (fits-of 2 e)), tt) n c b d stands

  pub share-transfer : m.kind ≡ 3
      → share_of P own before m n c b d % modulus ≡ whole_share P.ports own sizes before ((m.s, leaving test m.p) ∷ (m.t, entering test m.p) ∷ []) m.p n c b d % modulus
  unfolding move_kind kind_pairs fields_fit pairs_of Turns turned
  share-transfer e =
      let k = in_masks own in
      let f = fits-of 3 e in
      let g = and_left (not (eqb m.s m.t) && k m.s m.p) _ f in
      let apart = eqb-false m.s m.t (not-true _ (and_left (not (eqb m.s m.t)) _ g)) in
      share-flips P own before sizes m ready h ((m.s, leaving test m.p) ∷ (m.t, entering test m.p) ∷ []) (pairs-of 3 e)
      (proper-two _ _ _ _ apart (leaving-low test m.p) (entering-low test m.p)) (
        sym (ap (turned test m.p) (and_right (not (eqb m.s m.t)) _ g)),
        (sym (ap (turned test m.p) (not-true (k m.t m.p) (and_right (not (eqb m.s m.t) && k m.s m.p) _ f))), tt),
      ) n c b d stands
