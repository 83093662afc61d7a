-- A swap on a set that a tree without quantifiers tests by one variable only: what the resizing adds and what the flip at each of the
-- two ports adds. Assumes nothing.
use mathlib.Core.Path.{◌≡◌, refl, sym, ap, ◌∙◌, subst}
use mathlib.Core.Logic.{◌≢◌, ◌⊎◌, inl, inr}
use mathlib.Core.Bool.{Bool, true, false, cond, not, ◌&&◌, ◌||◌, true≢false, false≢true}
use mathlib.Core.List.{List, [], ◌∷◌}
use Prim.Native.Nat.{ℕ, zero, suc, ◌+◌, ◌-◌, ◌*◌, ◌%◌, ◌≤◌, ◌<◌}
use native.Mathlib.Decide.{ℕ_discrete}
use native.Mathlib.Omega.{arith}
use lib.Dec.{eqb}
use lib.ListN.{length, get_or}
use borrow.Author.Tests.{eqb-true, eq-eqb, ne_eqb, lt-leb, not-true}
use Rattle.logic.specs.declared.Move.{Move}
use Rattle.logic.specs.Formula.{Node, Forest, none, tree, Plan}
use Rattle.logic.specs.Configuration.{Sets, Configuration, indicator, ports_in, out_of_test, configured, configuration, in_mask, in_masks, own_masks, spelled}
use Rattle.logic.specs.Truth.{Tuple, port_of}
use Rattle.logic.specs.Moves.{Pair, move_kind, fields_fit, fits, known, legal, kind_pairs, named_pairs, move_pairs, flip, flips}
use Rattle.logic.specs.inner.Agreement.{listed}
use Rattle.logic.specs.Change.{some_of, member_hit, pairs_change, modulus, cell_of, new_cell}
use Rattle.logic.proofs.Lists.{TupleOf, or-false, and-false, and_left, and_right}
use Rattle.logic.proofs.Tables.{length-tuple}
use Rattle.logic.proofs.Touched.{PortsBelow}
use Rattle.logic.proofs.Bound.{sizes-64}
use Rattle.logic.proofs.Moves.{PairsKnown, known-pairs, move-spells, flips-in-test}
use Rattle.table_format.specs.inner.Index.{forest_uses}
use Rattle.cells_walk.specs.inner.Visit.{CellsFit}
use Rattle.cells_atoms.specs.inner.Atoms.{over_tuples, difference}
use Rattle.cells_atoms.proofs.Atoms.{new-cell-fits, difference-is}
use Rattle.cells_atoms.proofs.Tuples.{tuples-two}
use Rattle.cells_flip.specs.inner.Flips.{Flat, Flipped}
use Rattle.cells_flip.proofs.Words.{literals-66}
use Rattle.cells_ports.specs.inner.Ports.{resized_by, flipped_by}
use Rattle.cells_both.specs.inner.Both.{at_two, FlipsBoth, FourAre, both_by}
use Rattle.move_shares.specs.inner.Shares.{configuration_after, change_by, share_of, entering, leaving, exchanged, Outcome, changing, sized_as, pairs_of, resizing, flipping, resized_to, flipped_to, resized_share, flipped_share, swapped_set, four_of, both_share, SizesAre, ShareReady, TreeReady, crosses}
use Rattle.move_shares.proofs.Alike.{Here, flat-alike, tuples-mod}
use Rattle.move_shares.proofs.Unused.{pairs_below}
use Rattle.move_shares.proofs.Words.{proper-one, sized-low, resizes-so, flips-so, resized-flipped, flipped-flipped}

-- a set that no two variables test is tested by one
one-variable : (used S : ℕ) → crosses used S ≡ false → (w : ℕ) × ((v : ℕ) → v < 3 → in_mask used (4 * S + v) ≡ true → v ≡ w)
unfolding crosses
one-variable used S h = let r = go (in_mask used (4 * S)) (in_mask used (4 * S + 1)) (in_mask used (4 * S + 2)) h in (r.0, by r)
  where
    Only : Bool → Bool → Bool → ℕ → Type 0
    Only a b c w = (a ≡ true → 0 ≡ w) × (b ≡ true → 1 ≡ w) × (c ≡ true → 2 ≡ w)

    go : (a b c : Bool) → ((a && (b || c)) || (b && c)) ≡ false → (w : ℕ) × Only a b c w
    go true true c i = absurd (true≢false i)
    go true false true i = absurd (true≢false i)
    go true false false i = (0, ((λ j. refl), (λ j. absurd (false≢true j)), (λ j. absurd (false≢true j))))
    go false true true i = absurd (true≢false i)
    go false true false i = (1, ((λ j. absurd (false≢true j)), (λ j. refl), (λ j. absurd (false≢true j))))
    go false false c i = (2, ((λ j. absurd (false≢true j)), (λ j. absurd (false≢true j)), (λ j. refl)))

    by : (r : (w : ℕ) × Only (in_mask used (4 * S)) (in_mask used (4 * S + 1)) (in_mask used (4 * S + 2)) w) → (v : ℕ) → v < 3 → in_mask used (4 * S + v) ≡ true → v ≡ r.0
    by r zero l i = r.1.0 (ap (in_mask used) (let e : 4 * S ≡ 4 * S + 0 = omega arith in e) ∙ i)
    by r (suc zero) l i = r.1.1 i
    by r (suc (suc zero)) l i = r.1.2 i
    by r (suc (suc (suc v))) l i = absurd (omega arith)

-- Under a tuple no variable that tests the set has this port.
Missed : ℕ → ℕ → Tuple → ℕ → Type 0
Missed used S e p = (v : ℕ) → v < 3 → in_mask used (4 * S + v) ≡ true → port_of e v ≢ p

-- its one variable has at most one of two ports
one-missed : (used S : ℕ) → crosses used S ≡ false → (p q : ℕ) → p ≢ q → (e : Tuple) → Missed used S e p ⊎ Missed used S e q
unfolding Missed
one-missed used S h p q differ e = let r = one-variable used S h in go r.0 r.1 (ℕ_discrete (port_of e r.0) p)
  where
    go : (w : ℕ) → ((v : ℕ) → v < 3 → in_mask used (4 * S + v) ≡ true → v ≡ w) → Dec (port_of e w ≡ p) → Missed used S e p ⊎ Missed used S e q
    go w only (yes a) = inr (λ v l i j. differ (sym a ∙ ap (port_of e) (sym (only v l i)) ∙ j))
    go w only (no a) = inl (λ v l i j. a (ap (port_of e) (sym (only v l i)) ∙ j))

-- a pair at a port that is missed does not hit, and flips nothing there
missed-hit : (v S s p : ℕ) (e : Tuple) → v < length e → (S ≡ s → port_of e v ≢ p) → member_hit v S e (s, p) ≡ false
unfolding member_hit
missed-hit v S s p e l h = and-false (eqb S s) _ (λ i. or-false _ _ (lt-leb (length e) v l) (ne_eqb (port_of e v) p (h (eqb-true S s i))))

missed-flip : (k : Sets) (S s p z : ℕ) → (S ≡ s → z ≢ p) → flip (s, p) k S z ≡ k S z
unfolding flip
missed-flip k S s p z h = ap (λ (a : Bool). cond a (not (k S z)) (k S z)) (and-false (eqb S s) _ (λ i. ne_eqb z p (h (eqb-true S s i))))

flip-own : (k : Sets) (s p : ℕ) → flip (s, p) k s p ≡ not (k s p)
unfolding flip
flip-own k s p = rw (eq-eqb s s refl, eq-eqb p p refl) refl

-- how many ports are in a set after one of them has entered or left
ports-same : (u : ℕ) (g h : ℕ → Bool) → ((z : ℕ) → z < u → g z ≡ h z) → ports_in u g ≡ ports_in u h
unfolding ports_in
ports-same zero g h H = refl
ports-same (suc u) g h H = omega (arith, ports-same u g h (λ z l. H z (omega arith)), ap indicator (H u (omega arith)))

ports-changed : (u : ℕ) (g h : ℕ → Bool) (p : ℕ) → p < u → ((z : ℕ) → z ≢ p → g z ≡ h z) → ports_in u g + indicator (h p) ≡ ports_in u h + indicator (g p)
unfolding ports_in
ports-changed zero g h p l H = absurd (omega arith)
ports-changed (suc u) g h p l H = go (ℕ_discrete p u) (λ i. ports-changed u g h p i H)
  where
    go : Dec (p ≡ u) → (p < u → ports_in u g + indicator (h p) ≡ ports_in u h + indicator (g p))
        → ports_in u g + indicator (g u) + indicator (h p) ≡ ports_in u h + indicator (h u) + indicator (g p)
    go (yes i) f = rw i (omega (arith, ports-same u g h (λ z a. H z (λ j. omega arith))))
    go (no i) f = omega (arith, f (omega arith), ap indicator (H u (λ j. i (sym j))))

-- the size of a set after a flip, by whether the port was in it and is in test
flip-size : (u : ℕ) (k : Sets) (t : ℕ → Bool) (s x : ℕ) → x < u → (a : Bool) → k s x ≡ a
    → ports_in u (out_of_test (flip (s, x) k s) t) + indicator (a && not (t x)) ≡ ports_in u (out_of_test (k s) t) + indicator (not a && not (t x))
unfolding out_of_test
flip-size u k t s x l a h =
    ap (λ (y : Bool). ports_in u (out_of_test (flip (s, x) k s) t) + indicator (y && not (t x))) (sym h)
    ∙ ports-changed u (out_of_test (flip (s, x) k s) t) (out_of_test (k s) t) x l (λ z i. ap (λ (y : Bool). y && not (t z)) (missed-flip k s s x z (λ j. i)))
    ∙ ap (λ (y : Bool). ports_in u (out_of_test (k s) t) + indicator (y && not (t x))) (flip-own k s x ∙ ap not h)

-- one port has left and another entered, each in test or not
exchange : (tp tq : Bool) (a b c : ℕ) → b + indicator (not tp) ≡ a → c ≡ b + indicator (not tq) → c ≡ a + (cond tp 1 0 + cond tq 1 2 - 1) - 1
unfolding indicator
exchange true true a b c h i = omega arith
exchange true false a b c h i = omega arith
exchange false true a b c h i = omega arith
exchange false false a b c h i = omega arith

exchange-low : (test p q : ℕ) → exchanged test p q ≤ 2
unfolding exchanged leaving entering
exchange-low test p q = go (in_mask test p) (in_mask test q)
  where
    go : (a b : Bool) → cond a 1 0 + cond b 1 2 - 1 ≤ 2
    go true true = omega arith
    go true false = omega arith
    go false true = omega arith
    go false false = omega arith

-- new less old, by way of the resizing: the flip at one port is the whole change, and at the other nothing
by-flips : (new old base one other : ℕ) → base < modulus → new ≡ one → other ≡ base
    → (new + (modulus - old)) % modulus ≡ (base + (modulus - old) + (one + (modulus - base)) + (other + (modulus - base))) % modulus
unfolding modulus
by-flips new old base one other l h i = omega arith

-- new less old, by way of the resizing and each flip
by_both : (new old base one other : ℕ) → base < modulus → one < modulus → other < modulus
    → (new + (modulus - old)) % modulus
    ≡ (base + (modulus - old) + (one + (modulus - base)) + (other + (modulus - base)) + (new + (modulus - one) + (base + (modulus - other)))) % modulus
unfolding modulus
by_both new old base one other l h i = omega arith

module _ (P : Plan) (own before sizes : List ℕ) (ready : ShareReady P own before sizes) (n : Node) (c : Forest) (b d : ℕ) (stands : TreeReady P n c d)
    (flat : Flat (tree n c none) d) (s p q : ℕ) (s-below : s < P.sets) (p-below : p < P.ports) (q-below : q < P.ports)
    (inside : in_masks own s p ≡ true) (outside : in_masks own s q ≡ false) where
  abbrev u : ℕ
  u = P.ports

  abbrev used : ℕ
  used = forest_uses (tree n c none)

  abbrev test : ℕ
  test = get_or own P.sets 0

  abbrev zs : List Outcome
  zs = (s, exchanged test p q) ∷ []

  abbrev qs : List Pair
  qs = (s, p) ∷ (s, q) ∷ []

  abbrev after : Configuration
  after = configuration P (flips qs (in_masks own))

  differ : p ≢ q
  differ i = true≢false (sym inside ∙ ap (in_masks own s) i ∙ outside)

  -- the set's size after the swap
  size-after : after.size s ≡ get_or sizes s 0 + exchanged test p q - 1
  unfolding configuration configured flips exchanged leaving entering SizesAre spelled PairsKnown in_masks indicator
  size-after =
      ap (λ (t : ℕ → Bool). ports_in u (out_of_test (K2 s) t)) (flips-in-test P qs (in_masks own) (s-below, p-below, (s-below, q-below, tt)))
      ∙ exchange (in_mask test p) (in_mask test q) (count (in_masks own)) (count K1) (count K2) leaves enters
      ∙ ap (λ (x : ℕ). x + (cond (in_mask test p) 1 0 + cond (in_mask test q) 1 2 - 1) - 1) (sym (ready.sizes-are s s-below))
    where
      K1 : Sets
      K1 = flip (s, p) (in_masks own)

      K2 : Sets
      K2 = flip (s, q) K1

      count : Sets → ℕ
      count k = ports_in u (out_of_test (k s) (in_masks own P.sets))

      leaves : count K1 + indicator (not (in_mask test p)) ≡ count (in_masks own)
      leaves = omega (arith, flip-size u (in_masks own) (in_masks own P.sets) s p p-below true inside)

      enters : count K2 ≡ count K1 + indicator (not (in_mask test q))
      enters = omega (arith, flip-size u K1 (in_masks own P.sets) s q q-below false (missed-flip (in_masks own) s s p q (λ i j. differ (sym j)) ∙ outside))

  size_same : (S : ℕ) → S ≡ s → after.size S ≡ sized_as sizes zs S
  unfolding sized_as
  size_same S i = rw (i, eq-eqb s s refl) size-after

  resized-same : (S : ℕ) → (pairs_change qs).resized S ≡ changing zs S
  unfolding pairs_change changing some_of
  resized-same S = go (eqb S s)
    where
      go : (a : Bool) → (a || (a || false)) ≡ (a || false)
      go true = refl
      go false = refl

  resized-set : (S : ℕ) → (pairs_change qs).resized S ≡ true → S ≡ s
  unfolding changing some_of
  resized-set S h = eqb-true S s (go (eqb S s) (sym (resized-same S) ∙ h))
    where
      go : (a : Bool) → (a || false) ≡ true → a ≡ true
      go true i = refl
      go false i = i

  -- the change and the configuration of both flips, as the sums for both ports ask them
  both-lists : FlipsBoth (changing zs) (changing zs) p q (pairs_change qs)
  unfolding FlipsBoth at_two pairs_change listed changing some_of
  both-lists = record { listed-are = λ S x. joined (eqb S s) (eqb x p) (eqb x q); resized-are = resized-same }
    where
      joined : (a b c : Bool) → ((a && b) || ((a && c) || false)) ≡ ((a || false) && (b || c))
      joined true true c = refl
      joined true false true = refl
      joined true false false = refl
      joined false b c = refl

  both-flipped : (of : ℕ) (asked : List ℕ)
      → ((S : ℕ) → S < 16 → in_mask of (4 * S + 3) ≡ true → changing zs S ≡ true → get_or asked S 0 ≡ sized_as sizes zs S)
      → Flipped of own asked (pairs_change qs) after
  unfolding pairs_change listed some_of configuration configured flips flip
  both-flipped of asked asked-are = record {
    members = λ S x h. turned S x (eqb S s) (eqb x p) (eqb x q) refl refl refl h;
    sizes-are = λ S l i h. size_same S (resized-set S h) ∙ sym (asked-are S l i (sym (resized-same S) ∙ h));
    low = λ S. omega (arith, sizes-64 u P.sets (flips qs (in_masks own)) ready.settled.ports64 S);
  }
    where
      turned : (S x : ℕ) (a b c : Bool) → eqb S s ≡ a → eqb x p ≡ b → eqb x q ≡ c → ((a && b) || ((a && c) || false)) ≡ true
          → cond (a && c) (not (cond (a && b) (not (in_masks own S x)) (in_masks own S x))) (cond (a && b) (not (in_masks own S x)) (in_masks own S x)) ≡ not (in_masks own S x)
      turned S x true true true i j k h = absurd (differ (sym (eqb-true x p j) ∙ eqb-true x q k))
      turned S x true true false i j k h = refl
      turned S x true false true i j k h = refl
      turned S x true false false i j k h = absurd (false≢true h)
      turned S x false b c i j k h = absurd (false≢true h)

  abbrev swapped : Tuple → ℕ
  swapped = new_cell u after (pairs_change qs) (cell_of u before) n c b d

  abbrev resized_new : Tuple → ℕ
  resized_new = new_cell u (resized_to own sizes zs) (resizing zs) (cell_of u before) n c b d

  abbrev flipped_new : ℕ → Tuple → ℕ
  flipped_new x = new_cell u (flipped_to own sizes zs x) (flipping zs x) (cell_of u before) n c b d

  module _ (e : Tuple) (tuple : TupleOf u d e) where
    -- what stands at the tuple: its length, and a port that is missed
    bound : (v i : ℕ) (y : Tuple) → Here d e i y → v < i → v < length y
    unfolding Here
    bound v i y w l = omega (arith, w.0, ap length w.1 ∙ length-tuple tuple)

    missed-at : (x : ℕ) → Missed used s e x → (S v i : ℕ) (y : Tuple) → Here d e i y → v < 3 → in_mask used (4 * S + v) ≡ true → S ≡ s → port_of y v ≢ x
    unfolding Here Missed
    missed-at x h S v i y w l a o j = h v l (ap (λ (z : ℕ). in_mask used (4 * z + v)) (sym o) ∙ a) (ap (λ (z : Tuple). port_of z v) (sym w.1) ∙ j)

    -- at a port that is missed the flip adds nothing to the resizing
    flip-missed : (x : ℕ) → x < u → Missed used s e x → flipped_new x e ≡ resized_new e
    unfolding flipping resizing flipped_to resized_to pairs_of flips some_of PortsBelow
    flip-missed x low h =
        flat-alike u P.sets (flipped_to own sizes zs x) (flipping zs x) (resized_to own sizes zs) (resizing zs) ready.settled.ports1
        (pairs_below u x low zs) tt (cell_of u before) n c b d e stands.regular stands.fitting flat
        record {
          hits = λ S v i y w l l3 a. or-false _ _ (missed-hit v S s x y (bound v i y w l) (missed-at x h S v i y w l3 a)) refl;
          members = λ S v i y w l l3 a o. missed-flip (in_masks own) S s x (port_of y v) (missed-at x h S v i y w l3 a);
          resized-same = λ S l a. refl;
          sizes-same = λ S l a o. refl;
        }

    -- the swap is the flip at one of its ports where the other is missed
    swap_alike : (x : ℕ) → x < u
        → ((S v i : ℕ) (y : Tuple) → Here d e i y → v < i → v < 3 → in_mask used (4 * S + v) ≡ true
        → (some_of (member_hit v S y) qs ≡ (member_hit v S y (s, x) || false)) × (flip (s, q) (flip (s, p) (in_masks own)) S (port_of y v) ≡ flip (s, x) (in_masks own) S (port_of y v)))
        → swapped e ≡ flipped_new x e
    unfolding flipping flipped_to pairs_of pairs_change flips some_of PortsBelow configuration configured
    swap_alike x low H =
        flat-alike u P.sets after (pairs_change qs) (flipped_to own sizes zs x) (flipping zs x) ready.settled.ports1
        (p-below, (q-below, tt)) (pairs_below u x low zs) (cell_of u before) n c b d e stands.regular stands.fitting flat
        record {
          hits = λ S v i y w l l3 a. (H S v i y w l l3 a).0;
          members = λ S v i y w l l3 a o. (H S v i y w l l3 a).1;
          resized-same = λ S l a. resized-same S;
          sizes-same = λ S l a o. size_same S (resized-set S o);
        }

    swap-missed-p : Missed used s e p → swapped e ≡ flipped_new q e
    unfolding some_of flip
    swap-missed-p h =
        swap_alike q q-below (λ S v i y w l l3 a. (
          ap (λ (o : Bool). o || (member_hit v S y (s, q) || false)) (missed-hit v S s p y (bound v i y w l) (missed-at p h S v i y w l3 a)),
          ap (λ (o : Bool). cond (eqb S s && eqb (port_of y v) q) (not o) o) (missed-flip (in_masks own) S s p (port_of y v) (missed-at p h S v i y w l3 a)),
        ))

    swap-missed-q : Missed used s e q → swapped e ≡ flipped_new p e
    unfolding some_of
    swap-missed-q h =
        swap_alike p p-below (λ S v i y w l l3 a. (
          ap (λ (o : Bool). member_hit v S y (s, p) || (o || false)) (missed-hit v S s q y (bound v i y w l) (missed-at q h S v i y w l3 a)),
          missed-flip (flip (s, p) (in_masks own)) S s q (port_of y v) (missed-at q h S v i y w l3 a),
        ))

  -- sizes that are at most 65, so numbers that fit
  size_low : (S : ℕ) → S < P.sets → sized_as sizes zs S ≤ 65
  unfolding SizesAre spelled configuration
  size_low S l =
      sized-low sizes zs (proper-one s (exchanged test p q) (exchange-low test p q)) S
      (rw (ready.sizes-are S l) (sizes-64 u P.sets (in_masks own) ready.settled.ports64 S))

  cells_low : (x : ℕ) (e : Tuple) → cell_of u before x e < modulus
  unfolding cell_of CellsFit
  cells_low x e = ready.cells_fit _

  resized-fits : (e : Tuple) → resized_new e < modulus
  unfolding resized_to modulus
  resized-fits e =
      new-cell-fits u (resized_to own sizes zs) (resizing zs) (cell_of u before) cells_low 66 (omega arith) n c b d e
      (literals-66 P.sets (resized_to own sizes zs) size_low (tree n c none) d stands.fitting)

  flipped-fits : (x : ℕ) (e : Tuple) → flipped_new x e < modulus
  unfolding flipped_to modulus
  flipped-fits x e =
      new-cell-fits u (flipped_to own sizes zs x) (flipping zs x) (cell_of u before) cells_low 66 (omega arith) n c b d e
      (literals-66 P.sets (flipped_to own sizes zs x) size_low (tree n c none) d stands.fitting)

  abbrev parts : Tuple → ℕ
  parts e =
      resized_new e + (modulus - cell_of u before b e) + (flipped_new p e + (modulus - resized_new e)) + (flipped_new q e + (modulus - resized_new e))

  swap-cell : crosses used s ≡ false → (e : Tuple) → TupleOf u d e
      → difference u after (pairs_change qs) (cell_of u before) n c b d e % modulus ≡ parts e % modulus
  swap-cell h e w = difference-is u after (pairs_change qs) (cell_of u before) n c b d e (cells_low b e) ∙ go (one-missed used s h p q differ e)
    where
      go : Missed used s e p ⊎ Missed used s e q → (swapped e + (modulus - cell_of u before b e)) % modulus ≡ parts e % modulus
      go (inl i) =
          by-flips (swapped e) (cell_of u before b e) (resized_new e) (flipped_new q e) (flipped_new p e) (resized-fits e) (swap-missed-p e w i) (flip-missed e w p p-below i)
          ∙ ap (λ (x : ℕ). x % modulus) (turned (resized_new e + (modulus - cell_of u before b e)) _ _)
        where
          turned : (x y z : ℕ) → x + y + z ≡ x + z + y
          turned x y z = omega arith
      go (inr i) =
          by-flips (swapped e) (cell_of u before b e) (resized_new e) (flipped_new p e) (flipped_new q e) (resized-fits e) (swap-missed-q e w i) (flip-missed e w q q-below i)

  -- the parts, and what both flips bring beyond each, whether or not they meet
  abbrev together : Tuple → ℕ
  together e = swapped e + (modulus - flipped_new p e) + (resized_new e + (modulus - flipped_new q e))

  parts-sum : over_tuples u d parts []
      ≡ resized_share u own sizes before zs n c b d + flipped_share u own sizes before zs p n c b d + flipped_share u own sizes before zs q n c b d
  unfolding resized_share resized_by flipped_share flipped_by
  parts-sum =
      tuples-two u d (λ e. resized_new e + (modulus - cell_of u before b e) + (flipped_new p e + (modulus - resized_new e))) (λ e. flipped_new q e + (modulus - resized_new e)) []
      ∙ ap (λ (x : ℕ). x + over_tuples u d (λ e. flipped_new q e + (modulus - resized_new e)) [])
      (tuples-two u d (λ e. resized_new e + (modulus - cell_of u before b e)) (λ e. flipped_new p e + (modulus - resized_new e)) [])

  swap-whole : over_tuples u d (difference u after (pairs_change qs) (cell_of u before) n c b d) [] % modulus
      ≡ (resized_share u own sizes before zs n c b d + flipped_share u own sizes before zs p n c b d + flipped_share u own sizes before zs q n c b d
      + over_tuples u d together []) % modulus
  swap-whole =
      tuples-mod u (difference u after (pairs_change qs) (cell_of u before) n c b d) (λ e. parts e + together e) d
      (λ e w. difference-is u after (pairs_change qs) (cell_of u before) n c b d e (cells_low b e)
      ∙ by_both (swapped e) (cell_of u before b e) (resized_new e) (flipped_new p e) (flipped_new q e) (resized-fits e) (flipped-fits p e) (flipped-fits q e))
      ∙ ap (λ (x : ℕ). x % modulus) (tuples-two u d parts together [] ∙ ap (λ (x : ℕ). x + over_tuples u d together []) parts-sum)

  swap-share : crosses used s ≡ false
      → over_tuples u d (difference u after (pairs_change qs) (cell_of u before) n c b d) [] % modulus
      ≡ (resized_share u own sizes before zs n c b d + flipped_share u own sizes before zs p n c b d + flipped_share u own sizes before zs q n c b d) % modulus
  swap-share h =
      tuples-mod u (difference u after (pairs_change qs) (cell_of u before) n c b d) parts d (swap-cell h) ∙ ap (λ (x : ℕ). x % modulus) parts-sum

-- the pairs of a swap, and what its rule says of them
swap-pairs : (P : Plan) (k : Sets) (m : Move) → m.kind ≡ 4 → move_pairs P k m ≡ (m.s, m.p) ∷ (m.s, m.q) ∷ []
unfolding move_pairs named_pairs kind_pairs move_kind
swap-pairs P k m e = ap (λ (i : ℕ). kind_pairs (move_kind i) m) e

swap-fits : (k : Sets) (m : Move) → m.kind ≡ 4 → fits k m ≡ true → (k m.s m.p && not (k m.s m.q)) ≡ true
unfolding fits fields_fit move_kind
swap-fits k m e h = ap (λ (i : ℕ). fields_fit (move_kind i) k m) (sym e) ∙ h

-- What a swap adds to a tree without quantifiers that tests its set by one variable only: what the resizing adds, and each flip alone.
pub share-swap : (P : Plan) (own before sizes : List ℕ) → ShareReady P own before sizes → (n : Node) (c : Forest) (b d : ℕ) → TreeReady P n c d
    → Flat (tree n c none) d → (m : Move) → m.kind ≡ 4 → legal P (in_masks own) m ≡ true → crosses (forest_uses (tree n c none)) m.s ≡ false
    → share_of P own before m n c b d % modulus
    ≡ (resized_share P.ports own sizes before (swapped_set P own m) n c b d + flipped_share P.ports own sizes before (swapped_set P own m) m.p n c b d
    + flipped_share P.ports own sizes before (swapped_set P own m) m.q n c b d) % modulus
unfolding legal PairsKnown own_masks share_of configuration_after change_by
share-swap P own before sizes ready n c b d stands flat m e h cross =
    let k = in_masks own in
    let known-are = subst (PairsKnown P) (swap-pairs P k m e) (known-pairs P k m (and_left (known P m) _ h)) in
    let fit = swap-fits k m e (and_right (known P m) _ h) in
    ap (λ (a : Configuration). over a (move_pairs P k m)) (move-spells P m own h ready.settled.masks-long)
    ∙ ap (λ (a : List Pair). over (configuration P (flips a k)) a) (swap-pairs P k m e)
    ∙ swap-share P own before sizes ready n c b d stands flat m.s m.p m.q known-are.0 known-are.1 known-are.2.1
    (and_left (k m.s m.p) _ fit) (not-true _ (and_right (k m.s m.p) _ fit)) cross
  where
    over : Configuration → List Pair → ℕ
    over a ps = over_tuples P.ports d (difference P.ports a (pairs_change ps) (cell_of P.ports before) n c b d) [] % modulus

-- What a swap adds to any tree: what the resizing adds, each flip alone, and what both add beyond each.
pub share-both : (P : Plan) (own before sizes : List ℕ) → ShareReady P own before sizes → (n : Node) (c : Forest) (b d : ℕ) → TreeReady P n c d
    → Flat (tree n c none) d → (m : Move) → m.kind ≡ 4 → legal P (in_masks own) m ≡ true
    → share_of P own before m n c b d % modulus
    ≡ (resized_share P.ports own sizes before (swapped_set P own m) n c b d + flipped_share P.ports own sizes before (swapped_set P own m) m.p n c b d
    + flipped_share P.ports own sizes before (swapped_set P own m) m.q n c b d + both_share P own sizes before m n c b d) % modulus
unfolding legal PairsKnown own_masks share_of both_share both_by four_of configuration_after change_by
share-both P own before sizes ready n c b d stands flat m e h =
    let k = in_masks own in
    let known-are = subst (PairsKnown P) (swap-pairs P k m e) (known-pairs P k m (and_left (known P m) _ h)) in
    let fit = swap-fits k m e (and_right (known P m) _ h) in
    subst (λ (a : Configuration). So a (move_pairs P k m)) (sym (move-spells P m own h ready.settled.masks-long))
    (subst (λ (a : List Pair). So (configuration P (flips a k)) a) (sym (swap-pairs P k m e))
    (swap-whole P own before sizes ready n c b d stands flat m.s m.p m.q known-are.0 known-are.1 known-are.2.1
    (and_left (k m.s m.p) _ fit) (not-true _ (and_right (k m.s m.p) _ fit))))
  where
    zs : List Outcome
    zs = swapped_set P own m

    So : Configuration → List Pair → Type 0
    So a ps =
        over_tuples P.ports d (difference P.ports a (pairs_change ps) (cell_of P.ports before) n c b d) [] % modulus
        ≡ (resized_share P.ports own sizes before zs n c b d + flipped_share P.ports own sizes before zs m.p n c b d
        + flipped_share P.ports own sizes before zs m.q n c b d
        + over_tuples P.ports d (λ x. new_cell P.ports a (pairs_change ps) (cell_of P.ports before) n c b d x
        + (modulus - new_cell P.ports (flipped_to own sizes zs m.p) (flipping zs m.p) (cell_of P.ports before) n c b d x)
        + (new_cell P.ports (resized_to own sizes zs) (resizing zs) (cell_of P.ports before) n c b d x
        + (modulus - new_cell P.ports (flipped_to own sizes zs m.q) (flipping zs m.q) (cell_of P.ports before) n c b d x))) []) % modulus

-- and that is nothing where the tree tests its set by one variable only
pub both-none : (P : Plan) (own before sizes : List ℕ) → ShareReady P own before sizes → (n : Node) (c : Forest) (b d : ℕ) → TreeReady P n c d
    → Flat (tree n c none) d → (m : Move) → m.kind ≡ 4 → legal P (in_masks own) m ≡ true → crosses (forest_uses (tree n c none)) m.s ≡ false
    → both_share P own sizes before m n c b d % modulus ≡ 0
unfolding modulus
both-none P own before sizes ready n c b d stands flat m e h cross =
    nothing-more _ _ _ (share-swap P own before sizes ready n c b d stands flat m e h cross) (share-both P own before sizes ready n c b d stands flat m e h)
  where
    nothing-more : (x y z : ℕ) → x % modulus ≡ y % modulus → x % modulus ≡ (y + z) % modulus → z % modulus ≡ 0
    nothing-more x y z i j = omega arith

-- What is asked of a swap's changes and configurations, where a list has the size after of its set if a tree uses that.
pub four_are : (P : Plan) (own before sizes : List ℕ) → ShareReady P own before sizes → (n : Node) (c : Forest) (b d : ℕ) → TreeReady P n c d
    → Flat (tree n c none) d → (m : Move) → m.kind ≡ 4 → legal P (in_masks own) m ≡ true → ((S : ℕ) → get_or sizes S 0 ≤ 64) → (of : ℕ) (asked : List ℕ)
    → ((S : ℕ) → S < 16 → in_mask of (4 * S + 3) ≡ true → changing (swapped_set P own m) S ≡ true → get_or asked S 0 ≡ sized_as sizes (swapped_set P own m) S)
    → FourAre of own asked (changing (swapped_set P own m)) (changing (swapped_set P own m)) m.p m.q (four_of P own sizes m)
unfolding legal PairsKnown own_masks four_of configuration_after change_by
four_are P own before sizes ready n c b d stands flat m e h few of asked asked-are =
    let k = in_masks own in
    let known-are = subst (PairsKnown P) (swap-pairs P k m e) (known-pairs P k m (and_left (known P m) _ h)) in
    let fit = swap-fits k m e (and_right (known P m) _ h) in
    let inside = and_left (k m.s m.p) _ fit in
    let outside = not-true _ (and_right (k m.s m.p) _ fit) in
    let proper = proper-one m.s (exchanged (get_or own P.sets 0) m.p m.q) (exchange-low (get_or own P.sets 0) m.p m.q) in
    record {
      base-is = resizes-so zs;
      p-is = flips-so zs m.p;
      q-is = flips-so zs m.q;
      both_is = subst (λ (a : List Pair). FlipsBoth (changing zs) (changing zs) m.p m.q (pairs_change a)) (sym (swap-pairs P k m e))
          (both-lists P own before sizes ready n c b d stands flat m.s m.p m.q known-are.0 known-are.1 known-are.2.1 inside outside);
      base-flipped = resized-flipped of own sizes asked zs proper few asked-are;
      p-flipped = flipped-flipped of own sizes asked zs proper few asked-are m.p;
      q-flipped = flipped-flipped of own sizes asked zs proper few asked-are m.q;
      both-flipped = subst (λ (a : Configuration). Flipped of own asked (pairs_change (move_pairs P k m)) a) (sym (move-spells P m own h ready.settled.masks-long))
          (subst (λ (a : List Pair). Flipped of own asked (pairs_change a) (configuration P (flips a k))) (sym (swap-pairs P k m e))
          (both-flipped P own before sizes ready n c b d stands flat m.s m.p m.q known-are.0 known-are.1 known-are.2.1 inside outside of asked asked-are));
    }
  where
    zs : List Outcome
    zs = swapped_set P own m
