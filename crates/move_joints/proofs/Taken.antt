-- The pairs of sets taken one after the other, and what the table has after the last. Assumes nothing.
use mathlib.Core.Path.{◌≡◌, refl, sym, ap, ap₂, ◌∙◌, subst}
use mathlib.Core.Logic.{◌≢◌}
use mathlib.Core.Bool.{Bool, true, false, ◌&&◌, true≢false}
use mathlib.Core.List.{List, [], ◌∷◌}
use Prim.Native.Nat.{ℕ, ◌+◌, ◌*◌, ◌/◌, ◌%◌, ◌≤◌, ◌<◌}
use native.Mathlib.Omega.{arith}
use native.Mathlib.Decide.{ℕ_discrete}
use lib.ListN.{length, get_or}
use Rattle.logic.specs.Formula.{Node, Forest, none, tree, Plan}
use Rattle.logic.specs.Configuration.{in_mask}
use Rattle.logic.specs.Change.{modulus}
use Rattle.table_format.specs.inner.Index.{forest_uses}
use Rattle.cells_touch.specs.inner.Hits.{meets}
use Rattle.cells_touch.proofs.Bits.{in-zero}
use Rattle.cells_atoms.proofs.Over.{sum-mod}
use Rattle.move_shares.specs.inner.Shares.{entering, leaving, whole_share, ShareReady, TreeReady, set_bits}
use Rattle.move_shares.proofs.Unused.{AllUnused, unused-resized, unused-flipped, unused-first, unused-second}
use Rattle.move_slots.specs.inner.Slots.{slot_at, joint_read, AtomGiven, OwnAre, JointsTaken, JointsReady, TakesJoints}
use Rattle.move_slots.proofs.Atom.{uses-are, tree-ready}
use Rattle.move_joints.specs.inner.Joints.{PairOf, JointAt, PairAdded, PairHas, PairTaken, PairsBelow}

-- The table has the atom where its number was the same before, and where it is the same after.
module _ (u test : ℕ) (masks sizes cells : List ℕ) (n : Node) (c : Forest) (b d s t x : ℕ) where
  joint-from : (joint joint₁ joint₂ : List ℕ) → slot_at joint₁ (16 * s + t) x ≡ slot_at joint (16 * s + t) x
      → JointAt u test masks sizes cells n c b d joint₁ joint₂ s t x → JointAt u test masks sizes cells n c b d joint joint₂ s t x
  unfolding JointAt joint_read
  joint-from joint joint₁ joint₂ e h =
      h ∙ ap (λ (y : ℕ). (y + whole_share u masks sizes cells ((s, leaving test x) ∷ (t, entering test x) ∷ []) x n c b d) % modulus) e

  joint-on : (joint joint₁ joint₂ : List ℕ) → slot_at joint₂ (16 * s + t) x ≡ slot_at joint₁ (16 * s + t) x
      → JointAt u test masks sizes cells n c b d joint joint₁ s t x → JointAt u test masks sizes cells n c b d joint joint₂ s t x
  unfolding JointAt joint_read
  joint-on joint joint₁ joint₂ e h =
      ap (λ (y : ℕ). (y + (whole_share u masks sizes cells ((s, leaving test x) ∷ []) x n c b d + whole_share u masks sizes cells ((t, entering test x) ∷ []) x n c b d)) % modulus) e
      ∙ h

-- Sums of which one part is none, modulo 2^32.
second-counts : (a b w : ℕ) → a % modulus ≡ 0 → w % modulus ≡ b % modulus → (a + b) % modulus ≡ w % modulus
unfolding modulus
second-counts a b w h i = omega arith

first-counts : (a b w : ℕ) → b % modulus ≡ 0 → w % modulus ≡ a % modulus → (a + b) % modulus ≡ w % modulus
unfolding modulus
first-counts a b w h i = omega arith

-- A pair of which the atom does not use both sets: the table stays as it is.
module _ (P : Plan) (masks cells sizes : List ℕ) (ready : ShareReady P masks cells sizes) (n : Node) (c : Forest) (b d : ℕ) (stands : TreeReady P n c d)
    (test : ℕ) (joint : List ℕ) (s t x : ℕ) (low : x < P.ports) where
  abbrev whole : ℕ → ℕ → ℕ
  whole S j = whole_share P.ports masks sizes cells ((S, j) ∷ []) x n c b d

  whole-none : (S j : ℕ) → meets (forest_uses (tree n c none)) (set_bits S) ≡ false → whole S j % modulus ≡ 0
  unfolding whole_share AllUnused
  whole-none S j h =
      second-counts _ _ _ (unused-resized P masks cells sizes ready n c b d stands ((S, j) ∷ []) (h, tt)) refl
      ∙ unused-flipped P masks cells sizes ready n c b d stands ((S, j) ∷ []) (h, tt) x low

  first-none : meets (forest_uses (tree n c none)) (set_bits s) ≡ false → JointAt P.ports test masks sizes cells n c b d joint joint s t x
  unfolding JointAt
  first-none h =
      sum-mod (joint_read joint s t x) (joint_read joint s t x) _ _ refl
      (second-counts (whole s (leaving test x)) (whole t (entering test x)) _ (whole-none s (leaving test x) h)
      (unused-first P masks cells sizes ready n c b d stands s (leaving test x) t (entering test x) h x low))

  second_none : meets (forest_uses (tree n c none)) (set_bits t) ≡ false → JointAt P.ports test masks sizes cells n c b d joint joint s t x
  unfolding JointAt
  second_none h =
      sum-mod (joint_read joint s t x) (joint_read joint s t x) _ _ refl
      (first-counts (whole s (leaving test x)) (whole t (entering test x)) _ (whole-none t (entering test x) h)
      (unused-second P masks cells sizes ready n c b d stands s (leaving test x) t (entering test x) h x low))

  one_none : (v w : Bool) → meets (forest_uses (tree n c none)) (set_bits s) ≡ v → meets (forest_uses (tree n c none)) (set_bits t) ≡ w → (v && w) ≡ false
      → JointAt P.ports test masks sizes cells n c b d joint joint s t x
  one_none false w h i e = first-none h
  one_none true false h i e = second_none i
  one_none true true h i e = absurd (true≢false e)

both_true : (v w : Bool) → (v && w) ≡ true → (v ≡ true) × (w ≡ true)
both_true true true h = (refl, refl)
both_true true false h = absurd (true≢false (sym h))
both_true false w h = absurd (true≢false (sym h))

module _ (u sets : ℕ) (bytes firsts ends uses masks sizes cells : List ℕ) (i d : ℕ) (mine own : List ℕ) where
  abbrev Given : Plan → Node → Forest → Forest → ℕ → Type 0
  Given = AtomGiven u sets bytes firsts ends uses masks sizes cells i d

  few : (P : Plan) (n : Node) (c f : Forest) (b : ℕ) → Given P n c f b → sets ≤ 16
  few P n c f b g = omega (arith, g.sets-are, g.ready.settled.sets16)

  unused-pair : (joint : List ℕ) (P : Plan) (n : Node) (c f : Forest) (b : ℕ) → Given P n c f b → (s t x : ℕ) → x < u
      → (meets (get_or uses i 0) (set_bits s) && meets (get_or uses i 0) (set_bits t)) ≡ false
      → JointAt u (get_or masks sets 0) masks sizes cells n c b d joint joint s t x
  unused-pair joint P n c f b g s t x l h =
      let stands = tree-ready u sets bytes firsts ends uses masks sizes cells i d P n c f b g in
      let e = uses-are u sets bytes firsts ends uses masks sizes cells i d P n c f b g in
      subst (λ (w : ℕ). JointAt w (get_or masks sets 0) masks sizes cells n c b d joint joint s t x) (sym g.ports-are)
      (one_none P masks cells sizes g.ready n c b d stands (get_or masks sets 0) joint s t x (subst (λ (w : ℕ). x < w) g.ports-are l)
      _ _ refl refl (ap (λ (w : ℕ). meets w (set_bits s) && meets w (set_bits t)) (sym e) ∙ h))

  -- One pair.
  pub pair_of : (pair : ℕ) (joint : List ℕ) → JointsReady u sets bytes firsts ends uses masks sizes cells i d mine own joint → pair < 16 * sets → pair % 16 < sets
      → pair / 16 ≢ pair % 16 → PairOf u bytes firsts ends uses masks sizes cells i d (pair / 16) (pair % 16)
  pair_of pair joint h l k n = record {
    sets = sets;
    atom = record { plan = h.plan; node = h.node; children = h.children; siblings = h.siblings; first = h.first; given = h.given };
    first_below = omega arith;
    second_below = k;
    differ = n;
  }

  module _ (pair : ℕ) where
    parts : (s t : ℕ) → t < 16 → 16 * s + t ≡ pair → (s ≡ pair / 16) × (t ≡ pair % 16)
    parts s t h e = (omega arith, omega arith)

    pair-kept : (joint : List ℕ)
        → ((s t : ℕ) → t < sets → sets ≤ 16 → s ≢ t → 16 * s + t ≡ pair → (meets (get_or uses i 0) (set_bits s) && meets (get_or uses i 0) (set_bits t)) ≡ false)
        → PairTaken u sets bytes firsts ends uses masks sizes cells i d pair mine own joint joint
    unfolding PairHas
    pair-kept joint h = record {
      others = λ l x xu n. refl;
      has = λ P n c f b g own-are s t x sl tl differ xu e. unused-pair joint P n c f b g s t x xu (h s t tl (few P n c f b g) differ e);
    }

    -- no pair of two sets of the plan
    pub pair-outside : (joint : List ℕ) → sets ≤ pair % 16 → PairTaken u sets bytes firsts ends uses masks sizes cells i d pair mine own joint joint
    pair-outside joint h = pair-kept joint (λ s t tl low differ e. absurd (omega arith))

    pub pair_same : (joint : List ℕ) → pair / 16 ≡ pair % 16 → PairTaken u sets bytes firsts ends uses masks sizes cells i d pair mine own joint joint
    pair_same joint h =
        pair-kept joint (λ s t tl low differ e. let q = parts s t (omega arith) e in absurd (differ (q.0 ∙ h ∙ sym q.1)))

    module _ (used : ℕ) (used-is : used ≡ get_or uses i 0) (a : Bool) (a-is : a ≡ (meets used (set_bits (pair / 16)) && meets used (set_bits (pair % 16)))) where
      both-are : (meets (get_or uses i 0) (set_bits (pair / 16)) && meets (get_or uses i 0) (set_bits (pair % 16))) ≡ a
      both-are = sym (a-is ∙ ap (λ (w : ℕ). meets w (set_bits (pair / 16)) && meets w (set_bits (pair % 16))) used-is)

      pub pair-unused : (joint : List ℕ) → a ≡ false → PairTaken u sets bytes firsts ends uses masks sizes cells i d pair mine own joint joint
      pair-unused joint h =
          pair-kept joint (λ s t tl low differ e.
          let q = parts s t (omega arith) e in
          ap₂ (λ (y z : ℕ). meets (get_or uses i 0) (set_bits y) && meets (get_or uses i 0) (set_bits z)) q.0 q.1 ∙ both-are ∙ h)

      -- Both sets are used: the table has the atom for the ports that are not in test, and for those that are.
      module _ (a-true : a ≡ true) (test : ℕ) (test-is : test ≡ get_or masks sets 0) where
        abbrev Added : Bool → List ℕ → List ℕ → Type 0
        Added tested = PairAdded u bytes firsts ends uses masks sizes cells i d (pair / 16) (pair % 16) test tested mine own

        abbrev At : Node → Forest → ℕ → List ℕ → List ℕ → ℕ → Type 0
        At n c b joint joint' x = JointAt u test masks sizes cells n c b d joint joint' (pair / 16) (pair % 16) x

        added-at : (tested : Bool) (joint joint' : List ℕ) → Added tested joint joint' → (P : Plan) (n : Node) (c f : Forest) (b : ℕ) → Given P n c f b
            → OwnAre u sets uses masks sizes cells i n c b d mine own → pair / 16 < sets → pair % 16 < sets → pair / 16 ≢ pair % 16
            → (x : ℕ) → x < u → in_mask test x ≡ tested → At n c b joint joint' x
        added-at tested joint joint' A P n c f b g own-are sl tl differ =
            let q = both_true _ _ (both-are ∙ a-true) in A.added sets P n c f b g own-are sl tl differ q.0 q.1

        pair-by : (joint joint' : List ℕ) → ((k x : ℕ) → x < u → k ≢ 16 * (pair / 16) + pair % 16 → slot_at joint' k x ≡ slot_at joint k x)
            → ((P : Plan) (n : Node) (c f : Forest) (b : ℕ) → Given P n c f b → OwnAre u sets uses masks sizes cells i n c b d mine own
            → pair / 16 < sets → pair % 16 < sets → pair / 16 ≢ pair % 16 → (x : ℕ) → x < u → At n c b joint joint' x)
            → PairTaken u sets bytes firsts ends uses masks sizes cells i d pair mine own joint joint'
        unfolding PairHas
        pair-by joint joint' h at = record {
          others = λ l x xu n. h l x xu (λ q. n (omega arith));
          has = λ P n c f b g own-are s t x sl tl differ xu e.
              let q = parts s t (omega (arith, few P n c f b g)) e in
              subst (λ (w : ℕ). JointAt u w masks sizes cells n c b d joint joint' s t x) test-is
              (rw q.0 (rw q.1 (at P n c f b g own-are (omega (arith, q.0)) (omega (arith, q.1)) (λ o. differ (q.0 ∙ o ∙ sym q.1)) x xu)));
        }

        pub pair-untested : (joint joint' : List ℕ) → Added false joint joint' → test ≡ 0
            → PairTaken u sets bytes firsts ends uses masks sizes cells i d pair mine own joint joint'
        pair-untested joint joint' A zero =
            pair-by joint joint' A.others (λ P n c f b g own-are sl tl differ x xu.
            added-at false joint joint' A P n c f b g own-are sl tl differ x xu (ap (λ (w : ℕ). in_mask w x) zero ∙ in-zero x))

        pub pair-tested : (joint joint₁ joint₂ : List ℕ) → Added false joint joint₁ → Added true joint₁ joint₂
            → PairTaken u sets bytes firsts ends uses masks sizes cells i d pair mine own joint joint₂
        pair-tested joint joint₁ joint₂ A B =
            pair-by joint joint₂ (λ k x xu n. B.others k x xu n ∙ A.others k x xu n)
            (λ P n c f b g own-are sl tl differ x xu. go P n c f b g own-are sl tl differ x xu (in_mask test x) refl)
          where
            go : (P : Plan) (n : Node) (c f : Forest) (b : ℕ) → Given P n c f b → OwnAre u sets uses masks sizes cells i n c b d mine own
                → pair / 16 < sets → pair % 16 < sets → pair / 16 ≢ pair % 16 → (x : ℕ) → x < u → (o : Bool) → in_mask test x ≡ o → At n c b joint joint₂ x
            go P n c f b g own-are sl tl differ x xu false h =
                joint-on u test masks sizes cells n c b d (pair / 16) (pair % 16) x joint joint₁ joint₂ (B.kept x xu h)
                (added-at false joint joint₁ A P n c f b g own-are sl tl differ x xu h)
            go P n c f b g own-are sl tl differ x xu true h =
                joint-from u test masks sizes cells n c b d (pair / 16) (pair % 16) x joint joint₁ joint₂ (A.kept x xu h)
                (added-at true joint₁ joint₂ B P n c f b g own-are sl tl differ x xu h)

  -- Pair after pair.
  pub ready_on : (joint joint₁ : List ℕ) → JointsReady u sets bytes firsts ends uses masks sizes cells i d mine own joint → length joint₁ ≡ 16384
      → JointsReady u sets bytes firsts ends uses masks sizes cells i d mine own joint₁
  ready_on joint joint₁ h l = record {
    plan = h.plan;
    node = h.node;
    children = h.children;
    siblings = h.siblings;
    first = h.first;
    given = h.given;
    mine-long = h.mine-long;
    own-long = h.own-long;
    joint-long = l;
  }

  pub none-taken : (joint : List ℕ) → length joint ≡ 16384 → PairsBelow u sets bytes firsts ends uses masks sizes cells i d 0 mine own joint joint
  none-taken joint l = record {
    within = omega arith;
    long = l;
    later = λ k x xu h. refl;
    has = λ k h. absurd (omega arith);
  }

  pub one-taken : (m : ℕ) (joint joint₁ joint₂ : List ℕ) → m < 16 * sets
      → PairsBelow u sets bytes firsts ends uses masks sizes cells i d m mine own joint joint₁
      → PairTaken u sets bytes firsts ends uses masks sizes cells i d m mine own joint₁ joint₂ → length joint₂ ≡ 16384
      → PairsBelow u sets bytes firsts ends uses masks sizes cells i d (m + 1) mine own joint joint₂
  unfolding PairHas
  one-taken m joint joint₁ joint₂ low below step l = record {
    within = omega arith;
    long = l;
    later = λ k x xu h. step.others k x xu (λ q. omega arith) ∙ below.later k x xu (omega arith);
    has = λ k h P n c f b g own-are s t x sl tl differ xu e. more k h P n c f b g own-are s t x sl tl differ xu e (ℕ_discrete k m);
  }
    where
      more : (k : ℕ) → k < m + 1 → (P : Plan) (n : Node) (c f : Forest) (b : ℕ) → Given P n c f b
          → OwnAre u sets uses masks sizes cells i n c b d mine own → (s t x : ℕ) → s < sets → t < sets → s ≢ t → x < u → 16 * s + t ≡ k → Dec (k ≡ m)
          → JointAt u (get_or masks sets 0) masks sizes cells n c b d joint joint₂ s t x
      more k h P n c f b g own-are s t x sl tl differ xu e (yes q) =
          joint-from u (get_or masks sets 0) masks sizes cells n c b d s t x joint joint₁ joint₂ (below.later (16 * s + t) x xu (omega arith))
          (step.has P n c f b g own-are s t x sl tl differ xu (e ∙ q))
      more k h P n c f b g own-are s t x sl tl differ xu e (no q) =
          joint-on u (get_or masks sets 0) masks sizes cells n c b d s t x joint joint₁ joint₂ (step.others (16 * s + t) x xu (λ o. q (sym e ∙ o)))
          (below.has k (omega arith) P n c f b g own-are s t x sl tl differ xu e)

  pub takes-joints : (m : ℕ) (joint joint' : List ℕ) → 16 * sets ≤ m → PairsBelow u sets bytes firsts ends uses masks sizes cells i d m mine own joint joint'
      → TakesJoints u sets bytes firsts ends uses masks sizes cells i d mine own joint joint'
  unfolding TakesJoints JointsTaken JointAt PairHas
  takes-joints m joint joint' last below P n c f b g own-are s t x sl tl differ xu =
      below.has (16 * s + t) (omega (arith, few P n c f b g)) P n c f b g own-are s t x sl tl differ xu refl
