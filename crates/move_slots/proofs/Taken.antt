-- The slots taken one after the other, and what the tables have after the last. Assumes nothing.
use Rattle.std.proofs.Common.{◌≡◌, ℕ, ◌+◌, ◌*◌, ◌/◌, ◌%◌, ◌<◌, ◌≤◌, Bool, true, false, cond, not, ◌&&◌, List, [], ◌∷◌, get_or, sym, refl, ap, ◌∙◌, subst, ap₂, arith}
use native.Mathlib.Decide.{ℕ_discrete}
use Rattle.logic.specs.Formula.{Node, Forest, none, tree, Plan}
use Rattle.logic.specs.Configuration.{in_mask}
use Rattle.logic.specs.Change.{modulus}
use Rattle.table_format.specs.inner.Index.{forest_uses}
use Rattle.cells_touch.specs.inner.Hits.{meets}
use Rattle.move_shares.specs.inner.Shares.{resized_share, flipped_share, TreeReady, set_bits}
use Rattle.move_shares.proofs.Unused.{AllUnused, unused-flipped, unused-size}
use Rattle.move_slots.specs.inner.Slots.{slot_of, still_read, flip_read, AtomGiven, SlotRoom, OwnAre, SinglesTaken, SlotsTaken, TakesSlots}
use Rattle.move_slots.specs.inner.Taking.{takes_slot, SlotNumbers, SlotKept, SlotHas, SlotStep, SlotsBelow}
use Rattle.move_slots.proofs.Atom.{uses-are, tree-ready}
use Rattle.move_slots.proofs.Asking.{takes_first, takes-last}
use Rattle.move_slots.proofs.Numbers.{set-of}
use Rattle.move_slots.proofs.Putting.{kept_same}

-- A slot that stays as it was, or as it came to be.
module _ (u k : ℕ) (mine own one still mine₁ own₁ one₁ still₁ mine₂ own₂ one₂ still₂ : List ℕ)
    (next : SlotKept u k mine₁ own₁ one₁ still₁ mine₂ own₂ one₂ still₂) where
  kept_on : SlotKept u k mine own one still mine₁ own₁ one₁ still₁ → SlotKept u k mine own one still mine₂ own₂ one₂ still₂
  kept_on h = record {
    mine-kept = λ x l. next.mine-kept x l ∙ h.mine-kept x l;
    own-kept = next.own-kept ∙ h.own-kept;
    one_kept = λ x l. next.one_kept x l ∙ h.one_kept x l;
    still_kept = next.still_kept ∙ h.still_kept;
  }

  numbers_on : (g : ℕ) (f : ℕ → ℕ) → SlotNumbers u k g f one still mine₁ own₁ one₁ still₁ → SlotNumbers u k g f one still mine₂ own₂ one₂ still₂
  numbers_on g f h = record {
    mine-has = λ x l. next.mine-kept x l ∙ h.mine-has x l;
    own-has = next.own-kept ∙ h.own-has;
    one_has = λ x l. next.one_kept x l ∙ h.one_has x l;
    still-has = next.still_kept ∙ h.still-has;
  }

-- One that came to be what it is from what it was.
numbers-from : (u k g : ℕ) (f : ℕ → ℕ) (mine own one still mine₁ own₁ one₁ still₁ mine₂ own₂ one₂ still₂ : List ℕ)
    → SlotKept u k mine own one still mine₁ own₁ one₁ still₁ → SlotNumbers u k g f one₁ still₁ mine₂ own₂ one₂ still₂
    → SlotNumbers u k g f one still mine₂ own₂ one₂ still₂
numbers-from u k g f mine own one still mine₁ own₁ one₁ still₁ mine₂ own₂ one₂ still₂ h n = record {
  mine-has = n.mine-has;
  own-has = n.own-has;
  one_has = λ x l. n.one_has x l ∙ ap (λ (a : ℕ). (a + f x) % modulus) (h.one_kept x l);
  still-has = n.still-has ∙ ap (λ (a : ℕ). (a + g) % modulus) h.still_kept;
}

-- Sums modulo 2^32 that get a number, in one of two parts, or none.
mod-again : (a b : ℕ) → a ≡ b % modulus → a % modulus ≡ b % modulus
unfolding modulus
mod-again a b h = omega arith

first-gets : (a b a' b' g : ℕ) → a' ≡ (a + g) % modulus → b' ≡ b → (a' + b') % modulus ≡ (a + b + g) % modulus
unfolding modulus
first-gets a b a' b' g h i = omega arith

last-gets : (a b a' b' g : ℕ) → a' ≡ a → b' ≡ (b + g) % modulus → (a' + b') % modulus ≡ (a + b + g) % modulus
unfolding modulus
last-gets a b a' b' g h i = omega arith

gets_none : (a a' g : ℕ) → a' ≡ a → g % modulus ≡ 0 → a' % modulus ≡ (a + g) % modulus
unfolding modulus
gets_none a a' g h i = omega arith

neither-gets : (a b a' b' g : ℕ) → a' ≡ a → b' ≡ b → g % modulus ≡ 0 → (a' + b') % modulus ≡ (a + b + g) % modulus
neither-gets a b a' b' g h i = gets_none (a + b) (a' + b') g (ap₂ ◌+◌ h i)

-- Which slots of a set take an atom.
four : (t j : ℕ) → j < 4 → ((4 * t + j) / 4 ≡ t) × ((4 * t + j) % 4 ≡ j)
four t j h = (omega arith, omega arith)

takes-outcome : (used t l : ℕ) → l ≤ 2 → takes_slot used (4 * t + l) ≡ in_mask used (4 * t + 3)
takes-outcome used t l h =
    let q = four t l (omega arith) in
    takes_first used (4 * t + l) (omega (arith, q.1)) ∙ ap (λ (y : ℕ). in_mask used (4 * y + 3)) q.0

takes-other : (used t : ℕ) → takes_slot used (4 * t + 3) ≡ (not (in_mask used (4 * t + 3)) && meets used (set_bits t))
takes-other used t =
    let q = four t 3 (omega arith) in
    takes-last used (4 * t + 3) (omega (arith, q.1))
    ∙ ap (λ (y : ℕ). not (in_mask used (4 * y + 3)) && meets used (set_bits y)) q.0

module _ (u sets : ℕ) (bytes firsts ends uses masks sizes cells : List ℕ) (i d : ℕ) (mine own one still : List ℕ) where
  abbrev used : ℕ
  used = get_or uses i 0

  pub none-taken : SlotRoom mine own one still → SlotsBelow u sets bytes firsts ends uses masks sizes cells i d 0 mine own one still mine own one still
  none-taken room = record {
    within = omega arith;
    room = room;
    later = λ k l. kept_same u k mine own one still;
    skipped = λ k h. kept_same u k mine own one still;
    taken = λ k l. absurd (omega arith);
  }

  -- one slot more
  pub one-taken : (m : ℕ) (mine₁ own₁ one₁ still₁ mine₂ own₂ one₂ still₂ : List ℕ) → m < 4 * sets
      → SlotsBelow u sets bytes firsts ends uses masks sizes cells i d m mine own one still mine₁ own₁ one₁ still₁
      → SlotStep u bytes firsts ends uses masks sizes cells i d m mine₁ own₁ one₁ still₁ mine₂ own₂ one₂ still₂
      → SlotRoom mine₂ own₂ one₂ still₂
      → SlotsBelow u sets bytes firsts ends uses masks sizes cells i d (m + 1) mine own one still mine₂ own₂ one₂ still₂
  unfolding SlotHas
  one-taken m mine₁ own₁ one₁ still₁ mine₂ own₂ one₂ still₂ l h step room = record {
    within = omega arith;
    room = room;
    later = λ k a. on k (step.others k (λ e. omega arith)) (h.later k (omega arith));
    skipped = λ k no-take. on k (unmoved k no-take (ℕ_discrete k m)) (h.skipped k no-take);
    taken = λ k a takes P n c s b g t o tl o2 e. more k a takes P n c s b g t o tl o2 e (ℕ_discrete k m);
  }
    where
      on : (k : ℕ) → SlotKept u k mine₁ own₁ one₁ still₁ mine₂ own₂ one₂ still₂ → SlotKept u k mine own one still mine₁ own₁ one₁ still₁
          → SlotKept u k mine own one still mine₂ own₂ one₂ still₂
      on k = kept_on u k mine own one still mine₁ own₁ one₁ still₁ mine₂ own₂ one₂ still₂

      unmoved : (k : ℕ) → takes_slot used k ≡ false → Dec (k ≡ m) → SlotKept u k mine₁ own₁ one₁ still₁ mine₂ own₂ one₂ still₂
      unmoved k no-take (yes e) = rw e (step.skipped (ap (takes_slot used) (sym e) ∙ no-take))
      unmoved k no-take (no e) = step.others k e

      more : (k : ℕ) → k < m + 1 → takes_slot used k ≡ true → (P : Plan) (n : Node) (c s : Forest) (b : ℕ)
          → AtomGiven u sets bytes firsts ends uses masks sizes cells i d P n c s b → (t o : ℕ) → t < sets → o ≤ 2 → slot_of used t o ≡ k → Dec (k ≡ m)
          → SlotNumbers u k (resized_share u masks sizes cells ((t, o) ∷ []) n c b d) (λ x. flipped_share u masks sizes cells ((t, o) ∷ []) x n c b d)
          one still mine₂ own₂ one₂ still₂
      more k a takes P n c s b g t o tl o2 e (yes q) =
          numbers-from u k _ _ mine own one still mine₁ own₁ one₁ still₁ mine₂ own₂ one₂ still₂ (h.later k (omega arith))
          (rw q (step.taken (ap (takes_slot used) (sym q) ∙ takes) sets P n c s b g t o tl o2 (e ∙ q)))
      more k a takes P n c s b g t o tl o2 e (no q) =
          numbers_on u k mine own one still mine₁ own₁ one₁ still₁ mine₂ own₂ one₂ still₂ (step.others k q) _ _
          (h.taken k (omega arith) takes P n c s b g t o tl o2 e)

  -- after the last
  module _ (m : ℕ) (mine' own' one' still' : List ℕ) (last : 4 * sets ≤ m)
      (below : SlotsBelow u sets bytes firsts ends uses masks sizes cells i d m mine own one still mine' own' one' still')
      (P : Plan) (n : Node) (c s : Forest) (b : ℕ) (g : AtomGiven u sets bytes firsts ends uses masks sizes cells i d P n c s b) where
    resized : ℕ → ℕ → ℕ
    resized t l = resized_share u masks sizes cells ((t, l) ∷ []) n c b d

    flipped : ℕ → ℕ → ℕ → ℕ
    flipped t l x = flipped_share u masks sizes cells ((t, l) ∷ []) x n c b d

    -- the slot of a set and an outcome, if it takes the atom
    has : (t l k : ℕ) → t < sets → l ≤ 2 → slot_of used t l ≡ k → takes_slot used k ≡ true
        → SlotNumbers u k (resized t l) (flipped t l) one still mine' own' one' still'
    unfolding SlotHas resized flipped
    has t l k tl l2 e takes = below.taken k (omega (arith, set-of used t l k l2 e)) takes P n c s b g t l tl l2 e

    slot_is : (t l : ℕ) (a : Bool) → in_mask used (4 * t + 3) ≡ a → slot_of used t l ≡ 4 * t + cond a l 3
    unfolding slot_of
    slot_is t l a h = ap (λ (o : Bool). 4 * t + cond o l 3) h

    takes-own : (t l : ℕ) → l ≤ 2 → meets used (set_bits t) ≡ true → takes_slot used (slot_of used t l) ≡ true
    takes-own t l l2 h = go (in_mask used (4 * t + 3)) refl
      where
        go : (a : Bool) → in_mask used (4 * t + 3) ≡ a → takes_slot used (slot_of used t l) ≡ true
        go true e = ap (takes_slot used) (slot_is t l true e) ∙ takes-outcome used t l l2 ∙ e
        go false e = ap (takes_slot used) (slot_is t l false e) ∙ takes-other used t ∙ ap₂ (λ (o r : Bool). not o && r) e h

    -- a size, or a set, that the atom does not use brings nothing
    stands : TreeReady P n c d
    stands = tree-ready u sets bytes firsts ends uses masks sizes cells i d P n c s b g

    used-is : used ≡ forest_uses (tree n c none)
    used-is = uses-are u sets bytes firsts ends uses masks sizes cells i d P n c s b g

    no_size : (t l : ℕ) → in_mask used (4 * t + 3) ≡ false → resized t l % modulus ≡ 0
    unfolding resized
    no_size t l h =
        ap (λ (w : ℕ). resized_share w masks sizes cells ((t, l) ∷ []) n c b d % modulus) g.ports-are
        ∙ unused-size P masks cells sizes g.ready n c b d stands t (ap (λ (w : ℕ). in_mask w (4 * t + 3)) (sym used-is) ∙ h) l

    no-flip : (t l x : ℕ) → x < u → meets used (set_bits t) ≡ false → flipped t l x % modulus ≡ 0
    unfolding flipped AllUnused
    no-flip t l x xu h =
        ap (λ (w : ℕ). flipped_share w masks sizes cells ((t, l) ∷ []) x n c b d % modulus) g.ports-are
        ∙ unused-flipped P masks cells sizes g.ready n c b d stands ((t, l) ∷ []) (ap (λ (w : ℕ). meets w (set_bits t)) (sym used-is) ∙ h, tt) x
        (subst (λ (w : ℕ). x < w) g.ports-are xu)

    Single : ℕ → ℕ → Type 0
    Single t l =
        (still_read still' t l % modulus ≡ (still_read still t l + resized t l) % modulus)
        × ((x : ℕ) → x < u → flip_read one' t l x % modulus ≡ (flip_read one t l x + flipped t l x) % modulus)

    single : (t l : ℕ) → t < sets → l ≤ 2 → (a r : Bool) → in_mask used (4 * t + 3) ≡ a → meets used (set_bits t) ≡ r → Single t l
    unfolding Single still_read flip_read
    single t l tl l2 true r e h =
        let N = has t l (4 * t + l) tl l2 (slot_is t l true e) (takes-outcome used t l l2 ∙ e) in
        let K = below.skipped (4 * t + 3) (takes-other used t ∙ ap (λ (o : Bool). not o && meets used (set_bits t)) e) in
        (mod-again _ _ N.still-has, λ x xu. first-gets _ _ _ _ _ (N.one_has x xu) (K.one_kept x xu))
    single t l tl l2 false true e h =
        let N = has t l (4 * t + 3) tl l2 (slot_is t l false e) (takes-other used t ∙ ap₂ (λ (o r : Bool). not o && r) e h) in
        let K = below.skipped (4 * t + l) (takes-outcome used t l l2 ∙ e) in
        (gets_none _ _ _ K.still_kept (no_size t l e), λ x xu. last-gets _ _ _ _ _ (K.one_kept x xu) (N.one_has x xu))
    single t l tl l2 false false e h =
        let K = below.skipped (4 * t + l) (takes-outcome used t l l2 ∙ e) in
        let L = below.skipped (4 * t + 3) (takes-other used t ∙ ap₂ (λ (o r : Bool). not o && r) e h) in
        (gets_none _ _ _ K.still_kept (no_size t l e), λ x xu. neither-gets _ _ _ _ _ (K.one_kept x xu) (L.one_kept x xu) (no-flip t l x xu h))

    pub all-taken : SlotsTaken u sets uses masks sizes cells i d n c b one still one' still' mine' own'
    unfolding SinglesTaken OwnAre Single resized flipped
    all-taken = record {
      singles = λ t l tl l2. single t l tl l2 (in_mask used (4 * t + 3)) (meets used (set_bits t)) refl refl;
      own-are = λ t l tl l2 h. let N = has t l (slot_of used t l) tl l2 refl (takes-own t l l2 h) in (N.own-has, N.mine-has);
    }

  pub takes-slots : (m : ℕ) (mine' own' one' still' : List ℕ) → 4 * sets ≤ m
      → SlotsBelow u sets bytes firsts ends uses masks sizes cells i d m mine own one still mine' own' one' still'
      → TakesSlots u sets bytes firsts ends uses masks sizes cells i d one still one' still' mine' own'
  unfolding TakesSlots
  takes-slots m mine' own' one' still' last below P n c s b g = all-taken m mine' own' one' still' last below P n c s b g
