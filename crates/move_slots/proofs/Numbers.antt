-- A slot's numbers by the sums for all ports: what is asked before them, and what they give. Assumes nothing.
use Rattle.std.proofs.Common.{◌≡◌, ℕ, ◌+◌, ◌-◌, ◌*◌, ◌/◌, ◌%◌, ◌<◌, ◌≤◌, Bool, true, false, cond, ◌||◌, eqb, List, [], ◌∷◌, length, get_or, sym, refl, ap, ◌∙◌, subst, ap₂, arith, get_or-set_other, get_or-set_same, eqb-true}
use native.Mathlib.Decide.{dec_lt, ℕ_discrete}
use Rattle.logic.specs.Formula.{Node, Forest, Plan}
use Rattle.logic.specs.Configuration.{in_mask}
use Rattle.logic.specs.Change.{some_of}
use Rattle.cells_touch.specs.inner.Hits.{variable_bits, size_bit}
use Rattle.cells_flip.specs.inner.Flips.{FlipSettled}
use Rattle.cells_ports.specs.inner.Ports.{Words}
use Rattle.cells_tuples.specs.inner.Tuples.{AllPortsReady, AllPortsGive}
use Rattle.move_shares.specs.inner.Shares.{Outcome, changing, sized_as, resizing, flipping, resized_to, flipped_to, resized_share, flipped_share}
use Rattle.move_shares.proofs.Words.{proper-one, resizes-so, flips-so, resized-flipped, flipped-flipped, words-one}
use Rattle.move_slots.specs.inner.Slots.{slot_of, AtomGiven}
use Rattle.move_slots.specs.inner.Taking.{asked_size, asked_sizes, SlotReady, SlotGives}
use Rattle.move_slots.proofs.Atom.{masks-settled-so}
use Rattle.move_slots.proofs.Asking.{asked-first, asked-last}

-- the set of a slot, and its place among the four of the set
place_in : (used t l : ℕ) → l ≤ 2 → cond (in_mask used (4 * t + 3)) l 3 < 4
place_in used t l h = go (in_mask used (4 * t + 3))
  where
    go : (a : Bool) → cond a l 3 < 4
    go true = omega arith
    go false = omega arith

pub set-of : (used t l slot : ℕ) → l ≤ 2 → slot_of used t l ≡ slot → slot / 4 ≡ t
unfolding slot_of
set-of used t l slot h e = omega (arith, place_in used t l h)

place_of : (used t l slot : ℕ) → l ≤ 2 → slot_of used t l ≡ slot → slot % 4 ≡ cond (in_mask used (4 * t + 3)) l 3
unfolding slot_of
place_of used t l slot h e = omega (arith, place_in used t l h)

-- the sizes that are asked are low
asked_low : (size j : ℕ) → j < 4 → size ≤ 64 → asked_size size j ≤ 65
asked_low size j h l = go (dec_lt j 3)
  where
    go : Dec (j < 3) → asked_size size j ≤ 65
    go (yes i) = omega (arith, asked-first size j i)
    go (no i) = omega (arith, asked-last size j (omega arith))

asked_here : (sizes : List ℕ) (slot : ℕ) → slot / 4 < length sizes → get_or (asked_sizes sizes slot) (slot / 4) 0 ≡ asked_size (get_or sizes (slot / 4) 0) (slot % 4)
unfolding asked_sizes
asked_here sizes slot h = get_or-set_same sizes (slot / 4) _ 0 h

asked-all : (sizes : List ℕ) (slot : ℕ) → slot / 4 < length sizes → ((S : ℕ) → get_or sizes S 0 ≤ 64) → (S : ℕ) → get_or (asked_sizes sizes slot) S 0 ≤ 65
unfolding asked_sizes
asked-all sizes slot h few S = go (ℕ_discrete S (slot / 4))
  where
    go : Dec (S ≡ slot / 4) → get_or (asked_sizes sizes slot) S 0 ≤ 65
    go (yes e) = rw e (omega (arith, asked_here sizes slot h, asked_low (get_or sizes (slot / 4) 0) (slot % 4) (omega arith) (few (slot / 4))))
    go (no n) = omega (arith, get_or-set_other sizes (slot / 4) S (asked_size (get_or sizes (slot / 4) 0) (slot % 4)) 0 n, few S)

module _ (u : ℕ) (bytes firsts ends uses masks sizes cells : List ℕ) (i d slot : ℕ) (long : length sizes ≡ 16)
    (asked : List ℕ) (Asked-is : asked ≡ asked_sizes sizes slot) where
  settled-so : (sets : ℕ) (P : Plan) (n : Node) (c s : Forest) (b : ℕ) → AtomGiven u sets bytes firsts ends uses masks sizes cells i d P n c s b
      → slot < 4 * sets → FlipSettled u sets masks asked cells
  settled-so sets P n c s b g h =
      let settled = masks-settled-so u sets bytes firsts ends uses masks sizes cells i d P n c s b g in
      record {
        masks-settled = settled;
        sizes-low = rw Asked-is (asked-all sizes slot (omega (arith, settled.sets16)) g.sizes-low);
        cells_fit = g.ready.cells_fit;
      }

  module _ (members resized : ℕ) (members-is : members ≡ variable_bits (slot / 4)) (resized-is : resized ≡ size_bit (slot / 4)) where
    words-so : (t l : ℕ) → slot / 4 ≡ t → t < 16 → Words (changing ((t, l) ∷ [])) (changing ((t, l) ∷ [])) members resized
    words-so t l e h =
        let z = changing ((t, l) ∷ []) in
        subst (λ (a : ℕ). Words z z a resized) (sym (members-is ∙ ap variable_bits e))
        (subst (Words z z (variable_bits t)) (sym (resized-is ∙ ap size_bit e)) (words-one t l h))

    pub ports-ready : (out : List ℕ) → SlotReady u bytes firsts ends uses masks sizes cells i d slot out
        → AllPortsReady u bytes firsts ends uses masks asked cells i d members resized out
    ports-ready out h =
        let a = h.atom in
        let settled = settled-so h.sets a.plan a.node a.children a.siblings a.first a.given h.below in
        record {
          sets = h.sets;
          node = a.node;
          children = a.children;
          siblings = a.siblings;
          first = a.first;
          flips = changing ((slot / 4, 1) ∷ []);
          resizes = changing ((slot / 4, 1) ∷ []);
          settled = settled;
          stands = a.given.stands;
          words = words-so (slot / 4) 1 refl (omega (arith, h.below, settled.masks-settled.sets16));
          room = h.room;
        }

    -- the size of the slot's set, where the atom asks it
    asked-are : (used t l : ℕ) → l ≤ 2 → slot_of used t l ≡ slot → (S : ℕ) → S < 16 → in_mask used (4 * S + 3) ≡ true
        → changing ((t, l) ∷ []) S ≡ true → get_or asked S 0 ≡ sized_as sizes ((t, l) ∷ []) S
    unfolding changing some_of sized_as
    asked-are used t l l2 e S S16 asks named =
        let q : S ≡ t = eqb-true S t (or-none (eqb S t) named) in
        let place : slot % 4 ≡ l = place_of used t l slot l2 e ∙ ap (λ (a : Bool). cond a l 3) (sym (ap (λ (y : ℕ). in_mask used (4 * y + 3)) q) ∙ asks) in
        let here : S ≡ slot / 4 = q ∙ sym (set-of used t l slot l2 e) in
        ap₂ (λ (ws : List ℕ) (y : ℕ). get_or ws y 0) Asked-is here ∙ asked_here sizes slot (omega arith)
        ∙ asked-first (get_or sizes (slot / 4) 0) (slot % 4) (omega arith)
        ∙ ap₂ (λ (y z : ℕ). get_or sizes y 0 + z - 1) (sym here) place
        ∙ sym (ap (λ (a : Bool). cond a (get_or sizes S 0 + l - 1) (get_or sizes S 0)) (or-none (eqb S t) named))
      where
        or-none : (a : Bool) → (a || false) ≡ true → a ≡ true
        or-none true h = refl
        or-none false h = h

    pub slot-gives : (before after : List ℕ) (r : ℕ)
        → AllPortsGive u bytes firsts ends uses masks asked cells i d members resized before after r
        → SlotGives u bytes firsts ends uses masks sizes cells i d slot before after r
    unfolding AllPortsGive SlotGives resized_share flipped_share
    slot-gives before after r all sets P n c s b g t l h l2 e =
        let used = get_or uses i 0 in
        let zs : List Outcome = (t, l) ∷ [] in
        let low : slot < 4 * sets = omega (arith, set-of used t l slot l2 e) in
        let settled = settled-so sets P n c s b g low in
        let t16 : t < 16 = omega (arith, settled.masks-settled.sets16) in
        let are = asked-are used t l l2 e in
        let proper = proper-one t l l2 in
        let A = all sets n c s b (changing zs) (changing zs) settled g.stands (words-so t l (set-of used t l slot l2 e) t16)
        (resized_to masks sizes zs) (resizing zs) (resizes-so zs) (resized-flipped used masks sizes asked zs proper g.sizes-low are) in (
          A.resized-is,
          λ x xu. A.flipped-is x xu (flipping zs x) (flipped_to masks sizes zs x) (flips-so zs x)
              (flipped-flipped used masks sizes asked zs proper g.sizes-low are x),
        )
