-- The numbers of a pair of sets by the sums for all ports: what is asked before them, and what they give. Assumes nothing.
use mathlib.Core.Path.{◌≡◌, sym, ap, ap₂, ◌∙◌, subst}
use mathlib.Core.Logic.{◌≢◌}
use mathlib.Core.Bool.{Bool, true, false, cond}
use mathlib.Core.List.{List, [], ◌∷◌}
use Prim.Native.Nat.{ℕ, ◌+◌, ◌-◌, ◌≤◌, ◌<◌}
use native.Mathlib.Omega.{arith}
use native.Mathlib.Decide.{ℕ_discrete}
use lib.Bits.{bit_or}
use lib.Dec.{eqb}
use lib.ListN.{length, get_or, set, length-set}
use lib.Seq.{get_or-set_same, get_or-set_other}
use borrow.Author.Tests.{eq-eqb, ne_eqb}
use Rattle.logic.specs.Formula.{Node, Forest, Plan}
use Rattle.cells_touch.specs.inner.Hits.{variable_bits, size_bit}
use Rattle.cells_flip.specs.inner.Flips.{FlipSettled}
use Rattle.cells_ports.specs.inner.Ports.{Words}
use Rattle.cells_tuples.specs.inner.Tuples.{AllPortsReady, AllPortsGive}
use Rattle.move_shares.specs.inner.Shares.{Outcome, changing, sized_as, resizing, flipping, resized_to, flipped_to, resized_share, flipped_share}
use Rattle.move_shares.proofs.Words.{Proper, proper-two, sized-low, resizes-so, flips-so, resized-flipped, flipped-flipped, words-two}
use Rattle.move_slots.specs.inner.Slots.{AtomGiven}
use Rattle.move_slots.proofs.Atom.{slots-few, masks-settled-so}
use Rattle.move_joints.specs.inner.Joints.{left, entered, pair_outcomes, pair_sizes, PairOf, PairGives}

-- few sets, so that a pair's numbers are low
module _ (u : ℕ) (bytes firsts ends uses masks sizes cells : List ℕ) (i d s t : ℕ) (pair : PairOf u bytes firsts ends uses masks sizes cells i d s t) where
  pub first-few : s < 16
  first-few = omega (arith, pair.first_below, slots-few u pair.sets bytes firsts ends uses masks sizes cells i d pair.atom)

  pub second-few : t < 16
  second-few = omega (arith, pair.second_below, slots-few u pair.sets bytes firsts ends uses masks sizes cells i d pair.atom)

pub left-low : (tested : Bool) → left tested ≤ 2
unfolding left
left-low true = omega arith
left-low false = omega arith

pub entered-low : (tested : Bool) → entered tested ≤ 2
unfolding entered
entered-low true = omega arith
entered-low false = omega arith

-- the sizes that are asked are those after
sizes-after : (sizes : List ℕ) (s j t l S : ℕ) → s < length sizes → t < length sizes → s ≢ t
    → get_or (set (set sizes s (get_or sizes s 0 + j - 1)) t (get_or sizes t 0 + l - 1)) S 0 ≡ sized_as sizes ((s, j) ∷ (t, l) ∷ []) S
unfolding sized_as
sizes-after sizes s j t l S sl tl n = go (ℕ_discrete S s) (ℕ_discrete S t)
  where
    a : ℕ
    a = get_or sizes s 0 + j - 1

    b : ℕ
    b = get_or sizes t 0 + l - 1

    go : Dec (S ≡ s) → Dec (S ≡ t)
        → get_or (set (set sizes s a) t b) S 0 ≡ cond (eqb S s) (get_or sizes S 0 + j - 1) (cond (eqb S t) (get_or sizes S 0 + l - 1) (get_or sizes S 0))
    go (yes e) o =
        get_or-set_other (set sizes s a) t S b 0 (λ q. n (sym e ∙ q)) ∙ ap (λ (y : ℕ). get_or (set sizes s a) y 0) e ∙ get_or-set_same sizes s a 0 sl
        ∙ ap (λ (y : ℕ). get_or sizes y 0 + j - 1) (sym e)
        ∙ sym (ap (λ (z : Bool). cond z (get_or sizes S 0 + j - 1) (cond (eqb S t) (get_or sizes S 0 + l - 1) (get_or sizes S 0))) (eq-eqb S s e))
    go (no m) (yes e) =
        ap (λ (y : ℕ). get_or (set (set sizes s a) t b) y 0) e ∙ get_or-set_same (set sizes s a) t b 0 (rw (length-set sizes s a) tl)
        ∙ ap (λ (y : ℕ). get_or sizes y 0 + l - 1) (sym e)
        ∙ sym (ap₂ (λ (z w : Bool). cond z (get_or sizes S 0 + j - 1) (cond w (get_or sizes S 0 + l - 1) (get_or sizes S 0))) (ne_eqb S s m) (eq-eqb S t e))
    go (no m) (no o) =
        get_or-set_other (set sizes s a) t S b 0 o ∙ get_or-set_other sizes s S a 0 m
        ∙ sym (ap₂ (λ (z w : Bool). cond z (get_or sizes S 0 + j - 1) (cond w (get_or sizes S 0 + l - 1) (get_or sizes S 0))) (ne_eqb S s m) (ne_eqb S t o))

module _ (u : ℕ) (bytes firsts ends uses masks sizes cells : List ℕ) (i d s t : ℕ) (tested : Bool) (asked : List ℕ)
    (asked-are : asked ≡ pair_sizes sizes s t tested) (long : length sizes ≡ 16) where
  proper : s ≢ t → Proper (pair_outcomes s t tested)
  proper n = proper-two s (left tested) t (entered tested) n (left-low tested) (entered-low tested)

  asked-so : s < 16 → t < 16 → s ≢ t → (S : ℕ) → get_or asked S 0 ≡ sized_as sizes (pair_outcomes s t tested) S
  unfolding pair_sizes
  asked-so sl tl n S =
      ap (λ (ws : List ℕ). get_or ws S 0) asked-are ∙ sizes-after sizes s (left tested) t (entered tested) S (rw long sl) (rw long tl) n

  settled-so : (sets : ℕ) (P : Plan) (n : Node) (c f : Forest) (b : ℕ) → AtomGiven u sets bytes firsts ends uses masks sizes cells i d P n c f b
      → s < sets → t < sets → s ≢ t → FlipSettled u sets masks asked cells
  settled-so sets P n c f b g sl tl differ =
      let settled = masks-settled-so u sets bytes firsts ends uses masks sizes cells i d P n c f b g in
      record {
        masks-settled = settled;
        sizes-low = λ S. rw (asked-so (omega (arith, settled.sets16)) (omega (arith, settled.sets16)) differ S)
            (sized-low sizes (pair_outcomes s t tested) (proper differ) S (g.sizes-low S));
        cells_fit = g.ready.cells_fit;
      }

  module _ (members resized : ℕ) (members-are : members ≡ bit_or (variable_bits s) (variable_bits t)) (resized-are : resized ≡ bit_or (size_bit s) (size_bit t)) where
    words-so : Words (changing (pair_outcomes s t tested)) (changing (pair_outcomes s t tested)) members resized
    words-so =
        let z = changing (pair_outcomes s t tested) in
        subst (λ (a : ℕ). Words z z a resized) (sym members-are)
        (subst (Words z z (bit_or (variable_bits s) (variable_bits t))) (sym resized-are) (words-two s (left tested) t (entered tested)))

    pub ports-ready : (out : List ℕ) → PairOf u bytes firsts ends uses masks sizes cells i d s t → u ≤ length out
        → AllPortsReady u bytes firsts ends uses masks asked cells i d members resized out
    ports-ready out h room =
        let a = h.atom in
        record {
          sets = h.sets;
          node = a.node;
          children = a.children;
          siblings = a.siblings;
          first = a.first;
          flips = changing (pair_outcomes s t tested);
          resizes = changing (pair_outcomes s t tested);
          settled = settled-so h.sets a.plan a.node a.children a.siblings a.first a.given h.first_below h.second_below h.differ;
          stands = a.given.stands;
          words = words-so;
          room = room;
        }

    pub pair-gives : (before after : List ℕ) (r : ℕ) → AllPortsGive u bytes firsts ends uses masks asked cells i d members resized before after r
        → PairGives u bytes firsts ends uses masks sizes cells i d s t tested before after r
    unfolding AllPortsGive PairGives resized_share flipped_share
    pair-gives before after r all sets P n c f b g sl tl differ =
        let used = get_or uses i 0 in
        let zs : List Outcome = pair_outcomes s t tested in
        let settled = settled-so sets P n c f b g sl tl differ in
        let s16 : s < 16 = omega (arith, settled.masks-settled.sets16) in
        let t16 : t < 16 = omega (arith, settled.masks-settled.sets16) in
        let A = all sets n c f b (changing zs) (changing zs) settled g.stands words-so (resized_to masks sizes zs) (resizing zs) (resizes-so zs)
        (resized-flipped used masks sizes asked zs (proper differ) g.sizes-low (λ S S16 asks named. asked-so s16 t16 differ S)) in (
          A.resized-is,
          λ x xu. A.flipped-is x xu (flipping zs x) (flipped_to masks sizes zs x) (flips-so zs x)
              (flipped-flipped used masks sizes asked zs (proper differ) g.sizes-low (λ S S16 asks named. asked-so s16 t16 differ S) x),
        )
