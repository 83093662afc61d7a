-- A swap at one atom without quantifiers: what its fields keep to, and what both flips bring beyond each. Assumes nothing.
use Rattle.std.proofs.Common.{◌≡◌, ℕ, ◌+◌, ◌-◌, ◌*◌, ◌%◌, ◌<◌, ◌≤◌, Bool, true, false, ◌||◌, eqb, ◌≢◌, List, [], ◌∷◌, get_or, sym, refl, ap, ◌∙◌, subst, true≢false, arith, eq-eqb, eqb-true}
use lib.Bits.{or_zero_r}
use borrow.Author.Tests.{not-true}
use Rattle.logic.specs.declared.Move.{Move}
use Rattle.logic.specs.Formula.{Node, Forest, none, tree, Plan, node_count}
use Rattle.logic.specs.Configuration.{in_mask, in_masks}
use Rattle.logic.specs.Moves.{move_kind, fields_fit, fits, known, legal}
use Rattle.logic.specs.Change.{some_of, modulus, cell_of}
use Rattle.logic.specs.inner.MoveFields.{q_end}
use Rattle.logic.proofs.Lists.{and_left, and_right}
use Rattle.logic.proofs.MoveFields.{known-fields}
use Rattle.table_format.specs.inner.Index.{forest_uses}
use Rattle.cells_touch.specs.inner.Hits.{variable_bits, size_bit}
use Rattle.cells_walk.specs.inner.Nodes.{IndexHolds}
use Rattle.cells_flip.specs.inner.Flips.{FlipSettled}
use Rattle.cells_ports.specs.inner.Ports.{Words}
use Rattle.cells_tuples.specs.inner.Tuples.{FlatTree}
use Rattle.cells_atoms.specs.inner.Atoms.{over_tuples}
use Rattle.cells_both.specs.inner.Both.{FourAre, both_by, BothReady, BothGives}
use Rattle.move_shares.specs.inner.Shares.{exchanged, Outcome, changing, sized_as, swapped_set, four_of, both_share, TreeReady, crosses}
use Rattle.move_shares.proofs.Swaps.{both-none, four_are}
use Rattle.move_shares.proofs.Words.{words-one}
use Rattle.move_tables.specs.inner.Taking.{Crossed}
use Rattle.move_crossed.specs.inner.Crossed.{SwapGiven, AtomSwap, ShareAsked, ShareGiven}

-- The fields of a legal swap.
pub record SwapFields (u sets : ℕ) (m : Move) : Type 0 where
  pub set_below : m.s < sets
  pub p-below : m.p < u
  pub q-below : m.q < u
  pub differ : m.p ≢ m.q
  pub ports64 : u ≤ 64
  pub sets16 : sets ≤ 16

module _ (u sets : ℕ) (masks sizes cells : List ℕ) (m : Move) (P : Plan) (g : SwapGiven u sets masks sizes cells m P) where
  pub swap-fields : SwapFields u sets m
  unfolding legal fits fields_fit move_kind q_end
  swap-fields =
      let F = known-fields P m (and_left (known P m) _ g.is-legal) in
      let fit = ap (λ (j : ℕ). fields_fit (move_kind j) (in_masks masks) m) (sym g.is-swap) ∙ and_right (known P m) _ g.is-legal in
      let inside = and_left (in_masks masks m.s m.p) _ fit in
      let outside : in_masks masks m.s m.q ≡ false = not-true _ (and_right (in_masks masks m.s m.p) _ fit) in
      let q : m.q < P.ports = subst (λ (j : ℕ). m.q < q_end j P.ports) g.is-swap F.q-below in
      record {
        set_below = omega (arith, F.s-below, g.given.sets-are);
        p-below = omega (arith, F.p-below, g.given.ports-are);
        q-below = omega (arith, q, g.given.ports-are);
        differ = λ i. true≢false (sym inside ∙ ap (in_masks masks m.s) i ∙ outside);
        ports64 = omega (arith, g.given.ready.settled.ports64, g.given.ports-are);
        sets16 = omega (arith, g.given.ready.settled.sets16, g.given.sets-are);
      }

-- the sets that change are the swap's alone
changing-one : (s j S : ℕ) → changing ((s, j) ∷ []) S ≡ true → S ≡ s
unfolding changing some_of
changing-one s j S h = eqb-true S s (go (eqb S s) h)
  where
    go : (a : Bool) → (a || false) ≡ true → a ≡ true
    go true i = refl
    go false i = i

sized-one : (sizes : List ℕ) (s j S : ℕ) → S ≡ s → sized_as sizes ((s, j) ∷ []) S ≡ get_or sizes s 0 + j - 1
unfolding sized_as
sized-one sizes s j S e = rw (e, eq-eqb s s refl) refl

module _ (u sets : ℕ) (bytes firsts ends uses masks sizes asked cells : List ℕ) (i d : ℕ) (m : Move) (P : Plan) (n : Node) (c : Forest) (b : ℕ)
    (a : AtomSwap u sets bytes firsts ends uses masks sizes asked cells i d m P n c b) where
  abbrev zs : List Outcome
  zs = swapped_set P masks m

  abbrev fields : SwapFields u sets m
  fields = swap-fields u sets masks sizes cells m P a.swap

  uses-are : get_or uses i 0 ≡ forest_uses (tree n c none)
  unfolding IndexHolds forest_uses
  uses-are = a.stands.holds.0.uses-are ∙ sym (or_zero_r _)

  tree-ready : TreeReady P n c d
  tree-ready = record { regular = a.regular; fitting = rw (sym a.swap.given.sets-are) a.stands.fitting }

  settled : FlipSettled u sets masks asked cells
  settled = record {
    masks-settled = rw (a.swap.given.ports-are, a.swap.given.sets-are) a.swap.given.ready.settled;
    sizes-low = a.size_is.low;
    cells_fit = a.swap.given.ready.cells_fit;
  }

  flat-tree : FlatTree u sets bytes firsts ends uses cells i (tree n c none) b d
  flat-tree = record { holds = a.stands.holds; fitting = a.stands.fitting; flat = a.flat; room = a.stands.room; nodes = a.stands.nodes }

  four : FourAre (get_or uses i 0) masks asked (changing zs) (changing zs) m.p m.q (four_of P masks sizes m)
  four =
      four_are P masks cells sizes a.swap.given.ready n c b d tree-ready a.flat m a.swap.is-swap a.swap.is-legal a.swap.given.sizes-low (get_or uses i 0) asked
      (λ S l h k. let e = changing-one m.s _ S k in
      ap (λ (x : ℕ). get_or asked x 0) e ∙ a.size_is.is
      ∙ ap (λ (x : ℕ). get_or sizes m.s 0 + exchanged (get_or masks x 0) m.p m.q - 1) a.swap.given.sets-are ∙ sym (sized-one sizes m.s _ S e))

  words : (members resized : ℕ) → members ≡ variable_bits m.s → resized ≡ size_bit m.s → Words (changing zs) (changing zs) members resized
  words members resized h k = rw (h, k) (words-one m.s _ (omega (arith, fields.set_below, fields.sets16)))

  node-low : i < 512
  unfolding node_count
  node-low = omega (arith, a.stands.nodes)

  both-asked : (members resized p q : ℕ) → members ≡ variable_bits m.s → resized ≡ size_bit m.s → p ≡ m.p → q ≡ m.q
      → BothReady u bytes firsts ends uses masks asked cells i d members resized p q
  both-asked members resized p q h k hp hq = record {
    sets = sets;
    node = n;
    children = c;
    siblings = none;
    first = b;
    flips = changing zs;
    resizes = changing zs;
    settled = settled;
    stands = flat-tree;
    words = words members resized h k;
    p-low = omega (arith, fields.p-below);
    q-low = omega (arith, fields.q-below);
    differ = λ e. fields.differ (sym hp ∙ e ∙ hq);
  }

  both_is : (members resized p q r : ℕ) → members ≡ variable_bits m.s → resized ≡ size_bit m.s → p ≡ m.p → q ≡ m.q
      → BothGives u bytes firsts ends uses masks asked cells i d members resized p q r → r ≡ both_share P masks sizes cells m n c b d % modulus
  unfolding BothGives both_share
  both_is members resized p q r h k hp hq so =
      so sets n c none b (changing zs) (changing zs) settled flat-tree (words members resized h k) (λ e. fields.differ (sym hp ∙ e ∙ hq)) (four_of P masks sizes m) (rw (hp, hq) four)
      ∙ ap (λ (x : ℕ). both_of x) a.swap.given.ports-are
    where
      both_of : ℕ → ℕ
      both_of x = over_tuples x d (both_by x (four_of P masks sizes m) (cell_of x cells) n c b d) [] % modulus

  one-is : (used word : ℕ) → used ≡ get_or uses i 0 → Crossed used word → in_mask word (4 * m.s) ≡ false → 0 ≡ both_share P masks sizes cells m n c b d % modulus
  unfolding Crossed
  one-is used word e cross h =
      sym (both-none P masks cells sizes a.swap.given.ready n c b d tree-ready a.flat m a.swap.is-swap a.swap.is-legal
      (ap (λ (x : ℕ). crosses x m.s) (sym (e ∙ uses-are)) ∙ sym (cross m.s (omega (arith, fields.set_below, fields.sets16))) ∙ h))

-- The same before and after the work on one atom.
module _ (u : ℕ) (bytes firsts ends uses masks asked cells : List ℕ) (i d : ℕ) (m : Move) where
  pub asked_low : ShareAsked u bytes firsts ends uses masks asked cells i d m → (i < 512) × (m.s < 16)
  asked_low h =
      let F = swap-fields u h.sets masks h.sizes cells m h.plan h.atom.swap in
      (node-low u h.sets bytes firsts ends uses masks h.sizes asked cells i d m h.plan h.node h.children h.first h.atom, omega (arith, F.set_below, F.sets16))

  pub both-ready : ShareAsked u bytes firsts ends uses masks asked cells i d m
      → (members resized p q : ℕ) → members ≡ variable_bits m.s → resized ≡ size_bit m.s → p ≡ m.p → q ≡ m.q
      → BothReady u bytes firsts ends uses masks asked cells i d members resized p q
  both-ready h = both-asked u h.sets bytes firsts ends uses masks h.sizes asked cells i d m h.plan h.node h.children h.first h.atom

  pub both-given : (members resized p q r : ℕ) → members ≡ variable_bits m.s → resized ≡ size_bit m.s → p ≡ m.p → q ≡ m.q
      → BothGives u bytes firsts ends uses masks asked cells i d members resized p q r → ShareGiven u bytes firsts ends uses masks asked cells i d m r
  unfolding ShareGiven
  both-given members resized p q r h k hp hq so sets sizes P n c b a =
      both_is u sets bytes firsts ends uses masks sizes asked cells i d m P n c b a members resized p q r h k hp hq so

  pub one-given : (used word : ℕ) → used ≡ get_or uses i 0 → Crossed used word → in_mask word (4 * m.s) ≡ false
      → ShareGiven u bytes firsts ends uses masks asked cells i d m 0
  unfolding ShareGiven
  one-given used word e cross h sets sizes P n c b a = one-is u sets bytes firsts ends uses masks sizes asked cells i d m P n c b a used word e cross h
