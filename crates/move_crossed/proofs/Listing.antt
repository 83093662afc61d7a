-- The atoms of a list, one after the other: what the loop over them asks at each step, and what follows. Assumes nothing.
use Rattle.std.proofs.Common.{◌≡◌, ℕ, ◌+◌, ◌-◌, ◌*◌, ◌/◌, ◌%◌, ◌<◌, ◌≤◌, List, [], ◌∷◌, length, get_or, sym, ap, ◌∙◌, subst, arith}
use Rattle.logic.specs.declared.Move.{Move}
use Rattle.logic.specs.Formula.{Node, Forest, Plan}
use Rattle.logic.specs.inner.Literals.{Every}
use Rattle.logic.specs.Configuration.{ports_in, out_of_test, in_masks, configured, configuration, spelled}
use Rattle.logic.specs.Change.{modulus}
use Rattle.logic.proofs.Masks.{ports-within}
use Rattle.cells_walk.specs.inner.Nodes.{Fitting}
use Rattle.cells_zero.specs.inner.Zero.{TreeStands}
use Rattle.cells_share.specs.inner.Listed.{Listed, ListStands, of_listed}
use Rattle.move_shares.specs.inner.Shares.{exchanged, both_share, SizesAre}
use Rattle.move_shares.specs.inner.Listing.{AllFlat, FlatListed}
use Rattle.move_crossed.specs.inner.Crossed.{SwapGiven, OneSize, AtomSwap, ShareAsked, ShareGiven, CrossedReady, CrossedGives, CrossedAdds}
use Rattle.move_crossed.proofs.Atoms.{swap-fields}

-- the two parts of an entry
entry-parts : (x i d : ℕ) → x ≡ 4 * i + d → d ≤ 3 → (x / 4 ≡ i) × (x % 4 ≡ d)
entry-parts x i d h l = (omega arith, omega arith)

module _ (u sets : ℕ) (bytes firsts ends uses masks cells : List ℕ) (m : Move) (list : List ℕ) where
  -- A list has the size after the swap of its set.
  unfoldable pub SizeAfter : List ℕ → Type 0
  SizeAfter asked =
      (P : Plan) (sizes : List ℕ) → SwapGiven u sets masks sizes cells m P
      → OneSize m.s (get_or sizes m.s 0 + exchanged (get_or masks sets 0) m.p m.q - 1) asked

  -- what is asked of the set and its size
  pub set-low : (count : ℕ) → CrossedReady u sets bytes firsts ends uses masks cells m list count
      → (m.s < sets) × (sets < length masks) × (m.s < 16) × (m.p < 64) × (m.q < 64)
  set-low count r =
      let F = swap-fields u sets masks r.sizes cells m r.plan r.swap in
      let g = r.swap.given in (
        F.set_below,
        omega (arith, g.ready.settled.masks-long, g.sets-are),
        omega (arith, F.set_below, F.sets16),
        omega (arith, F.p-below, F.ports64),
        omega (arith, F.q-below, F.ports64),
      )

  pub size-after : (s size test after : ℕ) (asked : List ℕ) → s ≡ m.s → size ≡ ports_in 64 (out_of_test (in_masks masks s) (in_masks masks sets))
      → test ≡ get_or masks sets 0 → after ≡ size + exchanged test m.p m.q - 1 → OneSize s after asked → SizeAfter asked
  unfolding SizeAfter SizesAre spelled configuration configured in_masks
  size-after s size test after asked sq size_is test-is after_is one P sizes g =
      let F = swap-fields u sets masks sizes cells m P g in
      let r = g.given.ready in
      let below : m.s < P.sets = omega (arith, F.set_below, g.given.sets-are) in
      let now : get_or sizes m.s 0 ≡ size =
      r.sizes-are m.s below ∙ sym (ports-within P.ports 64 (get_or masks m.s 0) (in_masks masks P.sets) r.settled.ports64 (r.settled.within m.s below))
      ∙ ap (λ (x : ℕ). ports_in 64 (out_of_test (in_masks masks m.s) (in_masks masks x))) (sym g.given.sets-are)
      ∙ ap (λ (x : ℕ). ports_in 64 (out_of_test (in_masks masks x) (in_masks masks sets))) (sym sq) ∙ sym size_is in
      record {
        is = ap (λ (x : ℕ). get_or asked x 0) (sym sq) ∙ one.is ∙ after_is
            ∙ ap (λ (x : ℕ). x + exchanged test m.p m.q - 1) (sym now) ∙ ap (λ (x : ℕ). get_or sizes m.s 0 + exchanged x m.p m.q - 1) test-is;
        low = one.low;
      }

  shallow : (i : ℕ) (n : Node) (f s : Forest) (b d : ℕ) → TreeStands u sets bytes firsts ends uses cells i n f s b d → d ≤ 3
  unfolding Fitting Every
  shallow i n f s b d t = t.fitting.0.depth3

  -- the others
  others : (j : ℕ) (a : Listed) (xs : List Listed) → FlatListed u sets bytes firsts ends uses cells list (j + 1) (a ∷ xs) → FlatListed u sets bytes firsts ends uses cells list j xs
  unfolding ListStands AllFlat
  others j a xs h = record { stands = h.stands.2; flat = h.flat.3; count-is = omega (arith, h.count-is) }

  -- the last atom of a list, by its entry
  module _ (asked : List ℕ) (size_is : SizeAfter asked) (j i d : ℕ) (iq : i ≡ get_or list j 0 / 4) (dq : d ≡ get_or list j 0 % 4) where
    entry-atom : (P : Plan) (sizes : List ℕ) → SwapGiven u sets masks sizes cells m P → (a : Listed) (xs : List Listed)
        → FlatListed u sets bytes firsts ends uses cells list (j + 1) (a ∷ xs)
        → (d ≡ a.depth) × AtomSwap u sets bytes firsts ends uses masks sizes asked cells i d m P a.node a.children a.first
    unfolding ListStands AllFlat SizeAfter
    entry-atom P sizes g a xs h =
        let t = h.stands.1 in
        let q : j ≡ length xs = omega (arith, h.count-is) in
        let p = entry-parts (get_or list j 0) a.at a.depth (ap (λ (x : ℕ). get_or list x 0) q ∙ h.stands.0) (shallow a.at a.node a.children a.siblings a.first a.depth t) in (
          dq ∙ p.1,
          rw (iq ∙ p.0, dq ∙ p.1) record {
            swap = g;
            stands = subst (λ (s : Forest). TreeStands u sets bytes firsts ends uses cells a.at a.node a.children s a.first a.depth) h.flat.0 t;
            flat = h.flat.1;
            regular = h.flat.2;
            size_is = size_is P sizes g;
          },
        )

    pub entry-asked : CrossedReady u sets bytes firsts ends uses masks cells m list (j + 1) → ShareAsked u bytes firsts ends uses masks asked cells i d m
    entry-asked r = go r.atoms r.listed
      where
        go : (xs : List Listed) → FlatListed u sets bytes firsts ends uses cells list (j + 1) xs → ShareAsked u bytes firsts ends uses masks asked cells i d m
        go [] h = absurd (omega (arith, h.count-is))
        go (a ∷ xs) h = record {
          sets = sets;
          sizes = r.sizes;
          plan = r.plan;
          node = a.node;
          children = a.children;
          first = a.first;
          atom = (entry-atom r.plan r.sizes r.swap a xs h).1;
        }

    -- added to the others
    entry-adds : (acc share mid r : ℕ) → ShareGiven u bytes firsts ends uses masks asked cells i d m share → mid ≡ (acc + share) % 4294967296
        → CrossedAdds u sets bytes firsts ends uses masks cells m list j mid r → CrossedAdds u sets bytes firsts ends uses masks cells m list (j + 1) acc r
    unfolding CrossedAdds ShareGiven of_listed modulus
    entry-adds acc share mid r so k rest P sizes [] g h = absurd (omega (arith, h.count-is))
    entry-adds acc share mid r so k rest P sizes (a ∷ xs) g h =
        let e = entry-atom P sizes g a xs h in
        let mine : share ≡ both_share P masks sizes cells m a.node a.children a.first a.depth % 4294967296 =
        so sets sizes P a.node a.children a.first e.1 ∙ ap (λ (x : ℕ). both_share P masks sizes cells m a.node a.children a.first x % 4294967296) e.0 in
        omega (arith, k, mine, rest P sizes xs g (others j a xs h))

  before_last : (j : ℕ) → CrossedReady u sets bytes firsts ends uses masks cells m list (j + 1) → CrossedReady u sets bytes firsts ends uses masks cells m list j
  before_last j r = go r.atoms r.listed
    where
      go : (xs : List Listed) → FlatListed u sets bytes firsts ends uses cells list (j + 1) xs → CrossedReady u sets bytes firsts ends uses masks cells m list j
      go [] h = absurd (omega (arith, h.count-is))
      go (a ∷ xs) h = record {
        plan = r.plan;
        sizes = r.sizes;
        atoms = xs;
        swap = r.swap;
        listed = others j a xs h;
        room = omega (arith, r.room);
      }

  -- The loop began behind the last of `count` atoms and stands behind the first j, with the sum so far.
  pub record Onward (asked : List ℕ) (count j acc : ℕ) : Type 0 where
    pub ready : CrossedReady u sets bytes firsts ends uses masks cells m list j
    pub size_is : SizeAfter asked
    pub low : acc < 4294967296
    pub so : (r : ℕ) → CrossedAdds u sets bytes firsts ends uses masks cells m list j acc r → CrossedGives u sets bytes firsts ends uses masks cells m list count r

  pub onward-first : (asked : List ℕ) (count : ℕ) → CrossedReady u sets bytes firsts ends uses masks cells m list count → SizeAfter asked → Onward asked count count 0
  unfolding CrossedAdds CrossedGives modulus
  onward-first asked count r a = record {
    ready = r;
    size_is = a;
    low = omega arith;
    so = λ x h P sizes xs g k. omega (arith, h P sizes xs g k);
  }

  -- one atom back
  module _ (asked : List ℕ) (count j acc : ℕ) (o : Onward asked count j acc) (some : 0 < j) where
    back : j - 1 + 1 ≡ j
    back = omega arith

    pub entry-low : j - 1 < length list
    entry-low = omega (arith, o.ready.room)

    at_entry : CrossedReady u sets bytes firsts ends uses masks cells m list (j - 1 + 1)
    at_entry = rw back o.ready

    pub share-asked : (i d : ℕ) → i ≡ get_or list (j - 1) 0 / 4 → d ≡ get_or list (j - 1) 0 % 4 → ShareAsked u bytes firsts ends uses masks asked cells i d m
    share-asked i d iq dq = entry-asked asked o.size_is (j - 1) i d iq dq at_entry

    pub onward-next : (i d share mid : ℕ) → i ≡ get_or list (j - 1) 0 / 4 → d ≡ get_or list (j - 1) 0 % 4
        → ShareGiven u bytes firsts ends uses masks asked cells i d m share → mid ≡ (acc + share) % 4294967296 → Onward asked count (j - 1) mid
    onward-next i d share mid iq dq so k = record {
      ready = before_last (j - 1) at_entry;
      size_is = o.size_is;
      low = omega arith;
      so = λ r h. o.so r (subst (λ (x : ℕ). CrossedAdds u sets bytes firsts ends uses masks cells m list x acc r) back (entry-adds asked o.size_is (j - 1) i d iq dq acc share mid r so k h));
    }

  none_more : (j acc : ℕ) → j ≤ 0 → acc < 4294967296 → CrossedAdds u sets bytes firsts ends uses masks cells m list j acc acc
  unfolding CrossedAdds of_listed modulus
  none_more j acc h l P sizes [] g k = omega arith
  none_more j acc h l P sizes (a ∷ xs) g k = absurd (omega (arith, k.count-is))

  pub onward-last : (asked : List ℕ) (count j acc : ℕ) → Onward asked count j acc → j ≤ 0 → CrossedGives u sets bytes firsts ends uses masks cells m list count acc
  onward-last asked count j acc o h = o.so acc (none_more j acc h o.low)
