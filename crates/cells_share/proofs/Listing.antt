-- The atoms of a list, one after the other: what the loop over them asks at each step, and what follows. Assumes nothing.
use Rattle.std.proofs.Common.{◌≡◌, ℕ, ◌+◌, ◌-◌, ◌*◌, ◌/◌, ◌%◌, ◌<◌, ◌≤◌, List, [], ◌∷◌, length, get_or, refl, ap, ◌∙◌, subst, arith}
use Rattle.logic.specs.Formula.{Node, Forest}
use Rattle.logic.specs.inner.Literals.{Every}
use Rattle.logic.specs.Configuration.{configured, in_masks}
use Rattle.logic.specs.Cells.{place_of}
use Rattle.logic.specs.Change.{Change, modulus, cell_of}
use Rattle.logic.proofs.Lists.{empty}
use Rattle.cells_touch.specs.declared.Changed.{Changed}
use Rattle.cells_touch.specs.inner.Hits.{first_word}
use Rattle.cells_touch.proofs.Touching.{first-word-is}
use Rattle.cells_walk.specs.inner.Nodes.{Fitting}
use Rattle.cells_walk.specs.inner.Visit.{packed}
use Rattle.cells_atoms.specs.inner.Atoms.{over_tuples, difference}
use Rattle.cells_zero.specs.inner.Zero.{TreeStands}
use Rattle.cells_visit.specs.inner.Walking.{WalkReady}
use Rattle.cells_share.specs.inner.Sharing.{SharesVisit, SharesReady, SharesGive}
use Rattle.cells_share.specs.inner.Listed.{Listed, ListStands, of_listed, ListReady, ListGives, ListAdds}

-- the two parts of an entry
entry-parts : (x i d : ℕ) → x ≡ 4 * i + d → d ≤ 3 → (x / 4 ≡ i) × (x % 4 ≡ d)
entry-parts x i d h l = (omega arith, omega arith)

module _ (u sets : ℕ) (c : Changed) (bytes firsts ends uses masks cells list : List ℕ) where
  abbrev adds : Change → Node → Forest → ℕ → ℕ → ℕ
  adds ch n f b d = over_tuples u d (difference u (configured u sets (in_masks masks)) ch (cell_of u cells) n f b d) []

  shallow : (i : ℕ) (n : Node) (f s : Forest) (b d : ℕ) → TreeStands u sets bytes firsts ends uses cells i n f s b d → d ≤ 3
  unfolding Fitting Every
  shallow i n f s b d t = t.fitting.0.depth3

  -- an atom's empty tuple
  atom-visit : (word : ℕ) → word ≡ first_word c → (ch : Change) → WalkReady u sets c masks cells ch → (i : ℕ) (n : Node) (f s : Forest) (b d : ℕ)
      → TreeStands u sets bytes firsts ends uses cells i n f s b d → SharesVisit u sets ch bytes firsts ends uses cells i n f s b d 0 [] 0 0 word
  unfolding place_of packed
  atom-visit word w ch ready i n f s b d t = record {
    stands = t;
    within = omega arith;
    tuple = empty;
    place_is = refl;
    digits_are = refl;
    word-is = rw w (first-word-is u ch c ready.says);
  }

  -- the last atom of a list, by its entry
  module _ (j i d word : ℕ) (iq : i ≡ get_or list j 0 / 4) (dq : d ≡ get_or list j 0 % 4) (w : word ≡ first_word c) where
    entry-visit : (ch : Change) → WalkReady u sets c masks cells ch → (a : Listed) (xs : List Listed) → ListStands u sets bytes firsts ends uses cells list (a ∷ xs) → j ≡ length xs
        → (d ≡ a.depth) × SharesVisit u sets ch bytes firsts ends uses cells i a.node a.children a.siblings a.first d 0 [] 0 0 word
    unfolding ListStands
    entry-visit ch ready a xs st q =
        let t = st.1 in
        let p = entry-parts (get_or list j 0) a.at a.depth (ap (λ (x : ℕ). get_or list x 0) q ∙ st.0) (shallow a.at a.node a.children a.siblings a.first a.depth t) in
        (dq ∙ p.1, rw (iq ∙ p.0, dq ∙ p.1) (atom-visit word w ch ready a.at a.node a.children a.siblings a.first a.depth t))

    pub entry_ready : ListReady u sets c bytes firsts ends uses masks cells list (j + 1) → SharesReady u sets c bytes firsts ends uses masks cells i d 0 0 0 word
    entry_ready r = go r.atoms r.stands r.count-is
      where
        go : (xs : List Listed) → ListStands u sets bytes firsts ends uses cells list xs → j + 1 ≡ length xs → SharesReady u sets c bytes firsts ends uses masks cells i d 0 0 0 word
        go [] st q = absurd (omega arith)
        go (a ∷ xs) st q = record {
          change = r.change;
          node = a.node;
          children = a.children;
          siblings = a.siblings;
          first = a.first;
          tuple = [];
          ready = r.ready;
          visit = (entry-visit r.change r.ready a xs st (omega arith)).1;
        }

    entry-share : (share : ℕ) → SharesGive u sets c bytes firsts ends uses masks cells i d 0 0 0 word share
        → (ch : Change) → WalkReady u sets c masks cells ch → (a : Listed) (xs : List Listed) → ListStands u sets bytes firsts ends uses cells list (a ∷ xs) → j ≡ length xs
        → share ≡ adds ch a.node a.children a.first a.depth % modulus
    unfolding SharesGive
    entry-share share so ch ready a xs st q =
        let v = entry-visit ch ready a xs st q in
        let z : d - 0 ≡ d = omega arith in
        so ch a.node a.children a.siblings a.first [] ready v.1
        ∙ ap (λ (x : ℕ). over_tuples u x (difference u (configured u sets (in_masks masks)) ch (cell_of u cells) a.node a.children a.first d) [] % modulus) z
        ∙ ap (λ (x : ℕ). adds ch a.node a.children a.first x % modulus) v.0

    -- added to the others
    entry-adds : (acc share mid r : ℕ) → SharesGive u sets c bytes firsts ends uses masks cells i d 0 0 0 word share → mid ≡ (acc + share) % 4294967296
        → ListAdds u sets c bytes firsts ends uses masks cells list j mid r → ListAdds u sets c bytes firsts ends uses masks cells list (j + 1) acc r
    unfolding ListAdds ListStands of_listed modulus
    entry-adds acc share mid r so m rest ch [] ready st q = absurd (omega arith)
    entry-adds acc share mid r so m rest ch (a ∷ xs) ready st q =
        let l : j ≡ length xs = omega arith in
        omega (arith, m, entry-share share so ch ready a xs st l, rest ch xs ready st.2 l)

  before_last : (j : ℕ) → ListReady u sets c bytes firsts ends uses masks cells list (j + 1) → ListReady u sets c bytes firsts ends uses masks cells list j
  unfolding ListStands
  before_last j r = go r.atoms r.stands r.count-is
    where
      go : (xs : List Listed) → ListStands u sets bytes firsts ends uses cells list xs → j + 1 ≡ length xs → ListReady u sets c bytes firsts ends uses masks cells list j
      go [] st q = absurd (omega arith)
      go (a ∷ xs) st q = record {
        change = r.change;
        atoms = xs;
        ready = r.ready;
        stands = st.2;
        count-is = omega arith;
        room = omega (arith, r.room);
      }

  -- The loop began behind the last of `count` atoms and stands behind the first j, with the sum so far.
  pub record Onward (count j acc : ℕ) : Type 0 where
    pub ready : ListReady u sets c bytes firsts ends uses masks cells list j
    pub low : acc < 4294967296
    pub so : (r : ℕ) → ListAdds u sets c bytes firsts ends uses masks cells list j acc r → ListGives u sets c bytes firsts ends uses masks cells list count r

  pub onward-first : (count : ℕ) → ListReady u sets c bytes firsts ends uses masks cells list count → Onward count count 0
  unfolding ListAdds ListGives modulus
  onward-first count r = record {
    ready = r;
    low = omega arith;
    so = λ x h ch xs ready st q. omega (arith, h ch xs ready st q);
  }

  -- one atom back
  module _ (count j acc : ℕ) (o : Onward count j acc) (some : 0 < j) where
    back : j - 1 + 1 ≡ j
    back = omega arith

    pub entry-low : j - 1 < length list
    entry-low = omega (arith, o.ready.room)

    at_entry : ListReady u sets c bytes firsts ends uses masks cells list (j - 1 + 1)
    at_entry = rw back o.ready

    pub share-ready : (i d word : ℕ) → i ≡ get_or list (j - 1) 0 / 4 → d ≡ get_or list (j - 1) 0 % 4 → word ≡ first_word c
        → SharesReady u sets c bytes firsts ends uses masks cells i d 0 0 0 word
    share-ready i d word iq dq w = entry_ready (j - 1) i d word iq dq w at_entry

    pub onward-next : (i d word share mid : ℕ) → i ≡ get_or list (j - 1) 0 / 4 → d ≡ get_or list (j - 1) 0 % 4 → word ≡ first_word c
        → SharesGive u sets c bytes firsts ends uses masks cells i d 0 0 0 word share → mid ≡ (acc + share) % 4294967296 → Onward count (j - 1) mid
    onward-next i d word share mid iq dq w so m = record {
      ready = before_last (j - 1) at_entry;
      low = omega arith;
      so = λ r h. o.so r (subst (λ (x : ℕ). ListAdds u sets c bytes firsts ends uses masks cells list x acc r) back (entry-adds (j - 1) i d word iq dq w acc share mid r so m h));
    }

  none_more : (j acc : ℕ) → j ≤ 0 → acc < 4294967296 → ListAdds u sets c bytes firsts ends uses masks cells list j acc acc
  unfolding ListAdds of_listed modulus
  none_more j acc h l ch [] ready st q = omega arith
  none_more j acc h l ch (a ∷ xs) ready st q = absurd (omega arith)

  pub onward-last : (count j acc : ℕ) → Onward count j acc → j ≤ 0 → ListGives u sets c bytes firsts ends uses masks cells list count acc
  onward-last count j acc o h = o.so acc (none_more j acc h o.low)
