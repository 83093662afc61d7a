-- What a change adds at one tuple, and over the tuples that go on from one, port by port. Assumes nothing.
use Rattle.std.proofs.Common.{◌≡◌, ℕ, zero, suc, ◌+◌, ◌-◌, ◌*◌, ◌%◌, ◌^◌, ◌<◌, ◌≤◌, Bool, true, false, cond, ◌≢◌, List, [], ◌∷◌, get_or, sym, refl, ap, ◌∙◌, subst, ap₂, mul-le-mul, add-one, arith}
use Rattle.logic.specs.Formula.{Node, Forest, none, tree, node_count}
use Rattle.logic.specs.inner.Literals.{Every}
use Rattle.logic.specs.Configuration.{Configuration, configured, in_masks}
use Rattle.logic.specs.Truth.{Tuple}
use Rattle.logic.specs.Penalty.{sum, each_port}
use Rattle.logic.specs.Cells.{place_of}
use Rattle.logic.specs.Change.{Change, forest_hit, touched, modulus, OldCells, cell_of, new_cell}
use Rattle.logic.proofs.Lists.{more, or_left, or-false}
use Rattle.logic.proofs.Untouched.{forest-deeper}
use Rattle.logic.proofs.Tables.{length-tuple, place-lt}
use Rattle.cells_touch.specs.declared.Changed.{Changed}
use Rattle.cells_touch.specs.inner.Hits.{meets, port_word}
use Rattle.cells_touch.proofs.Touching.{port-word-is}
use Rattle.cells_sum.specs.declared.After.{After}
use Rattle.cells_sum.proofs.Sums.{sum-port}
use Rattle.cells_walk.specs.inner.Nodes.{NodeIs, IndexHolds, Fitting}
use Rattle.cells_walk.specs.inner.Visit.{packed, Visit}
use Rattle.cells_walk.proofs.Steps.{packed_lt}
use Rattle.cells_walk.proofs.Visits.{all-marked}
use Rattle.cells_atoms.specs.inner.Atoms.{over_tuples, difference}
use Rattle.cells_atoms.proofs.Over.{ports-zero}
use Rattle.cells_zero.specs.inner.Zero.{CellStands, ZeroReady, ZeroTells}
use Rattle.cells_zero.proofs.Hitting.{hit-word, touched-told}
use Rattle.cells_visit.specs.inner.Walking.{WalkReady, CellReady, CellGives}
use Rattle.cells_visit.proofs.Walking.{width_low}
use Rattle.cells_share.specs.inner.Sharing.{SharesVisit, SharesReady, SharesGive, TouchedReady, PortsGive}

-- a cell that is not touched adds nothing, and so do those of the tuples that go on from it
module _ (u : ℕ) (k : Configuration) (ch : Change) (t : OldCells) (n : Node) (c : Forest) (b d : ℕ) where
  kept-adds : (hit : Bool) (x : ℕ) → hit ≡ false → cond hit x 0 ≡ 0
  kept-adds hit x h = ap (λ (a : Bool). cond a x 0) h

  still-untouched : (e : Tuple) (p : ℕ) → touched ch n c e ≡ false → touched ch n c (p ∷ e) ≡ false
  unfolding forest_hit touched
  still-untouched e p h = or_left (touched ch n c (p ∷ e)) _ (forest-deeper ch (tree n c none) p e (or-false (touched ch n c e) false h refl))

  none_over : (m : ℕ) (e : Tuple) → touched ch n c e ≡ false → over_tuples u m (difference u k ch t n c b d) e ≡ 0
  unfolding over_tuples difference
  none_over zero e h = kept-adds (touched ch n c e) _ h
  none_over (suc m) e h = ports-zero u (λ p. over_tuples u m (difference u k ch t n c b d) (p ∷ e)) (λ p l. none_over m (p ∷ e) (still-untouched e p h))

  -- a touched one adds its new number less its old one
  one-over : (r new old : ℕ) (e : Tuple) → touched ch n c e ≡ true → new ≡ new_cell u k ch t n c b d e → old ≡ t b e
      → r ≡ (0 + (new + (4294967296 - old))) % 4294967296 → r ≡ over_tuples u (d - d) (difference u k ch t n c b d) e % modulus
  unfolding over_tuples difference modulus
  one-over r new old e hot ne ol q =
      let z : d - d ≡ 0 = omega arith in
      let w : 0 + (new + (4294967296 - old)) ≡ difference u k ch t n c b d e =
      ap₂ (λ (x y : ℕ). 0 + (x + (4294967296 - y))) ne ol ∙ sym (ap (λ (a : Bool). cond a (new_cell u k ch t n c b d e + (4294967296 - t b e)) 0) hot ∙ (let o : new_cell u k ch t n c b d e + (4294967296 - t b e) ≡ 0 + (new_cell u k ch t n c b d e + (4294967296 - t b e)) = omega arith in o)) in
      q ∙ ap (λ (x : ℕ). x % 4294967296) w ∙ sym (ap (λ (x : ℕ). over_tuples u x (difference u k ch t n c b d) e % 4294967296) z)

  -- the tuples that go on with a port each
  ports-over : (level : ℕ) (e : Tuple) → level < d
      → over_tuples u (d - level) (difference u k ch t n c b d) e ≡ sum (each_port u (λ x. over_tuples u (d - (level + 1)) (difference u k ch t n c b d) (x ∷ e) ∷ []))
  unfolding over_tuples
  ports-over level e l =
      let z : d - level ≡ suc (d - (level + 1)) = omega arith in
      ap (λ (x : ℕ). over_tuples u x (difference u k ch t n c b d) e) z

module _ (u sets : ℕ) (c : Changed) (bytes firsts ends uses masks cells : List ℕ) where
  abbrev after : Configuration
  after = configured u sets (in_masks masks)

  -- where a tuple stands
  module _ (ch : Change) (i : ℕ) (n : Node) (f s : Forest) (b d level : ℕ) (e : Tuple) (place digits word : ℕ)
      (v : SharesVisit u sets ch bytes firsts ends uses cells i n f s b d level e place digits word) where
    node-is : NodeIs bytes firsts ends uses i n f b
    unfolding IndexHolds
    node-is = v.stands.holds.0

    low : i < 512
    unfolding node_count
    low = omega (arith, v.stands.nodes)

    shallow : d ≤ 3
    unfolding Fitting Every
    shallow = v.stands.fitting.0.depth3

    touched-is : touched ch n f e ≡ meets (get_or uses i 0) word
    touched-is =
        touched-told ch e word n f s d (all-marked sets v.stands.sets16 (tree n f s) d v.stands.fitting) (hit-word _ ch e word v.word-is)
        ∙ ap (λ (x : ℕ). meets x word) (sym node-is.uses-are)

    -- with one port more
    port-visit : WalkReady u sets c masks cells ch → level < d → (x : ℕ) → x < u
        → SharesVisit u sets ch bytes firsts ends uses cells i n f s b d (level + 1) (x ∷ e) (place * u + x) (digits + x * 256 ^ level) (port_word c word level x)
    unfolding place_of packed
    port-visit ready l x h = record {
      stands = v.stands;
      within = omega arith;
      tuple = rw (add-one level) (more h v.tuple);
      place_is = ap (λ (y : ℕ). y * u + x) v.place_is;
      digits_are = ap₂ (λ (y z : ℕ). y + x * 256 ^ z) v.digits_are (sym (length-tuple v.tuple));
      word-is = port-word-is u ch c ready.says e word level x v.word-is (length-tuple v.tuple) (omega (arith, shallow));
    }

  -- where a whole tuple stands
  module _ (ch : Change) (i : ℕ) (n : Node) (f s : Forest) (b d : ℕ) (e : Tuple) (place digits word : ℕ)
      (v : SharesVisit u sets ch bytes firsts ends uses cells i n f s b d d e place digits word) where
    cell-visit : Visit u sets ch bytes firsts ends uses cells i (tree n f s) b d e place digits word
    cell-visit = record {
      holds = v.stands.holds;
      fitting = v.stands.fitting;
      tuple = v.tuple;
      place_is = v.place_is;
      digits_are = v.digits_are;
      word-is = v.word-is;
      room = v.stands.room;
      nodes = v.stands.nodes;
    }

    cell-stands : CellStands u sets bytes firsts ends uses cells i n f s b d e place
    cell-stands = record { stands = v.stands; tuple = v.tuple; place_is = v.place_is }

    old-is : (old : ℕ) → old ≡ get_or cells (get_or firsts i 0 + place) 0 → old ≡ cell_of u cells b e
    unfolding cell_of
    old-is old h = h ∙ ap₂ (λ (x y : ℕ). get_or cells (x + y) 0) (node-is ch i n f s b d d e place digits word v).first-is v.place_is

  module _ (i d place digits word : ℕ) where
    -- what the steps at a touched cell ask
    module _ (r : TouchedReady u sets c bytes firsts ends uses masks cells i d place digits word) where
      pub zero-ready : ZeroReady bytes firsts ends uses cells i place
      zero-ready = record {
        ports = u;
        sets = sets;
        node = r.begins.node;
        children = r.begins.children;
        siblings = r.begins.siblings;
        first = r.begins.first;
        depth = d;
        tuple = r.begins.tuple;
        visit = cell-stands r.begins.change i r.begins.node r.begins.children r.begins.siblings r.begins.first d r.begins.tuple place digits word r.begins.visit;
      }

      pub cell-ready : CellReady u sets c bytes firsts ends uses masks cells i d place digits word
      cell-ready = record {
        change = r.begins.change;
        node = r.begins.node;
        children = r.begins.children;
        siblings = r.begins.siblings;
        first = r.begins.first;
        tuple = r.begins.tuple;
        ready = r.begins.ready;
        visit = cell-visit r.begins.change i r.begins.node r.begins.children r.begins.siblings r.begins.first d r.begins.tuple place digits word r.begins.visit;
      }

    -- what they come to
    module _ (m : meets (get_or uses i 0) word ≡ true) where
      pub gives-zero : (told : Bool) (old r : ℕ) → ZeroTells bytes firsts ends uses cells i place word told → told ≡ true → old ≡ get_or cells (get_or firsts i 0 + place) 0
          → r ≡ (0 + (0 + (4294967296 - old))) % 4294967296 → SharesGive u sets c bytes firsts ends uses masks cells i d d place digits word r
      unfolding SharesGive ZeroTells
      gives-zero told old r so h o q ch n f s b e ready v =
          let hot = touched-is ch i n f s b d d e place digits word v ∙ m in
          one-over u after ch (cell_of u cells) n f b d r 0 old e hot
          (sym (so h u sets n f s b d e (cell-stands ch i n f s b d e place digits word v) after ch (hit-word _ ch e word v.word-is) hot))
          (old-is ch i n f s b d e place digits word v old o) q

      pub gives-cell : (a : After) (r : ℕ) → CellGives u sets c bytes firsts ends uses masks cells i d place digits word a
          → r ≡ (0 + (a.value + (4294967296 - a.old))) % 4294967296 → SharesGive u sets c bytes firsts ends uses masks cells i d d place digits word r
      unfolding SharesGive CellGives
      gives-cell a r so q ch n f s b e ready v =
          let is = so ch n f s b e ready (cell-visit ch i n f s b d e place digits word v) in
          one-over u after ch (cell_of u cells) n f b d r a.value a.old e (touched-is ch i n f s b d d e place digits word v ∙ m) is.new_is is.old-is q

  module _ (i d level place digits word : ℕ) where
    abbrev Ready : Type 0
    Ready = SharesReady u sets c bytes firsts ends uses masks cells i d level place digits word

    pub node-low : Ready → i < 512
    node-low r = low r.change i r.node r.children r.siblings r.first d level r.tuple place digits word r.visit

    depth_low : Ready → d ≤ 3
    depth_low r = shallow r.change i r.node r.children r.siblings r.first d level r.tuple place digits word r.visit

    pub gives_none : (met : Bool) → met ≡ meets (get_or uses i 0) word → met ≡ false → SharesGive u sets c bytes firsts ends uses masks cells i d level place digits word 0
    unfolding SharesGive modulus
    gives_none met q h ch n f s b e ready v =
        sym (ap (λ (x : ℕ). x % 4294967296) (none_over u after ch (cell_of u cells) n f b d (d - level) e (touched-is ch i n f s b d level e place digits word v ∙ sym q ∙ h)))

    -- the tuple is whole
    pub whole_ready : (met : Bool) → Ready → level ≡ d → met ≡ meets (get_or uses i 0) word → met ≡ true → TouchedReady u sets c bytes firsts ends uses masks cells i d place digits word
    whole_ready met r h q t = record {
      begins = subst (λ (x : ℕ). SharesReady u sets c bytes firsts ends uses masks cells i d x place digits word) h r;
      touched = sym q ∙ t;
    }

    pub whole-gives : (r : ℕ) → level ≡ d → SharesGive u sets c bytes firsts ends uses masks cells i d d place digits word r
        → SharesGive u sets c bytes firsts ends uses masks cells i d level place digits word r
    whole-gives r h g = subst (λ (x : ℕ). SharesGive u sets c bytes firsts ends uses masks cells i d x place digits word r) (sym h) g

    -- the tuple lacks a port
    module _ (r : Ready) (lacks : level ≢ d) where
      pub level-low : level < d
      level-low = omega (arith, r.visit.within)

      pub level-falls : d - (level + 1) < d - level
      level-falls = omega (arith, level-low)

      pub place-fits : place * u ≤ 16777216
      place-fits =
          let s = r.ready.masks-settled in
          let l : place ≤ 262144 = omega (arith, r.visit.place_is, place-lt u s.ports1 r.visit.tuple, width_low u level s.ports64 (omega (arith, level-low, depth_low r))) in
          let m : place * u ≤ 262144 * 64 = mul-le-mul l s.ports64 in
          m

      pub port-asks : (x : ℕ) → x < u → (level ≤ 2) × (digits < 256 ^ level) × (x < 256)
      port-asks x h =
          let s = r.ready.masks-settled in (
            omega (arith, level-low, depth_low r),
            rw r.visit.digits_are (packed_lt (omega (arith, s.ports64)) r.visit.tuple),
            omega (arith, s.ports64),
          )

      pub port-ready : (x digits' word' : ℕ) → x < u → digits' ≡ digits + x * 256 ^ level → word' ≡ port_word c word level x
          → SharesReady u sets c bytes firsts ends uses masks cells i d (level + 1) (place * u + x) digits' word'
      port-ready x digits' word' h q w = record {
        change = r.change;
        node = r.node;
        children = r.children;
        siblings = r.siblings;
        first = r.first;
        tuple = x ∷ r.tuple;
        ready = r.ready;
        visit = rw (q, w) (port-visit r.change i r.node r.children r.siblings r.first d level r.tuple place digits word r.visit r.ready level-low x h);
      }

      pub ports-done : (m total : ℕ) → u ≤ m → m ≤ u → PortsGive u sets c bytes firsts ends uses masks cells i d level place digits word m total
          → SharesGive u sets c bytes firsts ends uses masks cells i d level place digits word total
      unfolding SharesGive PortsGive
      ports-done m total h k so ch n f s b e ready v =
          let q : m ≡ u = omega arith in
          so ch n f s b e ready v
          ∙ ap (λ (y : ℕ). sum (each_port y (λ x. over_tuples u (d - (level + 1)) (difference u after ch (cell_of u cells) n f b d) (x ∷ e) ∷ [])) % modulus) q
          ∙ ap (λ (y : ℕ). y % modulus) (sym (ports-over u after ch (cell_of u cells) n f b d level e level-low))

    pub ports-begun : PortsGive u sets c bytes firsts ends uses masks cells i d level place digits word 0 0
    unfolding PortsGive each_port sum modulus
    ports-begun ch n f s b e ready v = refl

    module _ (lacks : level < d) where
      pub ports-more : (x acc share total digits' word' : ℕ) → x < u → digits' ≡ digits + x * 256 ^ level → word' ≡ port_word c word level x
          → PortsGive u sets c bytes firsts ends uses masks cells i d level place digits word x acc
          → SharesGive u sets c bytes firsts ends uses masks cells i d (level + 1) (place * u + x) digits' word' share
          → total ≡ (acc + share) % 4294967296 → PortsGive u sets c bytes firsts ends uses masks cells i d level place digits word (x + 1) total
      unfolding PortsGive SharesGive modulus
      ports-more x acc share total digits' word' h q w so here t ch n f s b e ready v =
          let g : ℕ → ℕ = λ y. over_tuples u (d - (level + 1)) (difference u after ch (cell_of u cells) n f b d) (y ∷ e) in
          let one = here ch n f s b (x ∷ e) ready (rw (q, w) (port-visit ch i n f s b d level e place digits word v ready lacks x h)) in
          rw (add-one x) (omega (arith, t, so ch n f s b e ready v, one, sum-port x g))
