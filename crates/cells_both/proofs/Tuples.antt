-- What the steps from tuple to tuple ask, and what follows from what they give. Assumes nothing.
use Rattle.std.proofs.Common.{◌≡◌, ℕ, zero, suc, ◌+◌, ◌-◌, ◌*◌, ◌%◌, ◌^◌, ◌<◌, ◌≤◌, Bool, true, false, List, [], ◌∷◌, length, get_or, sym, refl, ap, ◌∙◌, subst, ap₂, add-one, arith}
use lib.Bits.{bit_and, bit_or}
use Rattle.logic.specs.Formula.{Node, Forest, tree, node_count}
use Rattle.logic.specs.inner.Literals.{Every}
use Rattle.logic.specs.Configuration.{Configuration, indicator, in_mask}
use Rattle.logic.specs.Truth.{Tuple}
use Rattle.logic.specs.Penalty.{sum, each_port}
use Rattle.logic.specs.Cells.{place_of}
use Rattle.logic.specs.Change.{Change, modulus, cell_of, new_cell}
use Rattle.logic.proofs.Lists.{empty, more, indicator-le}
use Rattle.logic.proofs.Tables.{length-tuple, place-lt}
use Rattle.table_format.proofs.Laid.{width_low}
use Rattle.cells_touch.specs.inner.Hits.{meets, level}
use Rattle.cells_sum.proofs.Sums.{sum-port}
use Rattle.cells_walk.specs.inner.Nodes.{Fitting}
use Rattle.cells_walk.specs.inner.Visit.{packed}
use Rattle.cells_walk.proofs.Steps.{packed_lt}
use Rattle.cells_atoms.specs.inner.Atoms.{over_tuples}
use Rattle.cells_flip.specs.inner.Flips.{WordFor, Flipped, FlipVisit, FlipSettled, FlipReady, FlipGives}
use Rattle.cells_flip.proofs.Lines.{cell-line}
use Rattle.cells_ports.specs.inner.Ports.{Words}
use Rattle.cells_ports.proofs.Words.{resizes-word}
use Rattle.cells_tuples.specs.inner.Tuples.{FlatTree}
use Rattle.cells_both.specs.inner.Both.{both_by, BothReady, BothGives}
use Rattle.cells_both.specs.inner.Steps.{held_word, missing_of, tests, left_of, Stands, FromReady, Tells, FromGives, PortGives, PortsGive}
use Rattle.cells_both.proofs.Missed.{lacks-word, lacks-other, two-ports, bound, none_both}
use Rattle.cells_both.proofs.Words.{held_none, held_more, one_word, two-word}

-- sums modulo 2^32
more-mod : (s t r x y z : ℕ) → r ≡ s % modulus → z ≡ y % modulus → x ≡ (r + z) % 4294967296 → t ≡ s + y → x ≡ t % modulus
unfolding modulus
more-mod s t r x y z h i j k = omega arith

pair-mod : (s t r x y : ℕ) → x ≡ s % modulus → y ≡ t % modulus → r ≡ (x + y) % 4294967296 → r ≡ (s + t) % modulus
unfolding modulus
pair-mod s t r x y h i j = omega arith

four-mod : (b p z q m r : ℕ) → m ≡ (0 + (b + (4294967296 - p))) % 4294967296 → r ≡ (m + (z + (4294967296 - q))) % 4294967296
    → r ≡ (b + (4294967296 - p) + (z + (4294967296 - q))) % 4294967296
four-mod b p z q m r h i = omega arith

-- the variables by which a tree tests a set that flips, counted from the last
pub left-none : (used members d : ℕ) → 0 ≡ left_of used members d (d - d)
unfolding left_of
left-none used members d = ap (left_of used members d) (let e : 0 ≡ d - d = omega arith in e)

pub left-more : (used members d l left one : ℕ) → 1 ≤ l → l ≤ d → left ≡ left_of used members l (d - l) → one ≡ indicator (tests used members (l - 1))
    → left + one ≡ left_of used members (l - 1) (d - (l - 1))
unfolding left_of
left-more used members d l left one h k i j =
    (let e : left + one ≡ indicator (tests used members (l - 1)) + left_of used members l (d - l) = omega (arith, i, j) in e)
    ∙ ap (λ (y : ℕ). indicator (tests used members (l - 1)) + left_of used members y (d - l)) (let e : l ≡ suc (l - 1) = omega arith in e)
    ∙ ap (left_of used members (l - 1)) (let e : suc (d - l) ≡ d - (l - 1) = omega arith in e)

pub left-all : (used members d l left : ℕ) → l ≡ 0 → left ≡ left_of used members l (d - l) → left ≡ left_of used members 0 d
left-all used members d l left h i = i ∙ ap₂ (λ (x y : ℕ). left_of used members x y) h (let e : d - l ≡ d = omega arith in e)

-- whether one of them is
pub tested-yes : (used members l lev : ℕ) → lev ≡ level l → meets used (bit_and members lev) ≡ true → 1 ≡ indicator (tests used members l)
unfolding tests indicator
tested-yes used members l lev h k = rw (← h, k) refl

pub tested-no : (used members l lev : ℕ) → lev ≡ level l → meets used (bit_and members lev) ≡ false → 0 ≡ indicator (tests used members l)
unfolding tests indicator
tested-no used members l lev h k = rw (← h, k) refl

pub met : (used members l lev : ℕ) → lev ≡ level l → meets used (bit_and members lev) ≡ true → tests used members l ≡ true
unfolding tests
met used members l lev h k = rw (← h) k

pub tested_low : (used members l one : ℕ) → one ≡ indicator (tests used members l) → one ≤ 1
tested_low used members l one h = omega (arith, h, indicator-le (tests used members l))

-- the first number of a line of one cell
pub first_alone : (bytes firsts ends uses masks sizes cells : List ℕ) (i place digits word : ℕ) (row : List ℕ) (r : ℕ)
    → FlipGives bytes firsts ends uses masks sizes cells i 1 3 place digits word row → r ≡ get_or row 0 0
    → FlipGives bytes firsts ends uses masks sizes cells i 1 3 place digits word (r ∷ [])
unfolding FlipGives
first_alone bytes firsts ends uses masks sizes cells i place digits word row r gives q u sets n c s b d at settled visit zero l ch k w f =
    q ∙ gives u sets n c s b d at settled visit zero l ch k w f
first_alone bytes firsts ends uses masks sizes cells i place digits word row r gives q u sets n c s b d at settled visit (suc x) l ch k w f = absurd (omega arith)

module _ (u : ℕ) (bytes firsts ends uses masks sizes cells : List ℕ) (i d members resized p q : ℕ) where
  abbrev Ready : ℕ → ℕ → ℕ → ℕ → ℕ → ℕ → Type 0
  Ready l place digits pword qword left = FromReady u bytes firsts ends uses masks sizes cells i d members resized p q l place digits pword qword left

  abbrev Gives : ℕ → ℕ → ℕ → ℕ → ℕ → ℕ → Type 0
  Gives l place digits pword qword r = FromGives u bytes firsts ends uses masks sizes cells i d members resized p q l place digits pword qword r

  -- no ports yet
  begun : (flips resizes : ℕ → Bool) → Words flips resizes members resized → Stands u flips p q 0 0 0 0 0 []
  unfolding place_of packed
  begun flips resizes words = record {
    tuple = empty;
    place_is = refl;
    digits_are = refl;
    p-held = held_none flips resizes members resized words p;
    q-held = held_none flips resizes members resized words q;
  }

  pub both-begins : (used left : ℕ) → used ≡ get_or uses i 0 → left ≡ left_of used members 0 d → BothReady u bytes firsts ends uses masks sizes cells i d members resized p q
      → Ready 0 0 0 0 0 left
  both-begins used left us h r = record {
    ready = r;
    tuple = [];
    at = begun r.flips r.resizes r.words;
    within = omega arith;
    left_is = h ∙ ap₂ (λ (x y : ℕ). left_of x members 0 y) us (let e : d ≡ d - 0 = omega arith in e);
  }

  -- what the first step asks
  pub both-low : BothReady u bytes firsts ends uses masks sizes cells i d members resized p q → (i < 512) × (d ≤ 3)
  unfolding node_count Fitting Every
  both-low r = (omega (arith, r.stands.nodes), r.stands.fitting.0.depth3)

  pub both-all : (r : ℕ) → Gives 0 0 0 0 0 r → BothGives u bytes firsts ends uses masks sizes cells i d members resized p q r
  unfolding FromGives Tells BothGives
  both-all r gives sets n c s b flips resizes settled stands words differ f are =
      gives sets n c s b flips resizes settled stands words differ [] (begun flips resizes words) f are
      ∙ ap (λ (m : ℕ). over_tuples u m (both_by u f (cell_of u cells) n c b d) [] % modulus) (let e : d - 0 ≡ d = omega arith in e)

  module _ (l place digits pword qword : ℕ) where
    -- what the steps ask
    module _ (left : ℕ) (r : Ready l place digits pword qword left) where
      pub node-low : i < 512
      unfolding node_count
      node-low = omega (arith, r.ready.stands.nodes)

      pub depth_low : d ≤ 3
      unfolding Fitting Every
      depth_low = r.ready.stands.fitting.0.depth3

      pub ports-low : u ≤ 64
      ports-low = r.ready.settled.masks-settled.ports64

      pub place-low : place ≤ 262144
      place-low =
          let m = r.ready.settled.masks-settled in
          omega (arith, r.at.place_is, place-lt u m.ports1 r.at.tuple, width_low u l m.ports1 m.ports64 (omega (arith, r.within, depth_low)))

      pub digits_low : (x : ℕ) → l < d → x < u → (l ≤ 2) × (digits < 256 ^ l) × (x < 256)
      digits_low x j k =
          (omega (arith, depth_low), rw r.at.digits_are (packed_lt (omega (arith, ports-low)) r.at.tuple), omega (arith, ports-low))

    pub ready-whole : (left : ℕ) → l ≡ d → Ready l place digits pword qword left → Ready d place digits pword qword 0
    ready-whole left h r = record {
      ready = r.ready;
      tuple = r.tuple;
      at = subst (λ (x : ℕ). Stands u r.ready.flips p q x place digits pword qword r.tuple) h r.at;
      within = omega arith;
      left_is = left-none (get_or uses i 0) members d;
    }

    pub gives_whole : (r : ℕ) → d ≡ l → Gives d place digits pword qword r → Gives l place digits pword qword r
    gives_whole r h g = subst (λ (x : ℕ). Gives x place digits pword qword r) h g

    -- one more variable
    left-next : (used : ℕ) → l < d → left_of used members l (d - l) ≡ indicator (tests used members l) + left_of used members (suc l) (d - (l + 1))
    unfolding left_of
    left-next used h = ap (left_of used members l) (let e : d - l ≡ suc (d - (l + 1)) = omega arith in e)

    counted : (used : ℕ) → used ≡ get_or uses i 0 → indicator (tests used members l) ≡ indicator (tests (get_or uses i 0) members l)
    counted used us = rw us refl

    pub left-low : (used one left : ℕ) → used ≡ get_or uses i 0 → one ≡ indicator (tests used members l) → l < d → Ready l place digits pword qword left → one ≤ left
    left-low used one left us h deep r =
        omega (arith, h, counted used us, r.left_is, left-next (get_or uses i 0) deep)

    -- one more port
    module _ (x place' digits' pword' qword' : ℕ) (low : x < u) (deep : l < d) (three : d ≤ 3) (pl : place' ≡ place * u + x) (dg : digits' ≡ digits + x * 256 ^ l)
        (pw : pword' ≡ held_word pword members l x p) (qw : qword' ≡ held_word qword members l x q) where
      stands-more : (flips resizes : ℕ → Bool) → Words flips resizes members resized → (e : Tuple) → Stands u flips p q l place digits pword qword e
          → Stands u flips p q (l + 1) place' digits' pword' qword' (x ∷ e)
      unfolding place_of packed
      stands-more flips resizes words e at =
          let long = length-tuple at.tuple in
          record {
            tuple = rw (add-one l) (more low at.tuple);
            place_is = pl ∙ ap (λ (y : ℕ). y * u + x) at.place_is;
            digits_are = dg ∙ ap₂ (λ (y z : ℕ). y + x * 256 ^ z) at.digits_are (sym long);
            p-held = rw pw (held_more flips resizes members resized words e p x pword l long (omega arith) at.p-held);
            q-held = rw qw (held_more flips resizes members resized words e q x qword l long (omega arith) at.q-held);
          }

      pub from_more : (used one left : ℕ) → used ≡ get_or uses i 0 → one ≡ indicator (tests used members l) → Ready l place digits pword qword left
          → Ready (l + 1) place' digits' pword' qword' (left - one)
      from_more used one left us h r = record {
        ready = r.ready;
        tuple = x ∷ r.tuple;
        at = stands-more r.ready.flips r.ready.resizes r.ready.words r.tuple r.at;
        within = omega arith;
        left_is =
            let h' : one ≡ indicator (tests (get_or uses i 0) members l) = h ∙ counted used us in
            (let e : left - one ≡ left_of (get_or uses i 0) members (suc l) (d - (l + 1)) = omega (arith, h', r.left_is, left-next (get_or uses i 0) deep) in e)
            ∙ ap (λ (y : ℕ). left_of (get_or uses i 0) members y (d - (l + 1))) (sym (add-one l));
      }

      pub port-gives : (r : ℕ) → Gives (l + 1) place' digits' pword' qword' r
          → PortGives u bytes firsts ends uses masks sizes cells i d members resized p q l place digits pword qword x r
      unfolding FromGives PortGives Tells
      port-gives r gives sets n c s b flips resizes settled stands words differ e at f are =
          gives sets n c s b flips resizes settled stands words differ (x ∷ e) (stands-more flips resizes words e at) f are

    abbrev OnePort : ℕ → ℕ → Type 0
    OnePort x r = PortGives u bytes firsts ends uses masks sizes cells i d members resized p q l place digits pword qword x r

    abbrev Ports : ℕ → ℕ → Type 0
    Ports m r = PortsGive u bytes firsts ends uses masks sizes cells i d members resized p q l place digits pword qword m r

    -- port by port
    pub ports-none : Ports 0 0
    unfolding PortsGive Tells each_port sum modulus
    ports-none sets n c s b flips resizes settled stands words differ e at f are = refl

    pub ports-next : (m r r' r'' : ℕ) → Ports m r → OnePort m r' → r'' ≡ (r + r') % 4294967296 → Ports (m + 1) r''
    unfolding PortsGive PortGives Tells
    ports-next m r r' r'' have one h sets n c s b flips resizes settled stands words differ e at f are =
        rw (add-one m)
        (more-mod _ _ r r'' _ r' (have sets n c s b flips resizes settled stands words differ e at f are) (one sets n c s b flips resizes settled stands words differ e at f are) h
        (sum-port m (λ x. over_tuples u (d - (l + 1)) (both_by u f (cell_of u cells) n c b d) (x ∷ e))))

    pub ports-done : (m r : ℕ) → m ≡ u → Ports m r → Ports u r
    ports-done m r h g = subst (λ (x : ℕ). Ports x r) h g

    module _ (deep : l < d) where
      rest-is : d - l ≡ suc (d - (l + 1))
      rest-is = omega arith

      pub ports-all : (r : ℕ) → Ports u r → Gives l place digits pword qword r
      unfolding PortsGive FromGives Tells over_tuples
      ports-all r have sets n c s b flips resizes settled stands words differ e at f are =
          have sets n c s b flips resizes settled stands words differ e at f are
          ∙ ap (λ (y : ℕ). over_tuples u y (both_by u f (cell_of u cells) n c b d) e % modulus) (sym rest-is)

      -- as many variables are left as ports are missing: only the two ports count
      pub ports-two : (used left r r' r'' : ℕ) → used ≡ get_or uses i 0 → tests used members l ≡ true → Ready l place digits pword qword left → left ≡ missing_of used pword qword
          → OnePort p r → OnePort q r' → r'' ≡ (r + r') % 4294967296 → Gives l place digits pword qword r''
      unfolding PortGives FromGives Tells over_tuples indicator
      ports-two used left r r' r'' us hit ready h at_p at-q j sets n c s b flips resizes settled stands words differ e at f are =
          let g = both_by u f (cell_of u cells) n c b d in
          let rest = d - (l + 1) in
          let after = left_of (get_or uses i 0) members (suc l) rest in
          let one : indicator (tests (get_or uses i 0) members l) ≡ 1 = ap indicator (ap (λ (y : ℕ). tests y members l) (sym us) ∙ hit) in
          let few : after < missing_of (get_or uses i 0) pword qword =
          omega (arith, h, ready.left_is, one, left-next (get_or uses i 0) deep, ap (λ (y : ℕ). missing_of y pword qword) us) in
          pair-mod (over_tuples u rest g (p ∷ e)) (over_tuples u rest g (q ∷ e)) r'' r r'
          (at_p sets n c s b flips resizes settled stands words differ e at f are) (at-q sets n c s b flips resizes settled stands words differ e at f are) j
          ∙ sym (two-ports u (λ z. over_tuples u rest g (z ∷ e)) p q differ (λ z zl np nq.
          none_both u bytes firsts ends uses masks sizes cells i d p q differ sets n c s b flips resizes settled stands f are members resized words
          rest (suc l) (z ∷ e) (more zl at.tuple) (omega arith) (depth_low left ready)
          (lacks-other (get_or uses i 0) flips p q z after e np nq (lacks-word (get_or uses i 0) flips p q pword qword after e at.p-held at.q-held few)))
          ready.ready.p-low ready.ready.q-low)
          ∙ ap (λ (y : ℕ). over_tuples u y g e % modulus) (sym rest-is)

    -- fewer variables are left than ports are missing
    pub from-none : (used left : ℕ) → used ≡ get_or uses i 0 → Ready l place digits pword qword left → left < missing_of used pword qword → Gives l place digits pword qword 0
    unfolding FromGives Tells
    from-none used left us ready h sets n c s b flips resizes settled stands words differ e at f are =
        let after = left_of (get_or uses i 0) members l (d - l) in
        let few : after < missing_of (get_or uses i 0) pword qword = omega (arith, h, ready.left_is, ap (λ (y : ℕ). missing_of y pword qword) us) in
        sym (none_both u bytes firsts ends uses masks sizes cells i d p q differ sets n c s b flips resizes settled stands f are members resized words
        (d - l) l e at.tuple (omega (arith, ready.within)) (depth_low left ready)
        (lacks-word (get_or uses i 0) flips p q pword qword after e at.p-held at.q-held few))

  -- a whole tuple
  module _ (place digits pword qword : ℕ) where
    cell-visit : (sets : ℕ) (n : Node) (c s : Forest) (b : ℕ) (flips : ℕ → Bool) (e : Tuple) → FlipSettled u sets masks sizes cells
        → FlatTree u sets bytes firsts ends uses cells i (tree n c s) b d → Stands u flips p q d place digits pword qword e
        → FlipVisit u sets bytes firsts ends uses cells i (tree n c s) b d 1 3 place digits (λ x. e)
    unfolding Fitting Every
    cell-visit sets n c s b flips e settled stands at =
        let ready = settled.masks-settled in
        record {
          holds = stands.holds;
          fitting = stands.fitting;
          flat = stands.flat;
          line = rw (at.place_is, at.digits_are) (cell-line at.tuple ready.ports1 ready.ports64 stands.fitting.0.depth3);
          room = stands.room;
          nodes = stands.nodes;
        }

    pub cell-ready : Ready d place digits pword qword 0 → FlipReady bytes firsts ends uses masks sizes cells i 1 3 place digits (0 ∷ [])
    cell-ready r = record {
      ports = u;
      sets = r.ready.sets;
      node = r.ready.node;
      children = r.ready.children;
      siblings = r.ready.siblings;
      first = r.ready.first;
      depth = d;
      at = λ x. r.tuple;
      settled = r.ready.settled;
      visit = cell-visit r.ready.sets r.ready.node r.ready.children r.ready.siblings r.ready.first r.ready.flips r.tuple r.ready.settled r.ready.stands r.at;
      room = omega arith;
    }

    abbrev Under : ℕ → ℕ → Type 0
    Under word r = FlipGives bytes firsts ends uses masks sizes cells i 1 3 place digits word (r ∷ [])

    pub cell-gives : (both at_p at-q alone mid r : ℕ) → Under (bit_or resized (bit_or pword qword)) both → Under (bit_or resized pword) at_p → Under (bit_or resized qword) at-q
        → Under resized alone → mid ≡ (0 + (both + (4294967296 - at_p))) % 4294967296 → r ≡ (mid + (alone + (4294967296 - at-q))) % 4294967296
        → Gives d place digits pword qword r
    unfolding FlipGives FromGives Tells over_tuples both_by modulus
    cell-gives both at_p at-q alone mid r gb gp gq ga mq rq sets n c s b flips resizes settled stands words differ e at f are =
        let visit = cell-visit sets n c s b flips e settled stands at in
        let within : (S v : ℕ) → v < 3 → in_mask (get_or uses i 0) (4 * S + v) ≡ true → v < length e =
        λ S v l h. omega (arith, bound u bytes firsts ends uses masks sizes cells i d p q differ sets n c s b flips resizes settled stands f are S v l h, length-tuple at.tuple) in
        let cell : (word y : ℕ) → Under word y → (ch : Change) (k : Configuration) → WordFor (get_or uses i 0) ch e word → Flipped (get_or uses i 0) masks sizes ch k
        → y ≡ new_cell u k ch (cell_of u cells) n c b d e =
        λ word y g ch k w fl. g u sets n c s b d (λ x. e) settled visit 0 (omega arith) ch k w fl in
        let both_is = cell (bit_or resized (bit_or pword qword)) both gb f.both f.kb
        (two-word flips resizes members resized words (get_or uses i 0) e within p q pword qword at.p-held at.q-held f.both are.both_is) are.both-flipped in
        let p-is = cell (bit_or resized pword) at_p gp f.atp f.kp
        (one_word flips resizes members resized words (get_or uses i 0) e within p pword at.p-held f.atp are.p-is) are.p-flipped in
        let q-is = cell (bit_or resized qword) at-q gq f.atq f.kq
        (one_word flips resizes members resized words (get_or uses i 0) e within q qword at.q-held f.atq are.q-is) are.q-flipped in
        let alone-is = cell resized alone ga f.base f.k₀ (resizes-word flips resizes members resized words (get_or uses i 0) f.base are.base-is e) are.base-flipped in
        four-mod both at_p alone at-q mid r mq rq
        ∙ ap₂ (λ (x y : ℕ). (x + y) % 4294967296) (ap₂ (λ (x y : ℕ). x + (4294967296 - y)) both_is p-is) (ap₂ (λ (x y : ℕ). x + (4294967296 - y)) alone-is q-is)
        ∙ ap (λ (y : ℕ). over_tuples u y (both_by u f (cell_of u cells) n c b d) e % 4294967296) (let w : 0 ≡ d - d = omega arith in w)
