-- Sets that a tree does not use add nothing to it. Assumes nothing.
use mathlib.Core.Path.{◌≡◌, refl, sym, ap, ap₂, ◌∙◌}
use mathlib.Core.Bool.{Bool, true, false, cond, not, ◌&&◌, ◌||◌, true≢false}
use mathlib.Core.List.{List, [], ◌∷◌}
use Prim.Native.Nat.{ℕ, zero, suc, ◌+◌, ◌-◌, ◌*◌, ◌^◌, ◌%◌, ◌<◌}
use native.Mathlib.Omega.{arith}
use lib.Bits.{bit_or}
use lib.Dec.{eqb, leb}
use lib.ListN.{length, get_or}
use borrow.Author.Tests.{ne_eqb}
use Rattle.logic.specs.Formula.{Test, isin, notin, port, size, Node, root, all, any, and, or, lit, Forest, none, tree, Plan}
use Rattle.logic.specs.Configuration.{Sets, in_mask, in_masks}
use Rattle.logic.specs.Truth.{Tuple, port_of}
use Rattle.logic.specs.Moves.{flip, flips}
use Rattle.logic.specs.Change.{some_of, member_hit, hit, node_hit, forest_hit, touched, modulus, cell_of, new_cell}
use Rattle.logic.proofs.Lists.{or_left, or-false}
use Rattle.logic.proofs.Touched.{PortsBelow}
use Rattle.logic.proofs.Changed.{untouched-kept}
use Rattle.table_format.specs.inner.Index.{forest_uses}
use Rattle.cells_touch.specs.inner.Hits.{meets, variable_bits, size_bit}
use Rattle.cells_touch.proofs.Bits.{bit-meets}
use Rattle.cells_walk.specs.inner.Visit.{CellsFit}
use Rattle.cells_atoms.proofs.Over.{sum-mod}
use Rattle.cells_ports.specs.inner.Ports.{resized_by, flipped_by}
use Rattle.move_shares.specs.inner.Shares.{Outcome, changing, sized_as, pairs_of, resizing, flipping, resized_to, flipped_to, resized_share, flipped_share, whole_share, ShareReady, TreeReady, set_bits}
use Rattle.move_shares.proofs.Alike.{in_left, in_right, own-bit, any-alike, tuples-mod, tuples-none}

-- None of these sets is used.
unfoldable pub AllUnused : ℕ → List Outcome → Type 0
AllUnused used [] = Unit {0}
AllUnused used (z ∷ zs) = (meets used (set_bits z.0) ≡ false) × AllUnused used zs

-- the four bits of a set
pub in-set : (S v : ℕ) → v < 4 → in_mask (set_bits S) (4 * S + v) ≡ true
unfolding set_bits variable_bits size_bit
in-set S zero l =
    ap (in_mask (set_bits S)) (let e : 4 * S + 0 ≡ 4 * S = omega arith in e)
    ∙ in_left (variable_bits S) (size_bit S) (4 * S) (in_left (bit_or (2 ^ (4 * S)) (2 ^ (4 * S + 1))) (2 ^ (4 * S + 2)) (4 * S)
    (in_left (2 ^ (4 * S)) (2 ^ (4 * S + 1)) (4 * S) (own-bit (4 * S))))
in-set S (suc zero) l =
    in_left (variable_bits S) (size_bit S) (4 * S + 1) (in_left (bit_or (2 ^ (4 * S)) (2 ^ (4 * S + 1))) (2 ^ (4 * S + 2)) (4 * S + 1)
    (in_right (2 ^ (4 * S)) (2 ^ (4 * S + 1)) (4 * S + 1) (own-bit (4 * S + 1))))
in-set S (suc (suc zero)) l =
    in_left (variable_bits S) (size_bit S) (4 * S + 2) (in_right (bit_or (2 ^ (4 * S)) (2 ^ (4 * S + 1))) (2 ^ (4 * S + 2)) (4 * S + 2) (own-bit (4 * S + 2)))
in-set S (suc (suc (suc zero))) l = in_right (variable_bits S) (size_bit S) (4 * S + 3) (own-bit (4 * S + 3))
in-set S (suc (suc (suc (suc v)))) l = absurd (omega arith)

-- a set with a bit that is used is another than one that is not used
pub unused-other : (used s : ℕ) → meets used (set_bits s) ≡ false → (S v : ℕ) → v < 4 → in_mask used (4 * S + v) ≡ true → eqb S s ≡ false
unused-other used s h S v l i =
    ne_eqb S s (λ q. true≢false (sym (bit-meets used (set_bits s) (4 * S + v) i (ap (λ (y : ℕ). in_mask (set_bits y) (4 * S + v)) (sym q) ∙ in-set S v l)) ∙ h))

-- Two lists of outcomes say the same of a set.
record SameOutcome (sizes : List ℕ) (zs zs' : List Outcome) (S : ℕ) : Type 0 where
  pub named : changing zs S ≡ changing zs' S
  pub flipped : (x : ℕ) (k k' : Sets) (p : ℕ) → k S p ≡ k' S p → flips (pairs_of zs x) k S p ≡ flips (pairs_of zs' x) k' S p
  pub sized : sized_as sizes zs S ≡ sized_as sizes zs' S

module _ (sizes : List ℕ) (S : ℕ) where
  none-same : SameOutcome sizes [] [] S
  unfolding pairs_of flips
  none-same = record { named = refl; flipped = λ x k k' p h. h; sized = refl }

  more_same : (z : Outcome) (zs zs' : List Outcome) → SameOutcome sizes zs zs' S → SameOutcome sizes (z ∷ zs) (z ∷ zs') S
  unfolding changing some_of pairs_of flips flip sized_as
  more_same z zs zs' h = record {
    named = ap (λ (a : Bool). eqb S z.0 || a) h.named;
    flipped = λ x k k' p i. h.flipped x (flip (z.0, x) k) (flip (z.0, x) k') p (ap (λ (a : Bool). cond (eqb S z.0 && eqb p x) (not a) a) i);
    sized = ap (cond (eqb S z.0) (get_or sizes S 0 + z.1 - 1)) h.sized;
  }

  -- another set's outcome does not count
  other-same : (z : Outcome) (zs zs' : List Outcome) → eqb S z.0 ≡ false → SameOutcome sizes zs zs' S → SameOutcome sizes (z ∷ zs) zs' S
  unfolding changing some_of pairs_of flips flip sized_as
  other-same z zs zs' o h = record {
    named = ap (λ (a : Bool). a || changing zs S) o ∙ h.named;
    flipped = λ x k k' p i. h.flipped x (flip (z.0, x) k) k' p (ap (λ (a : Bool). cond (a && eqb p x) (not (k S p)) (k S p)) o ∙ i);
    sized = ap (λ (a : Bool). cond a (get_or sizes S 0 + z.1 - 1) (sized_as sizes zs S)) o ∙ h.sized;
  }

  all-unused : (used : ℕ) (zs : List Outcome) → AllUnused used zs → (v : ℕ) → v < 4 → in_mask used (4 * S + v) ≡ true → SameOutcome sizes zs [] S
  unfolding AllUnused
  all-unused used [] h v l i = none-same
  all-unused used (z ∷ zs) h v l i = other-same z zs [] (unused-other used z.0 h.0 S v l i) (all-unused used zs h.1 v l i)

-- a membership literal is hit by these sets at a port
pairs-hit : (v S : ℕ) (e : Tuple) (x : ℕ) (zs : List Outcome) → some_of (member_hit v S e) (pairs_of zs x) ≡ (changing zs S && (leb (length e) v || eqb (port_of e v) x))
unfolding some_of member_hit pairs_of changing
pairs-hit v S e x [] = refl
pairs-hit v S e x (z ∷ zs) =
    ap (λ (a : Bool). (eqb S z.0 && (leb (length e) v || eqb (port_of e v) x)) || a) (pairs-hit v S e x zs)
    ∙ apart (eqb S z.0) (changing zs S) (leb (length e) v || eqb (port_of e v) x)
  where
    apart : (a b c : Bool) → ((a && c) || (b && c)) ≡ ((a || b) && c)
    apart true b true = refl
    apart true true false = refl
    apart true false false = refl
    apart false b c = refl

pub pairs_below : (u x : ℕ) → x < u → (zs : List Outcome) → PortsBelow u (pairs_of zs x)
unfolding PortsBelow pairs_of
pairs_below u x l [] = tt
pairs_below u x l (z ∷ zs) = (l, pairs_below u x l zs)

-- no set, nothing is hit
pub nothing-hit : (f : Forest) (e : Tuple) → forest_hit (resizing []) f e ≡ false
unfolding forest_hit node_hit hit resizing changing some_of
nothing-hit none e = refl
nothing-hit (tree n c s) e = or-false _ _ (or-false _ _ (node-hit n) (nothing-hit c e)) (nothing-hit s e)
  where
    test-hit : (t : Test) → hit (resizing []) t e ≡ false
    test-hit (isin v S) = refl
    test-hit (notin v S) = refl
    test-hit (port r v w) = refl
    test-hit (size r S c) = refl

    node-hit : (n : Node) → node_hit (resizing []) n e ≡ false
    node-hit root = refl
    node-hit all = refl
    node-hit any = refl
    node-hit and = refl
    node-hit or = refl
    node-hit (lit l) = test-hit l.test

-- a number less itself
pub less-itself : (x y z : ℕ) → x ≡ z → y ≡ z → z < modulus → (x + (modulus - y)) % modulus ≡ 0
unfolding modulus
less-itself x y z h i l = omega arith

-- Two lists of outcomes say the same of the sizes that are used, and of the members that are used.
record SameSizes (used : ℕ) (sizes : List ℕ) (zs zs' : List Outcome) : Type 0 where
  pub resized-same : (S : ℕ) → in_mask used (4 * S + 3) ≡ true → changing zs S ≡ changing zs' S
  pub sizes-same : (S : ℕ) → in_mask used (4 * S + 3) ≡ true → sized_as sizes zs S ≡ sized_as sizes zs' S

record SameMembers (used : ℕ) (zs zs' : List Outcome) : Type 0 where
  pub named-same : (S v : ℕ) → v < 3 → in_mask used (4 * S + v) ≡ true → changing zs S ≡ changing zs' S
  pub flips-same : (S v : ℕ) → v < 3 → in_mask used (4 * S + v) ≡ true → (x : ℕ) (k : Sets) (p : ℕ) → flips (pairs_of zs x) k S p ≡ flips (pairs_of zs' x) k S p

module _ (used : ℕ) (sizes : List ℕ) (zs zs' : List Outcome) (H : (S v : ℕ) → v < 4 → in_mask used (4 * S + v) ≡ true → SameOutcome sizes zs zs' S) where
  sizes-by : SameSizes used sizes zs zs'
  sizes-by = record { resized-same = λ S i. (H S 3 (omega arith) i).named; sizes-same = λ S i. (H S 3 (omega arith) i).sized }

  members-by : SameMembers used zs zs'
  members-by = record { named-same = λ S v l i. (H S v (omega arith) i).named; flips-same = λ S v l i x k p. (H S v (omega arith) i).flipped x k k p refl }

module _ (P : Plan) (own before sizes : List ℕ) (ready : ShareReady P own before sizes) (n : Node) (c : Forest) (b d : ℕ) (stands : TreeReady P n c d) where
  abbrev used : ℕ
  used = forest_uses (tree n c none)

  abbrev old : Tuple → ℕ
  old = cell_of P.ports before b

  abbrev resized_new : List Outcome → Tuple → ℕ
  resized_new zs = new_cell P.ports (resized_to own sizes zs) (resizing zs) (cell_of P.ports before) n c b d

  abbrev flipped_new : List Outcome → ℕ → Tuple → ℕ
  flipped_new zs x = new_cell P.ports (flipped_to own sizes zs x) (flipping zs x) (cell_of P.ports before) n c b d

  -- so they come to the same at each cell of the tree
  resized-cell : (zs zs' : List Outcome) → SameSizes used sizes zs zs' → (e : Tuple) → resized_new zs e ≡ resized_new zs' e
  unfolding resizing resized_to PortsBelow
  resized-cell zs zs' h e =
      any-alike P.ports P.sets (resized_to own sizes zs) (resizing zs) (resized_to own sizes zs') (resizing zs') ready.settled.ports1 tt tt
      (cell_of P.ports before) n c b d e stands.regular stands.fitting
      record {
        hits = λ S v i x w l l3 a. refl;
        members = λ S v i x w l l3 a q. refl;
        resized-same = λ S l i. h.resized-same S i;
        sizes-same = λ S l i q. h.sizes-same S i;
      }

  flipped-cell : (zs zs' : List Outcome) → SameMembers used zs zs' → SameSizes used sizes zs zs' → (x : ℕ) → x < P.ports → (e : Tuple) → flipped_new zs x e ≡ flipped_new zs' x e
  unfolding flipping flipped_to
  flipped-cell zs zs' g h x below e =
      any-alike P.ports P.sets (flipped_to own sizes zs x) (flipping zs x) (flipped_to own sizes zs' x) (flipping zs' x) ready.settled.ports1
      (pairs_below P.ports x below zs) (pairs_below P.ports x below zs') (cell_of P.ports before) n c b d e stands.regular stands.fitting
      record {
        hits = λ S v i y w l l3 a.
            pairs-hit v S y x zs ∙ ap (λ (o : Bool). o && (leb (length y) v || eqb (port_of y v) x)) (g.named-same S v l3 a) ∙ sym (pairs-hit v S y x zs');
        members = λ S v i y w l l3 a q. g.flips-same S v l3 a x (in_masks own) (port_of y v);
        resized-same = λ S l i. h.resized-same S i;
        sizes-same = λ S l i q. h.sizes-same S i;
      }

  -- and have the same shares
  resized-share : (zs zs' : List Outcome) → SameSizes used sizes zs zs'
      → resized_share P.ports own sizes before zs n c b d % modulus ≡ resized_share P.ports own sizes before zs' n c b d % modulus
  unfolding resized_share resized_by
  resized-share zs zs' h =
      tuples-mod P.ports _ _ d (λ e w. ap (λ (y : ℕ). (y + (modulus - old e)) % modulus) (resized-cell zs zs' h e))

  flipped-share : (zs zs' : List Outcome) → SameMembers used zs zs' → SameSizes used sizes zs zs' → (x : ℕ) → x < P.ports
      → flipped_share P.ports own sizes before zs x n c b d % modulus ≡ flipped_share P.ports own sizes before zs' x n c b d % modulus
  unfolding flipped_share flipped_by
  flipped-share zs zs' g h x l =
      tuples-mod P.ports _ _ d (λ e w. ap₂ (λ (y z : ℕ). (y + (modulus - z)) % modulus) (flipped-cell zs zs' g h x l e) (resized-cell zs zs' h e))

  whole-share : (zs zs' : List Outcome) → ((S v : ℕ) → v < 4 → in_mask used (4 * S + v) ≡ true → SameOutcome sizes zs zs' S) → (x : ℕ) → x < P.ports
      → whole_share P.ports own sizes before zs x n c b d % modulus ≡ whole_share P.ports own sizes before zs' x n c b d % modulus
  unfolding whole_share
  whole-share zs zs' H x l =
      sum-mod _ _ _ _ (resized-share zs zs' (sizes-by used sizes zs zs' H))
      (flipped-share zs zs' (members-by used sizes zs zs' H) (sizes-by used sizes zs zs' H) x l)

  -- Without any set the cells are as they were.
  old-fits : (e : Tuple) → old e < modulus
  unfolding cell_of CellsFit
  old-fits e = ready.cells_fit _

  resized-none : (e : Tuple) → resized_new [] e ≡ old e
  unfolding touched forest_hit
  resized-none e =
      untouched-kept P.ports (resized_to own sizes []) (resizing []) (cell_of P.ports before) n c b d e (or_left _ _ (nothing-hit (tree n c none) e))

  flipped-none : (x : ℕ) (e : Tuple) → flipped_new [] x e ≡ old e
  unfolding touched forest_hit flipping resizing pairs_of
  flipped-none x e =
      untouched-kept P.ports (flipped_to own sizes [] x) (flipping [] x) (cell_of P.ports before) n c b d e (or_left _ _ (nothing-hit (tree n c none) e))

  -- sizes that are not used
  sizes-none : (zs : List Outcome) → SameSizes used sizes zs [] → resized_share P.ports own sizes before zs n c b d % modulus ≡ 0
  unfolding resized_share resized_by
  sizes-none zs h =
      tuples-none P.ports _ d (λ e. less-itself (resized_new zs e) (old e) (old e) (resized-cell zs [] h e ∙ resized-none e) refl (old-fits e))

  -- Sets that the tree does not use add nothing, neither by their sizes nor by a flip.
  pub unused-resized : (zs : List Outcome) → AllUnused used zs → resized_share P.ports own sizes before zs n c b d % modulus ≡ 0
  unused-resized zs h = sizes-none zs (sizes-by used sizes zs [] (λ S. all-unused sizes S used zs h))

  pub unused-flipped : (zs : List Outcome) → AllUnused used zs → (x : ℕ) → x < P.ports → flipped_share P.ports own sizes before zs x n c b d % modulus ≡ 0
  unfolding flipped_share flipped_by
  unused-flipped zs h x l =
      let same : (S v : ℕ) → v < 4 → in_mask used (4 * S + v) ≡ true → SameOutcome sizes zs [] S = λ S. all-unused sizes S used zs h in
      let a = sizes-by used sizes zs [] same in
      let f = members-by used sizes zs [] same in
      tuples-none P.ports _ d (λ e.
      less-itself (flipped_new zs x e) (resized_new zs e) (old e) (flipped-cell zs [] f a x l e ∙ flipped-none x e) (resized-cell zs [] a e ∙ resized-none e) (old-fits e))

  -- Of two sets only the one counts that the tree uses.
  module _ (s j t l : ℕ) where
    pub unused-second : meets used (set_bits t) ≡ false → (x : ℕ) → x < P.ports
        → whole_share P.ports own sizes before ((s, j) ∷ (t, l) ∷ []) x n c b d % modulus ≡ whole_share P.ports own sizes before ((s, j) ∷ []) x n c b d % modulus
    unused-second h x low =
        whole-share ((s, j) ∷ (t, l) ∷ []) ((s, j) ∷ [])
        (λ S v i a. more_same sizes S (s, j) ((t, l) ∷ []) [] (other-same sizes S (t, l) [] [] (unused-other used t h S v i a) (none-same sizes S))) x low

    pub unused-first : meets used (set_bits s) ≡ false → (x : ℕ) → x < P.ports
        → whole_share P.ports own sizes before ((s, j) ∷ (t, l) ∷ []) x n c b d % modulus ≡ whole_share P.ports own sizes before ((t, l) ∷ []) x n c b d % modulus
    unused-first h x low =
        whole-share ((s, j) ∷ (t, l) ∷ []) ((t, l) ∷ [])
        (λ S v i a. other-same sizes S (s, j) ((t, l) ∷ []) ((t, l) ∷ []) (unused-other used s h S v i a) (more_same sizes S (t, l) [] [] (none-same sizes S))) x low

  -- A size that the tree does not use: what becomes of it adds nothing, and does not count for a flip.
  module _ (s : ℕ) (h : in_mask used (4 * s + 3) ≡ false) where
    size-other : (S : ℕ) → in_mask used (4 * S + 3) ≡ true → eqb S s ≡ false
    size-other S i = ne_eqb S s (λ q. true≢false (sym i ∙ ap (λ (y : ℕ). in_mask used (4 * y + 3)) q ∙ h))

    pub unused-size : (j : ℕ) → resized_share P.ports own sizes before ((s, j) ∷ []) n c b d % modulus ≡ 0
    unused-size j =
        sizes-none ((s, j) ∷ []) record {
          resized-same = λ S i. (other-same sizes S (s, j) [] [] (size-other S i) (none-same sizes S)).named;
          sizes-same = λ S i. (other-same sizes S (s, j) [] [] (size-other S i) (none-same sizes S)).sized;
        }
