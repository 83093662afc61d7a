-- An atom gone into the tables: what they say of each move grows by the move's share of it. Assumes nothing.
use mathlib.Core.Path.{◌≡◌, refl, sym, ap, ◌∙◌, subst}
use mathlib.Core.Bool.{Bool, true, false, cond}
use mathlib.Core.List.{List, [], ◌∷◌}
use Prim.Native.Nat.{ℕ, zero, suc, ◌+◌, ◌*◌, ◌^◌, ◌%◌, ◌≤◌, ◌<◌}
use native.Mathlib.Omega.{arith}
use lib.ListN.{get_or}
use borrow.Author.Tests.{not-true, eqb-false}
use Rattle.logic.specs.declared.Move.{Move}
use Rattle.logic.specs.Formula.{Node, Forest, none, tree, Plan, child_depth}
use Rattle.logic.specs.Configuration.{in_mask, in_masks}
use Rattle.logic.specs.Moves.{move_kind, fields_fit, fits, known, legal}
use Rattle.logic.specs.Change.{modulus}
use Rattle.logic.specs.inner.MoveFields.{t_end, q_end, Fields}
use Rattle.logic.proofs.Lists.{and_left, and_right}
use Rattle.logic.proofs.MoveFields.{known-fields}
use Rattle.table_format.specs.inner.Index.{forest_uses}
use Rattle.cells_touch.proofs.Bits.{in-zero}
use Rattle.cells_atoms.specs.inner.Atoms.{is_atom, of_atoms}
use Rattle.cells_atoms.proofs.Over.{sum-mod}
use Rattle.cells_share.specs.inner.Listed.{Listed, of_listed}
use Rattle.cells_flip.specs.inner.Flips.{Flat}
use Rattle.move_shares.specs.inner.Shares.{entering, leaving, exchanged, share_of, whole_share, both_share, ShareReady, TreeReady, crosses}
use Rattle.move_shares.specs.inner.Listing.{cross_read}
use Rattle.move_shares.proofs.OfKinds.{share-add, share-drop, share-transfer}
use Rattle.move_shares.proofs.Swaps.{share-swap, share-both}
use Rattle.move_slots.specs.inner.Slots.{single_read, kind_read, move_read, SinglesTaken, JointsTaken}
use Rattle.move_tables.specs.inner.Taking.{Crossed, whole_read, MovesTaken}
use Rattle.move_tables.proofs.Listing.{entry}

-- what becomes of a size is one of three
entering-few : (test p : ℕ) → entering test p ≤ 2
unfolding entering
entering-few test p = go (in_mask test p)
  where
    go : (a : Bool) → cond a 1 2 ≤ 2
    go true = omega arith
    go false = omega arith

leaving-few : (test p : ℕ) → leaving test p ≤ 1
unfolding leaving
leaving-few test p = go (in_mask test p)
  where
    go : (a : Bool) → cond a 1 0 ≤ 1
    go true = omega arith
    go false = omega arith

exchanged-few : (test p q : ℕ) → exchanged test p q ≤ 2
unfolding exchanged
exchanged-few test p q = omega (arith, entering-few test q, leaving-few test p)

-- sums modulo 2^32 of which each part has grown
two-grown : (a a' b b' x y : ℕ) → a' % modulus ≡ (a + x) % modulus → b' % modulus ≡ (b + y) % modulus → (a' + b') % modulus ≡ (a + b + (x + y)) % modulus
two-grown a a' b b' x y h i =
    let e : a + x + (b + y) ≡ a + b + (x + y) = omega arith in sum-mod a' (a + x) b' (b + y) h i ∙ ap (λ (z : ℕ). z % modulus) e

one-grown : (a a' x s : ℕ) → a' % modulus ≡ (a + x) % modulus → s % modulus ≡ x % modulus → a' % modulus ≡ (a + s) % modulus
one-grown a a' x s h i = h ∙ sum-mod a a x s refl (sym i)

three-grown : (a a' b b' c c' x y z s : ℕ) → a' % modulus ≡ (a + x) % modulus → b' % modulus ≡ (b + y) % modulus → c' % modulus ≡ (c + z) % modulus
    → s % modulus ≡ (x + y + z) % modulus → (a' + b' + c') % modulus ≡ (a + b + c + s) % modulus
three-grown a a' b b' c c' x y z s h i j l =
    one-grown (a + b + c) (a' + b' + c') (x + y + z) s (two-grown (a + b) (a' + b') c c' (x + y) z (two-grown a a' b b' x y h i) j) l

joint-grown : (a a' b b' c c' x y z s : ℕ) → a' % modulus ≡ (a + x) % modulus → b' % modulus ≡ (b + y) % modulus → (c' + (x + y)) % modulus ≡ (c + z) % modulus
    → s % modulus ≡ z % modulus → (a' + b' + c') % modulus ≡ (a + b + c + s) % modulus
joint-grown a a' b b' c c' x y z s h i j l =
    let e : a + b + (x + y) + c' ≡ a + b + (c' + (x + y)) = omega arith in
    let f : a + b + (c + z) ≡ a + b + c + z = omega arith in
    one-grown (a + b + c) (a' + b' + c') z s
    (sum-mod (a' + b') (a + b + (x + y)) c' c' (two-grown a a' b b' x y h i) refl ∙ ap (λ (w : ℕ). w % modulus) e
    ∙ sum-mod (a + b) (a + b) (c' + (x + y)) (c + z) refl j ∙ ap (λ (w : ℕ). w % modulus) f) l

-- with what is listed beside
listed-grown : (a b k x s : ℕ) → s ≡ x → (a + (x + b) + k) % modulus ≡ (a + b + k + s) % modulus
listed-grown a b k x s h =
    let e : a + (x + b) + k ≡ a + b + k + s = omega arith in ap (λ (z : ℕ). z % modulus) e

beside-grown : (a a' b s : ℕ) → a' % modulus ≡ (a + s) % modulus → (a' + b) % modulus ≡ (a + b + s) % modulus
beside-grown a a' b s h =
    let e : a + s + b ≡ a + b + s = omega arith in sum-mod a' (a + s) b b h refl ∙ ap (λ (z : ℕ). z % modulus) e

between-grown : (a a' b k k' s : ℕ) → (a' + k') % modulus ≡ (a + k + s) % modulus → (a' + b + k') % modulus ≡ (a + b + k + s) % modulus
between-grown a a' b k k' s h =
    let e : a' + b + k' ≡ a' + k' + b = omega arith in
    let f : a + k + b + s ≡ a + b + k + s = omega arith in
    ap (λ (z : ℕ). z % modulus) e ∙ beside-grown (a + k) (a' + k') b s h ∙ ap (λ (z : ℕ). z % modulus) f

crossing-grown : (a a' k w x s : ℕ) → a' % modulus ≡ (a + x) % modulus → s % modulus ≡ (x + w) % modulus → (a' + (w + k)) % modulus ≡ (a + k + s) % modulus
crossing-grown a a' k w x s h i =
    let e : a + x + (w + k) ≡ a + k + (x + w) = omega arith in
    sum-mod a' (a + x) (w + k) (w + k) h refl ∙ ap (λ (z : ℕ). z % modulus) e ∙ sum-mod (a + k) (a + k) (x + w) s refl (sym i)

plus_none : (x : ℕ) → x + 0 ≡ x
plus_none x = omega arith

-- the kinds of a legal move
by-kinds : (Q : ℕ → Type 0) → Q 1 → Q 2 → Q 3 → Q 4 → (j : ℕ) → 1 ≤ j → j ≤ 4 → Q j
by-kinds Q a b c d zero l h = absurd (omega arith)
by-kinds Q a b c d (suc zero) l h = a
by-kinds Q a b c d (suc (suc zero)) l h = b
by-kinds Q a b c d (suc (suc (suc zero))) l h = c
by-kinds Q a b c d (suc (suc (suc (suc zero)))) l h = d
by-kinds Q a b c d (suc (suc (suc (suc (suc j))))) l h = absurd (omega arith)

module _ (P : Plan) (masks sizes cells : List ℕ) (ready : ShareReady P masks cells sizes) (n : Node) (c : Forest) (b d : ℕ) (stands : TreeReady P n c d)
    (atom : is_atom n ≡ true) where
  abbrev test : ℕ
  test = get_or masks P.sets 0

  abbrev used : ℕ
  used = forest_uses (tree n c none)

  abbrev share : Move → ℕ
  share m = share_of P masks cells m n c b d

  atom-only : (g : Node → Forest → ℕ → ℕ → ℕ) → of_atoms P.ports g (tree n c none) b d ≡ g n c b d
  unfolding of_atoms
  atom-only g = ap (λ (a : Bool). cond a (g n c b d) (of_atoms P.ports g c (b + P.ports ^ d) (child_depth n d)) + 0) atom ∙ plus_none (g n c b d)

  -- An atom with quantifiers leaves the tables as they are, and is listed.
  pub hard-taken : (transfers : Bool) (one still joint : List ℕ) (xs ys : List Listed) (i : ℕ) (s : Forest)
      → MovesTaken P.ports masks sizes cells P transfers (tree n c none) b d one still joint xs ys one still joint (entry i d n c s b ∷ xs) ys
  unfolding MovesTaken whole_read of_listed entry
  hard-taken transfers one still joint xs ys i s m leg t =
      listed-grown (move_read one still joint test m) (of_listed (share_of P masks cells m) xs) (cross_read (move_kind m.kind) P masks sizes cells m ys) (share m) _
      (atom-only (share_of P masks cells m))

  -- One without quantifiers goes into the tables.
  module _ (flat : Flat (tree n c none) d) (one still joint one' still' joint' : List ℕ)
      (singles : SinglesTaken P.ports P.sets masks sizes cells n c b d one still one' still') where
    single-grown : (s j x : ℕ) → s < P.sets → j ≤ 2 → x < P.ports
        → single_read one' still' s j x % modulus ≡ (single_read one still s j x + whole_share P.ports masks sizes cells ((s, j) ∷ []) x n c b d) % modulus
    unfolding single_read whole_share SinglesTaken
    single-grown s j x l h i = let r = singles s j l h in two-grown _ _ _ _ _ _ r.0 (r.1 x i)

    module _ (ys ys' : List Listed) (m : Move) (leg : legal P (in_masks masks) m ≡ true) (F : Fields P.ports P.sets m) where
      abbrev Grown : ℕ → Type 0
      Grown j =
          (kind_read (move_kind j) one' still' joint' test m + cross_read (move_kind j) P masks sizes cells m ys') % modulus
          ≡ (kind_read (move_kind j) one still joint test m + cross_read (move_kind j) P masks sizes cells m ys + share m) % modulus

      add-grown : m.kind ≡ 1 → Grown 1
      unfolding kind_read cross_read move_kind
      add-grown e =
          beside-grown _ _ 0 _
          (one-grown _ _ _ _ (single-grown m.s (entering test m.p) m.p F.s-below (entering-few test m.p) F.p-below)
          (share-add P masks cells sizes m ready leg n c b d stands e))

      drop-grown : m.kind ≡ 2 → Grown 2
      unfolding kind_read cross_read move_kind
      drop-grown e =
          beside-grown _ _ 0 _
          (one-grown _ _ _ _ (single-grown m.s (leaving test m.p) m.p F.s-below (omega (arith, leaving-few test m.p)) F.p-below)
          (share-drop P masks cells sizes m ready leg n c b d stands e))

      transfer-grown : JointsTaken P.ports P.sets test masks sizes cells n c b d joint joint' → m.kind ≡ 3 → Grown 3
      unfolding kind_read cross_read move_kind JointsTaken t_end fits fields_fit legal
      transfer-grown joints e =
          let t : m.t < P.sets = subst (λ (j : ℕ). m.t < t_end j P.sets) e F.t-below in
          let f = ap (λ (j : ℕ). fields_fit (move_kind j) (in_masks masks) m) (sym e) ∙ and_right (known P m) _ leg in
          let apart = eqb-false m.s m.t (not-true _ (and_left _ _ (and_left _ _ f))) in
          beside-grown _ _ 0 _
          (joint-grown _ _ _ _ _ _ _ _ _ _
          (single-grown m.s (leaving test m.p) m.p F.s-below (omega (arith, leaving-few test m.p)) F.p-below)
          (single-grown m.t (entering test m.p) m.p t (entering-few test m.p) F.p-below)
          (joints m.s m.t m.p F.s-below t apart F.p-below)
          (share-transfer P masks cells sizes m ready leg n c b d stands e))

    -- a swap of a set that the atom tests by one variable, and of any, where the atom is listed
    module _ (ys : List Listed) (m : Move) (leg : legal P (in_masks masks) m ≡ true) (F : Fields P.ports P.sets m) (e : m.kind ≡ 4) where
      q-low : m.q < P.ports
      unfolding q_end
      q-low = subst (λ (j : ℕ). m.q < q_end j P.ports) e F.q-below

      swap-grown : crosses used m.s ≡ false → Grown ys ys m leg F 4
      unfolding kind_read cross_read move_kind SinglesTaken
      swap-grown cross =
          let r = singles m.s (exchanged test m.p m.q) F.s-below (exchanged-few test m.p m.q) in
          beside-grown _ _ (of_listed (both_share P masks sizes cells m) ys) _
          (three-grown _ _ _ _ _ _ _ _ _ _ r.0 (r.1 m.p F.p-below) (r.1 m.q q-low)
          (share-swap P masks cells sizes ready n c b d stands flat m e leg cross))

      swap-listed : (i : ℕ) → Grown ys (entry i d n c none b ∷ ys) m leg F 4
      unfolding kind_read cross_read move_kind SinglesTaken of_listed entry
      swap-listed i =
          let r = singles m.s (exchanged test m.p m.q) F.s-below (exchanged-few test m.p m.q) in
          crossing-grown _ _ (of_listed (both_share P masks sizes cells m) ys) (both_share P masks sizes cells m n c b d) _ _
          (three-grown _ _ _ _ _ _ _ _ _ _ r.0 (r.1 m.p F.p-below) (r.1 m.q q-low) refl)
          (share-both P masks cells sizes ready n c b d stands flat m e leg)

    module _ (transfers : Bool) (joints : transfers ≡ true → JointsTaken P.ports P.sets test masks sizes cells n c b d joint joint') (xs ys : List Listed) where
      moves-taken : (ys' : List Listed)
          → ((m : Move) (leg : legal P (in_masks masks) m ≡ true) (F : Fields P.ports P.sets m) → m.kind ≡ 4 → Grown ys ys' m leg F 4)
          → MovesTaken P.ports masks sizes cells P transfers (tree n c none) b d one still joint xs ys one' still' joint' xs ys'
      unfolding MovesTaken move_read whole_read legal
      moves-taken ys' swaps m leg t =
          let F = known-fields P m (and_left (known P m) _ leg) in
          let κ = move_kind m.kind in
          between-grown (move_read one still joint test m) (move_read one' still' joint' test m) (of_listed (share_of P masks cells m) xs)
          (cross_read κ P masks sizes cells m ys) (cross_read κ P masks sizes cells m ys') _
          (by-kinds (λ j. m.kind ≡ j → Grown ys ys' m leg F j)
          (add-grown ys ys' m leg F) (drop-grown ys ys' m leg F) (λ e. transfer-grown ys ys' m leg F (joints (wanted e)) e) (swaps m leg F)
          m.kind F.kind-low F.kind-high refl
          ∙ ap (λ (x : ℕ). (move_read one still joint test m + cross_read κ P masks sizes cells m ys + x) % modulus) (sym (atom-only (share_of P masks cells m))))
        where
          wanted : m.kind ≡ 3 → transfers ≡ true
          wanted e = go transfers refl
            where
              go : (a : Bool) → transfers ≡ a → transfers ≡ true
              go true x = x
              go false x = absurd (t x e)

      pub flat-taken : (word : ℕ) → word ≡ 0 → Crossed used word
          → MovesTaken P.ports masks sizes cells P transfers (tree n c none) b d one still joint xs ys one' still' joint' xs ys
      unfolding Crossed
      flat-taken word z cross = moves-taken ys (λ m leg F e. swap-grown ys m leg F e (uncrossed m.s (omega (arith, F.s-below, ready.settled.sets16))))
        where
          uncrossed : (S : ℕ) → S < 16 → crosses used S ≡ false
          uncrossed S l = sym (cross S l) ∙ ap (λ (x : ℕ). in_mask x (4 * S)) z ∙ in-zero (4 * S)

      pub crossing-taken : (i : ℕ)
          → MovesTaken P.ports masks sizes cells P transfers (tree n c none) b d one still joint xs ys one' still' joint' xs (entry i d n c none b ∷ ys)
      crossing-taken i = moves-taken (entry i d n c none b ∷ ys) (λ m leg F e. swap-listed ys m leg F e i)
