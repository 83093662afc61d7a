-- What the flip of some sets at one port adds in a row, from rows under words. Assumes nothing.
use mathlib.Core.Path.{◌≡◌, refl, sym, ap, ap₂, ◌∙◌, subst}
use mathlib.Core.Logic.{◌≢◌}
use mathlib.Core.Bool.{Bool, true, false, cond, ◌&&◌, true≢false, false≢true}
use mathlib.Core.List.{List, [], ◌∷◌}
use Prim.Native.Nat.{ℕ, zero, suc, ◌+◌, ◌-◌, ◌%◌, ◌≤◌, ◌<◌}
use native.Mathlib.Nat.{le_trans}
use native.Mathlib.Decide.{ℕ_discrete}
use native.Mathlib.Omega.{arith}
use lib.Bits.{bit_and, bit_or, and_zero_r}
use lib.Dec.{eqb, ltb}
use lib.ListN.{length, get_or, set, drop}
use lib.Seq.{get_or-set_same, get_or-set_other, get_or-drop}
use borrow.Author.Tests.{eq-eqb, ne_eqb, eqb-true, ltb-true, lt-ltb}
use Rattle.logic.specs.Formula.{Node, Forest, tree}
use Rattle.logic.specs.Configuration.{Configuration}
use Rattle.logic.specs.Truth.{Tuple}
use Rattle.logic.specs.Penalty.{sum, each_port}
use Rattle.logic.specs.Change.{Change, modulus, cell_of, new_cell}
use Rattle.logic.proofs.Lists.{and_left, and_right, and-true}
use Rattle.cells_sum.specs.inner.Walk.{taken, gathered}
use Rattle.cells_sum.proofs.Sums.{sum-port}
use Rattle.cells_row.specs.inner.Row.{row_of, renewal_at, row_gathered, row_taken}
use Rattle.cells_row.proofs.Rows.{row_at, gathered-port, sums_same, taken_at}
use Rattle.cells_touch.specs.inner.Hits.{meets, level}
use Rattle.cells_touch.proofs.Bits.{meets-bit, in-zero}
use Rattle.cells_walk.specs.inner.Visit.{CellsFit}
use Rattle.cells_walk.proofs.Steps.{port-of-lt}
use Rattle.cells_atoms.proofs.Over.{sum-mod, ports-mod, ports-zero}
use Rattle.cells_atoms.proofs.Ports.{one-port}
use Rattle.cells_flip.specs.inner.Flips.{Flipped, FlipVisit, FlipSettled, FlipGives}
use Rattle.cells_flip.proofs.Flipping.{old-here, gives-kept}
use Rattle.cells_ports.specs.inner.Ports.{Words, Resizes, resized_by, flipped_by, RowPortsGive}
use Rattle.cells_ports.specs.inner.Rows.{digit, level_if, port_levels, tests_outside, PortRowGives, FlipAdds, OwnGives, OuterGives, OverGives}
use Rattle.cells_ports.proofs.Words.{resizes-word, outer-word, both_word, outer-alone, own-word, other_word, no_word}

-- A row gone into a sum.
gathered-sum : (u acc : ℕ) (new old : List ℕ) → acc < modulus
    → row_gathered true acc new old u ≡ (acc + sum (each_port u (λ z. (get_or new z 0 + (modulus - get_or old z 0)) ∷ []))) % modulus
unfolding row_gathered gathered taken renewal_at each_port sum modulus
gathered-sum zero acc new old h = omega arith
gathered-sum (suc u) acc new old h =
    gathered-port true acc u (renewal_at new old)
    ∙ step acc _ _ (get_or new u 0 + (modulus - get_or old u 0)) (gathered-sum u acc new old h)
    ∙ ap (λ (s : ℕ). (acc + s) % modulus) (sym (sum-port u (λ z. get_or new z 0 + (modulus - get_or old z 0))))
  where
    step : (acc g s t : ℕ) → g ≡ (acc + s) % 4294967296 → (g + t) % 4294967296 ≡ (acc + (s + t)) % 4294967296
    step acc g s t e = omega arith

-- A sum over the ports of which only one counts, modulo 2^32.
only-port : (u : ℕ) (f : ℕ → ℕ) (x : ℕ) → x < u → ((z : ℕ) → z < u → z ≢ x → f z % modulus ≡ 0) → sum (each_port u (λ z. f z ∷ [])) % modulus ≡ f x % modulus
unfolding modulus
only-port u f x l H =
    ports-mod u f (λ z. cond (eqb z x) (f z) 0) (λ z m. go z m (ℕ_discrete z x))
    ∙ ap (λ (y : ℕ). y % modulus) (one-port u (λ z. cond (eqb z x) (f z) 0) x l (λ z a. ap (λ (b : Bool). cond b (f z) 0) (ne_eqb z x a))
    ∙ ap (λ (b : Bool). cond b (f x) 0) (eq-eqb x x refl))
  where
    go : (z : ℕ) → z < u → Dec (z ≡ x) → f z % modulus ≡ cond (eqb z x) (f z) 0 % modulus
    go z m (yes e) = ap (λ (b : Bool). cond b (f z) 0 % modulus) (sym (eq-eqb z x e))
    go z m (no a) = H z m a ∙ ap (λ (b : Bool). cond b (f z) 0 % modulus) (sym (ne_eqb z x a))

-- new minus old of a number that does not change
no_difference : (a b c : ℕ) → c ≡ a → c ≡ b → c < modulus → (a + (modulus - b)) % modulus ≡ 0
unfolding modulus
no_difference a b c h i l = omega arith

none_yet : 0 < modulus
unfolding modulus
none_yet = omega arith

from-none : (s : ℕ) → (0 + s) % modulus ≡ s % modulus
from-none s = ap (λ (y : ℕ). y % modulus) (let q : 0 + s ≡ s = omega arith in q)

nothing-added : (a s : ℕ) → a < modulus → s % modulus ≡ 0 % modulus → a ≡ (a + s) % modulus
unfolding modulus
nothing-added a s l h = omega arith

-- The tree tests nothing outside the row where neither variable there has the port.
nothing-outside : (used d digits members x : ℕ) → (ltb 0 d && eqb (digit digits 0) x) ≡ false → (ltb 1 d && eqb (digit digits 1) x) ≡ false
    → tests_outside used d digits members x ≡ false
unfolding tests_outside port_levels level_if
nothing-outside used d digits members x h i =
    rw (h, i, and_zero_r members) (go (meets used 0) refl)
  where
    go : (b : Bool) → meets used 0 ≡ b → b ≡ false
    go true q = let r = meets-bit used 0 q in absurd (false≢true (sym (in-zero r.0) ∙ r.2))
    go false q = refl

module _ (u : ℕ) (bytes firsts ends uses masks sizes cells : List ℕ) (i d row digits members resized : ℕ) where
  abbrev Under : ℕ → List ℕ → Type 0
  Under word out = FlipGives bytes firsts ends uses masks sizes cells i u d row digits word out

  abbrev used : ℕ
  used = get_or uses i 0

  -- The row of one port.
  module _ (x : ℕ) (below : x < u) (outer : List ℕ) (outer-are : Under (bit_or resized (bit_and members (port_levels d digits x))) outer) where
    pub port-row-both : (both out : List ℕ) → Under (bit_or resized (bit_and members (bit_or (port_levels d digits x) (level d)))) both
        → u ≤ length outer → out ≡ set outer x (get_or both x 0) → PortRowGives u bytes firsts ends uses masks sizes cells i d row digits members resized x out
    unfolding PortRowGives FlipGives
    port-row-both both out both-are room is sets n c s b e flips resizes settled visit w ch k at_x f z l = go (ℕ_discrete z x)
      where
        go : Dec (z ≡ x) → get_or out z 0 ≡ new_cell u k ch (cell_of u cells) n c b (suc d) (z ∷ e)
        go (yes q) = rw q
            (ap (λ (ys : List ℕ). get_or ys x 0) is ∙ get_or-set_same outer x (get_or both x 0) 0 (le_trans below room)
            ∙ both-are u sets n c s b (suc d) (λ y. y ∷ e) settled visit x below ch k
            (both_word flips resizes members resized w used x ch at_x u sets bytes firsts ends uses cells i n c s b d row digits e refl visit below) f)
        go (no a) =
            ap (λ (ys : List ℕ). get_or ys z 0) is ∙ get_or-set_other outer x z (get_or both x 0) 0 a
            ∙ outer-are u sets n c s b (suc d) (λ y. y ∷ e) settled visit z l ch k
            (outer-word flips resizes members resized w used x ch at_x u sets bytes firsts ends uses cells i n c s b d row digits e refl visit z l a) f

    pub port-row-alone : meets used (bit_and members (level d)) ≡ false → PortRowGives u bytes firsts ends uses masks sizes cells i d row digits members resized x outer
    unfolding PortRowGives FlipGives
    port-row-alone q sets n c s b e flips resizes settled visit w ch k at_x f z l =
        outer-are u sets n c s b (suc d) (λ y. y ∷ e) settled visit z l ch k
        (outer-alone flips resizes members resized w used x ch at_x u sets bytes firsts ends uses cells i n c s b d row digits e refl visit q z l) f

  module _ (base : List ℕ) (base-are : Under resized base) where
    -- the row's numbers under the resizing alone
    base-is : (sets : ℕ) (n : Node) (c s : Forest) (b : ℕ) (e : Tuple) (flips resizes : ℕ → Bool) → FlipSettled u sets masks sizes cells
        → FlipVisit u sets bytes firsts ends uses cells i (tree n c s) b (suc d) u d row digits (λ z. z ∷ e) → Words flips resizes members resized
        → (k : Configuration) (ch : Change) → Resizes resizes ch → Flipped used masks sizes ch k
        → (z : ℕ) → z < u → get_or base z 0 ≡ new_cell u k ch (cell_of u cells) n c b (suc d) (z ∷ e)
    unfolding FlipGives
    base-is sets n c s b e flips resizes settled visit w k ch r f z l =
        base-are u sets n c s b (suc d) (λ y. y ∷ e) settled visit z l ch k (resizes-word flips resizes members resized w used ch r (z ∷ e)) f

    -- A variable outside the row: the whole row of its port.
    pub outer-adds : (x start : ℕ) (new : List ℕ) → start < modulus → PortRowGives u bytes firsts ends uses masks sizes cells i d row digits members resized x new
        → FlipAdds u bytes firsts ends uses masks sizes cells i d row digits members resized x start (row_gathered true start new base u)
    unfolding PortRowGives FlipAdds flipped_by
    outer-adds x start new low new-are sets n c s b e flips resizes settled visit w k₀ ch₀ r₀ f₀ ch k at_x f =
        gathered-sum u start new base low
        ∙ ap (λ (y : ℕ). (start + y) % modulus) (sums_same u _ _ (λ z l. ap₂ (λ (p q : ℕ). p + (modulus - q))
        (new-are sets n c s b e flips resizes settled visit w ch k at_x f z l) (base-is sets n c s b e flips resizes settled visit w k₀ ch₀ r₀ f₀ z l)))

    -- The row's own variable: at each port only its cell counts.
    module _ (base-low : (z : ℕ) → get_or base z 0 < modulus) where
      pub own-adds : (before after new : List ℕ) → Under (bit_or resized (bit_and members (level d))) new → after ≡ row_taken true new base u before
          → OwnGives u bytes firsts ends uses masks sizes cells i d row digits members resized before after
      unfolding OwnGives FlipAdds FlipGives flipped_by taken renewal_at
      own-adds before after new new-are is x l missed sets n c s b e flips resizes settled visit w k₀ ch₀ r₀ f₀ ch k at_x f =
          let N : ℕ → ℕ = λ z. new_cell u k ch (cell_of u cells) n c b (suc d) (z ∷ e) in
          let B : ℕ → ℕ = λ z. new_cell u k₀ ch₀ (cell_of u cells) n c b (suc d) (z ∷ e) in
          ap (λ (ys : List ℕ). get_or ys x 0) is ∙ taken_at true u new base before x l
          ∙ ap₂ (λ (p q : ℕ). (get_or before x 0 + (p + (modulus - q))) % modulus)
          (new-are u sets n c s b (suc d) (λ y. y ∷ e) settled visit x l ch k
          (own-word flips resizes members resized w used x ch at_x u sets bytes firsts ends uses cells i n c s b d row digits e refl visit missed l) f)
          (base-is sets n c s b e flips resizes settled visit w k₀ ch₀ r₀ f₀ x l)
          ∙ sum-mod (get_or before x 0) (get_or before x 0) (N x + (modulus - B x)) (sum (each_port u (λ z. (N z + (modulus - B z)) ∷ []))) refl
          (sym (only-port u (λ z. N z + (modulus - B z)) x l (λ z m a. no_difference (N z) (B z) (get_or base z 0)
          (base-are u sets n c s b (suc d) (λ y. y ∷ e) settled visit z m ch k
          (other_word flips resizes members resized w used x ch at_x u sets bytes firsts ends uses cells i n c s b d row digits e refl visit missed z m a) f)
          (base-is sets n c s b e flips resizes settled visit w k₀ ch₀ r₀ f₀ z m) (base-low z))))

      pub own-none : (before : List ℕ) → ((x : ℕ) → get_or before x 0 < modulus) → meets used (bit_and members (level d)) ≡ false
          → OwnGives u bytes firsts ends uses masks sizes cells i d row digits members resized before before
      unfolding OwnGives FlipAdds FlipGives flipped_by modulus
      own-none before low q x l missed sets n c s b e flips resizes settled visit w k₀ ch₀ r₀ f₀ ch k at_x f =
          let N : ℕ → ℕ = λ z. new_cell u k ch (cell_of u cells) n c b (suc d) (z ∷ e) in
          let B : ℕ → ℕ = λ z. new_cell u k₀ ch₀ (cell_of u cells) n c b (suc d) (z ∷ e) in
          nothing-added (get_or before x 0) (sum (each_port u (λ z. (N z + (modulus - B z)) ∷ []))) (low x)
          (ports-mod u (λ z. N z + (modulus - B z)) (λ z. 0) (λ z m. no_difference (N z) (B z) (get_or base z 0)
          (base-are u sets n c s b (suc d) (λ y. y ∷ e) settled visit z m ch k
          (no_word flips resizes members resized w used x ch at_x u sets bytes firsts ends uses cells i n c s b d row digits e refl visit missed q z m) f)
          (base-is sets n c s b e flips resizes settled visit w k₀ ch₀ r₀ f₀ z m) (base-low z))
          ∙ ap (λ (y : ℕ). y % modulus) (ports-zero u (λ z. 0) (λ z m. refl)))

  -- The port of a variable outside the row is one of the row's.
  pub digit_low : (sets : ℕ) (n : Node) (c s : Forest) (b : ℕ) (e : Tuple) → 1 ≤ u
      → FlipVisit u sets bytes firsts ends uses cells i (tree n c s) b (suc d) u d row digits (λ z. z ∷ e) → (v : ℕ) → v < d → digit digits v < u
  digit_low sets n c s b e u1 visit v l =
      rw (← visit.line.same 0 v u1 (omega arith) (λ h. omega arith)) (port-of-lt v (visit.line.tuples 0 u1) (omega arith))

  -- A row is known by its numbers at the ports.
  same_gives : (word : ℕ) (a a' : List ℕ) → ((z : ℕ) → z < u → get_or a z 0 ≡ get_or a' z 0) → Under word a → Under word a'
  unfolding FlipGives
  same_gives word a a' q g u' sets n c s b d' at settled v x l ch k f h = sym (q x l) ∙ g u' sets n c s b d' at settled v x l ch k f h

  module _ (from : ℕ) (old : List ℕ) (fr : from ≡ get_or firsts i 0 + row) (od : old ≡ drop from cells) where
    -- where the tree uses no set that is resized, the numbers under the resizing alone are the old ones
    pub kept_gives : meets used resized ≡ false → Under resized old
    kept_gives m =
        same_gives resized (row_of u (λ z. get_or old z 0) old) old (λ z l. row_at u (λ y. get_or old y 0) old z l)
        (gives-kept bytes firsts ends uses masks sizes cells i u d row digits resized used refl from old old (row_of u (λ z. get_or old z 0) old) fr od m refl)

    -- The row's part of the answer: what the resizing brings.
    module _ (before after : List ℕ) (over : OverGives u bytes firsts ends uses masks sizes cells i d row digits members resized before after) where
      pub row-resized : (base : List ℕ) → Under resized base → (r : ℕ) → r ≡ row_gathered true 0 base old u
          → RowPortsGive u bytes firsts ends uses masks sizes cells i d row digits members resized before after r
      unfolding RowPortsGive OverGives FlipAdds resized_by
      row-resized base base-are r is sets n c s b e flips resizes settled visit w k₀ ch₀ r₀ f₀ = record {
        resized-is = is ∙ gathered-sum u 0 base old none_yet ∙ from-none _
            ∙ ap (λ (y : ℕ). y % modulus) (sums_same u _ _ (λ z l. ap₂ (λ (p q : ℕ). p + (modulus - q))
            (base-is base base-are sets n c s b e flips resizes settled visit w k₀ ch₀ r₀ f₀ z l) (old-here visit from old fr od z l)));
        flipped-is = λ x l ch k at_x f. over x l sets n c s b e flips resizes settled visit w k₀ ch₀ r₀ f₀ ch k at_x f;
      }

      pub row-kept : meets used resized ≡ false → RowPortsGive u bytes firsts ends uses masks sizes cells i d row digits members resized before after 0
      unfolding RowPortsGive OverGives FlipAdds resized_by CellsFit modulus
      row-kept m sets n c s b e flips resizes settled visit w k₀ ch₀ r₀ f₀ = record {
        resized-is = sym (ports-mod u _ (λ z. 0) (λ z l. no_difference _ _ (get_or old z 0)
            (base-is old (kept_gives m) sets n c s b e flips resizes settled visit w k₀ ch₀ r₀ f₀ z l) (old-here visit from old fr od z l)
            (rw (ap (λ (ys : List ℕ). get_or ys z 0) od ∙ get_or-drop from cells z 0) (settled.cells_fit (from + z))))
            ∙ ap (λ (y : ℕ). y % modulus) (ports-zero u (λ z. 0) (λ z l. refl)));
        flipped-is = λ x l ch k at_x f. over x l sets n c s b e flips resizes settled visit w k₀ ch₀ r₀ f₀ ch k at_x f;
      }

  -- What one variable outside the row brings.
  abbrev Adds : ℕ → ℕ → ℕ → Type 0
  Adds x start r = FlipAdds u bytes firsts ends uses masks sizes cells i d row digits members resized x start r

  abbrev Outer : ℕ → ℕ → List ℕ → List ℕ → Type 0
  Outer v start before after = OuterGives u bytes firsts ends uses masks sizes cells i d row digits members resized v start before after

  pub outer-done : (v x start r : ℕ) (before after : List ℕ) → v < d → x ≡ digit digits v → tests_outside used d digits members x ≡ true → x < length before
      → Adds x start r → after ≡ set before x r → Outer v start before after
  outer-done v x start r before after m q met l adds is = record {
    done = λ m' h. rw (← q) (rw (ap (λ (ys : List ℕ). get_or ys x 0) is ∙ get_or-set_same before x r 0 l) adds);
    others = λ y H. ap (λ (ys : List ℕ). get_or ys y 0) is ∙ go y H (ℕ_discrete y x);
  }
    where
      go : (y : ℕ) → (v < d → digit digits v ≡ y → tests_outside used d digits members y ≡ false) → Dec (y ≡ x) → get_or (set before x r) y 0 ≡ get_or before y 0
      go y H (yes j) = absurd (true≢false (sym met ∙ ap (tests_outside used d digits members) (sym j) ∙ H m (sym q ∙ sym j)))
      go y H (no a) = get_or-set_other before x y r 0 a

  pub outer-none : (v start : ℕ) (same : List ℕ) → (v < d → tests_outside used d digits members (digit digits v) ≡ false) → Outer v start same same
  outer-none v start same H = record {
    done = λ m h. absurd (true≢false (sym h ∙ H m));
    others = λ y K. refl;
  }

  -- What all variables bring.
  pub over-all : (first second : ℕ) (before mid mid₂ after : List ℕ) → OwnGives u bytes firsts ends uses masks sizes cells i d row digits members resized before mid
      → (0 < d → first ≡ get_or before (digit digits 0) 0) → (1 < d → second ≡ get_or before (digit digits 1) 0) → Outer 0 first mid mid₂ → Outer 1 second mid₂ after
      → OverGives u bytes firsts ends uses masks sizes cells i d row digits members resized before after
  unfolding OverGives OwnGives
  over-all first second before mid mid₂ after own first-is second_is o₀ o₁ x l =
      go (tests_outside used d digits members x) (ltb 0 d && eqb (digit digits 0) x) (ltb 1 d && eqb (digit digits 1) x) refl refl refl
    where
      here : (v start : ℕ) (ys zs : List ℕ) → Outer v start ys zs → (v < d → start ≡ get_or before (digit digits v) 0) → tests_outside used d digits members x ≡ true
          → (ltb v d && eqb (digit digits v) x) ≡ true → Adds x (get_or before x 0) (get_or zs x 0)
      here v start ys zs o is t b =
          let m = ltb-true v d (and_left (ltb v d) _ b) in
          let q = eqb-true (digit digits v) x (and_right (ltb v d) _ b) in
          subst (λ (y : ℕ). Adds y (get_or before y 0) (get_or zs y 0)) q
          (subst (λ (s : ℕ). Adds (digit digits v) s (get_or zs (digit digits v) 0)) (is m) (o.done m (ap (tests_outside used d digits members) q ∙ t)))

      go : (t a b : Bool) → tests_outside used d digits members x ≡ t → (ltb 0 d && eqb (digit digits 0) x) ≡ a → (ltb 1 d && eqb (digit digits 1) x) ≡ b
          → Adds x (get_or before x 0) (get_or after x 0)
      go false a b t h j = rw (o₁.others x (λ m q. t) ∙ o₀.others x (λ m q. t)) (own x l t)
      go true a true t h j = here 1 second mid₂ after o₁ second_is t j
      go true true false t h j =
          rw (o₁.others x (λ m q. absurd (true≢false (sym (and-true _ _ (lt-ltb 1 d m) (eq-eqb (digit digits 1) x q)) ∙ j)))) (here 0 first mid mid₂ o₀ first-is t h)
      go true false false t h j = absurd (true≢false (sym t ∙ nothing-outside used d digits members x h j))
