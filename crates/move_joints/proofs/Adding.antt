-- A pair's numbers added to the table of transfers: port by port, and what the table has after. Assumes nothing.
use mathlib.Core.Path.{◌≡◌, refl, sym, ap, ap₂, ◌∙◌}
use mathlib.Core.Logic.{◌≢◌}
use mathlib.Core.Bool.{Bool, true, false, cond, not, ◌&&◌}
use mathlib.Core.List.{List, [], ◌∷◌}
use Prim.Native.Nat.{ℕ, ◌+◌, ◌-◌, ◌*◌, ◌%◌, ◌≤◌, ◌<◌}
use native.Mathlib.Nat.{zero-add}
use native.Mathlib.Omega.{arith}
use lib.Bits.{bit_or}
use lib.ListN.{length, get_or, set, drop, replicate, length-drop, get_or-replicate}
use lib.Seq.{get_or-drop}
use Rattle.logic.specs.Formula.{Node, Forest, Plan}
use Rattle.logic.specs.Configuration.{in_mask}
use Rattle.logic.specs.Change.{modulus}
use Rattle.logic.proofs.Written.{Written, one_more}
use Rattle.cells_touch.specs.inner.Hits.{meets, variable_bits, size_bit}
use Rattle.cells_touch.proofs.Bits.{meets-power}
use Rattle.cells_walk.proofs.Wrote.{run_inside, run-behind}
use Rattle.cells_atoms.proofs.Over.{sum-mod}
use Rattle.move_shares.specs.inner.Shares.{entering, leaving, resized_share, flipped_share, whole_share, set_bits}
use Rattle.move_slots.specs.inner.Slots.{slot_of, slot_at, joint_read, AtomGiven, OwnAre}
use Rattle.move_slots.proofs.Putting.{other-slot}
use Rattle.move_joints.specs.inner.Joints.{left, entered, pair_outcomes, takes_port, joint_number, joint_cell, joint_added, PairGives, JointAt, PairAdded}
use Rattle.move_joints.proofs.Numbers.{left-low, entered-low}

-- One number: with the pair's, or as it was.
pub number-taken : (takes : Bool) (old both first rest second half r : ℕ) → takes ≡ true → half ≡ (old + (both + (4294967296 - first))) % 4294967296
    → r ≡ (half + (rest + (4294967296 - second))) % 4294967296 → r ≡ joint_number takes old both first rest second
unfolding joint_number modulus
number-taken takes old both first rest second half r h e q =
    q ∙ ap (λ (y : ℕ). (y + (rest + (4294967296 - second))) % 4294967296) e
    ∙ sym (ap (λ (o : Bool). cond o (((old + (both + (4294967296 - first))) % 4294967296 + (rest + (4294967296 - second))) % 4294967296) old) h)

pub number-kept : (takes : Bool) (old both first rest second : ℕ) → takes ≡ false → old ≡ joint_number takes old both first rest second
unfolding joint_number
number-kept takes old both first rest second h =
    sym (ap (λ (o : Bool). cond o (((old + (both + (modulus - first))) % modulus + (rest + (modulus - second))) % modulus) old) h)

-- one port more: its number is not written yet
pub joint-more : (row first second : List ℕ) (rest u test : ℕ) (tested takes : Bool) (at x v : ℕ) (joint cells : List ℕ)
    → Written (joint_cell row first second rest test tested at joint) at u joint cells x → x < u → at + u ≤ length joint → takes ≡ takes_port tested test x
    → v ≡ joint_number takes (get_or cells (at + x) 0) (get_or row x 0) (get_or first x 0) rest (get_or second x 0)
    → Written (joint_cell row first second rest test tested at joint) at u joint (set cells (at + x) v) (x + 1)
joint-more row first second rest u test tested takes at x v joint cells i l h q e =
    let f = joint_cell row first second rest test tested at joint in
    one_more f at u joint cells x v i l h
    (e ∙ ap₂ (λ (o : Bool) (m : ℕ). joint_number o m (get_or row x 0) (get_or first x 0) rest (get_or second x 0)) q
    (ap (λ (c : List ℕ). get_or c (at + x) 0) i.is ∙ run-behind f at x (at + x) joint (omega arith) (omega arith)))

-- The slot of a set, by whether its size is asked.
pub slot-asked : (used set outcome w v : ℕ) (a : Bool) → w ≡ size_bit set → a ≡ meets w used → a ≡ true → v ≡ outcome → 4 * set + v ≡ slot_of used set outcome
unfolding size_bit slot_of
slot-asked used set outcome w v a h e i q =
    ap (λ (m : ℕ). 4 * set + m) q
    ∙ sym (ap (λ (o : Bool). 4 * set + cond o outcome 3) (sym (e ∙ ap (λ (m : ℕ). meets m used) h ∙ meets-power (4 * set + 3) used) ∙ i))

pub slot-other : (used set outcome w : ℕ) (a : Bool) → w ≡ size_bit set → a ≡ meets w used → a ≡ false → 4 * set + 3 ≡ slot_of used set outcome
unfolding size_bit slot_of
slot-other used set outcome w a h e i =
    sym (ap (λ (o : Bool). 4 * set + cond o outcome 3) (sym (e ∙ ap (λ (m : ℕ). meets m used) h ∙ meets-power (4 * set + 3) used) ∙ i))

-- Whether two sets are used, by their words.
set-used : (used s v w : ℕ) (a : Bool) → v ≡ variable_bits s → w ≡ size_bit s → a ≡ meets used (bit_or v w) → a ≡ meets used (set_bits s)
unfolding set_bits
set-used used s v w a h i e = e ∙ ap₂ (λ (y z : ℕ). meets used (bit_or y z)) h i

pub both_used : (used s t v w y z : ℕ) (a b : Bool) → v ≡ variable_bits s → w ≡ size_bit s → a ≡ meets used (bit_or v w)
    → y ≡ variable_bits t → z ≡ size_bit t → b ≡ meets used (bit_or y z) → a ≡ true → b ≡ (meets used (set_bits s) && meets used (set_bits t))
both_used used s t v w y z a b h i e k l q n =
    set-used used t y z b k l q ∙ sym (ap (λ (o : Bool). o && meets used (set_bits t)) (sym (set-used used s v w a h i e) ∙ n))

pub first-unused : (used s t v w : ℕ) (a : Bool) → v ≡ variable_bits s → w ≡ size_bit s → a ≡ meets used (bit_or v w) → a ≡ false
    → false ≡ (meets used (set_bits s) && meets used (set_bits t))
first-unused used s t v w a h i e n = sym (ap (λ (o : Bool). o && meets used (set_bits t)) (sym (set-used used s v w a h i e) ∙ n))

-- A sum with one number more and one less, modulo 2^32.
less-back : (old new less r : ℕ) → less < modulus → r ≡ (old + (new + (modulus - less))) % modulus → (r + less) % modulus ≡ (old + new) % modulus
unfolding modulus
less-back old new less r h e = omega arith

-- So the resizings', the flips', and both together: the number with the pair's and less those of each set alone.
resized-sum : (g a b part rest : ℕ) → (part + a) % modulus ≡ (g + 0) % modulus → (rest + b) % modulus ≡ (part + 0) % modulus
    → (rest + (a + b)) % modulus ≡ g % modulus
unfolding modulus
resized-sum g a b part rest h i = omega arith

flipped-sum : (old both first rest second half v : ℕ) → (half + first) % modulus ≡ (old + both) % modulus → (v + second) % modulus ≡ (half + rest) % modulus
    → (v + (first + second)) % modulus ≡ (old + both + rest) % modulus
flipped-sum old both first rest second half v h i =
    let e : v + (first + second) ≡ v + second + first = omega arith in
    let q : half + rest + first ≡ half + first + rest = omega arith in
    ap (λ (y : ℕ). y % modulus) e ∙ sum-mod (v + second) (half + rest) first first i refl ∙ ap (λ (y : ℕ). y % modulus) q
    ∙ sum-mod (half + first) (old + both) rest rest h refl

whole_sum : (old both first rest second v g a b : ℕ) → (rest + (a + b)) % modulus ≡ g % modulus
    → (v + (first + second)) % modulus ≡ (old + both + rest) % modulus → (v + (a + first + (b + second))) % modulus ≡ (old + (g + both)) % modulus
whole_sum old both first rest second v g a b h i =
    let e : v + (a + first + (b + second)) ≡ v + (first + second) + (a + b) = omega arith in
    let q : old + both + rest + (a + b) ≡ old + both + (rest + (a + b)) = omega arith in
    let o : old + both + g ≡ old + (g + both) = omega arith in
    ap (λ (y : ℕ). y % modulus) e ∙ sum-mod (v + (first + second)) (old + both + rest) (a + b) (a + b) i refl ∙ ap (λ (y : ℕ). y % modulus) q
    ∙ sum-mod (old + both) (old + both) (rest + (a + b)) g refl h ∙ ap (λ (y : ℕ). y % modulus) o

-- numbers told modulo 2^32
told_back : (a A : ℕ) → a ≡ A % modulus → A % modulus ≡ a % modulus
unfolding modulus
told_back a A h = omega arith

told-sum : (a b A B : ℕ) → a ≡ A % modulus → b ≡ B % modulus → (A + B) % modulus ≡ (a + b) % modulus
told-sum a b A B h i = sum-mod A a B b (told_back a A h) (told_back b B i)

joint-sum : (old both first rest second half v g a b part : ℕ) (G F G₁ F₁ G₂ F₂ : ℕ)
    → (half + first) % modulus ≡ (old + both) % modulus → (v + second) % modulus ≡ (half + rest) % modulus
    → (part + a) % modulus ≡ (g + 0) % modulus → (rest + b) % modulus ≡ (part + 0) % modulus
    → both ≡ F % modulus → first ≡ F₁ % modulus → second ≡ F₂ % modulus → g ≡ G % modulus → a ≡ G₁ % modulus → b ≡ G₂ % modulus
    → (v + (G₁ + F₁ + (G₂ + F₂))) % modulus ≡ (old + (G + F)) % modulus
joint-sum old both first rest second half v g a b part G F G₁ F₁ G₂ F₂ e₁ e₂ e₃ e₄ q₁ q₂ q₃ q₄ q₅ q₆ =
    sum-mod v v _ _ refl (sum-mod (G₁ + F₁) (a + first) (G₂ + F₂) (b + second) (told-sum a first G₁ F₁ q₅ q₂) (told-sum b second G₂ F₂ q₆ q₃))
    ∙ whole_sum old both first rest second v g a b (resized-sum g a b part rest e₃ e₄) (flipped-sum old both first rest second half v e₁ e₂)
    ∙ sum-mod old old _ _ refl (sym (told-sum g both G F q₄ q₁))

mod_low : (a b : ℕ) → a ≡ b % modulus → a < modulus
unfolding modulus
mod_low a b h = omega arith

-- Outcomes by whether the port is in test.
leaving-is : (test x : ℕ) (tested : Bool) → in_mask test x ≡ tested → leaving test x ≡ left tested
unfolding leaving left
leaving-is test x tested h = ap (λ (o : Bool). cond o 1 0) h

entering-is : (test x : ℕ) (tested : Bool) → in_mask test x ≡ tested → entering test x ≡ entered tested
unfolding entering entered
entering-is test x tested h = ap (λ (o : Bool). cond o 1 2) h

takes-such : (tested : Bool) (test x : ℕ) → in_mask test x ≡ tested → takes_port tested test x ≡ true
unfolding takes_port
takes-such true test x h = h
takes-such false test x h = ap not h

takes-no-other : (tested : Bool) (test x : ℕ) → in_mask test x ≡ not tested → takes_port tested test x ≡ false
unfolding takes_port
takes-no-other true test x h = h
takes-no-other false test x h = ap not h

-- as the code tells it
pub port-such : (tested : Bool) (test x : ℕ) (inside : Bool) → inside ≡ in_mask test x → tested ≡ true → inside ≡ takes_port tested test x
unfolding takes_port
port-such tested test x inside e h = e ∙ sym (ap (λ (o : Bool). cond o (in_mask test x) (not (in_mask test x))) h)

pub port-other : (tested : Bool) (test x : ℕ) (inside : Bool) → inside ≡ in_mask test x → tested ≡ false → not inside ≡ takes_port tested test x
unfolding takes_port
port-other tested test x inside e h = ap not e ∙ sym (ap (λ (o : Bool). cond o (in_mask test x) (not (in_mask test x))) h)

-- a slot's row in the numbers of the atom alone
pub row_room : (mine row : List ℕ) (slot u : ℕ) → length mine ≡ 4096 → slot < 64 → u ≤ 64 → row ≡ drop (64 * slot) mine → u ≤ length row
row_room mine row slot u h l i e =
    let q : length row ≡ length mine - 64 * slot = ap length e ∙ length-drop (64 * slot) mine in omega arith

module _ (u : ℕ) (bytes firsts ends uses masks sizes cells : List ℕ) (i d s t test : ℕ) (tested : Bool) (mine own joint joint' zeros row row₁ row₂ : List ℕ)
    (used g first second part rest : ℕ)
    (used-is : used ≡ get_or uses i 0) (zeros-are : zeros ≡ replicate 64 0)
    (gives : PairGives u bytes firsts ends uses masks sizes cells i d s t tested zeros row g)
    (first-is : first ≡ slot_of used s (left tested)) (second_is : second ≡ slot_of used t (entered tested))
    (part-is : part ≡ (g + (0 + (4294967296 - get_or own first 0))) % 4294967296)
    (rest-is : rest ≡ (part + (0 + (4294967296 - get_or own second 0))) % 4294967296)
    (row₁-is : row₁ ≡ drop (64 * first) mine) (row₂-is : row₂ ≡ drop (64 * second) mine)
    (is : joint' ≡ joint_added row row₁ row₂ rest u test tested (64 * (16 * s + t)) joint)
    (u64 : u ≤ 64) (room : 64 * (16 * s + t) ≤ length joint) where
  cell : ℕ → ℕ
  cell = joint_cell row row₁ row₂ rest test tested (64 * (16 * s + t)) joint

  cell-is : (x : ℕ) → x < u → slot_at joint' (16 * s + t) x ≡ cell x
  unfolding slot_at joint_added cell
  cell-is x l = ap (λ (ws : List ℕ). get_or ws (64 * (16 * s + t) + x) 0) is ∙ run_inside cell (64 * (16 * s + t)) u x joint l room

  cell-kept : (x : ℕ) → in_mask test x ≡ not tested → cell x ≡ slot_at joint (16 * s + t) x
  unfolding slot_at cell
  cell-kept x h = sym (number-kept (takes_port tested test x) _ _ _ _ _ (takes-no-other tested test x h))

  others : (k x : ℕ) → x < u → k ≢ 16 * s + t → slot_at joint' k x ≡ slot_at joint k x
  unfolding slot_at joint_added cell
  others k x l n = ap (λ (ws : List ℕ). get_or ws (64 * k + x) 0) is ∙ other-slot cell u (16 * s + t) k x joint u64 room l n

  module _ (sets : ℕ) (P : Plan) (n : Node) (c f : Forest) (b : ℕ) (given : AtomGiven u sets bytes firsts ends uses masks sizes cells i d P n c f b)
      (own-are : OwnAre u sets uses masks sizes cells i n c b d mine own) (sl : s < sets) (tl : t < sets) (differ : s ≢ t)
      (s-used : meets (get_or uses i 0) (set_bits s) ≡ true) (t-used : meets (get_or uses i 0) (set_bits t) ≡ true) where
    -- the numbers of a set alone
    abbrev Alone : ℕ → ℕ → ℕ → Type 0
    Alone slot S j =
        (get_or own slot 0 ≡ resized_share u masks sizes cells ((S, j) ∷ []) n c b d % modulus)
        × ((x : ℕ) → x < u → slot_at mine slot x ≡ flipped_share u masks sizes cells ((S, j) ∷ []) x n c b d % modulus)

    first_alone : Alone first s (left tested)
    unfolding OwnAre
    first_alone = rw (first-is ∙ ap (λ (w : ℕ). slot_of w s (left tested)) used-is) (own-are s (left tested) sl (left-low tested) s-used)

    second-alone : Alone second t (entered tested)
    unfolding OwnAre
    second-alone = rw (second_is ∙ ap (λ (w : ℕ). slot_of w t (entered tested)) used-is) (own-are t (entered tested) tl (entered-low tested) t-used)

    cell-sum : (x : ℕ) → x < u → in_mask test x ≡ tested
        → (cell x + (whole_share u masks sizes cells ((s, left tested) ∷ []) x n c b d + whole_share u masks sizes cells ((t, entered tested) ∷ []) x n c b d)) % modulus
        ≡ (slot_at joint (16 * s + t) x + whole_share u masks sizes cells (pair_outcomes s t tested) x n c b d) % modulus
    unfolding PairGives whole_share slot_at cell joint_number modulus
    cell-sum x l h =
        let at = 64 * (16 * s + t) in
        let old = get_or joint (at + x) 0 in
        let f₁ = get_or row₁ x 0 in
        let f₂ = get_or row₂ x 0 in
        let half = (old + (get_or row x 0 + (modulus - f₁))) % modulus in
        let v = (half + (rest + (modulus - f₂))) % modulus in
        let G = gives sets P n c f b given sl tl differ in
        let F = flipped_share u masks sizes cells (pair_outcomes s t tested) x n c b d in
        let both_is : get_or row x 0 ≡ F % modulus = G.1 x l ∙ ap (λ (y : ℕ). (y + F) % modulus) (ap (λ (ws : List ℕ). get_or ws x 0) zeros-are ∙ get_or-replicate 64 x 0 0 (omega arith)) ∙ ap (λ (y : ℕ). y % modulus) (zero-add F) in
        let one-is = ap (λ (ws : List ℕ). get_or ws x 0) row₁-is ∙ get_or-drop (64 * first) mine x 0 ∙ first_alone.1 x l in
        let two_is = ap (λ (ws : List ℕ). get_or ws x 0) row₂-is ∙ get_or-drop (64 * second) mine x 0 ∙ second-alone.1 x l in
        ap (λ (o : Bool). (cond o v old + (whole_share u masks sizes cells ((s, left tested) ∷ []) x n c b d + whole_share u masks sizes cells ((t, entered tested) ∷ []) x n c b d)) % modulus)
        (takes-such tested test x h)
        ∙ joint-sum old (get_or row x 0) f₁ rest f₂ half v g (get_or own first 0) (get_or own second 0) part _ _ _ _ _ _
        (less-back old (get_or row x 0) f₁ half (mod_low f₁ _ one-is) refl)
        (less-back half rest f₂ v (mod_low f₂ _ two_is) refl)
        (less-back g 0 (get_or own first 0) part (mod_low (get_or own first 0) _ first_alone.0) part-is)
        (less-back part 0 (get_or own second 0) rest (mod_low (get_or own second 0) _ second-alone.0) rest-is)
        both_is one-is two_is G.0 first_alone.0 second-alone.0

    joint-at : (x : ℕ) → x < u → in_mask test x ≡ tested → JointAt u test masks sizes cells n c b d joint joint' s t x
    unfolding JointAt joint_read
    joint-at x l h = rw (leaving-is test x tested h) (rw (entering-is test x tested h) (rw (cell-is x l) (cell-sum x l h)))

  pub pair-added : PairAdded u bytes firsts ends uses masks sizes cells i d s t test tested mine own joint joint'
  pair-added = record {
    others = others;
    kept = λ x l h. cell-is x l ∙ cell-kept x h;
    added = joint-at;
  }
