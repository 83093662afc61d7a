-- Tuples that do not hold both ports bring nothing: the flip at the missing port comes to the same as none. Assumes nothing.
use Rattle.std.proofs.Common.{◌≡◌, ℕ, zero, suc, ◌+◌, ◌-◌, ◌*◌, ◌%◌, ◌<◌, ◌≤◌, Bool, true, false, cond, ◌&&◌, ◌||◌, eqb, ◌≢◌, ◌⊎◌, List, [], ◌∷◌, length, get_or, sym, refl, ap, ◌∙◌, subst, ap₂, inl, inr, true≢false, arith, lt-ltb, eq-eqb, ne_eqb}
use native.Mathlib.Decide.{ℕ_discrete}
use lib.Bits.{bit_and, bit_or}
use Rattle.logic.specs.Formula.{Node, Forest, none, tree}
use Rattle.logic.specs.inner.Literals.{Every}
use Rattle.logic.specs.Configuration.{Sets, Configuration, indicator, in_mask}
use Rattle.logic.specs.Truth.{Tuple, port_of}
use Rattle.logic.specs.Penalty.{sum, each_port}
use Rattle.logic.specs.Cells.{place_of}
use Rattle.logic.specs.Change.{Change, modulus, cell_of, new_cell}
use Rattle.logic.proofs.Lists.{TupleOf, more, and-true, and-false}
use Rattle.logic.proofs.Tables.{length-tuple}
use Rattle.logic.proofs.Untouched.{port-out}
use Rattle.table_format.specs.inner.Index.{node_uses, forest_uses}
use Rattle.cells_touch.specs.inner.Hits.{meets, level}
use Rattle.cells_touch.proofs.Bits.{in_and, bit-meets}
use Rattle.cells_touch.proofs.Touching.{in-level}
use Rattle.cells_walk.specs.inner.Nodes.{IndexHolds, Fitting}
use Rattle.cells_walk.specs.inner.Visit.{CellsFit}
use Rattle.cells_atoms.specs.inner.Atoms.{over_tuples}
use Rattle.cells_atoms.specs.inner.Ports.{Lists, at_one}
use Rattle.cells_atoms.proofs.Atoms.{new-cell-fits}
use Rattle.cells_atoms.proofs.Over.{ports-kept}
use Rattle.cells_atoms.proofs.Ports.{one-port}
use Rattle.cells_flip.specs.inner.Flips.{Flipped, FlipSettled}
use Rattle.cells_flip.proofs.Words.{literals-66}
use Rattle.cells_ports.specs.inner.Ports.{Words, Resizes, FlipsAt}
use Rattle.cells_tuples.specs.inner.Tuples.{FlatTree}
use Rattle.cells_tuples.proofs.Used.{tree-bound}
use Rattle.cells_both.specs.inner.Both.{at_two, FlipsBoth, FourChanges, FourAre, both_by}
use Rattle.cells_both.specs.inner.Steps.{Held, missing_of, tests, left_of}
use Rattle.cells_both.proofs.Same.{same-cell}

-- No variable of a tuple by which a tree tests a set that flips stands at port x.
unfoldable pub Missed : ℕ → (ℕ → Bool) → ℕ → Tuple → Type 0
Missed used flips x e = (S v : ℕ) → S < 16 → v < 3 → in_mask used (4 * S + v) ≡ true → flips S ≡ true → v < length e → port_of e v ≢ x

-- With m variables more that count a tuple does not come to hold both ports.
unfoldable pub Lacks : ℕ → (ℕ → Bool) → ℕ → ℕ → ℕ → Tuple → Type 0
Lacks used flips p q zero e = Missed used flips p e ⊎ Missed used flips q e
Lacks used flips p q (suc zero) e = Missed used flips p e × Missed used flips q e
Lacks used flips p q (suc (suc m)) e = ⊥

pub port-own : (x : ℕ) (e : Tuple) (v : ℕ) → v ≡ length e → port_of (x ∷ e) v ≡ x
unfolding port_of
port-own x e v h = ap (λ (b : Bool). cond b x (port_of e v)) (eq-eqb v (length e) h)

pub missing-is : (used pword qword : ℕ) (a b : Bool) → meets used pword ≡ a → meets used qword ≡ b → cond a 0 1 + cond b 0 1 ≡ missing_of used pword qword
unfolding missing_of
missing-is used pword qword a b h k = rw (h, k) refl

module _ (used : ℕ) (flips : ℕ → Bool) where
  missed-word : (x word : ℕ) (e : Tuple) → Held flips e x word → meets used word ≡ false → Missed used flips x e
  unfolding Missed
  missed-word x word e held m S v k l h f j q =
      true≢false (sym (bit-meets used word (4 * S + v) h (held.members S v k l ∙ and-true _ _ f (and-true _ _ (lt-ltb v (length e) j) (eq-eqb (port_of e v) x q)))) ∙ m)

  missed_more : (x z : ℕ) (e : Tuple) → z ≢ x → Missed used flips x e → Missed used flips x (z ∷ e)
  unfolding Missed
  missed_more x z e n m S v k l h f j = go (ℕ_discrete v (length e))
    where
      go : Dec (v ≡ length e) → port_of (z ∷ e) v ≢ x
      go (yes i) q = n (sym (port-own z e v i) ∙ q)
      go (no i) q = m S v k l h f (omega arith) (sym (port-out z e v (omega arith)) ∙ q)

  -- by the words of a tuple
  pub lacks-word : (p q pword qword m : ℕ) (e : Tuple) → Held flips e p pword → Held flips e q qword → m < missing_of used pword qword → Lacks used flips p q m e
  unfolding missing_of Lacks
  lacks-word p q pword qword m e hp hq l = go m (meets used pword) (meets used qword) refl refl l
    where
      go : (m : ℕ) (a b : Bool) → meets used pword ≡ a → meets used qword ≡ b → m < cond a 0 1 + cond b 0 1 → Lacks used flips p q m e
      go zero true true i j l = absurd (omega arith)
      go zero true false i j l = inr (missed-word q qword e hq j)
      go zero false b i j l = inl (missed-word p pword e hp i)
      go (suc zero) true true i j l = absurd (omega arith)
      go (suc zero) true false i j l = absurd (omega arith)
      go (suc zero) false true i j l = absurd (omega arith)
      go (suc zero) false false i j l = (missed-word p pword e hp i, missed-word q qword e hq j)
      go (suc (suc m)) true true i j l = absurd (omega arith)
      go (suc (suc m)) true false i j l = absurd (omega arith)
      go (suc (suc m)) false true i j l = absurd (omega arith)
      go (suc (suc m)) false false i j l = absurd (omega arith)

  -- one more port, by a variable that does not count
  missed-untested : (members resized : ℕ) (resizes : ℕ → Bool) → Words flips resizes members resized → (x z l : ℕ) (e : Tuple) → length e ≡ l → l < 3
      → tests used members l ≡ false → Missed used flips x e → Missed used flips x (z ∷ e)
  unfolding Missed tests
  missed-untested members resized resizes w x z l e long low un m S v k j h f i = go (ℕ_discrete v (length e))
    where
      go : Dec (v ≡ length e) → port_of (z ∷ e) v ≢ x
      go (yes a) q =
          true≢false (sym (bit-meets used (bit_and members (level l)) (4 * S + v) h
          (in_and members (level l) (4 * S + v) ∙ and-true _ _ (w.members-are S v k j ∙ f) (in-level l S v low k (omega arith) ∙ eq-eqb v l (a ∙ long)))) ∙ un)
      go (no a) q = m S v k j h f (omega arith) (sym (port-out z e v (omega arith)) ∙ q)

  lacks-untested : (members resized : ℕ) (resizes : ℕ → Bool) → Words flips resizes members resized → (p q z l m : ℕ) (e : Tuple) → length e ≡ l → l < 3
      → tests used members l ≡ false → Lacks used flips p q m e → Lacks used flips p q m (z ∷ e)
  unfolding Lacks
  lacks-untested members resized resizes w p q z l zero e long low un (inl h) = inl (missed-untested members resized resizes w p z l e long low un h)
  lacks-untested members resized resizes w p q z l zero e long low un (inr h) = inr (missed-untested members resized resizes w q z l e long low un h)
  lacks-untested members resized resizes w p q z l (suc zero) e long low un (hp, hq) =
      (missed-untested members resized resizes w p z l e long low un hp, missed-untested members resized resizes w q z l e long low un hq)
  lacks-untested members resized resizes w p q z l (suc (suc m)) e long low un h = absurd h

  -- one that is not both
  lacks_less : (p q z m : ℕ) (e : Tuple) → p ≢ q → Lacks used flips p q (suc m) e → Lacks used flips p q m (z ∷ e)
  unfolding Lacks
  lacks_less p q z zero e n (hp, hq) = go (ℕ_discrete z p)
    where
      go : Dec (z ≡ p) → Missed used flips p (z ∷ e) ⊎ Missed used flips q (z ∷ e)
      go (yes i) = inr (missed_more q z e (λ j. n (sym i ∙ j)) hq)
      go (no i) = inl (missed_more p z e i hp)
  lacks_less p q z (suc m) e n h = absurd h

  -- and which is neither
  pub lacks-other : (p q z m : ℕ) (e : Tuple) → z ≢ p → z ≢ q → Lacks used flips p q m e → Lacks used flips p q m (z ∷ e)
  unfolding Lacks
  lacks-other p q z zero e np nq (inl h) = inl (missed_more p z e np h)
  lacks-other p q z zero e np nq (inr h) = inr (missed_more q z e nq h)
  lacks-other p q z (suc zero) e np nq (hp, hq) = (missed_more p z e np hp, missed_more q z e nq hq)
  lacks-other p q z (suc (suc m)) e np nq h = absurd h

-- Sums over ports modulo 2^32: of terms that are 0, and of which two count.
none-mod : (a x : ℕ) → a % modulus ≡ 0 → x % modulus ≡ 0 → (a + x) % modulus ≡ 0
unfolding modulus
none-mod a x h i = omega arith

ports-none : (u : ℕ) (g : ℕ → ℕ) → ((z : ℕ) → z < u → g z % modulus ≡ 0) → sum (each_port u (λ z. g z ∷ [])) % modulus ≡ 0
unfolding modulus
ports-none u g H = ports-kept (λ x y z. x % modulus ≡ 0) refl (λ a b c x y z i j. none-mod a x i j) u g g g H

two-mod : (a b c x y z : ℕ) → a % modulus ≡ (b + c) % modulus → x % modulus ≡ (y + z) % modulus → (a + x) % modulus ≡ (b + y + (c + z)) % modulus
unfolding modulus
two-mod a b c x y z h i = omega arith

module _ (u : ℕ) (g : ℕ → ℕ) (p q : ℕ) (differ : p ≢ q) (H : (z : ℕ) → z < u → z ≢ p → z ≢ q → g z % modulus ≡ 0) where
  at_p : ℕ → ℕ
  at_p z = cond (eqb z p) (g p) 0

  at-q : ℕ → ℕ
  at-q z = cond (eqb z q) (g q) 0

  each_two : (z : ℕ) → z < u → g z % modulus ≡ (at_p z + at-q z) % modulus
  unfolding at_p at-q modulus
  each_two z l = go (ℕ_discrete z p) (ℕ_discrete z q)
    where
      go : Dec (z ≡ p) → Dec (z ≡ q) → g z % modulus ≡ (cond (eqb z p) (g p) 0 + cond (eqb z q) (g q) 0) % modulus
      go (yes i) (yes j) = absurd (differ (sym i ∙ j))
      go (yes i) (no j) = rw (eq-eqb z p i, ne_eqb z q j, i) (ap (λ (x : ℕ). x % modulus) (let e : g p ≡ g p + 0 = omega arith in e))
      go (no i) (yes j) = rw (ne_eqb z p i, eq-eqb z q j, j) (ap (λ (x : ℕ). x % modulus) (let e : g q ≡ 0 + g q = omega arith in e))
      go (no i) (no j) = rw (ne_eqb z p i, ne_eqb z q j) (H z l i j)

  pub two-ports : p < u → q < u → sum (each_port u (λ z. g z ∷ [])) % modulus ≡ (g p + g q) % modulus
  unfolding at_p at-q
  two-ports pl ql =
      ports-kept (λ x y z. x % modulus ≡ (y + z) % modulus) refl two-mod u g at_p at-q each_two
      ∙ ap₂ (λ (x y : ℕ). (x + y) % modulus)
      (one-port u at_p p pl (λ z n. ap (λ (b : Bool). cond b (g p) 0) (ne_eqb z p n)) ∙ ap (λ (b : Bool). cond b (g p) 0) (eq-eqb p p refl))
      (one-port u at-q q ql (λ z n. ap (λ (b : Bool). cond b (g q) 0) (ne_eqb z q n)) ∙ ap (λ (b : Bool). cond b (g q) 0) (eq-eqb q q refl))

-- both, less each alone, and the resizing alone, where one of the two flips comes to nothing
cancel-p : (b p z q : ℕ) → b ≡ q → p ≡ z → p < modulus → q < modulus → (b + (modulus - p) + (z + (modulus - q))) % modulus ≡ 0
unfolding modulus
cancel-p b p z q h i j k = omega arith

cancel-q : (b p z q : ℕ) → b ≡ p → q ≡ z → p < modulus → q < modulus → (b + (modulus - p) + (z + (modulus - q))) % modulus ≡ 0
unfolding modulus
cancel-q b p z q h i j k = omega arith

-- what the flips list
pairs-q : (a x y : Bool) → (a ≡ true → x ≡ false) → (a && (x || y)) ≡ (a && y)
pairs-q true x y h = ap (λ (b : Bool). b || y) (h refl)
pairs-q false x y h = refl

pairs-p : (a x y : Bool) → (a ≡ true → y ≡ false) → (a && (x || y)) ≡ (a && x)
pairs-p true true y h = refl
pairs-p true false y h = h refl
pairs-p false x y h = refl

low-66 : 66 < modulus
unfolding modulus
low-66 = omega arith

module _ (u : ℕ) (bytes firsts ends uses masks sizes cells : List ℕ) (i d p q : ℕ) (differ : p ≢ q)
    (sets : ℕ) (n : Node) (c s : Forest) (b : ℕ) (flips resizes : ℕ → Bool) (settled : FlipSettled u sets masks sizes cells)
    (stands : FlatTree u sets bytes firsts ends uses cells i (tree n c s) b d)
    (f : FourChanges) (are : FourAre (get_or uses i 0) masks sizes flips resizes p q f) where
  abbrev used : ℕ
  used = get_or uses i 0

  uses-are : used ≡ bit_or (node_uses n) (forest_uses c)
  unfolding IndexHolds
  uses-are = stands.holds.0.uses-are

  pub bound : (S v : ℕ) → v < 3 → in_mask used (4 * S + v) ≡ true → v < d
  bound S v l h = tree-bound sets S v l n c s d stands.flat stands.fitting (ap (λ (y : ℕ). in_mask y (4 * S + v)) (sym uses-are) ∙ h)

  fits : (k : Configuration) (ch : Change) → Flipped used masks sizes ch k → (e : Tuple) → new_cell u k ch (cell_of u cells) n c b d e < modulus
  unfolding Fitting Every cell_of CellsFit
  fits k ch fl e =
      new-cell-fits u k ch (cell_of u cells) (λ x y. settled.cells_fit (x + place_of u y)) 66 low-66 n c b d e
      (literals-66 sets k (λ S l. fl.low S) (tree n c none) d (stands.fitting.0, stands.fitting.1, tt))

  -- two of the changes that hit the same
  alike : (k k' : Configuration) (ch ch' : Change) (pairs pairs' : Sets) → Lists pairs resizes ch → Lists pairs' resizes ch'
      → Flipped used masks sizes ch k → Flipped used masks sizes ch' k' → (e : Tuple) → TupleOf u d e
      → ((S v : ℕ) → S < 16 → v < 3 → in_mask used (4 * S + v) ≡ true → v < length e → pairs S (port_of e v) ≡ pairs' S (port_of e v))
      → new_cell u k ch (cell_of u cells) n c b d e ≡ new_cell u k' ch' (cell_of u cells) n c b d e
  alike k k' ch ch' pairs pairs' ls ls' fl fl' e t H =
      same-cell used sets settled.masks-settled.sets16 masks sizes k k' ch ch' e
      record {
        members = λ S v m l h. ls.listed-are S (port_of e v) ∙ H S v m l h (omega (arith, bound S v l h, length-tuple t)) ∙ sym (ls'.listed-are S (port_of e v));
        sizes = λ S m h. ls.resized-are S ∙ sym (ls'.resized-are S);
      }
      fl fl' u (cell_of u cells) n c s b d (length-tuple t) stands.fitting stands.flat uses-are

  module _ (e : Tuple) (t : TupleOf u d e) where
    missed-eqb : (x : ℕ) → Missed used flips x e → (S v : ℕ) → S < 16 → v < 3 → in_mask used (4 * S + v) ≡ true → v < length e → flips S ≡ true → eqb (port_of e v) x ≡ false
    unfolding Missed
    missed-eqb x m S v k l h j a = ne_eqb (port_of e v) x (m S v k l h a j)

    missing-p : Missed used flips p e → both_by u f (cell_of u cells) n c b d e % modulus ≡ 0
    unfolding both_by FlipsBoth FlipsAt Resizes at_two at_one
    missing-p m =
        cancel-p _ _ _ _
        (alike f.kb f.kq f.both f.atq (at_two flips p q) (at_one flips q) are.both_is are.q-is are.both-flipped are.q-flipped e t
        (λ S v k l h j. pairs-q (flips S) _ _ (missed-eqb p m S v k l h j)))
        (alike f.kp f.k₀ f.atp f.base (at_one flips p) (λ S x. false) are.p-is are.base-is are.p-flipped are.base-flipped e t
        (λ S v k l h j. and-false (flips S) _ (missed-eqb p m S v k l h j)))
        (fits f.kp f.atp are.p-flipped e) (fits f.kq f.atq are.q-flipped e)

    missing-q : Missed used flips q e → both_by u f (cell_of u cells) n c b d e % modulus ≡ 0
    unfolding both_by FlipsBoth FlipsAt Resizes at_two at_one
    missing-q m =
        cancel-q _ _ _ _
        (alike f.kb f.kp f.both f.atp (at_two flips p q) (at_one flips p) are.both_is are.p-is are.both-flipped are.p-flipped e t
        (λ S v k l h j. pairs-p (flips S) _ _ (missed-eqb q m S v k l h j)))
        (alike f.kq f.k₀ f.atq f.base (at_one flips q) (λ S x. false) are.q-is are.base-is are.q-flipped are.base-flipped e t
        (λ S v k l h j. and-false (flips S) _ (missed-eqb q m S v k l h j)))
        (fits f.kp f.atp are.p-flipped e) (fits f.kq f.atq are.q-flipped e)

  -- no tuple that goes on holds both ports
  module _ (members resized : ℕ) (w : Words flips resizes members resized) where
    lacks-next : (m l z : ℕ) (e : Tuple) → length e ≡ l → l < 3 → Lacks used flips p q (left_of used members l (suc m)) e → Lacks used flips p q (left_of used members (suc l) m) (z ∷ e)
    unfolding left_of indicator
    lacks-next m l z e long low h = go (tests used members l) refl h
      where
        go : (a : Bool) → tests used members l ≡ a → Lacks used flips p q (indicator a + left_of used members (suc l) m) e → Lacks used flips p q (left_of used members (suc l) m) (z ∷ e)
        go true i h =
            lacks_less used flips p q z (left_of used members (suc l) m) e differ
            (subst (λ (y : ℕ). Lacks used flips p q y e) (let j : 1 + left_of used members (suc l) m ≡ suc (left_of used members (suc l) m) = omega arith in j) h)
        go false i h =
            lacks-untested used flips members resized resizes w p q z l (left_of used members (suc l) m) e long low i
            (subst (λ (y : ℕ). Lacks used flips p q y e) (let j : 0 + left_of used members (suc l) m ≡ left_of used members (suc l) m = omega arith in j) h)

    pub none_both : (m l : ℕ) (e : Tuple) → TupleOf u l e → l + m ≡ d → d ≤ 3 → Lacks used flips p q (left_of used members l m) e
        → over_tuples u m (both_by u f (cell_of u cells) n c b d) e % modulus ≡ 0
    unfolding over_tuples Lacks left_of
    none_both zero l e t h three (inl m) = missing-p e (subst (λ (x : ℕ). TupleOf u x e) (let w : l ≡ d = omega arith in w) t) m
    none_both zero l e t h three (inr m) = missing-q e (subst (λ (x : ℕ). TupleOf u x e) (let w : l ≡ d = omega arith in w) t) m
    none_both (suc m) l e t h three k =
        ports-none u (λ z. over_tuples u m (both_by u f (cell_of u cells) n c b d) (z ∷ e))
        (λ z j. none_both m (suc l) (z ∷ e) (more j t) (omega arith) three (lacks-next m l z e (length-tuple t) (omega arith) k))
