-- The words of a tuple's variables at a port, from tuple to tuple, and those of the four changes at a whole tuple. Assumes nothing.
use Rattle.std.proofs.Common.{◌≡◌, ℕ, suc, ◌+◌, ◌*◌, ◌<◌, ◌≤◌, Bool, true, false, cond, ◌&&◌, ◌||◌, eqb, ltb, ◌≢◌, [], ◌∷◌, length, sym, refl, ap, ◌∙◌, ap₂, arith, lt-ltb, eq-eqb, ne_eqb}
use native.Mathlib.Decide.{dec_lt, ℕ_discrete}
use lib.Bits.{bit_and, bit_or}
use Rattle.logic.specs.Configuration.{Sets, in_mask}
use Rattle.logic.specs.Truth.{Tuple, port_of}
use Rattle.logic.specs.Change.{Change}
use Rattle.logic.proofs.Untouched.{port-out}
use Rattle.cells_touch.specs.inner.Hits.{level}
use Rattle.cells_touch.proofs.Bits.{in_and, in-or, in-zero}
use Rattle.cells_touch.proofs.Touching.{in-level}
use Rattle.cells_atoms.specs.inner.Ports.{Lists, at_one}
use Rattle.cells_atoms.proofs.Alike.{or-none}
use Rattle.cells_flip.specs.inner.Flips.{WordFor}
use Rattle.cells_ports.specs.inner.Ports.{Words, FlipsAt}
use Rattle.cells_ports.proofs.Words.{not-below}
use Rattle.cells_both.specs.inner.Both.{at_two, FlipsBoth}
use Rattle.cells_both.specs.inner.Steps.{Held, held_word}
use Rattle.cells_both.proofs.Missed.{port-own}

-- a variable of a tuple stands at port x
abbrev stands_at : Tuple → ℕ → ℕ → Bool
stands_at e x v = ltb v (length e) && eqb (port_of e v) x

-- with one more port: the new variable stands there, the others stand where they did
new-stands : (x z : ℕ) (e : Tuple) (v : ℕ) → v ≡ length e → stands_at (z ∷ e) x v ≡ eqb z x
new-stands x z e v h = ap₂ (λ (a : Bool) (y : ℕ). a && eqb y x) (lt-ltb v (suc (length e)) (omega arith)) (port-own z e v h)

unbound : (x : ℕ) (e : Tuple) (v : ℕ) → length e ≤ v → stands_at e x v ≡ false
unbound x e v h = ap (λ (a : Bool). a && eqb (port_of e v) x) (not-below v (length e) h)

old-stands : (x z : ℕ) (e : Tuple) (v : ℕ) → v ≢ length e → stands_at (z ∷ e) x v ≡ stands_at e x v
old-stands x z e v h = go (dec_lt v (length e))
  where
    go : Dec (v < length e) → stands_at (z ∷ e) x v ≡ stands_at e x v
    go (yes l) = ap₂ (λ (a : Bool) (y : ℕ). a && eqb y x) (lt-ltb v (suc (length e)) (omega arith) ∙ sym (lt-ltb v (length e) l)) (port-out z e v l)
    go (no l) =
        ap (λ (a : Bool). a && eqb (port_of (z ∷ e) v) x) (not-below v (suc (length e)) (omega arith)) ∙ sym (unbound x e v (omega arith))

and_none : (a : Bool) → (a && false) ≡ false
and_none true = refl
and_none false = refl

-- the word with one more port, as it is made
pub held-has : (word members l x p lev : ℕ) → x ≡ p → lev ≡ level l → bit_or word (bit_and members lev) ≡ held_word word members l x p
unfolding held_word
held-has word members l x p lev h k = rw (eq-eqb x p h, k) refl

pub held-other : (word members l x p : ℕ) → x ≢ p → word ≡ held_word word members l x p
unfolding held_word
held-other word members l x p h = rw (ne_eqb x p h) refl

-- a bit of it
in_held : (word members l z x S v : ℕ) → l < 3 → S < 16 → v < 4
    → in_mask (held_word word members l z x) (4 * S + v) ≡ (in_mask word (4 * S + v) || (eqb z x && (in_mask members (4 * S + v) && eqb v l)))
unfolding held_word
in_held word members l z x S v h k j = go (eqb z x)
  where
    go : (a : Bool) → in_mask (cond a (bit_or word (bit_and members (level l))) word) (4 * S + v) ≡ (in_mask word (4 * S + v) || (a && (in_mask members (4 * S + v) && eqb v l)))
    go true =
        in-or word (bit_and members (level l)) (4 * S + v)
        ∙ ap (λ (y : Bool). in_mask word (4 * S + v) || y) (in_and members (level l) (4 * S + v) ∙ ap (λ (y : Bool). in_mask members (4 * S + v) && y) (in-level l S v h k j))
    go false = sym (or-none (in_mask word (4 * S + v)))

module _ (flips resizes : ℕ → Bool) (members resized : ℕ) (w : Words flips resizes members resized) where
  pub held_none : (x : ℕ) → Held flips [] x 0
  held_none x = record {
    members = λ S v k l. in-zero (4 * S + v) ∙ sym (ap (λ (a : Bool). flips S && a) (unbound x [] v (omega arith)) ∙ and_none (flips S));
    high = λ S k. in-zero (4 * S + 3);
  }

  pub held_more : (e : Tuple) (x z word l : ℕ) → length e ≡ l → l < 3 → Held flips e x word → Held flips (z ∷ e) x (held_word word members l z x)
  held_more e x z word l long low held = record {
    members = λ S v k j. in_held word members l z x S v low k (omega arith)
        ∙ ap₂ (λ (a c : Bool). a || (eqb z x && (c && eqb v l))) (held.members S v k j) (w.members-are S v k j) ∙ go S v (ℕ_discrete v l);
    high = λ S k. in_held word members l z x S 3 low k (omega arith)
        ∙ ap₂ (λ (a c : Bool). a || (eqb z x && (c && eqb 3 l))) (held.high S k) (w.members-high S k) ∙ and_none (eqb z x);
  }
    where
      new : (a b : Bool) → ((a && false) || (b && (a && true))) ≡ (a && b)
      new true true = refl
      new true false = refl
      new false true = refl
      new false false = refl

      old : (a b c : Bool) → ((a && c) || (b && (a && false))) ≡ (a && c)
      old true true true = refl
      old true true false = refl
      old true false true = refl
      old true false false = refl
      old false true c = refl
      old false false c = refl

      go : (S v : ℕ) → Dec (v ≡ l) → ((flips S && stands_at e x v) || (eqb z x && (flips S && eqb v l))) ≡ (flips S && stands_at (z ∷ e) x v)
      go S v (yes i) =
          ap₂ (λ (a c : Bool). (flips S && a) || (eqb z x && (flips S && c))) (unbound x e v (omega arith)) (eq-eqb v l i)
          ∙ new (flips S) (eqb z x) ∙ ap (λ (a : Bool). flips S && a) (sym (new-stands x z e v (i ∙ sym long)))
      go S v (no i) =
          ap (λ (c : Bool). (flips S && stands_at e x v) || (eqb z x && (flips S && c))) (ne_eqb v l i)
          ∙ old (flips S) (eqb z x) (stands_at e x v) ∙ ap (λ (a : Bool). flips S && a) (sym (old-stands x z e v (λ j. i (j ∙ long))))

  -- at a whole tuple, of a tree that uses no other variables
  module _ (used : ℕ) (e : Tuple) (bound : (S v : ℕ) → v < 3 → in_mask used (4 * S + v) ≡ true → v < length e) where
    word-for : (word : ℕ) (pairs : Sets) (ch : Change) → Lists pairs resizes ch
        → ((S v : ℕ) → S < 16 → v < 3 → v < length e → in_mask word (4 * S + v) ≡ pairs S (port_of e v)) → ((S : ℕ) → S < 16 → in_mask word (4 * S + 3) ≡ false)
        → WordFor used ch e (bit_or resized word)
    word-for word pairs ch ls low high = record {
      members = λ S v k j h. in-or resized word (4 * S + v) ∙ ap₂ ◌||◌ (w.resized-low S v k j) (low S v k j (bound S v j h)) ∙ sym (ls.listed-are S (port_of e v));
      sizes = λ S k h. in-or resized word (4 * S + 3) ∙ ap₂ ◌||◌ (w.resized-are S k) (high S k) ∙ or-none (resizes S) ∙ sym (ls.resized-are S);
    }

    held-bit : (x word : ℕ) → Held flips e x word → (S v : ℕ) → S < 16 → v < 3 → v < length e → in_mask word (4 * S + v) ≡ (flips S && eqb (port_of e v) x)
    held-bit x word held S v k j l = held.members S v k j ∙ ap (λ (a : Bool). flips S && (a && eqb (port_of e v) x)) (lt-ltb v (length e) l)

    pub one_word : (x word : ℕ) → Held flips e x word → (ch : Change) → FlipsAt flips resizes x ch → WordFor used ch e (bit_or resized word)
    unfolding FlipsAt at_one
    one_word x word held ch ls = word-for word (at_one flips x) ch ls (held-bit x word held) held.high

    pub two-word : (p q pword qword : ℕ) → Held flips e p pword → Held flips e q qword → (ch : Change) → FlipsBoth flips resizes p q ch
        → WordFor used ch e (bit_or resized (bit_or pword qword))
    unfolding FlipsBoth at_two
    two-word p q pword qword hp hq ch ls =
        word-for (bit_or pword qword) (at_two flips p q) ch ls
        (λ S v k j l. in-or pword qword (4 * S + v) ∙ ap₂ ◌||◌ (held-bit p pword hp S v k j l) (held-bit q qword hq S v k j l) ∙ both (flips S) _ _)
        (λ S k. in-or pword qword (4 * S + 3) ∙ ap₂ ◌||◌ (hp.high S k) (hq.high S k))
      where
        both : (a b c : Bool) → ((a && b) || (a && c)) ≡ (a && (b || c))
        both true b c = refl
        both false b c = refl
