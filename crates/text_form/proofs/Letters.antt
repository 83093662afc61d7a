-- The letters that a plan is written with stand for their numbers again, and none is declared or bound twice. Assumes nothing.
use mathlib.Core.Path.{◌≡◌, refl, ap, ap₂, subst}
use mathlib.Core.Bool.{Bool, true, false, not}
use mathlib.Core.List.{List, [], ◌∷◌}
use Prim.Native.Nat.{ℕ, zero, suc, ◌+◌, ◌≤◌, ◌<◌}
use native.Mathlib.Omega.{arith}
use lib.Dec.{eqb, ltb}
use lib.ListN.{length}
use borrow.Author.Tests.{eq-eqb, ne_eqb, eqb-true, eqb-false, ltb-true, leb-true, le-ltb}
use Rattle.logic.specs.Formula.{Test, isin, notin, port, size}
use Rattle.logic.specs.Change.{some_of}
use Rattle.logic.proofs.Lists.{or-false, and_left, and_right}
use Rattle.text_tree.specs.Tree.{letters_of}
use Rattle.text_core.specs.Names.{among, set_number, variable_number, declared_twice, misdeclared, misnamed_test, high_constant}
use Rattle.text_core.specs.Core.{relation_at, member_at, test_at}
use Rattle.table_format.specs.Rules.{test_rule}
use Rattle.text_form.specs.Form.{set_byte, variable_byte, lettered_test, sets_from}

-- A letter that is among some, with the number that it has there.
record Numbered (letters : List ℕ) (number_of : List ℕ → ℕ → ℕ) (letter number : ℕ) : Type 0 where
  known : among letters letter ≡ true
  number_is : number_of letters letter ≡ number

-- The letters of n sets, from one on.
abbrev pub letters_from : ℕ → ℕ → List ℕ
letters_from letter n = letters_of (sets_from letter n)

-- a set's letter is declared, and its place in the declaration is the set's number
set-numbered : (letter n S : ℕ) → S < n → Numbered (letters_from letter n) set_number (letter + S) S
unfolding among some_of set_number letters_of sets_from
set-numbered letter zero S h = absurd (omega arith)
set-numbered letter (suc n) zero h =
    let e = eq-eqb (letter + 0) letter (omega arith) in
    record { known = rw e; number_is = rw e }
set-numbered letter (suc n) (suc S) h =
    let e = ne_eqb (letter + suc S) letter (λ x. omega arith) in
    let m : suc letter + S ≡ letter + suc S = omega arith in
    let r = subst (λ (x : ℕ). Numbered (letters_from (suc letter) n) set_number x S) m (set-numbered (suc letter) n S (omega arith)) in
    record { known = rw e r.known; number_is = rw e (ap suc r.number_is) }

-- a letter before the first is not declared
none_before : (letter n x : ℕ) → x < letter → among (letters_from letter n) x ≡ false
unfolding among some_of letters_of sets_from
none_before letter zero x h = refl
none_before letter (suc n) x h = or-false _ _ (ne_eqb x letter (λ e. omega arith)) (none_before (suc letter) n x (omega arith))

-- the letters rise, so none comes again
declared-once : (letter n : ℕ) → declared_twice (letters_from letter n) ≡ false
unfolding declared_twice letters_of sets_from
declared-once letter zero = refl
declared-once letter (suc n) = or-false _ _ (none_before (suc letter) n letter (omega arith)) (declared-once (suc letter) n)

-- as many sets as were asked
pub sets-from-length : (letter n : ℕ) → length (sets_from letter n) ≡ n
unfolding sets_from
sets-from-length letter zero = refl
sets-from-length letter (suc n) = ap suc (sets-from-length (suc letter) n)

-- ground 5 of the declaration alone
pub well-declared : (letter n : ℕ) → n ≤ 16 → misdeclared (sets_from letter n) ≡ false
unfolding misdeclared
well-declared letter n h = or-false _ _ (declared-once letter n) (le-ltb 16 (length (sets_from letter n)) (omega (arith, sets-from-length letter n)))

-- The letters bound around a node of depth d, innermost first: "A variable is numbered by its quantifier, the outermost being 0".
unfoldable pub variables_at : ℕ → List ℕ
variables_at zero = []
variables_at (suc d) = variable_byte d ∷ variables_at d

-- as many letters as quantifiers around
bound-length : (d : ℕ) → length (variables_at d) ≡ d
unfolding variables_at
bound-length zero = refl
bound-length (suc d) = ap suc (bound-length d)

-- a quantifier binds a letter that is not bound around it
pub newly-bound : (d v : ℕ) → d ≤ v → among (variables_at d) (variable_byte v) ≡ false
unfolding among some_of variables_at variable_byte
newly-bound zero v h = refl
newly-bound (suc d) v h = or-false _ _ (ne_eqb (97 + v) (97 + d) (λ e. omega arith)) (newly-bound d v (omega arith))

-- a variable that is not the innermost is bound further out
further-out : (v d : ℕ) → v < suc d → (v ≡ d → ⊥) → v < d
further-out v d h f = omega arith

-- a variable's letter is bound, and its quantifier's number is the variable's
variable-numbered : (d v : ℕ) → v < d → Numbered (variables_at d) variable_number (variable_byte v) v
unfolding among some_of variable_number variables_at variable_byte
variable-numbered zero v h = absurd (omega arith)
variable-numbered (suc d) v h = go (eqb (97 + v) (97 + d)) refl (variable-numbered d v)
  where
    go : (b : Bool) → eqb (97 + v) (97 + d) ≡ b → (v < d → Numbered (variables_at d) variable_number (variable_byte v) v)
        → Numbered (variables_at (suc d)) variable_number (variable_byte v) v
    go true e f =
        let m = eqb-true (97 + v) (97 + d) e in
        record { known = rw e; number_is = rw e (omega (arith, bound-length d)) }
    go false e f =
        let r = f (further-out v d h (λ m. eqb-false (97 + v) (97 + d) e (ap (97 +◌) m))) in
        record { known = rw e r.known; number_is = rw e r.number_is }

-- A test by letters says the plan's test, and meets neither ground 5 nor ground 6.
pub record TestSaid (sets vars : List ℕ) (t : Test) : Type 0 where
  pub said : test_at sets vars true (lettered_test t) ≡ t
  pub named : misnamed_test sets vars (lettered_test t) ≡ false
  pub low : high_constant (lettered_test t) ≡ false

module _ (n d : ℕ) where
  -- the rules of a test, as facts on its letters
  a-variable : (v : ℕ) → ltb v d ≡ true → Numbered (variables_at d) variable_number (variable_byte v) v
  a-variable v h = variable-numbered d v (ltb-true v d h)

  a-set : (S : ℕ) → ltb S n ≡ true → Numbered (letters_from (set_byte 0) n) set_number (set_byte S) S
  unfolding set_byte
  a-set S h = set-numbered 65 n S (ltb-true S n h)

  pub test-said : (t : Test) → test_rule n d t ≡ true → TestSaid (letters_from (set_byte 0) n) (variables_at d) t
  unfolding test_rule lettered_test test_at member_at relation_at misnamed_test high_constant
  test-said (isin v S) h =
      let x = a-variable v (and_left (ltb v d) _ h) in
      let y = a-set S (and_right (ltb v d) _ h) in
      record { said = ap₂ isin x.number_is y.number_is; named = or-false _ _ (ap not x.known) (ap not y.known); low = refl }
  test-said (notin v S) h =
      let x = a-variable v (and_left (ltb v d) _ h) in
      let y = a-set S (and_right (ltb v d) _ h) in
      record { said = ap₂ notin x.number_is y.number_is; named = or-false _ _ (ap not x.known) (ap not y.known); low = refl }
  test-said (port r v w) h =
      let x = a-variable v (and_left (ltb v d) _ h) in
      let y = a-variable w (and_right (ltb v d) _ h) in
      record { said = ap₂ (port r) x.number_is y.number_is; named = or-false _ _ (ap not x.known) (ap not y.known); low = refl }
  test-said (size r S c) h =
      let y = a-set S (and_left (ltb S n) _ h) in
      record { said = ap (λ (i : ℕ). size r i c) y.number_is; named = ap not y.known; low = le-ltb 64 c (leb-true c 64 (and_right (ltb S n) _ h)) }
