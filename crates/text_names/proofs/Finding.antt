-- The faults of a stored tree, by its last record. Assumes nothing.
use mathlib.Core.Path.{◌≡◌, refl, sym, ap, ap₂, ◌∙◌}
use mathlib.Core.Bool.{Bool, true, false, ◌||◌, true≢false, false≢true}
use mathlib.Core.List.{List, [], ◌∷◌}
use mathlib.Core.Logic.{◌⊎◌, inl, inr}
use Prim.Native.Nat.{ℕ, suc, ◌+◌, ◌*◌, ◌-◌, ◌≤◌, ◌<◌}
use native.Mathlib.Numerals.{add-one}
use native.Mathlib.Omega.{arith}
use lib.Dec.{eqb, leb}
use Rattle.std.specs.List.{list_any}
use lib.ListN.{length, get_or, take, drop}
use lib.Seq.{take_all}
use borrow.Author.Tests.{leb-false, lt-ltb, le-ltb}
use Rattle.logic.proofs.Lists.{or-true-left, or_true_right}
use Rattle.text_tree.specs.Tree.{Tree, par, Declared, letters_of}
use Rattle.text_tree.proofs.Sets.{sets-length}
use Rattle.text_names.specs.declared.Faults.{Faults}
use Rattle.text_tree.specs.inner.Stored.{literal_code, JoinAt, Joins}
use Rattle.text_tree.proofs.Joins.{no-tree, join-other, join-no-negation, next-join, next-right, none_left}
use Rattle.text_core.specs.Names.{among, declared_twice, misdeclared, misnamed, ground6, fourth, ground7, Variable, Lettered}
use Rattle.text_names.specs.inner.Faults.{Misdeclares, IsBound, Binds, NamesLiteral, HighLiteral, LiteralFaults, Found, Finds, FindsFaults}
use Rattle.text_tree.proofs.Table.{stored-after, stored-within, on-leaf, on-neg, on-bind, on-join}
use Rattle.text_names.proofs.Naming.{no_bits, among_contains}

-- the second test counts only where the first fails
or-when : (a b c d : Bool) → a ≡ c → (c ≡ false → b ≡ d) → (a || b) ≡ (c || d)
or-when true b true d h k = refl
or-when true b false d h k = absurd (true≢false h)
or-when false b true d h k = absurd (false≢true h)
or-when false b false d h k = k refl

module _ (t : List ℕ) (e : ℕ) (sets : List ℕ) (bound d : ℕ) (r : Faults) where
  pub finds-early : e < 2 → Finds t e sets bound d r
  unfolding Finds
  finds-early h a s l = absurd (omega (arith, stored-after s))

  pub finds_past : length t < e → Finds t e sets bound d r
  unfolding Finds
  finds_past h a s l = absurd (omega (arith, stored-within s))

  abbrev Goal : Tree → Type 0
  Goal a = Lettered a → Found sets bound d a r

  -- a statement of faults does not see brackets and negations
  through : (a : Tree) → Goal a → Goal (par a)
  unfolding misnamed ground6 fourth Lettered
  through a h l = let f = h l in record { names-is = f.names-is; constants-is = f.constants-is; quantifiers-is = f.quantifiers-is }

  pub finds-leaf : literal_code (get_or t (e - 1) 0) ≡ true → LiteralFaults sets (get_or t (e - 1) 0) (get_or t (e - 2) 0) bound r → Finds t e sets bound d r
  unfolding Finds misnamed ground6 fourth Lettered NamesLiteral HighLiteral
  finds-leaf h F = on-leaf t e Goal through h (λ l s w. record {
    names-is = λ vars M. F.names-is l.test (record { operator-is = s.operator-is; payload-is = s.payload-is; lettered = w }) vars M;
    constants-is = F.constants-is l.test (record { operator-is = s.operator-is; payload-is = s.payload-is; lettered = w });
    quantifiers-is = F.quantifiers-is;
  })

  pub finds-neg : get_or t (e - 1) 0 ≡ 2 → Finds t (e - 2) sets bound d r → Finds t e sets bound d r
  unfolding Finds misnamed ground6 fourth Lettered
  finds-neg h F = on-neg t e Goal through h (λ a s l. let f = F a s l in record { names-is = f.names-is; constants-is = f.constants-is; quantifiers-is = f.quantifiers-is })

  module _ (n : literal_code (get_or t (e - 1) 0) ≡ false) (m : get_or t (e - 1) 0 ≡ 2 → ⊥) where
    pub finds-bind : (a : Faults) (again : Bool) (bound' d' : ℕ) → get_or t (e - 1) 0 < 5
        → Binds bound (get_or t (e - 2) 0) bound' → IsBound bound (get_or t (e - 2) 0) again → (d < 3 → d' ≡ d + 1) → Finds t (e - 2) sets bound' d' a
        → (r.names ≡ (again || a.names)) × (r.constants ≡ a.constants) × (r.quantifiers ≡ (leb 3 d || a.quantifiers))
        → Finds t e sets bound d r
    unfolding Finds misnamed ground6 fourth Lettered Binds IsBound
    finds-bind a again bound' d' h B A D F R = on-bind t e Goal through n m h (λ q v b s w.
        λ l. let f = F b w l.1 in
        let var : Variable (get_or t (e - 2) 0) = rw s.payload-is l.0 in record {
          names-is = λ vars M. R.0 ∙ or-when _ _ _ _ (A vars M var ∙ ap (among vars) s.payload-is)
              (λ free. f.names-is (v ∷ vars) (rw s.payload-is at (B vars M var (ap (among vars) s.payload-is ∙ free))));
          constants-is = R.1 ∙ f.constants-is;
          quantifiers-is = R.2 ∙ or-when _ _ _ _ refl
              (λ low. f.quantifiers-is ∙ ap (λ (x : ℕ). fourth x b) (D (leb-false 3 d low) ∙ add-one d));
        })

    pub finds-join : (a b : Faults) → 5 ≤ get_or t (e - 1) 0 → Finds t (get_or t (e - 2) 0) sets bound d a → Finds t (e - 2) sets bound d b
        → (r.names ≡ (a.names || b.names)) × (r.constants ≡ (a.constants || b.constants)) × (r.quantifiers ≡ (a.quantifiers || b.quantifiers))
        → Finds t e sets bound d r
    unfolding Finds misnamed ground6 fourth Lettered
    finds-join a b h A B R = on-join t e Goal through n m h (λ j x y o i c s l.
        let f = A x c l.0 in let g = B y s l.1 in record {
          names-is = λ vars M. R.0 ∙ ap₂ ◌||◌ (f.names-is vars M) (g.names-is vars M);
          constants-is = R.1 ∙ ap₂ ◌||◌ f.constants-is g.constants-is;
          quantifiers-is = R.2 ∙ ap₂ ◌||◌ f.quantifiers-is g.quantifiers-is;
        })

  pub finds-none : literal_code (get_or t (e - 1) 0) ≡ false → (JoinAt t e → ⊥) → (get_or t (e - 1) 0 < 2) ⊎ (5 ≤ get_or t (e - 1) 0) → Finds t e sets bound d r
  unfolding Finds literal_code
  finds-none n f (inl h) a s l = absurd (true≢false (sym (or-true-left _ _ (lt-ltb _ 2 h)) ∙ n))
  finds-none n f (inr h) a s l = absurd (no-tree t e f n (λ m. omega arith) h a s)

-- the joins at the end of a tree, taken from the one that stands first: of n, so many are left
pub finds-next : (t : List ℕ) (e : ℕ) (sets : List ℕ) (bound d n left : ℕ) (a b r : Faults) → Joins t e n → 0 < left → left ≤ n
    → Finds t (e - 2 * left) sets bound d b → Finds t (get_or t (e - 2 * (left - 1) - 2) 0) sets bound d a
    → (r.names ≡ (a.names || b.names)) × (r.constants ≡ (a.constants || b.constants)) × (r.quantifiers ≡ (a.quantifiers || b.quantifiers))
    → Finds t (e - 2 * (left - 1)) sets bound d r
finds-next t e sets bound d n left a b r J some l B A R =
    let j = next-join t e n left J some l in
    finds-join t (e - 2 * (left - 1)) sets bound d r (join-other t _ j) (join-no-negation t _ j) a b j.low A (rw (next-right t e n left J some l) B) R

pub finds-done : (t : List ℕ) (e : ℕ) (sets : List ℕ) (bound d left : ℕ) (r : Faults) → left ≤ 0 → Finds t (e - 2 * left) sets bound d r → Finds t e sets bound d r
finds-done t e sets bound d left r h B = rw (none_left e left h) at B

pub finds-all : (t : List ℕ) (e : ℕ) (sets : List ℕ) (r : Faults) → Finds t e sets 0 0 r → FindsFaults t e sets r
unfolding Finds FindsFaults ground7
finds-all t e sets r F a s l =
    let f = F a s l in record { names-is = f.names-is [] no_bits; constants-is = f.constants-is; quantifiers-is = f.quantifiers-is }

-- the declared list
pub twice-none : (sets : List ℕ) → length sets < 1 → false ≡ declared_twice sets
unfolding declared_twice
twice-none [] h = refl
twice-none (x ∷ xs) h = absurd (omega arith)

-- the list behind the first letter, as a part
abbrev rest : List ℕ → List ℕ
rest sets = take (length sets - 1) (drop 1 sets)

-- the first letter again behind it, or a letter twice there
pub twice-step : (sets : List ℕ) (again : Bool) → 1 ≤ length sets → again ≡ list_any (λ x. eqb x (get_or sets 0 0)) (rest sets)
    → declared_twice sets ≡ (again || declared_twice (rest sets))
unfolding declared_twice
twice-step [] again h e = absurd (omega arith)
twice-step (x ∷ xs) again h e =
    let same : take (suc (length xs) - 1) xs ≡ xs = take_all (suc (length xs) - 1) xs (omega arith) in
    rw (among_contains xs x, e, same)

pub long-list : (sets : List Declared) → 16 < length sets → true ≡ misdeclared sets
unfolding misdeclared
long-list sets h = sym (or_true_right (declared_twice (letters_of sets)) _ (lt-ltb 16 (length sets) h))

short-list : (sets : List Declared) (r : Bool) → length sets ≤ 16 → r ≡ declared_twice (letters_of sets) → r ≡ misdeclared sets
unfolding misdeclared
short-list sets r h e = e ∙ sym (ap (λ (b : Bool). declared_twice (letters_of sets) || b) (le-ltb 16 (length sets) h) ∙ or-none (declared_twice (letters_of sets)))
  where
    or-none : (b : Bool) → (b || false) ≡ b
    or-none true = refl
    or-none false = refl

pub long-letters : (letters : List ℕ) → 16 < length letters → Misdeclares letters true
unfolding Misdeclares
long-letters letters h sets e = long-list sets (omega (arith, sets-length sets letters e))

pub short-letters : (letters : List ℕ) (r : Bool) → length letters ≤ 16 → r ≡ declared_twice letters → Misdeclares letters r
unfolding Misdeclares
short-letters letters r h q sets e = short-list sets r (omega (arith, sets-length sets letters e)) (q ∙ ap declared_twice (sym e))
