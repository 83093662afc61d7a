-- The bytes of a tree spell symbols that derive it. Assumes nothing.
use mathlib.Core.Path.{◌≡◌, refl, sym, ◌∙◌, subst}
use mathlib.Core.List.{List, [], ◌∷◌, ◌++◌, append_assoc}
use mathlib.Core.Bool.{Bool, true, false}
use Prim.Native.Nat.{ℕ, ◌≤◌}
use native.Mathlib.Omega.{arith}
use lib.Dec.{ltb}
use borrow.Author.Tests.{ltb-false}
use Rattle.logic.specs.Formula.{Test, isin, notin, port, size, literal_of}
use Rattle.text_tokens.specs.Tokens.{left_bracket, right_bracket, at_sign, question_mark, ampersand, bar, colon, slash, hash, variable, set_letter, number, is_variable, is_set, sign, single_kind, sign_of, digits, digits_of, blanks_and_signs, among, known_byte, known_bytes}
use Rattle.text_tree.specs.Tree.{Quantifier, forall, exists, Join, conj, disj, Tree, par, bind, join, leaf_of}
use Rattle.text_grammar.specs.Grammar.{Symbol, Level, unit, conjunction, disjunction, formula, quantifier_kind, relation_kind, Tests, member, no_member, ports, sizes, Derives, one-disjunction, one-conjunction, or, one_unit, and, quantified, bracketed, literal}
use Rattle.text_grammar.specs.Parser.{rank}
use Rattle.text_grammar.proofs.Calls.{rank-range}
use Rattle.text_form.specs.Form.{enclosed}
use Rattle.text_form.specs.Spelling.{relation_bytes, join_bytes, quantifier_byte, spaced, constant_bytes, test_bytes, tree_bytes}
use Rattle.text_form.proofs.Lexing.{symbol, Lexes, then, past-space, variable-token, set-token, sign-token, relation-token, constant_token}

-- a sign between spaces
spaced-lexes : (g l rest : List ℕ) (t x : Symbol) (xs : List Symbol)
    → ((m : List ℕ) → Lexes (g ++ (32 ∷ m)) (t ∷ []) (32 ∷ m)) → Lexes (l ++ rest) (x ∷ xs) rest → Lexes ((spaced g ++ l) ++ rest) (t ∷ x ∷ xs) rest
unfolding spaced
spaced-lexes g l rest t x xs p q =
    let e : ((g ++ (32 ∷ [])) ++ l) ++ rest ≡ g ++ (32 ∷ (l ++ rest)) = append_assoc (g ++ (32 ∷ [])) l rest ∙ append_assoc g (32 ∷ []) (l ++ rest) in
    past-space (subst (λ (z : List ℕ). Lexes z (t ∷ x ∷ xs) rest) (sym e) (then (p (l ++ rest)) (past-space q)))

-- A tree whose bytes spell symbols, of which there is a first, that derive it at a level.
pub record Spelled (l : Level) (a : Tree) : Type 0 where
  pub first : Symbol
  pub others : List Symbol
  pub derives : Derives l (first ∷ others) a
  pub lexes : (rest : List ℕ) → digits rest ≡ 0 → Lexes (tree_bytes a ++ rest) (first ∷ others) rest

-- literals

-- the letters of a test are letters of their sort, and its constant is at most 64
unfoldable pub WritableTest : Test → Type 0
WritableTest (isin v S) = (is_variable v ≡ true) × (is_set S ≡ true)
WritableTest (notin v S) = (is_variable v ≡ true) × (is_set S ≡ true)
WritableTest (port r v w) = (is_variable v ≡ true) × (is_variable w ≡ true)
WritableTest (size r S c) = (is_set S ≡ true) × (c ≤ 64)

-- a literal by its test's symbols
spelled-literal : {t : Test} {x : Symbol} {xs : List Symbol} → Tests (x ∷ xs) t → ((rest : List ℕ) → digits rest ≡ 0 → Lexes (test_bytes t ++ rest) (x ∷ xs) rest) → Spelled unit (leaf_of t)
unfolding tree_bytes literal_of
spelled-literal {x} {xs} d T = record { first = x; others = xs; derives = literal d; lexes = T }

pub spelled-test : (t : Test) → WritableTest t → Spelled unit (leaf_of t)
unfolding WritableTest test_bytes constant_bytes sign_of single_kind known_bytes known_byte among blanks_and_signs
spelled-test (isin v S) h =
    spelled-literal (member (symbol variable v) (symbol colon 0) (symbol set_letter S) refl refl refl) (λ rest e.
    then (variable-token v (58 ∷ S ∷ rest) h.0) (then (sign-token 58 (S ∷ rest) (sign colon 1) refl refl (omega arith) (λ k. k)) (set-token S rest h.1)))
spelled-test (notin v S) h =
    spelled-literal (no_member (symbol variable v) (symbol slash 0) (symbol set_letter S) refl refl refl) (λ rest e.
    then (variable-token v (47 ∷ S ∷ rest) h.0) (then (sign-token 47 (S ∷ rest) (sign slash 1) refl refl (omega arith) (λ k. k)) (set-token S rest h.1)))
spelled-test (port r v w) h =
    let t = symbol (relation_kind r) 0 in
    spelled-literal (ports (symbol variable v) t (symbol variable w) r refl refl refl) (λ rest e.
    then (variable-token v ((spaced (relation_bytes r) ++ (w ∷ [])) ++ rest) h.0)
    (spaced-lexes (relation_bytes r) (w ∷ []) rest t (symbol variable w) [] (relation-token r) (variable-token w rest h.1)))
spelled-test (size r S c) h =
    let t = symbol (relation_kind r) 0 in
    spelled-literal (sizes (symbol hash 0) (symbol set_letter S) t (symbol number c) r refl refl refl refl) (λ rest e.
    let l = (spaced (relation_bytes r) ++ digits_of 2 c) ++ rest in
    then (sign-token 35 (S ∷ l) (sign hash 1) refl refl (omega arith) (λ k. k)) (then (set-token S l h.0)
    (spaced-lexes (relation_bytes r) (digits_of 2 c) rest t (symbol number c) [] (relation-token r) (constant_token c rest h.1 e))))

-- units

quantifier-token : (q : Quantifier) (l : List ℕ) → Lexes (quantifier_byte q ∷ l) (symbol (quantifier_kind q) 0 ∷ []) l
unfolding quantifier_byte quantifier_kind sign_of single_kind known_bytes known_byte among blanks_and_signs
quantifier-token forall l = sign-token 64 l (sign at_sign 1) refl refl (omega arith) (λ k. k)
quantifier-token exists l = sign-token 63 l (sign question_mark 1) refl refl (omega arith) (λ k. k)

-- a quantifier, its variable and a space
pub spelled-bind : (q : Quantifier) (v : ℕ) {a : Tree} → is_variable v ≡ true → Spelled unit a → Spelled unit (bind q v a)
unfolding tree_bytes
spelled-bind q v {a} h A = record {
  first = symbol (quantifier_kind q) 0;
  others = symbol variable v ∷ A.first ∷ A.others;
  derives = quantified (symbol (quantifier_kind q) 0) (symbol variable v) refl refl A.derives;
  lexes = λ rest e.
      let l = tree_bytes a ++ rest in
      then (quantifier-token q (v ∷ 32 ∷ l)) (then (variable-token v (32 ∷ l) h) (past-space (A.lexes rest e)));
}

-- a formula in brackets
spelled-par : {a : Tree} → Spelled formula a → Spelled unit (par a)
unfolding tree_bytes known_bytes known_byte among blanks_and_signs digits sign_of single_kind
spelled-par {a} A = record {
  first = symbol left_bracket 0;
  others = (A.first ∷ A.others) ++ (symbol right_bracket 0 ∷ []);
  derives = bracketed (symbol left_bracket 0) (symbol right_bracket 0) refl A.derives refl;
  lexes = λ rest e.
      rw (append_assoc (tree_bytes a) (41 ∷ []) rest)
      (then (sign-token 40 (tree_bytes a ++ (41 ∷ rest)) (sign left_bracket 1) refl refl (omega arith) (λ k. k))
      (then (A.lexes (41 ∷ rest) refl) (sign-token 41 rest (sign right_bracket 1) refl refl (omega arith) (λ k. k))));
}

-- joins

-- a sign that joins two trees, with a space on either side
spelled-join : {l m n : Level} {a b : Tree} (j : Join) (t : Symbol)
    → ((xs ys : List Symbol) → Derives m xs a → Derives n ys b → Derives l (xs ++ (t ∷ ys)) (join j a b))
    → ((rest : List ℕ) → Lexes (join_bytes j ++ (32 ∷ rest)) (t ∷ []) (32 ∷ rest))
    → Spelled m a → Spelled n b → Spelled l (join j a b)
unfolding tree_bytes digits spaced
spelled-join {a} {b} j t D T A B = record {
  first = A.first;
  others = A.others ++ (t ∷ B.first ∷ B.others);
  derives = D (A.first ∷ A.others) (B.first ∷ B.others) A.derives B.derives;
  lexes = λ rest e.
      let g = spaced (join_bytes j) ++ tree_bytes b in
      rw (append_assoc (tree_bytes a) g rest)
      (then (A.lexes (g ++ rest) refl) (spaced-lexes (join_bytes j) (tree_bytes b) rest t B.first B.others T (B.lexes rest e)));
}

pub spelled-and : {a b : Tree} → Spelled unit a → Spelled conjunction b → Spelled conjunction (join conj a b)
unfolding join_bytes known_bytes known_byte among blanks_and_signs sign_of single_kind
spelled-and = spelled-join conj (symbol ampersand 0) (λ xs ys d c. and (symbol ampersand 0) d refl c) (λ rest. sign-token 38 (32 ∷ rest) (sign ampersand 1) refl refl (omega arith) (λ k. k))

pub spelled-or : {a b : Tree} → Spelled conjunction a → Spelled disjunction b → Spelled disjunction (join disj a b)
unfolding join_bytes known_bytes known_byte among blanks_and_signs sign_of single_kind
spelled-or = spelled-join disj (symbol bar 0) (λ xs ys d c. or (symbol bar 0) d refl c) (λ rest. sign-token 124 (32 ∷ rest) (sign bar 1) refl refl (omega arith) (λ k. k))

-- levels

-- what a level derives, every higher level does
raised : (k l : Level) {xs : List Symbol} {a : Tree} → rank k ≤ rank l → Derives k xs a → Derives l xs a
raised unit unit h d = d
raised unit conjunction h d = one_unit d
raised unit disjunction h d = one-conjunction (one_unit d)
raised unit formula h d = one-disjunction (one-conjunction (one_unit d))
raised conjunction unit h d = absurd (omega arith)
raised conjunction conjunction h d = d
raised conjunction disjunction h d = one-conjunction d
raised conjunction formula h d = one-disjunction (one-conjunction d)
raised disjunction unit h d = absurd (omega arith)
raised disjunction conjunction h d = absurd (omega arith)
raised disjunction disjunction h d = d
raised disjunction formula h d = one-disjunction d
raised formula unit h d = absurd (omega arith)
raised formula conjunction h d = absurd (omega arith)
raised formula disjunction h d = absurd (omega arith)
raised formula formula h d = d

pub spelled-raised : (k l : Level) {a : Tree} → rank k ≤ rank l → Spelled k a → Spelled l a
spelled-raised k l h A = record { first = A.first; others = A.others; derives = raised k l h A.derives; lexes = A.lexes }

-- with brackets where a lower level is asked, a tree stands at any level
pub spelled-enclosed : (k l : Level) {a : Tree} → Spelled k a → Spelled l (enclosed (ltb (rank l) (rank k)) a)
unfolding enclosed
spelled-enclosed k l {a} A = go (ltb (rank l) (rank k)) refl
  where
    go : (t : Bool) → ltb (rank l) (rank k) ≡ t → Spelled l (enclosed t a)
    go true e = spelled-raised unit l (rank-range l).0 (spelled-par (spelled-raised k formula (rank-range k).1 A))
    go false e = spelled-raised k l (ltb-false (rank l) (rank k) e) A
