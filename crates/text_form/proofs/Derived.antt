-- The text of a plan that keeps the rules is of known bytes, and the grammar derives it as the plan's tree. Assumes nothing.
use mathlib.Core.Path.{◌≡◌, refl, sym, ap, subst}
use mathlib.Core.List.{List, [], ◌∷◌, ◌++◌, append-nil}
use mathlib.Core.Bool.{true, false≢true}
use Prim.Native.Nat.{ℕ, zero, suc, ◌+◌, ◌≤◌}
use native.Mathlib.Omega.{arith}
use lib.ListN.{length, length-drop}
use lib.Dec.{ltb, leb}
use borrow.Author.Tests.{eqb-true, ltb-true, leb-true, le-leb}
use Rattle.logic.specs.Formula.{Test, isin, notin, port, size, Node, root, all, any, and, or, lit, Forest, none, tree, Plan, kind_number, child_depth}
use Rattle.logic.proofs.Lists.{and-true}
use Rattle.table_format.specs.Rules.{every_node, tree_count, arity_rule, depth_rule, test_rule, literal_rule, inner_rule, node_rule, plan_rule}
use Rattle.table_format.proofs.Conjunctions.{two-true}
use Rattle.table_format.proofs.Rooted.{every-node, is-rooted, rooted-is}
use Rattle.text_tokens.specs.Tokens.{left_square, right_square, set_letter, is_variable, is_set, sign, single_kind, sign_of, digits, blanks_and_signs, among, known_byte, known_bytes}
use Rattle.text_tree.specs.Tree.{forall, exists, Tree, join, Declared, letters_of}
use Rattle.text_grammar.specs.Grammar.{Symbol, formula, Sets, one, more, Text, text, kind_at, symbols}
use Rattle.text_grammar.specs.Parser.{rank}
use Rattle.text_grammar.proofs.Declaration.{end-kind}
use Rattle.text_grammar.proofs.Positions.{span, only-symbols}
use Rattle.text_form.specs.Form.{set_byte, variable_byte, lettered_test, lettered_literal, own_level, child_level, needs_brackets, enclosed, node_tree, join_of, beside, children_tree, tree_of, sets_from, sets_of}
use Rattle.text_form.specs.Spelling.{tree_bytes, text_bytes, plan_text}
use Rattle.text_form.proofs.Lexing.{symbol, Lexes, then, past-space, set-token, sign-token}
use Rattle.text_form.proofs.Spelled.{Spelled, WritableTest, spelled-test, spelled-bind, spelled-and, spelled-or, spelled-raised, spelled-enclosed}

-- letters

-- 26 variables and 26 sets have letters, of which a plan uses three and sixteen
variable-is : (v : ℕ) → v ≤ 25 → is_variable (variable_byte v) ≡ true
unfolding variable_byte
variable-is v h = and-true _ _ (le-leb 97 (97 + v) (omega arith)) (le-leb (97 + v) 122 (omega arith))

set_is : (S : ℕ) → 65 ≤ S → S ≤ 90 → is_set S ≡ true
set_is S l h = and-true _ _ (le-leb 65 S l) (le-leb S 90 h)

variable-below : (v d : ℕ) → d ≤ 3 → ltb v d ≡ true → is_variable (variable_byte v) ≡ true
variable-below v d h e = variable-is v (omega (arith, ltb-true v d e))

set_below : (S sets : ℕ) → sets ≤ 16 → ltb S sets ≡ true → is_set (set_byte S) ≡ true
unfolding set_byte
set_below S sets h e = set_is (65 + S) (omega arith) (omega (arith, ltb-true S sets e))

-- a test that keeps its rule, by letters
test-writable : (sets d : ℕ) (t : Test) → sets ≤ 16 → d ≤ 3 → test_rule sets d t ≡ true → WritableTest (lettered_test t)
unfolding test_rule lettered_test WritableTest
test-writable sets d (isin v S) n h e = let p = two-true (ltb v d) (ltb S sets) e in (variable-below v d h p.0, set_below S sets n p.1)
test-writable sets d (notin v S) n h e = let p = two-true (ltb v d) (ltb S sets) e in (variable-below v d h p.0, set_below S sets n p.1)
test-writable sets d (port r v w) n h e = let p = two-true (ltb v d) (ltb w d) e in (variable-below v d h p.0, variable-below w d h p.1)
test-writable sets d (size r S c) n h e = let p = two-true (ltb S sets) (leb c 64) e in (set_below S sets n p.0, leb-true c 64 p.1)

-- nodes

-- the nodes that may have several children
data MayJoin : Node → Type 0 where
  joins-and : MayJoin and
  joins-or : MayJoin or

-- such a node's child and its later siblings
spelled_beside : {above : Node} {a b : Tree} → MayJoin above → Spelled (child_level above) a → Spelled (own_level above) b → Spelled (own_level above) (join (join_of above) a b)
unfolding child_level own_level join_of
spelled_beside joins-and A B = spelled-and A B
spelled_beside joins-or A B = spelled-or A B

-- the level that a node asks of a child is not above its own, so an only child stands at that
child-rank : (above : Node) → rank (child_level above) ≤ rank (own_level above)
unfolding child_level own_level
child-rank root = omega arith
child-rank all = omega arith
child-rank any = omega arith
child-rank and = omega arith
child-rank or = omega arith
child-rank (lit l) = omega arith

module _ (sets : ℕ) (few : sets ≤ 16) where
  -- a node that keeps its rules, over the tree a of its k children
  node-spelled : (n : Node) (d k : ℕ) (a : Tree) → inner_rule sets n d ≡ true → d ≤ 3 → arity_rule (kind_number n) k ≡ true
      → (1 ≤ k → (2 ≤ k → MayJoin n) → Spelled (own_level n) a) → Spelled (own_level n) (node_tree n d a)
  unfolding inner_rule literal_rule arity_rule kind_number own_level node_tree lettered_literal
  node-spelled root d k a h l r A = absurd (false≢true h)
  node-spelled all d k a h l r A = let e = eqb-true k 1 r in spelled-bind forall (variable_byte d) (variable-is d (omega arith)) (A (omega arith) (λ x. absurd (omega arith)))
  node-spelled any d k a h l r A = let e = eqb-true k 1 r in spelled-bind exists (variable_byte d) (variable-is d (omega arith)) (A (omega arith) (λ x. absurd (omega arith)))
  node-spelled and d k a h l r A = A (omega (arith, leb-true 2 k r)) (λ _. joins-and)
  node-spelled or d k a h l r A = A (omega (arith, leb-true 2 k r)) (λ _. joins-or)
  node-spelled (lit t) d k a h l r A = spelled-test (lettered_test t.test) (test-writable sets d t.test few l h)

  -- what is to be shown of the children of a node
  abbrev Children : Node → Forest → ℕ → Type 0
  Children above f d = every_node (node_rule sets) f d ≡ true → 1 ≤ tree_count f → (2 ≤ tree_count f → MayJoin above) → Spelled (own_level above) (children_tree above f d)

  -- a child at the level that its parent asks, if it is so of its own children
  child-spelled : (above n : Node) (c s : Forest) (d : ℕ) → every_node (node_rule sets) (tree n c s) d ≡ true → Children n c (child_depth n d)
      → Spelled (child_level above) (enclosed (needs_brackets above n) (node_tree n d (children_tree n c (child_depth n d))))
  unfolding needs_brackets depth_rule
  child-spelled above n c s d e C =
      let r = every-node sets n c s d e in
      spelled-enclosed (own_level n) (child_level above) (node-spelled n d (tree_count c) (children_tree n c (child_depth n d)) r.0 (leb-true d 3 r.1) r.2 (C r.4))

  -- a forest that is not empty, under a node that may have so many children
  children-spelled : (above : Node) (f : Forest) (d : ℕ) → Children above f d
  unfolding tree_count children_tree beside
  children-spelled above none d e p q = absurd (omega arith)
  children-spelled above (tree n c none) d e p q =
      spelled-raised (child_level above) (own_level above) (child-rank above) (child-spelled above n c none d e (children-spelled n c (child_depth n d)))
  children-spelled above (tree n c (tree m b s)) d e p q =
      let S = q (omega arith) in
      let r = every-node sets n c (tree m b s) d e in
      spelled_beside S (child-spelled above n c (tree m b s) d e (children-spelled n c (child_depth n d))) (children-spelled above (tree m b s) d r.5 (omega arith) (λ _. S))

-- the declaration

-- declared sets whose letters spell the symbols of a declaration
record SpelledSets (sets : List Declared) : Type 0 where
  letters : List Symbol
  derive : Sets letters sets
  lexes : (rest : List ℕ) → Lexes (letters_of sets ++ rest) letters rest

-- n sets and one more, by letters in order
sets-spelled : (letter n : ℕ) → 65 ≤ letter → letter + n ≤ 90 → SpelledSets (sets_from letter (suc n))
unfolding sets_from letters_of
sets-spelled letter zero l h = record {
  letters = symbol set_letter letter ∷ [];
  derive = one (symbol set_letter letter) refl;
  lexes = λ rest. set-token letter rest (set_is letter l (omega arith));
}
sets-spelled letter (suc n) l h =
    let S = sets-spelled (suc letter) n (omega arith) (omega arith) in
    record {
      letters = symbol set_letter letter ∷ S.letters;
      derive = more (symbol set_letter letter) refl S.derive;
      lexes = λ rest. then (set-token letter (letters_of (sets_from (suc letter) (suc n)) ++ rest) (set_is letter l (omega arith))) (S.lexes rest);
    }

sets-declared : (n : ℕ) → 1 ≤ n → n ≤ 16 → SpelledSets (sets_from (set_byte 0) n)
unfolding set_byte
sets-declared zero p h = absurd (omega arith)
sets-declared (suc n) p h = sets-spelled 65 n (omega arith) (omega arith)

-- texts

module _ (sets : List Declared) (a : Tree) (S : SpelledSets sets) (A : Spelled formula a) where
  -- `[`, the set letters, `]`, and the formula's symbols
  abbrev text-symbols : List Symbol
  text-symbols = symbol left_square 0 ∷ (S.letters ++ (symbol right_square 0 ∷ A.first ∷ A.others))

  text-lexes : Lexes (text_bytes sets a) text-symbols []
  unfolding text_bytes digits sign_of single_kind known_bytes known_byte among blanks_and_signs
  text-lexes =
      let l : List ℕ = 32 ∷ tree_bytes a in
      let B : Lexes (tree_bytes a) (A.first ∷ A.others) [] = rw append-nil at (A.lexes [] refl) in
      then (sign-token 91 (letters_of sets ++ (93 ∷ l)) (sign left_square 1) refl refl (omega arith) (λ k. k))
      (then (S.lexes (93 ∷ l)) (then (sign-token 93 l (sign right_square 1) refl refl (omega arith) (λ k. k)) (past-space B)))

  -- behind them the text ends, so they are all its symbols
  text-derived : Text (symbols (text_bytes sets a)) sets a
  unfolding symbols
  text-derived =
      let s = text_bytes sets a in
      let L = text-lexes.at s 0 refl in
      let W = span s 0 text-symbols L.to (omega arith) L.are in
      let e : kind_at s L.to ≡ 0 = end-kind s L.to W.within (omega (arith, length-drop L.to s, ap length L.left)) in
      rw (only-symbols (length s) s 0 text-symbols L.to (omega arith) (omega arith) L.are e) (text (symbol left_square 0) (symbol right_square 0) refl S.derive refl A.derives)

-- plans

module _ (P : Plan) (h : plan_rule P ≡ true) where
  plan-sets : SpelledSets (sets_of P)
  unfolding sets_of
  plan-sets = let R = rooted-is P h in sets-declared P.sets R.sets1 R.sets16

  plan-tree : Spelled formula (tree_of P)
  unfolding tree_of children_tree beside enclosed needs_brackets child_level own_level node_tree child_depth
  plan-tree =
      let c = is-rooted P h in
      let R = rooted-is P h in
      subst (λ (Q : Plan). Spelled formula (tree_of Q)) (sym c.1) (children-spelled P.sets R.sets16 root c.0 0 R.rules (omega (arith, R.one)) (λ x. absurd (omega (arith, R.one))))

  -- ground 2 does not hold of it
  pub plan-known : known_bytes (plan_text P) ≡ true
  unfolding plan_text known_bytes
  plan-known = (text-lexes (sets_of P) (tree_of P) plan-sets plan-tree).known refl

  -- the grammar derives it as the plan's tree
  pub plan-derives : Text (symbols (plan_text P)) (sets_of P) (tree_of P)
  unfolding plan_text
  plan-derives = text-derived (sets_of P) (tree_of P) plan-sets plan-tree
