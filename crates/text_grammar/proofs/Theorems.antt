-- The parser reads a text exactly where the grammar derives its tokens, and a text has one reading. Assumes nothing.
use mathlib.Core.Path.{◌≡◌, refl, sym, ap, ◌∙◌}
use mathlib.Core.List.{List, [], ◌∷◌, ◌++◌}
use mathlib.Core.Bool.{Bool, true, false}
use Prim.Native.Nat.{ℕ, ◌+◌, ◌*◌}
use native.Mathlib.Omega.{arith}
use lib.Dec.{eqb}
use lib.ListN.{length}
use borrow.Author.Tests.{eqb-true}
use Rattle.text_tree.specs.Tree.{Tree, Declared}
use Rattle.text_tokens.specs.Tokens.{pick}
use Rattle.text_grammar.specs.Grammar.{Symbol, formula, Derives, Sets, one, more, Text, text, kind_at, next_at, symbol_at, symbols}
use Rattle.text_grammar.specs.Parser.{Part, missing, found, parse_at, sets_at, after_sets, failed, read, ended, declared, parsed}
use Rattle.text_grammar.proofs.Declaration.{declared-some}
use Rattle.text_grammar.proofs.Positions.{Tokens, cons, append, first, token-span, span, split, all-symbols, only-symbols}
use Rattle.text_grammar.proofs.Sound.{on_test, sound, sets-sound}
use Rattle.text_grammar.proofs.Complete.{complete, sets-complete}

no-reading : {A : Type 0} {sets : List Declared} {a : Tree} → failed ≡ read sets a → A
no-reading e = let z : ◌≡◌ {A = ℕ} 0 1 = cc in absurd (omega arith)

of-ended : (s : List ℕ) (xs sets : List Declared) (a : Tree) (r : Part) → ended s xs r ≡ read sets a → (xs ≡ sets) × ((last : ℕ) × (r ≡ found a last) × (kind_at s last ≡ 0))
of-ended s xs sets a missing e = no-reading e
of-ended s xs sets a (found b k) e = go (eqb (kind_at s k) 0) refl e
  where
    go : (t : Bool) → eqb (kind_at s k) 0 ≡ t → pick t (read xs b) failed ≡ read sets a → (xs ≡ sets) × ((last : ℕ) × (found b k ≡ found a last) × (kind_at s last ≡ 0))
    go true p q = (cc, (k, ap (λ (c : Tree). found c k) (cc), eqb-true _ _ p))
    go false p q = no-reading q

-- the tokens up to the end of a text are its symbols
assembled : (s : List ℕ) (xs sets : List Declared) (a : Tree) (ts us : List Symbol) (j k : ℕ) → xs ≡ sets → kind_at s 0 ≡ 1 → Sets ts xs → kind_at s j ≡ 2 → Derives formula us a
    → Tokens s 0 (symbol_at s 0 ∷ (ts ++ (symbol_at s j ∷ us))) k → kind_at s k ≡ 0 → Text (symbols s) sets a
unfolding symbols
assembled s xs sets a ts us j k x y S c d T e =
    rw (only-symbols (length s) s 0 (symbol_at s 0 ∷ (ts ++ (symbol_at s j ∷ us))) k (omega arith) (omega arith) T e, ← x) (text (symbol_at s 0) (symbol_at s j) y S c d)

module _ (s : List ℕ) (sets : List Declared) (a : Tree) where
  declared-sound : (i : ℕ) → kind_at s 0 ≡ 1 → next_at s 0 ≡ i → (xs : List Declared) → sets_at (length s) s i ≡ xs → declared s xs (after_sets (length s) s i) ≡ read sets a → Text (symbols s) sets a
  declared-sound i y n [] l e = no-reading e
  declared-sound i y n (x ∷ xs) l e =
      let j = after_sets (length s) s i in
      on_test (eqb (kind_at s j) 2) (λ k. ended s (x ∷ xs) (parse_at (4 * length s + 4) formula s k)) (λ k. failed) (next_at s j) (read sets a) e
      (λ t q.
      let c = eqb-true (kind_at s j) 2 t in
      let w = of-ended s (x ∷ xs) sets a (parse_at (4 * length s + 4) formula s (next_at s j)) q in
      let k = w.1.0 in
      let S = sets-sound (length s) s i x xs l in
      let B = sound (4 * length s + 4) s formula (next_at s j) a k w.1.1 in
      let inner : Tokens s i (S.symbols ++ (symbol_at s j ∷ B.symbols)) k = append s i j S.symbols (symbol_at s j ∷ B.symbols) k S.are (cons s j B.symbols k (omega arith) B.are) in
      let all : Tokens s 0 (symbol_at s 0 ∷ (S.symbols ++ (symbol_at s j ∷ B.symbols))) k = cons s 0 (S.symbols ++ (symbol_at s j ∷ B.symbols)) k (omega arith) (rw n inner) in
      assembled s (x ∷ xs) sets a S.symbols B.symbols j k w.0 y S.spell c B.derives all w.1.2)
      (λ t q. no-reading q)

  -- what the parser reads, the grammar derives
  pub parsed-sound : parsed s ≡ read sets a → Text (symbols s) sets a
  unfolding parsed
  parsed-sound e =
      on_test (eqb (kind_at s 0) 1) (λ i. declared s (sets_at (length s) s i) (after_sets (length s) s i)) (λ i. failed) (next_at s 0) (read sets a) e
      (λ t q. declared-sound (next_at s 0) (eqb-true _ _ t) refl (sets_at (length s) s (next_at s 0)) refl q)
      (λ t q. no-reading q)

sets-some : {xs : List Symbol} {sets : List Declared} → Sets xs sets → length sets ≡ 0 → ⊥
sets-some (one t y) e = omega arith
sets-some (more t y d) e = omega arith

text-found : {xs : List Symbol} {sets : List Declared} {a : Tree} → Text xs sets a → (s : List ℕ) (j : ℕ) → Tokens s 0 xs j → kind_at s j ≡ 0 → parsed s ≡ read sets a
unfolding parsed
text-found (text t u {xs = xs} {ys = ys} {sets = sets} {a = a} y S z d) s j T e =
    let h = first s 0 t (xs ++ (u ∷ ys)) j T in
    let v = token-span s 0 (omega arith) h.token in
    let w = split s (next_at s 0) xs (u ∷ ys) j h.rest in
    let p = span s (next_at s 0) xs w.mid v.1 w.left in
    let c = first s w.mid u ys j w.right in
    let q = token-span s w.mid p.within c.token in
    let k = c.kind ∙ z in
    let F = sets-complete S s (next_at s 0) w.mid (length s) v.1 w.left (λ x. omega (arith, k)) (omega arith) in
    let B = complete d s (next_at s w.mid) j q.1 c.rest (rw e (refl, refl, refl)) (4 * length s + 4) (omega arith) in
    rw (h.kind ∙ y, F.are, F.after) (declared-some s sets w.mid (sets-some S) ∙ rw (k, B, e))

-- what the grammar derives, the parser reads
pub parsed-complete : (s : List ℕ) (sets : List Declared) (a : Tree) → Text (symbols s) sets a → parsed s ≡ read sets a
unfolding symbols
parsed-complete s sets a D = let w = all-symbols (length s) s 0 (omega arith) (omega arith) in text-found D s w.last w.are w.ends

-- a text has one list of sets and one tree
pub unambiguous : (s : List ℕ) (xs ys : List Declared) (a b : Tree) → Text (symbols s) xs a → Text (symbols s) ys b → (xs ≡ ys) × (a ≡ b)
unambiguous s xs ys a b D E =
    let p = parsed-complete s xs a D in
    let q = parsed-complete s ys b E in
    (cc, cc)

-- ground 3: a text that is not read is outside the grammar
pub outside : (s : List ℕ) (sets : List Declared) (a : Tree) → parsed s ≡ failed → Text (symbols s) sets a → ⊥
outside s sets a e D = no-reading (sym e ∙ parsed-complete s sets a D)
