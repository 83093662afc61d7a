-- The grammar of a plan's text, over lists of tokens: paper 01, section Plan text.
use Rattle.std.specs.Prelude.{◌≡◌, List, [], ◌∷◌, ◌++◌, ℕ, zero, suc, ◌+◌, eqb, length}
use Rattle.logic.specs.Formula.{Relation, relation_number, Test, isin, notin, port, size}
use Rattle.text_tree.specs.Tree.{Quantifier, forall, exists, Join, conj, disj, imp, rev, iff, Tree, neg, par, bind, join, Declared, leaf_of}
use Rattle.text_tokens.specs.Tokens.{end_of_text, left_square, right_square, left_bracket, right_bracket, at_sign, question_mark, tilde, ampersand, bar, right_arrow, left_arrow, double_arrow, colon, slash, hash, less, variable, set_letter, number, pick, token_at}

-- A token without its place.
pub record Symbol : Type 0 where
  pub kind : ℕ
  pub value : ℕ

pub data Level : Type 0 where
  unit conjunction disjunction formula : Level

-- "`@v` unit (for all), `?v` unit (exists)"
unfoldable pub quantifier_kind : Quantifier → ℕ
quantifier_kind forall = at_sign
quantifier_kind exists = question_mark

-- "`v < w` and its kin, `#S <= 9` and its kin"
unfoldable pub relation_kind : Relation → ℕ
relation_kind r = less + relation_number r

-- "an arrow": `->`, `<-`, `<->`
pub data Arrow : ℕ → Join → Type 0 where
  to-right : Arrow right_arrow imp
  to-left : Arrow left_arrow rev
  both_ways : Arrow double_arrow iff

-- The tests of literals. "Variables v, w are lower-case letters."
pub data Tests : List Symbol → Test → Type 0 where
  -- "`v:S` in"
  member : (v t m : Symbol) → v.kind ≡ variable → t.kind ≡ colon → m.kind ≡ set_letter
      → Tests (v ∷ t ∷ m ∷ []) (isin v.value m.value)
  -- "`v/S` not in"
  no_member : (v t m : Symbol) → v.kind ≡ variable → t.kind ≡ slash → m.kind ≡ set_letter
      → Tests (v ∷ t ∷ m ∷ []) (notin v.value m.value)
  -- "`v < w` and its kin"
  ports : (v t w : Symbol) (r : Relation) → v.kind ≡ variable → t.kind ≡ relation_kind r → w.kind ≡ variable
      → Tests (v ∷ t ∷ w ∷ []) (port r v.value w.value)
  -- "`#S <= 9` and its kin"
  sizes : (h m t c : Symbol) (r : Relation) → h.kind ≡ hash → m.kind ≡ set_letter → t.kind ≡ relation_kind r → c.kind ≡ number
      → Tests (h ∷ m ∷ t ∷ c ∷ []) (size r m.value c.value)

pub data Derives : Level → List Symbol → Tree → Type 0 where
  -- "A formula is one disjunction, or two with an arrow between."
  one-disjunction : {xs : List Symbol} {a : Tree} → Derives disjunction xs a → Derives formula xs a
  arrow : (t : Symbol) {j : Join} {xs ys : List Symbol} {a b : Tree} → Derives disjunction xs a → Arrow t.kind j → Derives disjunction ys b
      → Derives formula (xs ++ (t ∷ ys)) (join j a b)
  -- "A disjunction joins conjunctions by `|`"
  one-conjunction : {xs : List Symbol} {a : Tree} → Derives conjunction xs a → Derives disjunction xs a
  or : (t : Symbol) {xs ys : List Symbol} {a b : Tree} → Derives conjunction xs a → t.kind ≡ bar → Derives disjunction ys b
      → Derives disjunction (xs ++ (t ∷ ys)) (join disj a b)
  -- "a conjunction joins units by `&`"
  one_unit : {xs : List Symbol} {a : Tree} → Derives unit xs a → Derives conjunction xs a
  and : (t : Symbol) {xs ys : List Symbol} {a b : Tree} → Derives unit xs a → t.kind ≡ ampersand → Derives conjunction ys b
      → Derives conjunction (xs ++ (t ∷ ys)) (join conj a b)
  -- "A unit is `~` unit, `@v` unit (for all), `?v` unit (exists), a bracketed formula, or a literal"
  negation : (t : Symbol) {xs : List Symbol} {a : Tree} → t.kind ≡ tilde → Derives unit xs a → Derives unit (t ∷ xs) (neg a)
  quantified : (t v : Symbol) {q : Quantifier} {xs : List Symbol} {a : Tree} → t.kind ≡ quantifier_kind q → v.kind ≡ variable → Derives unit xs a
      → Derives unit (t ∷ v ∷ xs) (bind q v.value a)
  bracketed : (t u : Symbol) {xs : List Symbol} {a : Tree} → t.kind ≡ left_bracket → Derives formula xs a → u.kind ≡ right_bracket
      → Derives unit (t ∷ (xs ++ (u ∷ []))) (par a)
  literal : {xs : List Symbol} {t : Test} → Tests xs t → Derives unit xs (leaf_of t)

-- "one or more upper-case set letters"
pub data Sets : List Symbol → List Declared → Type 0 where
  one : (t : Symbol) → t.kind ≡ set_letter → Sets (t ∷ []) (record { letter = t.value } ∷ [])
  more : (t : Symbol) {xs : List Symbol} {sets : List Declared} → t.kind ≡ set_letter → Sets xs sets → Sets (t ∷ xs) (record { letter = t.value } ∷ sets)

-- "Text: `[`, one or more upper-case set letters, `]`, formula."
pub data Text : List Symbol → List Declared → Tree → Type 0 where
  text : (t u : Symbol) {xs ys : List Symbol} {sets : List Declared} {a : Tree} → t.kind ≡ left_square → Sets xs sets → u.kind ≡ right_square → Derives formula ys a
      → Text (t ∷ (xs ++ (u ∷ ys))) sets a

abbrev pub kind_at : List ℕ → ℕ → ℕ
kind_at s i = (token_at s i).kind

abbrev pub value_at : List ℕ → ℕ → ℕ
value_at s i = (token_at s i).value

abbrev pub next_at : List ℕ → ℕ → ℕ
next_at s i = (token_at s i).next

abbrev pub symbol_at : List ℕ → ℕ → Symbol
symbol_at s i = record { kind = kind_at s i; value = value_at s i }

-- The tokens of the text s from position i on, at most f of them.
unfoldable pub symbols_from : ℕ → List ℕ → ℕ → List Symbol
symbols_from zero s i = []
symbols_from (suc f) s i = pick (eqb (kind_at s i) end_of_text) [] (symbol_at s i ∷ symbols_from f s (next_at s i))

-- "One reading position moves over the text": all tokens of a text, of which there are no more than bytes.
unfoldable pub symbols : List ℕ → List Symbol
symbols s = symbols_from (length s) s 0
