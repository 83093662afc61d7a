-- The letters of a tree that the parser finds are letters, and its constants at most 65. Assumes nothing.
use mathlib.Core.Path.{◌≡◌, refl}
use mathlib.Core.Bool.{Bool, true, false, ◌&&◌}
use mathlib.Core.List.{List, [], ◌∷◌}
use mathlib.Core.Option.{Option, none, some}
use Prim.Native.Nat.{ℕ, zero, suc, ◌+◌, ◌*◌, ◌≤◌, ◌<◌}
use native.Mathlib.Omega.{arith}
use lib.Dec.{eqb, leb, ltb}
use lib.ListN.{length, get_or}
use borrow.Author.Tests.{eqb-true}
use Rattle.logic.specs.Formula.{Test, isin, notin, port, size, literal_of}
use Rattle.text_tree.specs.Tree.{Quantifier, Join, Tree, neg, par, bind, join, Declared, leaf_of}
use Rattle.text_tokens.specs.declared.Token.{Token}
use Rattle.text_tokens.specs.declared.Sign.{Sign}
use Rattle.text_tokens.specs.Tokens.{pick, is_variable, is_set, is_digit, sign, one_or_two, single_kind, sign_of, run_at, run_token, here_at, after_blanks, token_at}
use Rattle.text_tokens.proofs.Laws.{between-range}
use Rattle.text_grammar.specs.Grammar.{Level, unit, conjunction, disjunction, formula, kind_at, value_at, next_at}
use Rattle.text_grammar.specs.Parser.{Part, missing, found, test, follow, nothing, map_part, quantifier_sign, relation_sign, join_sign, joined, closed, bound, operand, variable_literal, compared, size_literal, parse_at, Result, failed, read, ended, declared, sets_at, after_sets, parsed}
use Rattle.text_core.specs.Names.{Variable, SetLetter, LetteredTest, Lettered}

pub when {ℓ} : {A : Type 0} (P : A → Type ℓ) (b : Bool) {x y : A} → (b ≡ true → P x) → (b ≡ false → P y) → P (pick b x y)
when P true f g = f refl
when P false f g = g refl

-- a kind that is no letter's and no number's
pub record Other (k : ℕ) : Type 0 where
  pub no-variable : k ≡ 22 → ⊥
  pub no-set : k ≡ 23 → ⊥
  pub no_number : k ≡ 24 → ⊥

low : (k : ℕ) → k < 22 → Other k
low k h = record { no-variable = λ e. omega arith; no-set = λ e. omega arith; no_number = λ e. omega arith }

high : (k : ℕ) → 24 < k → Other k
high k h = record { no-variable = λ e. omega arith; no-set = λ e. omega arith; no_number = λ e. omega arith }

abbrev OtherSign : Sign → Type 0
OtherSign g = Other g.kind

module _ (a b c : ℕ) where
  two-other : (second long short : ℕ) → Other long → Other short → OtherSign (one_or_two b second long short)
  two-other second long short h g = when OtherSign (eqb b second) (λ _. h) (λ _. g)

  less_other : OtherSign (pick (eqb b 45) (pick (eqb c 62) (sign 12 3) (sign 11 2)) (one_or_two b 61 17 16))
  less_other =
      when OtherSign (eqb b 45) (λ _. when OtherSign (eqb c 62) (λ _. low 12 (omega arith)) (λ _. low 11 (omega arith)))
      (λ _. two-other 61 17 16 (low 17 (omega arith)) (low 16 (omega arith)))

  single-other : Other (single_kind a)
  unfolding single_kind
  single-other =
      when Other (eqb a 91) (λ _. low _ (omega arith)) (λ _.
      when Other (eqb a 93) (λ _. low _ (omega arith)) (λ _.
      when Other (eqb a 40) (λ _. low _ (omega arith)) (λ _.
      when Other (eqb a 41) (λ _. low _ (omega arith)) (λ _.
      when Other (eqb a 64) (λ _. low _ (omega arith)) (λ _.
      when Other (eqb a 63) (λ _. low _ (omega arith)) (λ _.
      when Other (eqb a 126) (λ _. low _ (omega arith)) (λ _.
      when Other (eqb a 38) (λ _. low _ (omega arith)) (λ _.
      when Other (eqb a 124) (λ _. low _ (omega arith)) (λ _.
      when Other (eqb a 58) (λ _. low _ (omega arith)) (λ _.
      when Other (eqb a 47) (λ _. low _ (omega arith)) (λ _.
      when Other (eqb a 35) (λ _. low _ (omega arith)) (λ _.
      when Other (eqb a 61) (λ _. low _ (omega arith)) (λ _. high 25 (omega arith))))))))))))))

  sign-other : OtherSign (sign_of a b c)
  unfolding sign_of
  sign-other =
      when OtherSign (eqb a 45) (λ _. two-other 62 10 25 (low 10 (omega arith)) (high 25 (omega arith))) (λ _.
      when OtherSign (eqb a 33) (λ _. two-other 61 19 25 (low 19 (omega arith)) (high 25 (omega arith))) (λ _.
      when OtherSign (eqb a 62) (λ _. two-other 61 20 21 (low 20 (omega arith)) (low 21 (omega arith))) (λ _.
      when OtherSign (eqb a 60) (λ _. less_other) (λ _. single-other))))

-- the value of a token
pub record Valued (t : Token) : Type 0 where
  pub variable-is : t.kind ≡ 22 → Variable t.value
  pub set_is : t.kind ≡ 23 → SetLetter t.value
  pub number_is : t.kind ≡ 24 → t.value ≤ 65

valueless : (k v n : ℕ) → Other k → Valued record { kind = k; value = v; next = n }
valueless k v n o = record {
  variable-is = λ e. absurd (o.no-variable e);
  set_is = λ e. absurd (o.no-set e);
  number_is = λ e. absurd (o.no_number e);
}

run-valued : (s : List ℕ) (a i : ℕ) → Valued (run_token a i (run_at s i 0))
unfolding run_token run_at
run-valued s a i =
    when Valued (eqb a 48 && ltb (i + 1) (run_at s i 0).end) (λ _. valueless 25 0 _ (high 25 (omega arith)))
    (λ _. record { variable-is = λ e. absurd (omega arith); set_is = λ e. absurd (omega arith); number_is = λ e. omega arith })

here-valued : (s : List ℕ) (i : ℕ) → Valued (here_at s i)
unfolding here_at Variable SetLetter
here-valued s i =
    let a = get_or s i 0 in
    when Valued (leb (length s) i) (λ _. valueless 0 0 i (low 0 (omega arith))) (λ _.
    when Valued (is_variable a) (λ h. record { variable-is = λ e. between-range 97 a 122 h; set_is = λ e. absurd (omega arith); number_is = λ e. absurd (omega arith) }) (λ _.
    when Valued (is_set a) (λ h. record { variable-is = λ e. absurd (omega arith); set_is = λ e. between-range 65 a 90 h; number_is = λ e. absurd (omega arith) }) (λ _.
    when Valued (is_digit a) (λ _. run-valued s a i) (λ _.
    valueless _ 0 _ (sign-other a (get_or s (i + 1) 0) (get_or s (i + 2) 0))))))

pub token-valued : (s : List ℕ) (i : ℕ) → Valued (token_at s i)
unfolding token_at
token-valued s i = here-valued s (after_blanks s i)

-- what is found has letters
abbrev Good : Part → Type 0
Good missing = Unit {0}
Good (found a j) = Lettered a

good-test : (b : Bool) (F G : ℕ → Part) (i : ℕ) → (b ≡ true → Good (F i)) → (b ≡ false → Good (G i)) → Good (test b F G i)
good-test true F G i f g = f refl
good-test false F G i f g = g refl

good-follow : {A : Type 0} (o : Option A) (F : A → ℕ → Part) (G : ℕ → Part) (i : ℕ) → ((a : A) → Good (F a i)) → Good (G i) → Good (follow o F G i)
good-follow none F G i f g = g
good-follow (some a) F G i f g = f a

good-map : (h : Tree → Tree) (P : Part) → ((a : Tree) → Lettered a → Lettered (h a)) → Good P → Good (map_part h P)
good-map h missing f g = tt
good-map h (found a j) f g = f a g

good-neg : (P : Part) → Good P → Good (map_part neg P)
unfolding Lettered
good-neg P g = good-map neg P (λ a h. h) g

module _ (s : List ℕ) where
  good-joined : (sig : ℕ → Option Join) (rest : ℕ → Part) (P : Part) → ((k : ℕ) → Good (rest k)) → Good P → Good (joined s sig rest P)
  unfolding Lettered
  good-joined sig rest missing f g = tt
  good-joined sig rest (found a i) f g =
      good-follow (sig (kind_at s i)) (λ j k. map_part (join j a) (rest k)) (λ k. found a i) (next_at s i)
      (λ j. good-map (join j a) (rest (next_at s i)) (λ b h. (g, h)) (f (next_at s i))) g

  good-closed : (P : Part) → Good P → Good (closed s P)
  unfolding Lettered
  good-closed missing g = tt
  good-closed (found a i) g = good-test (eqb (kind_at s i) 4) (found (par a)) nothing (next_at s i) (λ _. g) (λ _. tt)

  good-operand : (wanted : ℕ) (make : ℕ → Test) (i : ℕ) → (kind_at s i ≡ wanted → LetteredTest (make (value_at s i))) → Good (operand s wanted make i)
  unfolding Lettered literal_of
  good-operand wanted make i f =
      good-test (eqb (kind_at s i) wanted) (found (leaf_of (make (value_at s i)))) nothing (next_at s i) (λ e. f (eqb-true _ _ e)) (λ _. tt)

  good-variable : (v i : ℕ) → Variable v → Good (variable_literal s v i)
  unfolding LetteredTest
  good-variable v i l =
      good-test (eqb (kind_at s i) 13) (operand s 23 (isin v)) _ (next_at s i) (λ _. good-operand 23 (isin v) _ (λ e. (l, (token-valued s _).set_is e))) (λ _.
      good-test (eqb (kind_at s i) 14) (operand s 23 (notin v)) _ (next_at s i) (λ _. good-operand 23 (notin v) _ (λ e. (l, (token-valued s _).set_is e))) (λ _.
      good-follow (relation_sign (kind_at s i)) (λ r. operand s 22 (port r v)) nothing (next_at s i)
      (λ r. good-operand 22 (port r v) _ (λ e. (l, (token-valued s _).variable-is e))) tt))

  good-size : (i : ℕ) → Good (size_literal s i)
  unfolding LetteredTest
  good-size i =
      good-test (eqb (kind_at s i) 23) (compared s (value_at s i)) nothing (next_at s i)
      (λ e. good-follow (relation_sign (kind_at s (next_at s i))) (λ r. operand s 24 (size r (value_at s i))) nothing (next_at s (next_at s i))
      (λ r. good-operand 24 (size r (value_at s i)) _ (λ d. ((token-valued s i).set_is (eqb-true _ _ e), (token-valued s _).number_is d))) tt)
      (λ _. tt)

  good-bound : (rest : ℕ → Part) (q : Quantifier) (i : ℕ) → ((k : ℕ) → Good (rest k)) → Good (bound s rest q i)
  unfolding Lettered
  good-bound rest q i f =
      good-test (eqb (kind_at s i) 22) (λ j. map_part (bind q (value_at s i)) (rest j)) nothing (next_at s i)
      (λ e. good-map (bind q (value_at s i)) (rest (next_at s i)) (λ a h. ((token-valued s i).variable-is (eqb-true _ _ e), h)) (f (next_at s i))) (λ _. tt)

  good-parse : (f : ℕ) (l : Level) (i : ℕ) → Good (parse_at f l s i)
  unfolding parse_at
  good-parse zero l i = tt
  good-parse (suc f) unit i =
      good-test (eqb (kind_at s i) 3) (λ j. closed s (parse_at f formula s j)) _ (next_at s i) (λ _. good-closed (parse_at f formula s (next_at s i)) (good-parse f formula (next_at s i))) (λ _.
      good-test (eqb (kind_at s i) 7) (λ j. map_part neg (parse_at f unit s j)) _ (next_at s i) (λ _. good-neg (parse_at f unit s (next_at s i)) (good-parse f unit (next_at s i))) (λ _.
      good-follow (quantifier_sign (kind_at s i)) (bound s (parse_at f unit s)) _ (next_at s i) (λ q. good-bound (parse_at f unit s) q (next_at s i) (λ k. good-parse f unit k))
      (good-test (eqb (kind_at s i) 22) (variable_literal s (value_at s i)) _ (next_at s i) (λ e. good-variable (value_at s i) (next_at s i) ((token-valued s i).variable-is (eqb-true _ _ e))) (λ _.
      good-test (eqb (kind_at s i) 15) (size_literal s) nothing (next_at s i) (λ _. good-size (next_at s i)) (λ _. tt)))))
  good-parse (suc f) conjunction i = good-joined (join_sign conjunction) (parse_at f conjunction s) (parse_at f unit s i) (λ k. good-parse f conjunction k) (good-parse f unit i)
  good-parse (suc f) disjunction i = good-joined (join_sign disjunction) (parse_at f disjunction s) (parse_at f conjunction s i) (λ k. good-parse f disjunction k) (good-parse f conjunction i)
  good-parse (suc f) formula i = good-joined (join_sign formula) (parse_at f disjunction s) (parse_at f disjunction s i) (λ k. good-parse f disjunction k) (good-parse f disjunction i)

-- a text that is read: its letters are letters, and it has a set
abbrev GoodText : Result → Type 0
GoodText failed = Unit {0}
GoodText (read sets a) = Lettered a × (1 ≤ length sets)

good-choice : (b : Bool) (F G : ℕ → Result) (i : ℕ) → (b ≡ true → GoodText (F i)) → (b ≡ false → GoodText (G i)) → GoodText (test b F G i)
good-choice true F G i f g = f refl
good-choice false F G i f g = g refl

good-ended : (s : List ℕ) (sets : List Declared) (P : Part) → 1 ≤ length sets → Good P → GoodText (ended s sets P)
good-ended s sets missing l g = tt
good-ended s sets (found a i) l g = when GoodText (eqb (kind_at s i) 0) (λ _. (g, l)) (λ _. tt)

good-declared : (s : List ℕ) (sets : List Declared) (i : ℕ) → GoodText (declared s sets i)
good-declared s [] i = tt
good-declared s (x ∷ xs) i =
    good-choice (eqb (kind_at s i) 2) (λ j. ended s (x ∷ xs) (parse_at (4 * length s + 4) formula s j)) (λ j. failed) (next_at s i)
    (λ _. good-ended s (x ∷ xs) (parse_at (4 * length s + 4) formula s (next_at s i)) (omega arith) (good-parse s (4 * length s + 4) formula (next_at s i))) (λ _. tt)

good-parsed : (s : List ℕ) → GoodText (parsed s)
unfolding parsed
good-parsed s =
    good-choice (eqb (kind_at s 0) 1) (λ i. declared s (sets_at (length s) s i) (after_sets (length s) s i)) (λ i. failed) (next_at s 0)
    (λ _. good-declared s (sets_at (length s) s (next_at s 0)) (after_sets (length s) s (next_at s 0))) (λ _. tt)

-- The trees that the parser finds are lettered, so that the table that keeps them tells them.
pub parsed-lettered : (s : List ℕ) (sets : List Declared) (a : Tree) → parsed s ≡ read sets a → Lettered a
parsed-lettered s sets a e = (rw e at (good-parsed s)).0

pub parsed-sets : (s : List ℕ) (sets : List Declared) (a : Tree) → parsed s ≡ read sets a → 1 ≤ length sets
parsed-sets s sets a e = (rw e at (good-parsed s)).1
