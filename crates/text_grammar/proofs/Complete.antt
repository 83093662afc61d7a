-- What the grammar derives, the parser finds. Assumes nothing.
use mathlib.Core.Path.{◌≡◌, refl, sym, ap, ◌∙◌}
use mathlib.Core.List.{List, [], ◌∷◌, ◌++◌}
use mathlib.Core.Bool.{false}
use mathlib.Core.Option.{none, some}
use Prim.Native.Nat.{ℕ, zero, suc, ◌+◌, ◌*◌, ◌-◌, ◌≤◌, ◌<◌}
use native.Mathlib.Omega.{arith}
use lib.Dec.{eqb}
use lib.ListN.{length}
use borrow.Author.Tests.{eq-eqb, ne_eqb}
use Rattle.logic.specs.Formula.{Relation, Test, isin, notin, port, size, relation_number}
use Rattle.text_tree.specs.Tree.{Quantifier, forall, exists, Join, conj, disj, Tree, neg, par, bind, join, Declared, leaf_of}
use Rattle.text_grammar.specs.Grammar.{Symbol, Level, unit, conjunction, disjunction, formula, quantifier_kind, relation_kind, Arrow, to-right, to-left, both_ways, Tests, member, no_member, ports, sizes, Derives, one-disjunction, arrow, one-conjunction, or, one_unit, and, negation, quantified, bracketed, literal, Sets, one, more, kind_at, next_at, value_at}
use Rattle.text_grammar.specs.Parser.{Part, found, map_part, join_sign, quantifier_sign, closed, bound, operand, variable_literal, compared, size_literal, rank, parse_at, set_at, sets_at, after_sets}
use Rattle.text_grammar.proofs.Signs.{arrow-sign, quantifier-sign, relation-sign}
use Rattle.text_grammar.proofs.Readers.{Joins, joins-conjunction, joins-disjunction, joins-formula, step-one, step-more, unit-bracket, unit-tilde, unit-quantifier, unit-variable, unit-hash}
use Rattle.text_grammar.proofs.Declaration.{sets-step, after-step, sets-stop, after_stop, end-kind}
use Rattle.text_grammar.proofs.Positions.{Tokens, first, nothing_left, token-span, span, split}

-- what must not follow, so that the parser stops there
abbrev pub Follow : Level → ℕ → Type 0
Follow unit k = Unit {0}
Follow conjunction k = join_sign conjunction k ≡ none
Follow disjunction k = (join_sign conjunction k ≡ none) × (join_sign disjunction k ≡ none)
Follow formula k = (join_sign conjunction k ≡ none) × (join_sign disjunction k ≡ none) × (join_sign formula k ≡ none)

arrow-follows : {k : ℕ} {j : Join} → Arrow k j → Follow disjunction k
arrow-follows to-right = (refl, refl)
arrow-follows to-left = (refl, refl)
arrow-follows both_ways = (refl, refl)

quantifier-apart : (q : Quantifier) → (eqb (quantifier_kind q) 3 ≡ false) × (eqb (quantifier_kind q) 7 ≡ false)
unfolding quantifier_kind
quantifier-apart forall = (refl, refl)
quantifier-apart exists = (refl, refl)

relation-apart : (r : Relation) → (eqb (relation_kind r) 13 ≡ false) × (eqb (relation_kind r) 14 ≡ false)
unfolding relation_kind
relation-apart r = (ne_eqb (16 + relation_number r) 13 (λ e. omega arith), ne_eqb (16 + relation_number r) 14 (λ e. omega arith))

-- what the parser with enough nested calls finds at i
abbrev Finds : List ℕ → Level → ℕ → Tree → ℕ → Type 0
Finds s l i a j = (f : ℕ) → 4 * (length s - i) + rank l ≤ f → parse_at f l s i ≡ found a j

module _ (s : List ℕ) (l m k : Level) (J : Joins l m k) (i : ℕ) where
  lone : (a : Tree) (j : ℕ) → Finds s m i a j → join_sign l (kind_at s j) ≡ none → Finds s l i a j
  lone a j F z zero h = absurd (omega (arith, J.below))
  lone a j F z (suc g) h = step-one l m k J s s 0 0 0 g i j a (F g (omega (arith, J.below))) z

  pair : (q : Join) (a b : Tree) (n j : ℕ) → Finds s m i a n → i ≤ n → n < next_at s n → next_at s n ≤ length s → join_sign l (kind_at s n) ≡ some q → Finds s k (next_at s n) b j → Finds s l i (join q a b) j
  pair q a b n j F from on within z G zero h = absurd (omega (arith, J.below))
  pair q a b n j F from on within z G (suc g) h =
      step-more l m k J s s 0 0 0 g i n j a b q (F g (omega (arith, J.below))) z (G g (omega (arith, J.above, J.below)))

-- literals

operand-found : (s : List ℕ) (wanted : ℕ) (make : ℕ → Test) (t : Symbol) (i j : ℕ) → t.kind ≡ wanted → i ≤ length s → Tokens s i (t ∷ []) j → operand s wanted make i ≡ found (leaf_of (make t.value)) j
operand-found s wanted make t i j y h T =
    let w = first s i t [] j T in
    rw (eq-eqb _ _ (w.kind ∙ y), w.value, nothing_left s (next_at s i) j w.rest)

module _ (s : List ℕ) (v : ℕ) (i : ℕ) where
  colon-found : kind_at s i ≡ 13 → variable_literal s v i ≡ operand s 23 (isin v) (next_at s i)
  colon-found e = rw e

  slash-found : kind_at s i ≡ 14 → variable_literal s v i ≡ operand s 23 (notin v) (next_at s i)
  slash-found e = rw e

  relation-found : (r : Relation) → kind_at s i ≡ relation_kind r → variable_literal s v i ≡ operand s 22 (port r v) (next_at s i)
  relation-found r e = rw (e, (relation-apart r).0, (relation-apart r).1, relation-sign r)

  compared-found : (r : Relation) → kind_at s i ≡ relation_kind r → compared s v i ≡ operand s 24 (size r v) (next_at s i)
  compared-found r e = rw (e, relation-sign r)

size-found : (s : List ℕ) (i : ℕ) → kind_at s i ≡ 23 → size_literal s i ≡ compared s (value_at s i) (next_at s i)
size-found s i e = rw e

-- a unit by its first token
at_once : (s : List ℕ) (i : ℕ) (a : Tree) (j : ℕ) → ((g : ℕ) → parse_at (suc g) unit s i ≡ found a j) → Finds s unit i a j
at_once s i a j F zero h = absurd (omega arith)
at_once s i a j F (suc g) h = F g

wrapped : (s : List ℕ) (i n : ℕ) (mk : Tree → Tree) (a : Tree) (j : ℕ) → i < n → n ≤ length s → ((g : ℕ) → parse_at (suc g) unit s i ≡ map_part mk (parse_at g unit s n)) → Finds s unit n a j → Finds s unit i (mk a) j
wrapped s i n mk a j on within step F zero h = absurd (omega arith)
wrapped s i n mk a j on within step F (suc g) h = step g ∙ ap (map_part mk) (F g (omega arith))

closed-found : (s : List ℕ) (a : Tree) (i : ℕ) → kind_at s i ≡ 4 → closed s (found a i) ≡ found (par a) (next_at s i)
closed-found s a i e = rw e

bracket-found : (s : List ℕ) (i : ℕ) (a : Tree) (k : ℕ) → kind_at s i ≡ 3 → i < next_at s i → next_at s i ≤ length s → Finds s formula (next_at s i) a k → kind_at s k ≡ 4 → Finds s unit i (par a) (next_at s k)
bracket-found s i a k y on within F z zero h = absurd (omega arith)
bracket-found s i a k y on within F z (suc g) h = unit-bracket g s i y ∙ ap (closed s) (F g (omega arith)) ∙ closed-found s a k z

bound-found : (s : List ℕ) (u : ℕ → Part) (q : Quantifier) (i : ℕ) → kind_at s i ≡ 22 → bound s u q i ≡ map_part (bind q (value_at s i)) (u (next_at s i))
bound-found s u q i e = rw e

-- two parts with a sign between
paired : (s : List ℕ) (l m k : Level) → Joins l m k → (i j : ℕ) (xs ys : List Symbol) (t : Symbol) (q : Join) (a b : Tree) → i ≤ length s → Tokens s i (xs ++ (t ∷ ys)) j → join_sign l t.kind ≡ some q
    → ((n : ℕ) → Tokens s i xs n → kind_at s n ≡ t.kind → Finds s m i a n) → ((n : ℕ) → n ≤ length s → Tokens s n ys j → Finds s k n b j) → Finds s l i (join q a b) j
paired s l m k J i j xs ys t q a b h T y F G =
    let w = split s i xs (t ∷ ys) j T in
    let p = span s i xs w.mid h w.left in
    let u = first s w.mid t ys j w.right in
    let v = token-span s w.mid p.within u.token in
    pair s l m k J i q a b w.mid j (F w.mid w.left u.kind) p.on v.0 v.1 (ap (join_sign l) u.kind ∙ y) (G (next_at s w.mid) v.1 u.rest)

-- a literal that begins with a variable
three-found : (s : List ℕ) (i j : ℕ) (x t m : Symbol) (make : ℕ → ℕ → Test) (wanted : ℕ) → x.kind ≡ 22
    → (kind_at s (next_at s i) ≡ t.kind → (v : ℕ) → variable_literal s v (next_at s i) ≡ operand s wanted (make v) (next_at s (next_at s i)))
    → m.kind ≡ wanted → i ≤ length s → Tokens s i (x ∷ t ∷ m ∷ []) j → Finds s unit i (leaf_of (make x.value m.value)) j
three-found s i j x t m make wanted y step e h T =
    let u = first s i x (t ∷ m ∷ []) j T in
    let v = token-span s i h u.token in
    let u' = first s (next_at s i) t (m ∷ []) j u.rest in
    let v' = token-span s (next_at s i) v.1 u'.token in
    rw (← u.value)
    (at_once s i (leaf_of (make (value_at s i) m.value)) j (λ g. unit-variable g s i (u.kind ∙ y) ∙ step u'.kind (value_at s i)
    ∙ operand-found s wanted (make (value_at s i)) m (next_at s (next_at s i)) j e v'.1 u'.rest))

-- a literal, by its test
test-complete : {xs : List Symbol} {t : Test} → Tests xs t → (s : List ℕ) (i j : ℕ) → i ≤ length s → Tokens s i xs j → Finds s unit i (leaf_of t) j
test-complete (member x t m y z e) s i j h T = three-found s i j x t m isin 23 y (λ k v. colon-found s v (next_at s i) (k ∙ z)) e h T
test-complete (no_member x t m y z e) s i j h T = three-found s i j x t m notin 23 y (λ k v. slash-found s v (next_at s i) (k ∙ z)) e h T
test-complete (ports x t m r y z e) s i j h T = three-found s i j x t m (port r) 22 y (λ k v. relation-found s v (next_at s i) r (k ∙ z)) e h T
test-complete (sizes x m t c r y n z e) s i j h T =
    let u = first s i x (m ∷ t ∷ c ∷ []) j T in
    let v = token-span s i h u.token in
    let u' = first s (next_at s i) m (t ∷ c ∷ []) j u.rest in
    let v' = token-span s (next_at s i) v.1 u'.token in
    let u'' = first s (next_at s (next_at s i)) t (c ∷ []) j u'.rest in
    let v'' = token-span s (next_at s (next_at s i)) v'.1 u''.token in
    rw (← u'.value)
    (at_once s i _ j (λ g. unit-hash g s i (u.kind ∙ y) ∙ size-found s (next_at s i) (u'.kind ∙ n) ∙ compared-found s (value_at s (next_at s i)) (next_at s (next_at s i)) r (u''.kind ∙ z)
    ∙ operand-found s 24 (size r (value_at s (next_at s i))) c (next_at s (next_at s (next_at s i))) j e v''.1 u''.rest))

pub complete : {l : Level} {xs : List Symbol} {a : Tree} → Derives l xs a → (s : List ℕ) (i j : ℕ) → i ≤ length s → Tokens s i xs j → Follow l (kind_at s j) → Finds s l i a j
complete (one-disjunction {a = a} d) s i j h T F = lone s formula disjunction disjunction joins-formula i a j (complete d s i j h T (F.0, F.1)) F.2
complete (one-conjunction {a = a} d) s i j h T F = lone s disjunction conjunction disjunction joins-disjunction i a j (complete d s i j h T F.0) F.1
complete (one_unit {a = a} d) s i j h T F = lone s conjunction unit conjunction joins-conjunction i a j (complete d s i j h T tt) F
complete (arrow t {j = q} {xs = xs} {ys = ys} {a = a} {b = b} d A e) s i j h T F =
    paired s formula disjunction disjunction joins-formula i j xs ys t q a b h T (arrow-sign A)
    (λ n U k. complete d s i n h U (rw k (arrow-follows A))) (λ n p U. complete e s n j p U (F.0, F.1))
complete (or t {xs = xs} {ys = ys} {a = a} {b = b} d y e) s i j h T F =
    paired s disjunction conjunction disjunction joins-disjunction i j xs ys t disj a b h T (ap (join_sign disjunction) y)
    (λ n U k. complete d s i n h U (rw (k, y) refl)) (λ n p U. complete e s n j p U F)
complete (and t {xs = xs} {ys = ys} {a = a} {b = b} d y e) s i j h T F =
    paired s conjunction unit conjunction joins-conjunction i j xs ys t conj a b h T (ap (join_sign conjunction) y)
    (λ n U k. complete d s i n h U tt) (λ n p U. complete e s n j p U F)
complete (negation t {xs = xs} {a = a} y d) s i j h T F =
    let u = first s i t xs j T in
    let v = token-span s i h u.token in
    wrapped s i (next_at s i) neg a j v.0 v.1 (λ g. unit-tilde g s i (u.kind ∙ y)) (complete d s (next_at s i) j v.1 u.rest tt)
complete (quantified t x {q = q} {xs = xs} {a = a} y z d) s i j h T F =
    let u = first s i t (x ∷ xs) j T in
    let v = token-span s i h u.token in
    let u' = first s (next_at s i) x xs j u.rest in
    let v' = token-span s (next_at s i) v.1 u'.token in
    let k = u.kind ∙ y in
    rw (← u'.value)
    (wrapped s i (next_at s (next_at s i)) (bind q (value_at s (next_at s i))) a j (omega (arith, v.0, v'.0)) v'.1
    (λ g. unit-quantifier g s i (ap (λ (n : ℕ). eqb n 3) k ∙ (quantifier-apart q).0) (ap (λ (n : ℕ). eqb n 7) k ∙ (quantifier-apart q).1) q (ap quantifier_sign k ∙ quantifier-sign q)
    ∙ bound-found s (parse_at g unit s) q (next_at s i) (u'.kind ∙ z))
    (complete d s (next_at s (next_at s i)) j v'.1 u'.rest tt))
complete (bracketed t x {xs = xs} {a = a} y d z) s i j h T F =
    let u = first s i t (xs ++ (x ∷ [])) j T in
    let v = token-span s i h u.token in
    let w = split s (next_at s i) xs (x ∷ []) j u.rest in
    let u' = first s w.mid x [] j w.right in
    let k = u'.kind ∙ z in
    rw (← nothing_left s (next_at s w.mid) j u'.rest)
    (bracket-found s i a w.mid (u.kind ∙ y) v.0 v.1 (complete d s (next_at s i) w.mid v.1 w.left (rw k (refl, refl, refl))) k)
complete (literal d) s i j h T F = test-complete d s i j h T

-- declared sets
pub record FoundSets (s : List ℕ) (i : ℕ) (sets : List Declared) (j f : ℕ) : Type 0 where
  pub are : sets_at f s i ≡ sets
  pub after : after_sets f s i ≡ j

-- a set by its letter
abbrev named : ℕ → Declared
named v = record { letter = v }

pub sets-complete : {xs : List Symbol} {sets : List Declared} → Sets xs sets → (s : List ℕ) (i j f : ℕ) → i ≤ length s → Tokens s i xs j → (kind_at s j ≡ 23 → ⊥) → length s ≤ f + i → FoundSets s i sets j f
sets-complete (one t y) s i j zero h T z p = absurd (omega (arith, (first s i t [] j T).token, end-kind s i h (omega arith)))
sets-complete (more t {xs = xs} y d) s i j zero h T z p = absurd (omega (arith, (first s i t xs j T).token, end-kind s i h (omega arith)))
sets-complete (one t y) s i j (suc f) h T z p =
    let u = first s i t [] j T in
    let n = nothing_left s (next_at s i) j u.rest in
    let k = u.kind ∙ y in
    let q : kind_at s (next_at s i) ≡ 23 → ⊥ = λ e. z (ap (kind_at s) (sym n) ∙ e) in
    record {
      are = sets-step s i f k ∙ ap (λ (l : List Declared). set_at s i ∷ l) (sets-stop s (next_at s i) f q) ∙ ap (λ (v : ℕ). named v ∷ []) u.value;
      after = after-step s i f k ∙ after_stop s (next_at s i) f q ∙ n;
    }
sets-complete (more t {xs = xs} {sets = sets} y d) s i j (suc f) h T z p =
    let u = first s i t xs j T in
    let v = token-span s i h u.token in
    let k = u.kind ∙ y in
    let w = sets-complete d s (next_at s i) j f v.1 u.rest z (omega (arith, v.0)) in
    record {
      are = sets-step s i f k ∙ ap (λ (l : List Declared). set_at s i ∷ l) w.are ∙ ap (λ (v : ℕ). named v ∷ sets) u.value;
      after = after-step s i f k ∙ w.after;
    }
