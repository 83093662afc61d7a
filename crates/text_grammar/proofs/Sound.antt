-- What the parser finds, the grammar derives. Assumes nothing.
use mathlib.Core.Path.{◌≡◌, refl, sym, ap, ◌∙◌}
use mathlib.Core.List.{List, [], ◌∷◌, ◌++◌}
use mathlib.Core.Bool.{Bool, true, false}
use mathlib.Core.Option.{Option, none, some}
use Prim.Native.Nat.{ℕ, zero, suc, ◌≤◌}
use native.Mathlib.Omega.{arith}
use lib.Dec.{eqb}
use borrow.Author.Tests.{eqb-true, eqb-false}
use Rattle.logic.specs.Formula.{Relation, Test, isin, notin, port, size, relation_of}
use Rattle.text_tree.specs.Tree.{Quantifier, Join, conj, disj, Tree, neg, par, bind, join, Declared, leaf_of}
use Rattle.text_grammar.specs.Grammar.{Symbol, Level, unit, conjunction, disjunction, formula, Tests, member, no_member, ports, sizes, Derives, one-disjunction, arrow, one-conjunction, or, one_unit, and, negation, quantified, bracketed, literal, Sets, one, more, kind_at, next_at, value_at, symbol_at}
use Rattle.text_grammar.specs.Parser.{Part, missing, found, test, follow, nothing, map_part, quantifier_of, join_sign, quantifier_sign, relation_sign, joined, closed, bound, operand, variable_literal, compared, size_literal, parse_at, set_at, sets_at, after_sets}
use Rattle.text_grammar.proofs.Signs.{of-stands, join-sign-some, sign-arrow, quantifier-kind, relation-kind}
use Rattle.text_grammar.proofs.Positions.{Tokens, nil, cons, append}
use Rattle.text_grammar.proofs.Declaration.{sets-step, after-step, sets-stop}

-- where what a `test`, `follow`, `map_part`, `joined` or `operand` gives came from
pub on_test : {A X : Type 0} (b : Bool) (f g : ℕ → A) (i : ℕ) (r : A) → test b f g i ≡ r → (b ≡ true → f i ≡ r → X) → (b ≡ false → g i ≡ r → X) → X
on_test true f g i r e p q = p refl e
on_test false f g i r e p q = q refl e

on-follow : {A X : Type 0} (o : Option A) (f : A → ℕ → Part) (g : ℕ → Part) (i : ℕ) (r : Part) → follow o f g i ≡ r → ((a : A) → o ≡ some a → f a i ≡ r → X) → (g i ≡ r → X) → X
on-follow none f g i r e p q = q e
on-follow (some a) f g i r e p q = p a refl e

no_way : {A : Type 0} {a : Tree} {j : ℕ} → missing ≡ found a j → A
no_way e = let z : ◌≡◌ {A = ℕ} 0 1 = cc in absurd (omega arith)

record Mapped (mk : Tree → Tree) (r : Part) (a : Tree) (j : ℕ) : Type 0 where
  sub : Tree
  was : r ≡ found sub j
  made : mk sub ≡ a

mapped : (mk : Tree → Tree) (r : Part) (a : Tree) (j : ℕ) → map_part mk r ≡ found a j → Mapped mk r a j
mapped mk missing a j e = no_way e
mapped mk (found b k) a j e = record { sub = b; was = ap (found b) (cc); made = cc }

data Joined (s : List ℕ) (sign : ℕ → Option Join) (rest : ℕ → Part) (r : Part) (a : Tree) (j : ℕ) : Type 0 where
  alone : r ≡ found a j → Joined s sign rest r a j
  both : (q : Join) (b c : Tree) (k : ℕ) → r ≡ found b k → sign (kind_at s k) ≡ some q → rest (next_at s k) ≡ found c j → join q b c ≡ a → Joined s sign rest r a j

of-joined : (s : List ℕ) (sign : ℕ → Option Join) (rest : ℕ → Part) (r : Part) (a : Tree) (j : ℕ) → joined s sign rest r ≡ found a j → Joined s sign rest r a j
of-joined s sign rest missing a j e = no_way e
of-joined s sign rest (found b k) a j e =
    on-follow (sign (kind_at s k)) (λ q i. map_part (join q b) (rest i)) (λ i. found b k) (next_at s k) (found a j) e
    (λ q p x. let m = mapped (join q b) (rest (next_at s k)) a j x in both q b m.sub k refl p m.was m.made)
    (λ x. alone x)

record Operand (s : List ℕ) (wanted : ℕ) (make : ℕ → Test) (i : ℕ) (a : Tree) (j : ℕ) : Type 0 where
  kind : kind_at s i ≡ wanted
  made : leaf_of (make (value_at s i)) ≡ a
  ends : next_at s i ≡ j

of-operand : (s : List ℕ) (wanted : ℕ) (make : ℕ → Test) (i : ℕ) (a : Tree) (j : ℕ) → operand s wanted make i ≡ found a j → Operand s wanted make i a j
of-operand s wanted make i a j e =
    on_test (eqb (kind_at s i) wanted) (found (leaf_of (make (value_at s i)))) nothing (next_at s i) (found a j) e
    (λ t x. record { kind = eqb-true _ _ t; made = cc; ends = cc }) (λ t x. no_way x)

-- the tokens from i to j are derived as the tree a
pub record Spelt (s : List ℕ) (l : Level) (i : ℕ) (a : Tree) (j : ℕ) : Type 0 where
  pub symbols : List Symbol
  pub are : Tokens s i symbols j
  pub derives : Derives l symbols a

-- the grammar's rule of a level that joins parts
record Rule (l m k : Level) : Type 0 where
  lone : {xs : List Symbol} {a : Tree} → Derives m xs a → Derives l xs a
  pair : (t : Symbol) (q : Join) {xs ys : List Symbol} {a b : Tree} → Derives m xs a → join_sign l t.kind ≡ some q → Derives k ys b → Derives l (xs ++ (t ∷ ys)) (join q a b)

rule-conjunction : Rule conjunction unit conjunction
rule-conjunction = record {
  lone = one_unit;
  pair = λ t q d e d'. let w = of-stands 8 8 (λ _. conj) t.kind q e in let k : t.kind ≡ 8 = omega (arith, w.low, w.high) in rw (← w.is) (and t d k d');
}

rule-disjunction : Rule disjunction conjunction disjunction
rule-disjunction = record {
  lone = one-conjunction;
  pair = λ t q d e d'. let w = of-stands 9 9 (λ _. disj) t.kind q e in let k : t.kind ≡ 9 = omega (arith, w.low, w.high) in rw (← w.is) (or t d k d');
}

rule-formula : Rule formula disjunction disjunction
rule-formula = record { lone = one-disjunction; pair = λ t q d e d'. arrow t d (sign-arrow t.kind q e) d' }

-- the last token of a literal
last-token : (s : List ℕ) (i : ℕ) → 1 ≤ kind_at s i → Tokens s i (symbol_at s i ∷ []) (next_at s i)
last-token s i k = cons s i [] (next_at s i) k (nil s (next_at s i))

relation-token : (k : ℕ) (r : Relation) → relation_sign k ≡ some r → 1 ≤ k
relation-token k r p = let w = of-stands 16 21 relation_of k r p in omega (arith, w.low)

module _ (s : List ℕ) (i : ℕ) (a : Tree) (j : ℕ) where
  -- a literal of three tokens
  three : (wanted : ℕ) (make : ℕ → Test) → 1 ≤ kind_at s i → 1 ≤ kind_at s (next_at s i) → 1 ≤ wanted → Operand s wanted make (next_at s (next_at s i)) a j
      → Tests (symbol_at s i ∷ symbol_at s (next_at s i) ∷ symbol_at s (next_at s (next_at s i)) ∷ []) (make (value_at s (next_at s (next_at s i)))) → Spelt s unit i a j
  three wanted make p q r w d =
      let k = next_at s i in
      let m = next_at s k in
      let h : 1 ≤ kind_at s m = omega (arith, w.kind) in
      rw (← w.made, ← w.ends) (record { symbols = symbol_at s i ∷ symbol_at s k ∷ symbol_at s m ∷ []; are = cons s i _ _ p (cons s k _ _ q (last-token s m h)); derives = literal d })

  variable-sound : kind_at s i ≡ 22 → variable_literal s (value_at s i) (next_at s i) ≡ found a j → Spelt s unit i a j
  variable-sound y e =
      let v = value_at s i in
      let k = next_at s i in
      let ports-only : ℕ → Part = follow (relation_sign (kind_at s k)) (λ r. operand s 22 (port r v)) nothing in
      let slash-on : ℕ → Part = test (eqb (kind_at s k) 14) (operand s 23 (notin v)) ports-only in
      on_test (eqb (kind_at s k) 13) (operand s 23 (isin v)) slash-on (next_at s k) (found a j) e
      (λ t x.
      let c = eqb-true (kind_at s k) 13 t in
      let w = of-operand s 23 (isin v) (next_at s k) a j x in
      three 23 (isin v) (omega arith) (omega arith) (omega arith) w (member (symbol_at s i) (symbol_at s k) (symbol_at s (next_at s k)) y c w.kind))
      (λ t x. on_test (eqb (kind_at s k) 14) (operand s 23 (notin v)) ports-only (next_at s k) (found a j) x
      (λ t x.
      let c = eqb-true (kind_at s k) 14 t in
      let w = of-operand s 23 (notin v) (next_at s k) a j x in
      three 23 (notin v) (omega arith) (omega arith) (omega arith) w (no_member (symbol_at s i) (symbol_at s k) (symbol_at s (next_at s k)) y c w.kind))
      (λ t x. on-follow (relation_sign (kind_at s k)) (λ r. operand s 22 (port r v)) nothing (next_at s k) (found a j) x
      (λ r p x.
      let c = relation-kind (kind_at s k) r p in
      let w = of-operand s 22 (port r v) (next_at s k) a j x in
      three 22 (port r v) (omega arith) (relation-token (kind_at s k) r p) (omega arith) w (ports (symbol_at s i) (symbol_at s k) (symbol_at s (next_at s k)) r y c w.kind))
      (λ x. no_way x)))

  compared-sound : kind_at s i ≡ 15 → kind_at s (next_at s i) ≡ 23 → compared s (value_at s (next_at s i)) (next_at s (next_at s i)) ≡ found a j → Spelt s unit i a j
  compared-sound y z e =
      let n = next_at s i in
      let k = next_at s n in
      let m = value_at s n in
      on-follow (relation_sign (kind_at s k)) (λ r. operand s 24 (size r m)) nothing (next_at s k) (found a j) e
      (λ r p x.
      let w = of-operand s 24 (size r m) (next_at s k) a j x in
      let h : 1 ≤ kind_at s (next_at s k) = omega (arith, w.kind) in
      rw (← w.made, ← w.ends) (record {
        symbols = symbol_at s i ∷ symbol_at s n ∷ symbol_at s k ∷ symbol_at s (next_at s k) ∷ [];
        are = cons s i _ _ (omega arith) (cons s n _ _ (omega arith) (cons s k _ _ (relation-token (kind_at s k) r p) (last-token s (next_at s k) h)));
        derives = literal (sizes (symbol_at s i) (symbol_at s n) (symbol_at s k) (symbol_at s (next_at s k)) r y z (relation-kind (kind_at s k) r p) w.kind);
      }))
      (λ x. no_way x)

  size-sound : kind_at s i ≡ 15 → size_literal s (next_at s i) ≡ found a j → Spelt s unit i a j
  size-sound y e =
      let n = next_at s i in
      on_test (eqb (kind_at s n) 23) (compared s (value_at s n)) nothing (next_at s n) (found a j) e (λ t x. compared-sound y (eqb-true _ _ t) x) (λ t x. no_way x)

abbrev Sound : ℕ → List ℕ → Type 0
Sound f s = (l : Level) (i : ℕ) (a : Tree) (j : ℕ) → parse_at f l s i ≡ found a j → Spelt s l i a j

-- one level, where the parser with fewer nested calls is sound
module _ (f : ℕ) (s : List ℕ) (S : Sound f s) (i : ℕ) (a : Tree) (j : ℕ) where
  joined-sound : (l m k : Level) → Rule l m k → Joined s (join_sign l) (parse_at f k s) (parse_at f m s i) a j → Spelt s l i a j
  joined-sound l m k R (alone x) = let w = S m i a j x in record { symbols = w.symbols; are = w.are; derives = R.lone w.derives }
  joined-sound l m k R (both q b c n x y z e) =
      let v = S m i b n x in
      let w = S k (next_at s n) c j z in
      rw (← e) (record {
        symbols = v.symbols ++ (symbol_at s n ∷ w.symbols);
        are = append s i n v.symbols (symbol_at s n ∷ w.symbols) j v.are (cons s n w.symbols j (join-sign-some l _ q y) w.are);
        derives = R.pair (symbol_at s n) q v.derives y w.derives;
      })

  closed-sound : kind_at s i ≡ 3 → (r : Part) → parse_at f formula s (next_at s i) ≡ r → closed s r ≡ found a j → Spelt s unit i a j
  closed-sound y missing p e = no_way e
  closed-sound y (found b k) p e =
      on_test (eqb (kind_at s k) 4) (found (par b)) nothing (next_at s k) (found a j) e
      (λ t x.
      let made : par b ≡ a = cc in
      let ends : next_at s k ≡ j = cc in
      let w = S formula (next_at s i) b k p in
      let z = eqb-true (kind_at s k) 4 t in
      rw (← made, ← ends) (record {
        symbols = symbol_at s i ∷ (w.symbols ++ (symbol_at s k ∷ []));
        are = cons s i _ _ (omega arith) (append s (next_at s i) k w.symbols (symbol_at s k ∷ []) (next_at s k) w.are (last-token s k (omega arith)));
        derives = bracketed (symbol_at s i) (symbol_at s k) y w.derives z;
      }))
      (λ t x. no_way x)

  negation-sound : kind_at s i ≡ 7 → map_part neg (parse_at f unit s (next_at s i)) ≡ found a j → Spelt s unit i a j
  negation-sound y e =
      let m = mapped neg (parse_at f unit s (next_at s i)) a j e in
      let w = S unit (next_at s i) m.sub j m.was in
      rw (← m.made) (record { symbols = symbol_at s i ∷ w.symbols; are = cons s i _ _ (omega arith) w.are; derives = negation (symbol_at s i) y w.derives })

  bound-sound : (q : Quantifier) → quantifier_sign (kind_at s i) ≡ some q → bound s (parse_at f unit s) q (next_at s i) ≡ found a j → Spelt s unit i a j
  bound-sound q y e =
      let k = next_at s i in
      on_test (eqb (kind_at s k) 22) (λ n. map_part (bind q (value_at s k)) (parse_at f unit s n)) nothing (next_at s k) (found a j) e
      (λ t x.
      let m = mapped (bind q (value_at s k)) (parse_at f unit s (next_at s k)) a j x in
      let w = S unit (next_at s k) m.sub j m.was in
      let v = eqb-true (kind_at s k) 22 t in
      let h = of-stands 5 6 quantifier_of (kind_at s i) q y in
      rw (← m.made) (record {
        symbols = symbol_at s i ∷ symbol_at s k ∷ w.symbols;
        are = cons s i _ _ (omega (arith, h.low)) (cons s k _ _ (omega arith) w.are);
        derives = quantified (symbol_at s i) (symbol_at s k) (quantifier-kind (kind_at s i) q y) v w.derives;
      }))
      (λ t x. no_way x)

  unit-sound : parse_at (suc f) unit s i ≡ found a j → Spelt s unit i a j
  unfolding parse_at
  unit-sound e =
      let k = kind_at s i in
      let n = next_at s i in
      let hash-on : ℕ → Part = test (eqb k 15) (size_literal s) nothing in
      let variable-on : ℕ → Part = test (eqb k 22) (variable_literal s (value_at s i)) hash-on in
      let quantifier-on : ℕ → Part = follow (quantifier_sign k) (bound s (parse_at f unit s)) variable-on in
      let tilde-on : ℕ → Part = test (eqb k 7) (λ j. map_part neg (parse_at f unit s j)) quantifier-on in
      on_test (eqb k 3) (λ j. closed s (parse_at f formula s j)) tilde-on n (found a j) e
      (λ t x. closed-sound (eqb-true _ _ t) (parse_at f formula s n) refl x)
      (λ t x. on_test (eqb k 7) (λ j. map_part neg (parse_at f unit s j)) quantifier-on n (found a j) x
      (λ t x. negation-sound (eqb-true _ _ t) x)
      (λ t x. on-follow (quantifier_sign k) (bound s (parse_at f unit s)) variable-on n (found a j) x
      (λ q p x. bound-sound q p x)
      (λ x. on_test (eqb k 22) (variable_literal s (value_at s i)) hash-on n (found a j) x
      (λ t x. variable-sound s i a j (eqb-true _ _ t) x)
      (λ t x. on_test (eqb k 15) (size_literal s) nothing n (found a j) x
      (λ t x. size-sound s i a j (eqb-true _ _ t) x)
      (λ t x. no_way x)))))

pub sound : (f : ℕ) (s : List ℕ) (l : Level) (i : ℕ) (a : Tree) (j : ℕ) → parse_at f l s i ≡ found a j → Spelt s l i a j
unfolding parse_at
sound zero s l i a j e = no_way e
sound (suc f) s unit i a j e = unit-sound f s (sound f s) i a j e
sound (suc f) s conjunction i a j e = joined-sound f s (sound f s) i a j conjunction unit conjunction rule-conjunction (of-joined _ _ _ _ _ _ e)
sound (suc f) s disjunction i a j e = joined-sound f s (sound f s) i a j disjunction conjunction disjunction rule-disjunction (of-joined _ _ _ _ _ _ e)
sound (suc f) s formula i a j e = joined-sound f s (sound f s) i a j formula disjunction disjunction rule-formula (of-joined _ _ _ _ _ _ e)

-- declared sets

pub record SpeltSets (s : List ℕ) (i : ℕ) (sets : List Declared) (j : ℕ) : Type 0 where
  pub symbols : List Symbol
  pub are : Tokens s i symbols j
  pub spell : Sets symbols sets

after_none : (f : ℕ) (s : List ℕ) (i : ℕ) → sets_at f s i ≡ [] → after_sets f s i ≡ i
unfolding sets_at after_sets
after_none zero s i e = refl
after_none (suc f) s i e = go (eqb (kind_at s i) 23) e
  where
    go : (b : Bool) → test b (λ j. set_at s i ∷ sets_at f s j) (λ j. []) (next_at s i) ≡ [] → test b (after_sets f s) (λ j. i) (next_at s i) ≡ i
    go true q = let z : ◌≡◌ {A = ℕ} 0 1 = cc in absurd (omega arith)
    go false q = refl

no-sets : {A : Type 0} {x : Declared} {xs : List Declared} → [] ≡ x ∷ xs → A
no-sets e = let z : ◌≡◌ {A = ℕ} 0 1 = cc in absurd (omega arith)

pub sets-sound : (f : ℕ) (s : List ℕ) (i : ℕ) (x : Declared) (xs : List Declared) → sets_at f s i ≡ x ∷ xs → SpeltSets s i (x ∷ xs) (after_sets f s i)
unfolding sets_at
sets-sound zero s i x xs e = no-sets e
sets-sound (suc f) s i x xs e = go (eqb (kind_at s i) 23) refl (sets_at f s (next_at s i)) refl (λ y ys r. sets-sound f s (next_at s i) y ys r)
  where
    go : (b : Bool) → eqb (kind_at s i) 23 ≡ b → (l : List Declared) → sets_at f s (next_at s i) ≡ l
        → ((y : Declared) (ys : List Declared) → sets_at f s (next_at s i) ≡ y ∷ ys → SpeltSets s (next_at s i) (y ∷ ys) (after_sets f s (next_at s i)))
        → SpeltSets s i (x ∷ xs) (after_sets (suc f) s i)
    go false p l q r = no-sets (sym (sets-stop s i (suc f) (eqb-false _ _ p)) ∙ e)
    go true p [] q r =
        let k = eqb-true (kind_at s i) 23 p in
        let m : x ∷ xs ≡ set_at s i ∷ [] = sym e ∙ sets-step s i f k ∙ ap (λ (l : List Declared). set_at s i ∷ l) q in
        rw (m, after-step s i f k, after_none f s (next_at s i) q) (record { symbols = symbol_at s i ∷ []; are = last-token s i (omega arith); spell = one (symbol_at s i) k })
    go true p (y ∷ ys) q r =
        let k = eqb-true (kind_at s i) 23 p in
        let m : x ∷ xs ≡ set_at s i ∷ (y ∷ ys) = sym e ∙ sets-step s i f k ∙ ap (λ (l : List Declared). set_at s i ∷ l) q in
        let w = r y ys q in
        rw (m, after-step s i f k) (record { symbols = symbol_at s i ∷ w.symbols; are = cons s i w.symbols _ (omega arith) w.are; spell = more (symbol_at s i) k w.spell })
