-- The steps of the readers: what each return of the code tells of the parser. Assumes nothing.
use mathlib.Core.Path.{◌≡◌, refl, sym, ap, ◌∙◌}
use mathlib.Core.List.{List}
use mathlib.Core.Bool.{Bool, true, false, ◌||◌}
use mathlib.Core.Option.{none, some}
use Prim.Native.Nat.{ℕ, zero, suc, ◌+◌, ◌*◌, ◌-◌, ◌≤◌, ◌<◌}
use native.Mathlib.Omega.{arith}
use native.Mathlib.Nat.{le_refl}
use native.Mathlib.Numerals.{add-one}
use lib.ListN.{length, set}
use lib.Dec.{eqb, ltb}
use borrow.Author.Tests.{eq-eqb, ne_eqb}
use Rattle.logic.proofs.Lists.{or_left, or_right}
use Rattle.logic.specs.Formula.{isin, notin, port, size, literal_of, relation_of}
use Rattle.text_tree.specs.Tree.{Quantifier, Join, Tree, neg, par, bind, join, leaf_of, too_deep}
use Rattle.text_tree.specs.inner.Stored.{test_operator, test_payload, quantifier_operator, join_operator, of-leaf, of-neg, of-par, of-bind, of-join}
use Rattle.text_tokens.specs.declared.Token.{Token}
use Rattle.text_tokens.specs.Tokens.{between, token_at}
use Rattle.text_tokens.proofs.Laws.{Moves, token-moves, between-range}
use Rattle.std.specs.Prelude.{Option, Some, None}
use Rattle.text_grammar.specs.declared.Reading.{Reading}
use Rattle.text_grammar.specs.Grammar.{Level, unit, conjunction, disjunction, formula, kind_at, next_at, value_at}
use Rattle.text_grammar.specs.Parser.{Part, missing, found, map_part, join_sign, quantifier_of, quantifier_sign, relation_sign, joined, closed, bound, operand, variable_literal, compared, size_literal, rank, parse_at}
use Rattle.text_grammar.specs.inner.Contract.{ReaderRoom, Accepted, Outcome, Reads, Prefix, Prefixed, Form, Operands}
use Rattle.text_tree.proofs.Records.{pushed, stored-kept, before-record}
use Rattle.text_grammar.proofs.Signs.{stands, stands-not, join-sign-some, quantifier-operator, relation-is}

pub clash : {A : Type 0} (b : Bool) → b ≡ true → b ≡ false → A
clash b p q = let z : ◌≡◌ {A = ℕ} 0 1 = cc in absurd (omega arith)

-- tokens

module _ (s : List ℕ) (i : ℕ) (t : Token) (T : t ≡ token_at s i) where
  pub kind-of : (k : ℕ) → t.kind ≡ k → kind_at s i ≡ k
  kind-of k y = ap (λ (x : Token). x.kind) (sym T) ∙ y

  pub next_of : next_at s i ≡ t.next
  next_of = ap (λ (x : Token). x.next) (sym T)

  pub value_of : value_at s i ≡ t.value
  value_of = ap (λ (x : Token). x.value) (sym T)

  pub same_kind : kind_at s i ≡ t.kind
  same_kind = ap (λ (x : Token). x.kind) (sym T)

  pub not-kind : (k : ℕ) → (t.kind ≡ k → ⊥) → eqb (kind_at s i) k ≡ false
  not-kind k z = ne_eqb _ _ (λ e. z (sym same_kind ∙ e))

  pub moves : i ≤ length s → Moves s i t
  moves h = rw T (token-moves s i h)

  -- behind a token there is room for what it leaves
  pub token-room : (out : List ℕ) (n d : ℕ) → ReaderRoom s out i n d → ReaderRoom s out t.next n d
  token-room out n d room =
      let M = moves room.within in
      record { within = M.within; room = omega (arith, room.room, M.on); wide = room.wide; shallow = omega (arith, room.shallow, M.on) }

  pub token-within : (out : List ℕ) (n d : ℕ) → ReaderRoom s out i n d → t.next ≤ length s
  token-within out n d room = (moves room.within).within

-- outcomes

-- an outcome from a later position, and of an equal part
pub earlier : (p q : Part) (s before after : List ℕ) (i j n d : ℕ) (r : Option Reading) → p ≡ q → i ≤ j → Outcome q s before after j n d r → Outcome p s before after i n d r
earlier p q s before after i j n d None e h z = e ∙ z
earlier p q s before after i j n d (Some a) e h R =
    record { tree = R.tree; is = e ∙ R.is; stored = R.stored; deeper = R.deeper; kept = R.kept; count = R.count; onward = omega (arith, R.onward); within = R.within; short = omega (arith, R.short) }

-- what a reader that accepted tells, with the least number of nested calls
pub accepted : (l : Level) (s before after : List ℕ) (at n d : ℕ) (a : Reading) → Reads l s before after at n d (Some a)
    → Accepted (parse_at (4 * (length s - at) + rank l) l s at) s before after at n d a
accepted l s before after at n d a h = h (4 * (length s - at) + rank l) (le_refl _)

-- a level that joins parts of a level m, and reads on at a level k

pub record Joins (l m k : Level) : Type 0 where
  pub step : (f : ℕ) (s : List ℕ) (i : ℕ) → parse_at (suc f) l s i ≡ joined s (join_sign l) (parse_at f k s) (parse_at f m s i)
  pub below : rank m < rank l
  pub above : rank k ≤ 4

pub joins-conjunction : Joins conjunction unit conjunction
unfolding parse_at
joins-conjunction = record { step = λ f s i. refl; below = omega arith; above = omega arith }

pub joins-disjunction : Joins disjunction conjunction disjunction
unfolding parse_at
joins-disjunction = record { step = λ f s i. refl; below = omega arith; above = omega arith }

pub joins-formula : Joins formula disjunction disjunction
unfolding parse_at
joins-formula = record { step = λ f s i. refl; below = omega arith; above = omega arith }

module _ (l m k : Level) (J : Joins l m k) (s before : List ℕ) (at n d : ℕ) where
  -- the four ways through `joined`
  step-no : (g i : ℕ) → parse_at g m s i ≡ missing → parse_at (suc g) l s i ≡ missing
  step-no g i e = rw (J.step, e)

  pub step-one : (g i j : ℕ) (a : Tree) → parse_at g m s i ≡ found a j → join_sign l (kind_at s j) ≡ none → parse_at (suc g) l s i ≡ found a j
  step-one g i j a e z = rw (J.step, e, z)

  step-bad : (g i j : ℕ) (a : Tree) (q : Join) → parse_at g m s i ≡ found a j → join_sign l (kind_at s j) ≡ some q → parse_at g k s (next_at s j) ≡ missing → parse_at (suc g) l s i ≡ missing
  step-bad g i j a q e z e' = rw (J.step, e, z, e')

  pub step-more : (g i j j' : ℕ) (a b : Tree) (q : Join) → parse_at g m s i ≡ found a j → join_sign l (kind_at s j) ≡ some q → parse_at g k s (next_at s j) ≡ found b j'
      → parse_at (suc g) l s i ≡ found (join q a b) j'
  step-more g i j j' a b q e z e' = rw (J.step, e, z, e')

  -- calls for the level below
  fewer : (g : ℕ) → 4 * (length s - at) + rank l ≤ suc g → 4 * (length s - at) + rank m ≤ g
  fewer g h = omega (arith, J.below)

  none_left : {A : Type 0} → 4 * (length s - at) + rank l ≤ 0 → A
  none_left h = absurd (omega (arith, J.below))

  -- the first part is refused
  pub join-no : Reads m s before before at n d None → Reads l s before before at n d None
  join-no A zero h = none_left h
  join-no A (suc g) h = step-no g at (A g (fewer g h))

  module _ (o : List ℕ) (a : Reading) (t : Token) (A : Reads m s before o at n d (Some a)) (T : t ≡ token_at s a.next) where
    first : Accepted (parse_at (4 * (length s - at) + rank m) m s at) s before o at n d a
    first = accepted m s before o at n d a A

    -- no sign follows the first part
    pub join_one : join_sign l t.kind ≡ none → Reads l s before o at n d (Some a)
    join_one other zero h = none_left h
    join_one other (suc g) h =
        let R = A g (fewer g h) in
        let z : join_sign l (kind_at s a.next) ≡ none = ap (join_sign l) (same_kind s a.next t T) ∙ other in
        earlier _ _ s before o at at n d (Some a) (step-one g at a.next R.tree R.is z ∙ sym R.is) (le_refl _) (A g (fewer g h))

    module _ (q : Join) (y : join_sign l t.kind ≡ some q) where
      onward : a.next < t.next
      onward = let M = moves s a.next t T first.within in omega (arith, M.on, join-sign-some l t.kind q y)

      sign : join_sign l (kind_at s a.next) ≡ some q
      sign = ap (join_sign l) (same_kind s a.next t T) ∙ y

      inside : t.next ≤ length s
      inside = (moves s a.next t T first.within).within

      -- what the second part asks
      pub join-room : ReaderRoom s before at n d → length o ≡ length before
          → (4 * (length s - t.next) + rank k < 4 * (length s - at) + rank l) × (ReaderRoom s o t.next a.count d)
      join-room room len =
          let R = first in (
            omega (arith, R.onward, onward, inside, J.above, J.below),
            record { within = inside; room = omega (arith, R.short, onward, inside, room.room); wide = omega (arith, room.wide); shallow = omega (arith, R.onward, onward, room.shallow) },
          )

      reach : (g : ℕ) → 4 * (length s - at) + rank l ≤ suc g → 4 * (length s - t.next) + rank k ≤ g
      reach g h = omega (arith, first.onward, onward, inside, J.above, fewer g h)

      -- the second part is refused
      pub join-bad : Reads k s o o t.next a.count d None → Reads l s before before at n d None
      join-bad B zero h = none_left h
      join-bad B (suc g) h =
          let R = A g (fewer g h) in
          let P : parse_at g k s (next_at s a.next) ≡ missing = rw (next_of s a.next t T) (B g (reach g h)) in
          step-bad g at a.next R.tree q R.is sign P

      module _ (o' : List ℕ) (b : Reading) (B : Reads k s o o' t.next a.count d (Some b)) where
        -- there is room for the operator
        pub join-push : ReaderRoom s before at n d → (b.count + 2 ≤ 8192) × (a.count ≤ b.count)
        join-push room =
            let R = first in
            let Q = accepted k s o o' t.next a.count d b B in
            (omega (arith, R.short, R.onward, onward, Q.short, Q.within, room.room, room.within), Q.count)

        pub join_more : ReaderRoom s before at n d → length o ≡ length before → length o' ≡ length o
            → (u : List ℕ) → u ≡ set (set o' b.count a.count) (b.count + 1) (join_operator q) → (x : Bool) → x ≡ (a.deep || b.deep)
            → Reads l s before u at n d (Some (record { deep = x; next = b.next; count = b.count + 2 }))
        unfolding too_deep
        join_more room len len' u w x E zero h = none_left h
        join_more room len len' u w x E (suc g) h =
            let R = A g (fewer g h) in
            let Q = B g (reach g h) in
            let P : parse_at g k s (next_at s a.next) ≡ found Q.tree b.next = rw (next_of s a.next t T) Q.is in
            let I = join-push room in
            let U = pushed o' u b.count a.count (join_operator q) (omega (arith, I.0, room.wide)) w in
            let D : (a.deep || b.deep) ≡ (too_deep d R.tree || too_deep d Q.tree) = cc (R.deeper, Q.deeper) in
            record {
              tree = join q R.tree Q.tree;
              is = step-more g at a.next b.next R.tree Q.tree q R.is sign P;
              stored = λ y.
                  let z = sym E ∙ y in
                  of-join U.is (omega (arith, Q.count))
                  (stored-kept (stored-kept (R.stored (or_left a.deep b.deep z)) o' len' Q.kept) u U.same (λ i p. U.kept i (omega (arith, Q.count))))
                  (before-record (stored-kept (Q.stored (or_right a.deep b.deep z)) u U.same U.kept));
              deeper = E ∙ D;
              kept = λ i p. U.kept i (omega (arith, R.count, Q.count)) ∙ Q.kept i (omega (arith, R.count)) ∙ R.kept i p;
              count = omega (arith, R.count, Q.count);
              onward = omega (arith, R.onward, onward, Q.onward);
              within = Q.within;
              short = omega (arith, R.short, onward, Q.short);
            }

-- `~` and quantifiers

unfoldable pub negation : Prefix 0 2
unfolding too_deep
negation = record { make = neg; stores = λ t e a r d. of-neg r d; deeper = λ d a. refl }

unfoldable pub quantifier : (q : Quantifier) (v : ℕ) → Prefix v (quantifier_operator q)
unfolding too_deep
quantifier q v = record { make = bind q v; stores = λ t e a r d. of-bind r d; deeper = λ d a. refl }

module _ (s before : List ℕ) (at n d payload operator : ℕ) (room : ReaderRoom s before (at - 1) n d) (low : 1 ≤ at) (high : at ≤ length s) where
  module _ (o : List ℕ) (a : Reading) (A : Reads unit s before o at n (d + 1) (Some a)) where
    pub prefix_push : a.count + 2 ≤ 8192
    prefix_push =
        let R = accepted unit s before o at n (d + 1) a A in
        omega (arith, R.short, R.within, room.room)

    pub prefix-yes : length o ≡ length before → (u : List ℕ) → u ≡ set (set o a.count payload) (a.count + 1) operator
        → Prefixed s before u at n d payload operator (Some (record { deep = a.deep; next = a.next; count = a.count + 2 }))
    prefix-yes len u w f h p =
        let R = A f h in
        let U = pushed o u a.count payload operator (omega (arith, prefix_push, room.wide)) w in
        let D : a.deep ≡ too_deep (suc d) R.tree = R.deeper ∙ ap (λ (x : ℕ). too_deep x R.tree) (add-one d) in
        record {
          tree = p.make R.tree;
          is = ap (map_part p.make) R.is;
          stored = λ y. p.stores u (a.count + 2) R.tree U.is (before-record (stored-kept (R.stored y) u U.same U.kept));
          deeper = D ∙ sym (p.deeper d R.tree);
          kept = λ i q. U.kept i (omega (arith, R.count)) ∙ R.kept i q;
          count = omega (arith, R.count);
          onward = omega (arith, R.onward);
          within = R.within;
          short = omega (arith, R.short);
        }

-- units, by their first token

module _ (g : ℕ) (s : List ℕ) (i : ℕ) where
  pub unit-bracket : kind_at s i ≡ 3 → parse_at (suc g) unit s i ≡ closed s (parse_at g formula s (next_at s i))
  unfolding parse_at
  unit-bracket e = rw e

  pub unit-tilde : kind_at s i ≡ 7 → parse_at (suc g) unit s i ≡ map_part neg (parse_at g unit s (next_at s i))
  unfolding parse_at
  unit-tilde e = rw e

  pub unit-variable : kind_at s i ≡ 22 → parse_at (suc g) unit s i ≡ variable_literal s (value_at s i) (next_at s i)
  unfolding parse_at
  unit-variable e = rw e

  pub unit-hash : kind_at s i ≡ 15 → parse_at (suc g) unit s i ≡ size_literal s (next_at s i)
  unfolding parse_at
  unit-hash e = rw e

  module _ (bracket : eqb (kind_at s i) 3 ≡ false) (tilde : eqb (kind_at s i) 7 ≡ false) where
    pub unit-quantifier : (q : Quantifier) → quantifier_sign (kind_at s i) ≡ some q → parse_at (suc g) unit s i ≡ bound s (parse_at g unit s) q (next_at s i)
    unfolding parse_at
    unit-quantifier q e = rw (bracket, tilde, e)

    unit-other : quantifier_sign (kind_at s i) ≡ none → eqb (kind_at s i) 22 ≡ false → eqb (kind_at s i) 15 ≡ false → parse_at (suc g) unit s i ≡ missing
    unfolding parse_at
    unit-other e v h = rw (bracket, tilde, e, v, h)

-- a unit that is known for every number of nested calls
unit-is : (p : Part) (s before o : List ℕ) (at n d : ℕ) (r : Option Reading) → ((g : ℕ) → parse_at (suc g) unit s at ≡ p) → Outcome p s before o at n d r → Reads unit s before o at n d r
unit-is p s before o at n d r step O zero h = absurd (omega arith)
unit-is p s before o at n d r step O (suc g) h = earlier _ _ s before o at at n d r (step g) (le_refl _) O

module _ (s before : List ℕ) (at n d : ℕ) (room : ReaderRoom s before at n d) (t : Token) (T : t ≡ token_at s at) where
  first-moves : Moves s at t
  first-moves = moves s at t T room.within

  -- what the reader of a unit behind a prefix asks, the prefix ending at j
  pub prefixed-room : (j : ℕ) → at < j → j ≤ length s
      → (4 * (length s - j) + 2 < 4 * (length s - at) + 1) × (ReaderRoom s before (j - 1) n d × (1 ≤ j) × (j ≤ length s))
  prefixed-room j on inside =
      (omega arith, (record { within = omega arith; room = omega (arith, room.room); wide = room.wide; shallow = omega (arith, room.shallow) }, omega arith, inside))

  unit-prefixed : (j payload operator : ℕ) (p : Prefix payload operator) → ((g : ℕ) → parse_at (suc g) unit s at ≡ map_part p.make (parse_at g unit s j)) → at < j → j ≤ length s
      → (o : List ℕ) (r : Option Reading) → Prefixed s before o j n d payload operator r → Reads unit s before o at n d r
  unit-prefixed j payload operator p step on inside o r P zero h = absurd (omega arith)
  unit-prefixed j payload operator p step on inside o r P (suc g) h = earlier _ _ s before o at (j - 1) n d r (step g) (omega arith) (P g (omega arith) p)

  -- a first token that is not the end of the text
  pub first_on : 1 ≤ t.kind → at < t.next
  first_on h = omega (arith, first-moves.on)

  pub first-within : t.next ≤ length s
  first-within = first-moves.within

  -- `~`
  pub unit-negation : t.kind ≡ 7 → (o : List ℕ) (r : Option Reading) → Prefixed s before o t.next n d 0 2 r → Reads unit s before o at n d r
  unfolding negation
  unit-negation y o r P =
      unit-prefixed t.next 0 2 negation (λ g. rw (← next_of s at t T) (unit-tilde g s at (kind-of s at t T 7 y))) (first_on (omega arith)) first-within o r P

  -- a quantifier
  module _ (y : between 5 t.kind 6 ≡ true) (v : Token) (W : v ≡ token_at s t.next) where
    quantifier-low : 5 ≤ t.kind
    quantifier-low = (between-range 5 t.kind 6 y).0

    quantifier-not : (k : ℕ) → (t.kind ≡ k → ⊥) → eqb (kind_at s at) k ≡ false
    quantifier-not k z = not-kind s at t T k z

    pub quantified-as : (t.kind ≡ 3 → ⊥) → (t.kind ≡ 7 → ⊥) → (g : ℕ) → parse_at (suc g) unit s at ≡ bound s (parse_at g unit s) (quantifier_of (t.kind - 5)) t.next
    quantified-as a b g =
        unit-quantifier g s at (quantifier-not 3 a) (quantifier-not 7 b) (quantifier_of (t.kind - 5)) (ap quantifier_sign (same_kind s at t T) ∙ stands 5 6 quantifier_of t.kind y)
        ∙ ap (bound s (parse_at g unit s) (quantifier_of (t.kind - 5))) (next_of s at t T)

    bound-not : (u : ℕ → Part) (q : Quantifier) (i : ℕ) → eqb (kind_at s i) 22 ≡ false → bound s u q i ≡ missing
    bound-not u q i z = rw z

    pub bound-yes : (u : ℕ → Part) (q : Quantifier) → v.kind ≡ 22 → bound s u q t.next ≡ map_part (bind q v.value) (u v.next)
    bound-yes u q z = rw (kind-of s t.next v W 22 z, value_of s t.next v W, next_of s t.next v W)

    pub unit-unbound : (t.kind ≡ 3 → ⊥) → (t.kind ≡ 7 → ⊥) → (v.kind ≡ 22 → ⊥) → Reads unit s before before at n d None
    unit-unbound a b z =
        unit-is missing s before before at n d None (λ g. quantified-as a b g ∙ bound-not (parse_at g unit s) (quantifier_of (t.kind - 5)) t.next (not-kind s t.next v W 22 z)) refl

    variable-moves : Moves s t.next v
    variable-moves = moves s t.next v W first-within

    pub variable-on : at < v.next
    variable-on = omega (arith, first_on (omega (arith, quantifier-low)), variable-moves.on)

    pub variable-within : v.next ≤ length s
    variable-within = variable-moves.within

    pub unit-quantified : (t.kind ≡ 3 → ⊥) → (t.kind ≡ 7 → ⊥) → v.kind ≡ 22 → (o : List ℕ) (r : Option Reading) → Prefixed s before o v.next n d v.value (t.kind - 2) r → Reads unit s before o at n d r
    unfolding quantifier
    unit-quantified a b z o r P =
        let q = quantifier_of (t.kind - 5) in
        unit-prefixed v.next v.value (quantifier_operator q) (quantifier q v.value) (λ g. quantified-as a b g ∙ bound-yes (parse_at g unit s) q z) variable-on variable-within o r
        (rw (quantifier-operator t.kind y) at P)

  -- a bracketed formula
  module _ (y : t.kind ≡ 3) where
    bracket-on : at < t.next
    bracket-on = first_on (omega arith)

    bracket-step : (g : ℕ) → parse_at (suc g) unit s at ≡ closed s (parse_at g formula s t.next)
    bracket-step g = rw (← next_of s at t T) (unit-bracket g s at (kind-of s at t T 3 y))

    pub bracket-room : (4 * (length s - t.next) + 4 < 4 * (length s - at) + 1) × (ReaderRoom s before t.next n (d + 1))
    bracket-room = (
      omega (arith, bracket-on, first-within),
      record { within = first-within; room = omega (arith, bracket-on, room.room); wide = room.wide; shallow = omega (arith, bracket-on, room.shallow) },
    )

    pub bracket-no : Reads formula s before before t.next n (d + 1) None → Reads unit s before before at n d None
    bracket-no A zero h = absurd (omega arith)
    bracket-no A (suc g) h = bracket-step g ∙ ap (closed s) (A g (omega (arith, bracket-on, first-within)))

    module _ (o : List ℕ) (a : Reading) (A : Reads formula s before o t.next n (d + 1) (Some a)) where
      inner : (g : ℕ) → 4 * (length s - at) + 1 ≤ suc g → Accepted (parse_at g formula s t.next) s before o t.next n (d + 1) a
      inner g h = A g (omega (arith, bracket-on, first-within))

      module _ (e : Token) (E : e ≡ token_at s a.next) where
        closed-not : (b : Tree) → (e.kind ≡ 4 → ⊥) → closed s (found b a.next) ≡ missing
        closed-not b z = rw (not-kind s a.next e E 4 z)

        closed-yes : (b : Tree) → e.kind ≡ 4 → closed s (found b a.next) ≡ found (par b) e.next
        closed-yes b z = rw (kind-of s a.next e E 4 z, next_of s a.next e E)

        pub bracket-open : (e.kind ≡ 4 → ⊥) → Reads unit s before before at n d None
        bracket-open z zero h = absurd (omega arith)
        bracket-open z (suc g) h =
            let R = inner g h in
            bracket-step g ∙ ap (closed s) R.is ∙ closed-not R.tree z

        pub bracket-yes : e.kind ≡ 4 → Reads unit s before o at n d (Some (record { deep = a.deep; next = e.next; count = a.count }))
        unfolding too_deep
        bracket-yes z zero h = absurd (omega arith)
        bracket-yes z (suc g) h =
            let R = inner g h in
            let N = moves s a.next e E R.within in
            let D : a.deep ≡ too_deep (suc d) R.tree = R.deeper ∙ ap (λ (x : ℕ). too_deep x R.tree) (add-one d) in
            record {
              tree = par R.tree;
              is = bracket-step g ∙ ap (closed s) R.is ∙ closed-yes R.tree z;
              stored = λ y. of-par (R.stored y);
              deeper = D;
              kept = R.kept;
              count = R.count;
              onward = omega (arith, R.onward, bracket-on, N.on);
              within = N.within;
              short = omega (arith, R.short, bracket-on, N.on);
            }

  -- a literal, behind its first token
  pub unit-variable-literal : t.kind ≡ 22 → (o : List ℕ) (r : Option Reading) → Outcome (variable_literal s t.value t.next) s before o t.next n d r → Reads unit s before o at n d r
  unit-variable-literal y o r L =
      unit-is (variable_literal s t.value t.next) s before o at n d r
      (λ g. unit-variable g s at (kind-of s at t T 22 y) ∙ rw (value_of s at t T, next_of s at t T))
      (earlier _ _ s before o at t.next n d r refl (omega (arith, first_on (omega arith))) L)

  pub unit-size-literal : t.kind ≡ 15 → (o : List ℕ) (r : Option Reading) → Outcome (size_literal s t.next) s before o t.next n d r → Reads unit s before o at n d r
  unit-size-literal y o r L =
      unit-is (size_literal s t.next) s before o at n d r
      (λ g. unit-hash g s at (kind-of s at t T 15 y) ∙ rw (next_of s at t T))
      (earlier _ _ s before o at t.next n d r refl (omega (arith, first_on (omega arith))) L)

  -- no unit begins with this token
  pub no-unit : (t.kind ≡ 3 → ⊥) → (t.kind ≡ 7 → ⊥) → between 5 t.kind 6 ≡ false → (t.kind ≡ 22 → ⊥) → (t.kind ≡ 15 → ⊥) → Reads unit s before before at n d None
  no-unit a b c v h =
      let k = not-kind s at t T in
      unit-is missing s before before at n d None
      (λ g. unit-other g s at (k 3 a) (k 7 b) (ap quantifier_sign (same_kind s at t T) ∙ stands-not 5 6 quantifier_of t.kind c) (k 22 v) (k 15 h))
      refl

-- literals

-- the forms of tests
unfoldable pub in-form : Form 0
unfolding test_operator test_payload
in-form = record { make = isin; operates = λ x y. refl; pays = λ x y. refl }

unfoldable pub not-in-form : Form 1
unfolding test_operator test_payload
not-in-form = record { make = notin; operates = λ x y. refl; pays = λ x y. refl }

unfoldable pub port-form : (k : ℕ) → between 16 k 21 ≡ true → Form k
unfolding test_operator test_payload
port-form k e = record { make = port (relation_of (k - 16)); operates = λ x y. relation-is k e; pays = λ x y. refl }

unfoldable pub size-form : (k : ℕ) → between 16 k 21 ≡ true → Form (k + 8)
unfolding test_operator test_payload
size-form k e = record { make = size (relation_of (k - 16)); operates = λ x y. omega (arith, relation-is k e); pays = λ x y. refl }

module _ (s before : List ℕ) (at n d : ℕ) (room : ReaderRoom s before at n d) (t : Token) (T : t ≡ token_at s at) where
  module _ (first operator wanted : ℕ) where
    pub operand-push : 1 ≤ wanted → t.kind ≡ wanted → n + 2 ≤ 8192
    operand-push low y = let M = moves s at t T room.within in omega (arith, M.on, M.within, room.room)

    pub operand-yes : 1 ≤ at → 1 ≤ wanted → t.kind ≡ wanted → (o : List ℕ) → o ≡ set (set before n (256 * first + t.value)) (n + 1) operator
        → Operands s before o first operator wanted at n d (Some (record { deep = ltb 64 d; next = t.next; count = n + 2 }))
    unfolding too_deep literal_of
    operand-yes behind low y o w m =
        let M = moves s at t T room.within in
        let U = pushed before o n (256 * first + t.value) operator (omega (arith, operand-push low y, room.wide)) w in
        record {
          tree = leaf_of (m.make first t.value);
          is = rw (eq-eqb _ _ (kind-of s at t T wanted y), value_of s at t T, next_of s at t T);
          stored = λ _. of-leaf {e = n + 2} {l = literal_of (m.make first t.value)} (rw (m.operates, m.pays) U.is);
          deeper = refl;
          kept = U.kept;
          count = omega arith;
          onward = omega (arith, M.on);
          within = M.within;
          short = omega (arith, M.on);
        }

  module _ (v : ℕ) where
    -- the outcome of a literal from that of its last operand
    literal-is : (p q : Part) (o : List ℕ) (r : Option Reading) → 1 ≤ t.kind → p ≡ q → Outcome q s before o (t.next - 1) n d r → Outcome p s before o at n d r
    literal-is p q o r k e O = let M = moves s at t T room.within in earlier p q s before o at (t.next - 1) n d r e (omega (arith, M.on)) O

    colon-step : t.kind ≡ 13 → variable_literal s v at ≡ operand s 23 (isin v) t.next
    colon-step y = rw (kind-of s at t T 13 y, next_of s at t T)

    pub literal-in : t.kind ≡ 13 → (o : List ℕ) (r : Option Reading) → Operands s before o v 0 23 t.next n d r → Outcome (variable_literal s v at) s before o at n d r
    unfolding in-form
    literal-in y o r O = literal-is _ _ o r (omega arith) (colon-step y) (O in-form)

    slash-step : t.kind ≡ 14 → variable_literal s v at ≡ operand s 23 (notin v) t.next
    slash-step y = rw (kind-of s at t T 14 y, next_of s at t T)

    pub literal-not-in : t.kind ≡ 14 → (o : List ℕ) (r : Option Reading) → Operands s before o v 1 23 t.next n d r → Outcome (variable_literal s v at) s before o at n d r
    unfolding not-in-form
    literal-not-in y o r O = literal-is _ _ o r (omega arith) (slash-step y) (O not-in-form)

    module _ (colon : t.kind ≡ 13 → ⊥) (slash : t.kind ≡ 14 → ⊥) where
      port-step : between 16 t.kind 21 ≡ true → variable_literal s v at ≡ operand s 22 (port (relation_of (t.kind - 16)) v) t.next
      port-step y =
          rw (not-kind s at t T 13 colon, not-kind s at t T 14 slash, ap relation_sign (same_kind s at t T) ∙ stands 16 21 relation_of t.kind y, next_of s at t T)

      pub literal-port : (y : between 16 t.kind 21 ≡ true) → (o : List ℕ) (r : Option Reading) → Operands s before o v t.kind 22 t.next n d r → Outcome (variable_literal s v at) s before o at n d r
      unfolding port-form
      literal-port y o r O = literal-is _ _ o r (omega (arith, between-range 16 t.kind 21 y)) (port-step y) (O (port-form t.kind y))

      none-step : between 16 t.kind 21 ≡ false → variable_literal s v at ≡ missing
      none-step y = rw (not-kind s at t T 13 colon, not-kind s at t T 14 slash, ap relation_sign (same_kind s at t T) ∙ stands-not 16 21 relation_of t.kind y)

      pub literal-none : between 16 t.kind 21 ≡ false → Outcome (variable_literal s v at) s before before at n d None
      literal-none y = none-step y

  module _ (y : t.kind ≡ 23) (u : Token) (U : u ≡ token_at s t.next) where
    size_step : size_literal s at ≡ compared s t.value t.next
    size_step = rw (kind-of s at t T 23 y, value_of s at t T, next_of s at t T)

    compared-yes : between 16 u.kind 21 ≡ true → compared s t.value t.next ≡ operand s 24 (size (relation_of (u.kind - 16)) t.value) u.next
    compared-yes z = rw (ap relation_sign (same_kind s t.next u U) ∙ stands 16 21 relation_of u.kind z, next_of s t.next u U)

    pub literal-size : (z : between 16 u.kind 21 ≡ true) → (o : List ℕ) (r : Option Reading) → Operands s before o t.value (u.kind + 8) 24 u.next n d r → Outcome (size_literal s at) s before o at n d r
    unfolding size-form
    literal-size z o r O =
        let M = moves s at t T room.within in
        let N = moves s t.next u U M.within in
        earlier _ _ s before o at (u.next - 1) n d r (size_step ∙ compared-yes z) (omega (arith, M.on, N.on, between-range 16 u.kind 21 z)) (O (size-form u.kind z))
