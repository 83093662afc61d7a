-- The steps of the reader of a deep unit: what each return of the code tells. Assumes nothing.
use mathlib.Core.Path.{◌≡◌, refl, sym, ap, ◌∙◌}
use mathlib.Core.List.{List, ◌∷◌}
use mathlib.Core.Bool.{Bool, true, false}
use mathlib.Core.Option.{Option, none, some}
use Prim.Native.Nat.{ℕ, zero, suc, ◌+◌, ◌-◌, ◌≤◌, ◌<◌}
use native.Mathlib.Omega.{arith}
use native.Mathlib.Numerals.{add-one}
use lib.Dec.{eqb}
use lib.ListN.{length, get_or, set}
use lib.Seq.{get_or-set_same, get_or-set_other}
use borrow.Author.Tests.{eqb-true, eqb-false, ne_eqb}
use Rattle.text_tree.specs.Tree.{conj, disj, Tree, neg, bind}
use Rattle.text_tokens.specs.declared.Token.{Token}
use Rattle.text_tokens.specs.Tokens.{between, token_at}
use Rattle.text_tokens.proofs.Laws.{Moves, between-range}
use Rattle.std.specs.Prelude.{Some, None}
use Rattle.text_grammar.specs.declared.Reading.{Reading}
use Rattle.text_grammar.specs.Grammar.{Level, unit, conjunction, disjunction, formula, kind_at, next_at}
use Rattle.text_grammar.specs.Parser.{Part, missing, map_part, variable_literal, size_literal, arrow_of, quantifier_of, join_sign, parse_at}
use Rattle.text_grammar.specs.inner.Contract.{ReaderRoom, Outcome, Reads, calls, part_at}
use Rattle.text_grammar.proofs.Signs.{stands, stands-not, one-sign, no_sign}
use Rattle.text_grammar.proofs.Readers.{clash, kind-of, next_of, same_kind, not-kind, moves, unit-tilde, unit-variable-literal, unit-size-literal, unit-unbound, no-unit, quantified-as, bound-yes}
use Rattle.text_grammar.proofs.Calls.{one_more}
use Rattle.text_deep.specs.declared.Passing.{Passing}
use Rattle.text_deep.specs.inner.Deep.{end_of, bracket, outward, marks, unit_at, end_from, Onward, Step}
use Rattle.text_deep.proofs.Ends.{map-end, outward-blind, outward-missing, opens, and-follows, or-follows, arrow-follows, second-arrow, stops, closes}

-- marks

marks-kept : (t u : List ℕ) (n k : ℕ) → ((i : ℕ) → i < n + k → get_or u i 0 ≡ get_or t i 0) → marks u n k ≡ marks t n k
unfolding marks
marks-kept t u n zero h = refl
marks-kept t u n (suc k) h =
    let top = h (n + k) (omega arith) in
    let rest = marks-kept t u n k (λ i l. h i (omega arith)) in
    cc

-- the innermost bracket's mark is stored
top_set : (t u : List ℕ) (n k x : ℕ) → n + k < length t → u ≡ set t (n + k) x → marks u n (suc k) ≡ x ∷ marks t n k
unfolding marks
top_set t u n k x h w =
    let top : get_or u (n + k) 0 ≡ x = rw (w, get_or-set_same t (n + k) x 0 h) in
    let rest : marks u n k ≡ marks t n k = marks-kept t u n k (λ i l. rw (w, get_or-set_other t (n + k) i x 0 (omega arith))) in
    cc

-- and read
top-mark : (t : List ℕ) (n k : ℕ) → 1 ≤ k → marks t n k ≡ get_or t (n + k - 1) 0 ∷ marks t n (k - 1)
unfolding marks
top-mark t n zero h = absurd (omega arith)
top-mark t n (suc k) h =
    let place : n + suc k - 1 ≡ n + k = omega arith in
    let fewer : suc k - 1 ≡ k = omega arith in
    rw (place, fewer) refl

module _ (s before : List ℕ) (n d : ℕ) (p : Passing) (room : ReaderRoom s before p.next (n + p.brackets) d) (t : Token) (T : t ≡ token_at s p.next) where
  first-moves : Moves s p.next t
  first-moves = moves s p.next t T room.within

  next-within : next_at s p.next ≤ length s
  next-within = rw (next_of s p.next t T) first-moves.within

  -- the marks of the brackets around, and where the outermost of them ends
  abbrev around : List ℕ
  around = marks before n p.brackets

  abbrev end : Option ℕ
  end = end_from s around p.due p.next

  -- a unit is due
  module _ (due : p.due ≡ true) where
    due-end : (q : Part) → end_of (part_at unit s p.next) ≡ end_of q → end ≡ end_of (outward s around q)
    due-end q e = ap (λ (b : Bool). end_from s around b p.next) due ∙ outward-blind s around (part_at unit s p.next) q e

    none-begins : part_at unit s p.next ≡ missing → end ≡ none
    none-begins z = due-end missing (ap end_of z) ∙ outward-missing s around

    -- `(`
    module _ (y : t.kind ≡ 3) where
      pub mark-room : n + p.brackets < length before
      mark-room = omega (arith, first-moves.on, first-moves.within, room.room, room.wide)

      pub begin-bracket : (u : List ℕ) → u ≡ set before (n + p.brackets) 0 → Step s before u n p (Some (record { due = true; next = t.next; brackets = p.brackets + 1 }))
      unfolding outward
      begin-bracket u w =
          let M = first-moves in
          let top : marks u n (p.brackets + 1) ≡ 0 ∷ around = ap (marks u n) (add-one p.brackets) ∙ top_set before u n p.brackets 0 mark-room w in
          record {
            onward = omega (arith, M.on);
            within = M.within;
            few = omega (arith, M.on);
            kept = λ i l. rw (w, get_or-set_other before (n + p.brackets) i 0 0 (omega arith));
            same = due-end (bracket s 0 (part_at unit s t.next))
                (ap end_of (opens s p.next room.within next-within (kind-of s p.next t T 3 y)) ∙ ap (λ (i : ℕ). end_of (bracket s 0 (part_at unit s i))) (next_of s p.next t T))
                ∙ ap (λ (x : List ℕ). end_of (outward s x (part_at unit s t.next))) (sym top);
          }

    -- a prefix, up to position j
    prefix-onward : (j : ℕ) (make : Tree → Tree) → p.next < j → j ≤ length s → parse_at (suc (calls s)) unit s p.next ≡ map_part make (part_at unit s j)
        → Onward s before before n p (record { due = true; next = j; brackets = p.brackets })
    prefix-onward j make on inside e =
        record {
          onward = on;
          within = inside;
          few = omega arith;
          kept = λ i l. refl;
          same = due-end (part_at unit s j) (ap end_of (one_more s unit p.next room.within ∙ e) ∙ map-end make (part_at unit s j));
        }

    -- `~`
    pub begin-tilde : t.kind ≡ 7 → Step s before before n p (Some (record { due = true; next = t.next; brackets = p.brackets }))
    begin-tilde y =
        let M = first-moves in
        prefix-onward t.next neg (omega (arith, M.on)) M.within
        (unit-tilde (calls s) s p.next (kind-of s p.next t T 7 y) ∙ ap (λ (i : ℕ). map_part neg (part_at unit s i)) (next_of s p.next t T))

    -- a quantifier
    module _ (y : between 5 t.kind 6 ≡ true) (v : Token) (V : v ≡ token_at s t.next) where
      not-bracket : t.kind ≡ 3 → ⊥
      not-bracket e = omega (arith, (between-range 5 t.kind 6 y).0)

      not-tilde : t.kind ≡ 7 → ⊥
      not-tilde e = omega (arith, (between-range 5 t.kind 6 y).1)

      pub begin-quantifier : v.kind ≡ 22 → Step s before before n p (Some (record { due = true; next = v.next; brackets = p.brackets }))
      begin-quantifier z =
          let M = first-moves in
          let N = moves s t.next v V M.within in
          let low = (between-range 5 t.kind 6 y).0 in
          let q = quantifier_of (t.kind - 5) in
          let m = n + p.brackets in
          prefix-onward v.next (bind q v.value) (omega (arith, M.on, N.on, low)) N.within
          (quantified-as s before p.next m d room t T y v V not-bracket not-tilde (calls s) ∙ bound-yes s before p.next m d room t T y v V (part_at unit s) q z)

      pub begin-unbound : (v.kind ≡ 22 → ⊥) → Step s before before n p None
      begin-unbound z = none-begins (unit-unbound s before p.next (n + p.brackets) d room t T y v V not-bracket not-tilde z (calls s) (omega arith))

    -- a literal
    literal-passed : (u : List ℕ) (a : Reading) → Reads unit s before u p.next (n + p.brackets) d (Some a) → Step s before u n p (Some (record { due = false; next = a.next; brackets = p.brackets }))
    literal-passed u a A =
        let R = A (calls s) (omega arith) in
        let blank = unit_at s false a.next in
        record {
          onward = R.onward;
          within = R.within;
          few = omega (arith, R.onward);
          kept = λ i l. R.kept i (omega arith);
          same = due-end blank (ap end_of R.is) ∙ ap (λ (x : List ℕ). end_of (outward s x blank)) (sym (marks-kept before u n p.brackets R.kept));
        }

    literal-refused : Reads unit s before before p.next (n + p.brackets) d None → Step s before before n p None
    literal-refused A = none-begins (A (calls s) (omega arith))

    pub begin-variable : t.kind ≡ 22 → (u : List ℕ) (a : Reading) → Outcome (variable_literal s t.value t.next) s before u t.next (n + p.brackets) d (Some a)
        → Step s before u n p (Some (record { due = false; next = a.next; brackets = p.brackets }))
    begin-variable y u a L = literal-passed u a (unit-variable-literal s before p.next (n + p.brackets) d room t T y u (Some a) L)

    pub begin-no-variable : t.kind ≡ 22 → Outcome (variable_literal s t.value t.next) s before before t.next (n + p.brackets) d None → Step s before before n p None
    begin-no-variable y L = literal-refused (unit-variable-literal s before p.next (n + p.brackets) d room t T y before None L)

    pub begin-size : t.kind ≡ 15 → (u : List ℕ) (a : Reading) → Outcome (size_literal s t.next) s before u t.next (n + p.brackets) d (Some a)
        → Step s before u n p (Some (record { due = false; next = a.next; brackets = p.brackets }))
    begin-size y u a L = literal-passed u a (unit-size-literal s before p.next (n + p.brackets) d room t T y u (Some a) L)

    pub begin-no-size : t.kind ≡ 15 → Outcome (size_literal s t.next) s before before t.next (n + p.brackets) d None → Step s before before n p None
    begin-no-size y L = literal-refused (unit-size-literal s before p.next (n + p.brackets) d room t T y before None L)

    -- any other token
    pub begin-other : (t.kind ≡ 3 → ⊥) → (t.kind ≡ 7 → ⊥) → between 5 t.kind 6 ≡ false → (t.kind ≡ 22 → ⊥) → (t.kind ≡ 15 → ⊥) → Step s before before n p None
    begin-other a b c v h = none-begins (no-unit s before p.next (n + p.brackets) d room t T a b c v h (calls s) (omega arith))

  -- a unit has ended in a bracket
  module _ (ended : p.due ≡ false) (inside : 1 ≤ p.brackets) where
    abbrev mark : ℕ
    mark = get_or before (n + p.brackets - 1) 0

    abbrev outer : List ℕ
    outer = marks before n (p.brackets - 1)

    abbrev blank : Part
    blank = unit_at s false p.next

    ended-end : (q : Part) → end_of (bracket s mark blank) ≡ end_of q → end ≡ end_of (outward s outer q)
    unfolding outward
    ended-end q e =
        ap (λ (b : Bool). end_from s around b p.next) ended ∙ ap (λ (x : List ℕ). end_of (outward s x blank)) (top-mark before n p.brackets inside)
        ∙ outward-blind s outer (bracket s mark blank) q e

    none-follows : bracket s mark blank ≡ missing → end ≡ none
    none-follows z = ended-end missing (ap end_of z) ∙ outward-missing s outer

    sign-here : (l : Level) → join_sign l (kind_at s p.next) ≡ join_sign l t.kind
    sign-here l = ap (join_sign l) (same_kind s p.next t T)

    not-and : (t.kind ≡ 8 → ⊥) → join_sign conjunction (kind_at s p.next) ≡ none
    not-and z = sign-here conjunction ∙ no_sign 8 t.kind conj z

    not-or : (t.kind ≡ 9 → ⊥) → join_sign disjunction (kind_at s p.next) ≡ none
    not-or z = sign-here disjunction ∙ no_sign 9 t.kind disj z

    -- `)`
    pub after-bracket : t.kind ≡ 4 → Step s before before n p (Some (record { due = false; next = t.next; brackets = p.brackets - 1 }))
    after-bracket y =
        let M = first-moves in
        let k = kind-of s p.next t T 4 y in
        record {
          onward = omega (arith, M.on);
          within = M.within;
          few = omega (arith, M.on);
          kept = λ i l. refl;
          same = ended-end (unit_at s false t.next)
              (ap end_of (closes s mark _ p.next next-within (ap (join_sign conjunction) k) (ap (join_sign disjunction) k) (ap (join_sign formula) k) k) ∙ ap some (next_of s p.next t T));
        }

    -- a sign that joins one more unit; the bracket's mark is b then
    sign-onward : (u : List ℕ) (b : ℕ) → 1 ≤ t.kind → ((i : ℕ) → i < n → get_or u i 0 ≡ get_or before i 0) → marks u n p.brackets ≡ b ∷ outer
        → end_of (bracket s mark blank) ≡ end_of (bracket s b (part_at unit s (next_at s p.next))) → Onward s before u n p (record { due = true; next = t.next; brackets = p.brackets })
    unfolding outward
    sign-onward u b y kept top e =
        let M = first-moves in
        record {
          onward = omega (arith, M.on);
          within = M.within;
          few = omega (arith, M.on);
          kept = kept;
          same = ended-end (bracket s b (part_at unit s t.next)) (e ∙ ap (λ (i : ℕ). end_of (bracket s b (part_at unit s i))) (next_of s p.next t T))
              ∙ ap (λ (x : List ℕ). end_of (outward s x (part_at unit s t.next))) (sym top);
        }

    -- `&` or `|`
    pub after-sign : between 8 t.kind 9 ≡ true → Step s before before n p (Some (record { due = true; next = t.next; brackets = p.brackets }))
    after-sign y =
        let w = between-range 8 t.kind 9 y in
        sign-onward before mark (omega (arith, w.0)) (λ i l. refl) (top-mark before n p.brackets inside) (go (eqb t.kind 8) refl)
      where
        go : (c : Bool) → eqb t.kind 8 ≡ c → end_of (bracket s mark blank) ≡ end_of (bracket s mark (part_at unit s (next_at s p.next)))
        go true e = and-follows s mark _ p.next next-within conj (sign-here conjunction ∙ one-sign 8 t.kind conj (eqb-true _ _ e))
        go false e =
            let w = between-range 8 t.kind 9 y in
            let z = eqb-false t.kind 8 e in
            or-follows s mark _ p.next next-within (not-and z) disj (sign-here disjunction ∙ one-sign 9 t.kind disj (omega (arith, w.0, w.1)))

    -- an arrow
    module _ (y : between 10 t.kind 12 ≡ true) where
      low : 10 ≤ t.kind
      low = (between-range 10 t.kind 12 y).0

      no-and : join_sign conjunction (kind_at s p.next) ≡ none
      no-and = not-and (λ e. omega (arith, low))

      no_or : join_sign disjunction (kind_at s p.next) ≡ none
      no_or = not-or (λ e. omega (arith, low))

      pub after-arrow : mark ≡ 0 → (u : List ℕ) → u ≡ set before (n + p.brackets - 1) 1 → Step s before u n p (Some (record { due = true; next = t.next; brackets = p.brackets }))
      after-arrow z u w =
          let place : n + p.brackets - 1 ≡ n + (p.brackets - 1) = omega arith in
          let one : p.brackets ≡ suc (p.brackets - 1) = omega arith in
          let top : marks u n p.brackets ≡ 1 ∷ outer =
          ap (marks u n) one ∙ top_set before u n (p.brackets - 1) 1 (omega (arith, room.room, room.wide)) (w ∙ ap (λ (i : ℕ). set before i 1) place) in
          sign-onward u 1 (omega (arith, low)) (λ i l. rw (w, get_or-set_other before (n + p.brackets - 1) i 1 0 (omega arith))) top
          (ap (λ (b : ℕ). end_of (bracket s b blank)) z
          ∙ arrow-follows s 0 _ p.next next-within no-and no_or (arrow_of (t.kind - 10)) (sign-here formula ∙ stands 10 12 arrow_of t.kind y))

      pub after-arrows : (mark ≡ 0 → ⊥) → Step s before before n p None
      after-arrows z = none-follows (second-arrow s mark _ p.next next-within no-and no_or (ne_eqb mark 0 z) (not-kind s p.next t T 4 (λ e. omega (arith, low))))

    -- any other token
    pub after-other : (t.kind ≡ 4 → ⊥) → between 8 t.kind 9 ≡ false → between 10 t.kind 12 ≡ false → Step s before before n p None
    after-other a b c =
        none-follows (stops s mark _ p.next next-within
        (not-and (λ e. clash true refl (sym (ap (λ (k : ℕ). between 8 k 9) e) ∙ b))) (not-or (λ e. clash true refl (sym (ap (λ (k : ℕ). between 8 k 9) e) ∙ b)))
        (sign-here formula ∙ stands-not 10 12 arrow_of t.kind c) (not-kind s p.next t T 4 a))
