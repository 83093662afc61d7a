-- The loop over the parts that one sign joins, of a conjunction or a disjunction. Assumes nothing.
use mathlib.Core.Path.{◌≡◌, refl, sym, ap, ◌∙◌}
use mathlib.Core.List.{List, [], ◌∷◌}
use mathlib.Core.Bool.{Bool, true, false, ◌||◌}
use mathlib.Core.Option.{none, some}
use Prim.Native.Nat.{ℕ, ◌+◌, ◌*◌, ◌-◌, ◌≤◌, ◌<◌}
use native.Mathlib.Omega.{arith}
use lib.Dec.{eqb}
use lib.ListN.{length, get_or, set}
use borrow.Author.Tests.{eqb-true, eqb-false}
use Rattle.logic.proofs.Lists.{or_left, or_right}
use Rattle.text_tree.specs.Tree.{Join, conj, disj, Tree, join, too_deep}
use Rattle.text_tree.specs.inner.Stored.{join_operator}
use Rattle.text_tree.specs.inner.Links.{Left, Linked, no-link, link, AllStored, none-stored, one-stored, joined_to, JoinsRoom, JoinsWritten, WritesJoins}
use Rattle.text_tree.proofs.Records.{pushed, stored-kept}
use Rattle.text_tree.proofs.Links.{linked-from, linked-kept, all-kept, joins-kept, joins-stored}
use Rattle.text_tokens.specs.declared.Token.{Token}
use Rattle.text_tokens.specs.Tokens.{token_at, bar, pick, between}
use Rattle.text_tokens.proofs.Laws.{Moves, between-range}
use Rattle.std.specs.Prelude.{Option, Some, None}
use Rattle.text_grammar.specs.declared.Reading.{Reading}
use Rattle.text_grammar.specs.Grammar.{Level, kind_at, next_at}
use Rattle.text_grammar.specs.Parser.{Part, missing, found, map_part, join_sign, joined, rank}
use Rattle.text_grammar.specs.inner.Contract.{ReaderRoom, Accepted, Outcome, Reads, calls, part_at, level_of, part_of}
use Rattle.text_grammar.proofs.Signs.{join-sign-some, one-sign, no_sign}
use Rattle.text_grammar.proofs.Readers.{moves, next_of, same_kind, Joins, joins-conjunction, joins-disjunction}
use Rattle.text_grammar.proofs.Calls.{rank-range, joined_at, every}

-- the two signs that join rows of parts
abbrev pub join_of : ℕ → Join
join_of k = pick (eqb k bar) disj conj

pub record Row (k : ℕ) : Type 0 where
  pub joins : Joins (level_of k) (part_of k) (level_of k)
  pub sign : (t : ℕ) → t ≡ k → join_sign (level_of k) t ≡ some (join_of k)
  pub other : (t : ℕ) → (t ≡ k → ⊥) → join_sign (level_of k) t ≡ none
  pub operator : k - 3 ≡ join_operator (join_of k)

row-and : Row 8
unfolding join_operator
row-and = record { joins = joins-conjunction; sign = λ t e. one-sign 8 t conj e; other = λ t z. no_sign 8 t conj z; operator = refl }

row-or : Row 9
unfolding join_operator
row-or = record { joins = joins-disjunction; sign = λ t e. one-sign 9 t disj e; other = λ t z. no_sign 9 t disj z; operator = refl }

pub row : (k : ℕ) → between 8 k 9 ≡ true → Row k
row k e = go (eqb k 9) refl
  where
    go : (b : Bool) → eqb k 9 ≡ b → Row k
    go true y = let same : k ≡ 9 = eqb-true k 9 y in rw same row-or
    go false y = let w = between-range 8 k 9 e in let z = eqb-false k 9 y in let same : k ≡ 8 = omega (arith, w.0, w.1) in rw same row-and

or-three : (a b c : Bool) → (a || (b || c)) ≡ ((a || b) || c)
or-three true b c = refl
or-three false b c = refl

-- what the last part comes to, joined to the parts before it
map_more : (j : Join) (p : Left) (ps : List Left) (r : Part) → map_part (joined_to j ps) (map_part (join j p.tree) r) ≡ map_part (joined_to j (p ∷ ps)) r
unfolding joined_to
map_more j p ps missing = refl
map_more j p ps (found a i) = refl

map-none : (j : Join) (r : Part) → map_part (joined_to j []) r ≡ r
unfolding joined_to
map-none j missing = refl
map-none j (found a i) = refl

-- what holds where a part is to be read, at `next` and behind `last` numbers of the table t: the parts before it are linked there,
-- and the whole at `at` is what they make of what stands at `next`
pub record Parts (l : Level) (j : Join) (s before t : List ℕ) (at n d next last : ℕ) (deep : Bool) : Type 0 where
  pub parts : List Left
  pub linked : Linked t n last parts
  pub stored : deep ≡ false → AllStored t parts
  pub deeper : (b : Tree) → too_deep d (joined_to j parts b) ≡ (deep || too_deep d b)
  pub same : part_at l s at ≡ map_part (joined_to j parts) (part_at l s next)
  pub kept : (i : ℕ) → i < n → get_or t i 0 ≡ get_or before i 0
  pub long : length t ≡ length before
  pub onward : at ≤ next
  pub within : next ≤ length s
  pub short : last + 2 * length parts + 2 * at ≤ n + 2 * next

module _ (l m : Level) (J : Joins l m l) (j : Join) (s before : List ℕ) (at n d : ℕ) (room : ReaderRoom s before at n d) where
  -- the first part
  pub parts-start : Parts l j s before before at n d at n false
  unfolding joined_to
  parts-start =
      record {
        parts = [];
        linked = no-link;
        stored = λ _. none-stored;
        deeper = λ b. refl;
        same = sym (map-none j (part_at l s at));
        kept = λ i q. refl;
        long = refl;
        onward = omega arith;
        within = room.within;
        short = omega arith;
      }

  module _ (t : List ℕ) (next last : ℕ) (deep : Bool) (P : Parts l j s before t at n d next last deep) where
    first-kept : n ≤ last
    first-kept = linked-from P.linked

    -- what the reader of a part asks
    pub part_room : (4 * (length s - next) + rank m < 4 * (length s - at) + rank l) × (ReaderRoom s t next last d)
    part_room = (
      omega (arith, P.onward, J.below),
      record { within = P.within; room = omega (arith, P.short, P.within, room.room); wide = omega (arith, P.long, room.wide); shallow = omega (arith, room.shallow, P.onward) },
    )

    part : (o : List ℕ) (r : Option Reading) → Reads m s t o next last d r → Outcome (part_at m s next) s t o next last d r
    part o r A = let k = rank-range m in A (calls s) (omega (arith, k.1))

    -- the part is refused
    pub parts-refused : Reads m s t t next last d None → Reads l s before before at n d None
    parts-refused A f h =
        let none-there : part_at l s next ≡ missing = joined_at s l m l J next P.within ∙ ap (joined s (join_sign l) (part_at l s)) (part t None A) in
        every s l at room.within f h ∙ P.same ∙ ap (map_part (joined_to j P.parts)) none-there

    module _ (o : List ℕ) (a : Reading) (A : Reads m s t o next last d (Some a)) where
      module _ (len : length o ≡ length t) where
        R : Accepted (part_at m s next) s t o next last d a
        R = part o (Some a) A

        linked-now : Linked o n last P.parts
        linked-now = linked-kept P.linked o len R.kept

        stored-now : deep ≡ false → AllStored o P.parts
        stored-now z = all-kept P.linked (P.stored z) o len R.kept

        -- there is room for the joins, and for one more
        pub parts-fit : (a.count + 2 * length P.parts + 2 ≤ 8192) × (last ≤ a.count) × (8192 ≤ length o)
        parts-fit = (omega (arith, R.short, R.within, P.short, room.room, room.within), R.count, omega (arith, P.long, room.wide))

        pub joins-room : JoinsRoom o n last a.count
        joins-room = record { parts = P.parts; linked = linked-now; behind = R.count; room = omega (arith, parts-fit.0); wide = parts-fit.2 }

        module _ (x : Bool) (E : x ≡ (deep || a.deep)) (k : Token) (T : k ≡ token_at s a.next) where
          sign-is : join_sign l (kind_at s a.next) ≡ join_sign l k.kind
          sign-is = ap (join_sign l) (same_kind s a.next k T)

          rest-is : part_at l s next ≡ joined s (join_sign l) (part_at l s) (found R.tree a.next)
          rest-is = joined_at s l m l J next P.within ∙ ap (joined s (join_sign l) (part_at l s)) R.is

          -- no sign follows: the joins are written
          module _ (u : List ℕ) (r : ℕ) (w : WritesJoins o u n last a.count (join_operator j) r) where
            W : JoinsWritten P.parts o u a.count (join_operator j) r
            W = w P.parts linked-now

            fit : a.count + 2 * length P.parts ≤ length o
            fit = omega (arith, parts-fit)

            ends-here : join_sign l (kind_at s a.next) ≡ none → joined s (join_sign l) (part_at l s) (found R.tree a.next) ≡ found R.tree a.next
            ends-here z = rw z

            pub parts-end : join_sign l k.kind ≡ none → Reads l s before u at n d (Some (record { deep = x; next = a.next; count = r }))
            parts-end z f h =
                record {
                  tree = joined_to j P.parts R.tree;
                  is = every s l at room.within f h ∙ P.same ∙ ap (map_part (joined_to j P.parts)) (rest-is ∙ ends-here (sign-is ∙ z));
                  stored = λ y.
                      let q = sym E ∙ y in
                      rw (W.is, W.ends) (joins-stored j P.parts o n last a.count R.tree linked-now R.count fit (stored-now (or_left deep a.deep q)) (R.stored (or_right deep a.deep q)));
                  deeper = E ∙ ap (λ (b : Bool). deep || b) R.deeper ∙ sym (P.deeper R.tree);
                  kept = λ i q. rw W.is (joins-kept (join_operator j) P.parts o a.count fit i (omega (arith, first-kept, R.count)) ∙ R.kept i (omega (arith, first-kept)) ∙ P.kept i q);
                  count = omega (arith, W.ends, first-kept, R.count);
                  onward = omega (arith, P.onward, R.onward);
                  within = R.within;
                  short = omega (arith, W.ends, P.short, R.short);
                }

          -- a sign follows: a link is written, and the next part is to be read
          module _ (y : join_sign l k.kind ≡ some j) where
            sign-moves : Moves s a.next k
            sign-moves = moves s a.next k T R.within

            sign-on : a.next < k.next
            sign-on = omega (arith, sign-moves.on, join-sign-some l k.kind j y)

            pub parts-less : length s - k.next < length s - next
            parts-less = omega (arith, R.onward, sign-on, sign-moves.within)

            goes_on : join_sign l (kind_at s a.next) ≡ some j → joined s (join_sign l) (part_at l s) (found R.tree a.next) ≡ map_part (join j R.tree) (part_at l s (next_at s a.next))
            goes_on z = rw z

            pub parts-on : (u : List ℕ) (operator : ℕ) → u ≡ set (set o a.count last) (a.count + 1) operator → Parts l j s before u at n d k.next (a.count + 2) x
            unfolding too_deep joined_to
            parts-on u operator w =
                let U = pushed o u a.count last operator (omega (arith, parts-fit)) w in
                let p : Left = record { tree = R.tree; ends = a.count } in
                let kept : (i : ℕ) → i < last → get_or u i 0 ≡ get_or o i 0 = λ i q. U.kept i (omega (arith, R.count)) in
                record {
                  parts = p ∷ P.parts;
                  linked = link {p = p} U.is (omega arith) (omega (arith, R.count)) (linked-kept linked-now u U.same kept);
                  stored = λ z.
                      let q = sym E ∙ z in
                      one-stored {p = p} (stored-kept (R.stored (or_right deep a.deep q)) u U.same U.kept) (all-kept linked-now (stored-now (or_left deep a.deep q)) u U.same kept);
                  deeper = λ c.
                      P.deeper (join j R.tree c) ∙ or-three deep (too_deep d R.tree) (too_deep d c)
                      ∙ ap (λ (v : Bool). v || too_deep d c) (ap (λ (v : Bool). deep || v) (sym R.deeper) ∙ sym E);
                  same = P.same
                      ∙ ap (map_part (joined_to j P.parts)) (rest-is ∙ goes_on (sign-is ∙ y) ∙ ap (λ (i : ℕ). map_part (join j R.tree) (part_at l s i)) (next_of s a.next k T))
                      ∙ map_more j p P.parts (part_at l s k.next);
                  kept = λ i q. U.kept i (omega (arith, first-kept, R.count)) ∙ R.kept i (omega (arith, first-kept)) ∙ P.kept i q;
                  long = U.same ∙ len ∙ P.long;
                  onward = omega (arith, P.onward, R.onward, sign-on);
                  within = sign-moves.within;
                  short = omega (arith, P.short, R.short, sign-on);
                }
