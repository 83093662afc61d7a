-- Where a unit in open brackets ends, by the next token. Assumes nothing.
use mathlib.Core.Path.{◌≡◌, refl, sym, ap, ◌∙◌}
use mathlib.Core.List.{List, [], ◌∷◌}
use mathlib.Core.Bool.{Bool, true, false}
use mathlib.Core.Option.{Option, none, some}
use Prim.Native.Nat.{ℕ, ◌≤◌}
use native.Mathlib.Omega.{arith}
use lib.Dec.{eqb}
use lib.ListN.{length}
use Rattle.text_tree.specs.Tree.{Join, Tree, par, join}
use Rattle.text_tokens.specs.Tokens.{pick}
use Rattle.text_grammar.specs.Grammar.{Level, unit, conjunction, disjunction, formula, kind_at, next_at}
use Rattle.text_grammar.specs.Parser.{Part, missing, found, test, follow, nothing, map_part, join_sign, joined, closed}
use Rattle.text_grammar.specs.inner.Contract.{calls, part_at}
use Rattle.text_grammar.proofs.Readers.{joins-conjunction, joins-disjunction, joins-formula, unit-bracket}
use Rattle.text_grammar.proofs.Calls.{one_more, joined_at}
use Rattle.text_deep.specs.inner.Deep.{end_of, conjoined, disjoined, arrowed, closing, bracket, outward}

-- parts without their trees

abbrev Blind : (Part → Part) → Type 0
Blind F = (p q : Part) → end_of p ≡ end_of q → end_of (F p) ≡ end_of (F q)

blind : (F : Part → Part) → ((a b : Tree) (i : ℕ) → end_of (F (found a i)) ≡ end_of (F (found b i))) → Blind F
blind F same missing missing e = refl
blind F same missing (found b j) e = let z : ◌≡◌ {A = ℕ} 0 1 = cc in absurd (omega arith)
blind F same (found a i) missing e = let z : ◌≡◌ {A = ℕ} 0 1 = cc in absurd (omega arith)
blind F same (found a i) (found b j) e = let z : i ≡ j = cc in rw z (same a b j)

pub map-end : (g : Tree → Tree) (p : Part) → end_of (map_part g p) ≡ end_of p
map-end g missing = refl
map-end g (found a i) = refl

joined-blind : (s : List ℕ) (sign : ℕ → Option Join) (rest : ℕ → Part) → Blind (joined s sign rest)
joined-blind s sign rest = blind (joined s sign rest) (λ a b i. go a b i (sign (kind_at s i)))
  where
    go : (a b : Tree) (i : ℕ) (o : Option Join)
        → end_of (follow o (λ j k. map_part (join j a) (rest k)) (λ k. found a i) (next_at s i)) ≡ end_of (follow o (λ j k. map_part (join j b) (rest k)) (λ k. found b i) (next_at s i))
    go a b i none = refl
    go a b i (some j) = map-end (join j a) (rest (next_at s i)) ∙ sym (map-end (join j b) (rest (next_at s i)))

closed-blind : (s : List ℕ) → Blind (closed s)
closed-blind s = blind (closed s) (λ a b i. go a b i (eqb (kind_at s i) 4))
  where
    go : (a b : Tree) (i : ℕ) (c : Bool) → end_of (test c (found (par a)) nothing (next_at s i)) ≡ end_of (test c (found (par b)) nothing (next_at s i))
    go a b i true = refl
    go a b i false = refl

closing-blind : (s : List ℕ) (b : ℕ) → Blind (closing s b)
closing-blind s b p q e = closed-blind s (arrowed s b p) (arrowed s b q) (go (eqb b 0))
  where
    go : (c : Bool) → end_of (pick c (joined s (join_sign formula) (part_at disjunction s) p) p) ≡ end_of (pick c (joined s (join_sign formula) (part_at disjunction s) q) q)
    go true = joined-blind s (join_sign formula) (part_at disjunction s) p q e
    go false = e

conjoined-blind : (s : List ℕ) → Blind (conjoined s)
conjoined-blind s = joined-blind s (join_sign conjunction) (part_at conjunction s)

disjoined-blind : (s : List ℕ) → Blind (disjoined s)
disjoined-blind s = joined-blind s (join_sign disjunction) (part_at disjunction s)

pub outward-blind : (s bs : List ℕ) → Blind (outward s bs)
unfolding outward
outward-blind s [] p q e = e
outward-blind s (b ∷ bs) p q e =
    outward-blind s bs (bracket s b p) (bracket s b q)
    (closing-blind s b (disjoined s (conjoined s p)) (disjoined s (conjoined s q)) (disjoined-blind s (conjoined s p) (conjoined s q) (conjoined-blind s p q e)))

pub outward-missing : (s bs : List ℕ) → end_of (outward s bs missing) ≡ none
unfolding outward
outward-missing s [] = refl
outward-missing s (b ∷ bs) = ap (λ (p : Part). end_of (outward s bs (closed s p))) (go (eqb b 0)) ∙ outward-missing s bs
  where
    go : (c : Bool) → pick c missing missing ≡ missing
    go true = refl
    go false = refl

module _ (s : List ℕ) where
  conjunction-at : (i : ℕ) → i ≤ length s → part_at conjunction s i ≡ conjoined s (part_at unit s i)
  conjunction-at i h = joined_at s conjunction unit conjunction joins-conjunction i h

  disjunction-at : (i : ℕ) → i ≤ length s → part_at disjunction s i ≡ disjoined s (conjoined s (part_at unit s i))
  disjunction-at i h = joined_at s disjunction conjunction disjunction joins-disjunction i h ∙ ap (disjoined s) (conjunction-at i h)

  -- a bracket opens
  pub opens : (i : ℕ) → i ≤ length s → next_at s i ≤ length s → kind_at s i ≡ 3 → part_at unit s i ≡ bracket s 0 (part_at unit s (next_at s i))
  opens i h w e =
      one_more s unit i h ∙ unit-bracket (calls s) s i e
      ∙ ap (closed s) (joined_at s formula disjunction disjunction joins-formula (next_at s i) w ∙ ap (joined s (join_sign formula) (part_at disjunction s)) (disjunction-at (next_at s i) w))

  -- behind a unit of the bracket with mark b
  module _ (b : ℕ) (a : Tree) (i : ℕ) (w : next_at s i ≤ length s) where
    joined-on : (l k : Level) (q : Join) → join_sign l (kind_at s i) ≡ some q → end_of (joined s (join_sign l) (part_at k s) (found a i)) ≡ end_of (part_at k s (next_at s i))
    joined-on l k q e = rw e (map-end (join q a) (part_at k s (next_at s i)))

    joined_end : (l k : Level) → join_sign l (kind_at s i) ≡ none → joined s (join_sign l) (part_at k s) (found a i) ≡ found a i
    joined_end l k e = rw e

    pub and-follows : (q : Join) → join_sign conjunction (kind_at s i) ≡ some q → end_of (bracket s b (found a i)) ≡ end_of (bracket s b (part_at unit s (next_at s i)))
    and-follows q e =
        let p = part_at unit s (next_at s i) in
        closing-blind s b (disjoined s (conjoined s (found a i))) (disjoined s (conjoined s p))
        (disjoined-blind s (conjoined s (found a i)) (conjoined s p) (joined-on conjunction conjunction q e ∙ ap end_of (conjunction-at (next_at s i) w)))

    module _ (z : join_sign conjunction (kind_at s i) ≡ none) where
      pub or-follows : (q : Join) → join_sign disjunction (kind_at s i) ≡ some q → end_of (bracket s b (found a i)) ≡ end_of (bracket s b (part_at unit s (next_at s i)))
      or-follows q e =
          closing-blind s b (disjoined s (conjoined s (found a i))) (disjoined s (conjoined s (part_at unit s (next_at s i))))
          (ap (λ (p : Part). end_of (disjoined s p)) (joined_end conjunction conjunction z) ∙ joined-on disjunction disjunction q e ∙ ap end_of (disjunction-at (next_at s i) w))

      module _ (y : join_sign disjunction (kind_at s i) ≡ none) where
        whole : disjoined s (conjoined s (found a i)) ≡ found a i
        whole = ap (disjoined s) (joined_end conjunction conjunction z) ∙ joined_end disjunction disjunction y

        -- the first arrow of a bracket
        pub arrow-follows : (q : Join) → join_sign formula (kind_at s i) ≡ some q → end_of (bracket s 0 (found a i)) ≡ end_of (bracket s 1 (part_at unit s (next_at s i)))
        arrow-follows q e =
            ap (λ (p : Part). end_of (closing s 0 p)) whole
            ∙ closed-blind s (joined s (join_sign formula) (part_at disjunction s) (found a i)) (disjoined s (conjoined s (part_at unit s (next_at s i))))
            (joined-on formula disjunction q e ∙ ap end_of (disjunction-at (next_at s i) w))

        -- an arrow was met, or none follows
        arrow-met : eqb b 0 ≡ false → arrowed s b (found a i) ≡ found a i
        arrow-met e = rw e

        no-arrow : join_sign formula (kind_at s i) ≡ none → arrowed s b (found a i) ≡ found a i
        no-arrow e = go (eqb b 0)
          where
            go : (c : Bool) → pick c (joined s (join_sign formula) (part_at disjunction s) (found a i)) (found a i) ≡ found a i
            go true = joined_end formula disjunction e
            go false = refl

        not-closed : eqb (kind_at s i) 4 ≡ false → closed s (found a i) ≡ missing
        not-closed e = rw e

        closes_here : kind_at s i ≡ 4 → closed s (found a i) ≡ found (par a) (next_at s i)
        closes_here e = rw e

        pub second-arrow : eqb b 0 ≡ false → eqb (kind_at s i) 4 ≡ false → bracket s b (found a i) ≡ missing
        second-arrow e k = ap (closing s b) whole ∙ ap (closed s) (arrow-met e) ∙ not-closed k

        pub stops : join_sign formula (kind_at s i) ≡ none → eqb (kind_at s i) 4 ≡ false → bracket s b (found a i) ≡ missing
        stops e k = ap (closing s b) whole ∙ ap (closed s) (no-arrow e) ∙ not-closed k

        pub closes : join_sign formula (kind_at s i) ≡ none → kind_at s i ≡ 4 → bracket s b (found a i) ≡ found (par a) (next_at s i)
        closes e k = ap (closing s b) whole ∙ ap (closed s) (no-arrow e) ∙ closes_here k
