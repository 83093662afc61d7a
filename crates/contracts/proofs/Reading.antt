-- What reading means: it accepts exactly the admitted texts, and the table of an accepted text is a plan's. Assumes nothing.
use mathlib.Core.Path.{◌≡◌, refl, sym, ap, ◌∙◌}
use mathlib.Core.Bool.{Bool, true, false, cond, not, ◌&&◌}
use mathlib.Core.List.{List, [], ◌++◌}
use Prim.Native.Nat.{ℕ, zero, suc, ◌≤◌}
use native.Mathlib.Omega.{arith}
use lib.Dec.{eqb, leb, ltb}
use lib.ListN.{length, drop}
use borrow.Author.Tests.{not-false, le-leb, le-ltb, leb-true, ltb-false, eqb-true}
use Rattle.logic.specs.Formula.{Forest, none, tree, kind_number, node_count}
use Rattle.logic.specs.Cells.{cell_count, own_cells}
use Rattle.logic.specs.Moves.{refusal}
use Rattle.logic.proofs.Lists.{and_left, and_right, and-true}
use Rattle.text_tree.specs.Tree.{Tree, Declared, letters_of, too_deep}
use Rattle.text_tokens.specs.Tokens.{known_bytes}
use Rattle.text_grammar.specs.Grammar.{Text, symbols}
use Rattle.text_grammar.specs.Parser.{Result, failed, read, parsed}
use Rattle.text_grammar.proofs.Theorems.{parsed-sound, parsed-complete}
use Rattle.text_core.specs.Names.{ground5, ground6, ground7}
use Rattle.text_core.specs.Core.{alone, place, core_of, plan_of}
use Rattle.text_core.specs.Grounds.{core_grounds}
use Rattle.text_core.proofs.KeepsRules.{core-rules}
use Rattle.table_format.specs.Bytes.{encoding}
use Rattle.table_format.specs.Rules.{tree_count, arity_rule, most_cells, formula_rule, plan_rule}
use Rattle.table_format.specs.Decode.{sound, decode}
use Rattle.table_format.proofs.Encoding.{decode-complete}
use Rattle.contracts.specs.Read.{ReadValues, read_refused, table_length, syntax_grounds, text_grounds, read_grounds, read_or, reads}
use Rattle.contracts.specs.Admitted.{Admitted, admitted_plan}
use Rattle.text_core.proofs.Letters.{parsed-sets}
use Rattle.contracts.proofs.Grounds.{passes, few-sets, ports-in}

some-node : (c : Forest) → tree_count c ≡ 1 → 1 ≤ node_count c
unfolding tree_count node_count
some-node none e = absurd (omega arith)
some-node (tree n c s) e = omega arith

two-nodes : (n : ℕ) (sets : List ℕ) (a : Tree) → formula_rule n (core_of sets a) ≡ true → 2 ≤ node_count (core_of sets a)
unfolding formula_rule core_of node_count kind_number arity_rule tree_count
two-nodes n sets a h =
    let c = place sets [] true a alone none in
    let one : tree_count c ≡ 1 = eqb-true _ _ (and_right (eqb 0 0 && eqb 0 0) _ (and_left (eqb 0 0 && eqb 0 0 && eqb (tree_count c) 1) _ h)) in
    omega (arith, some-node c one)

-- 3 is a ground of a text outside the grammar, so one of 10, 1, 2 and 3 applies
outside-not : (a b c : Bool) → ◌≡◌ {A = ℕ} (cond a 10 (cond b 1 (cond c 2 3))) 0 → ⊥
outside-not true b c q = omega arith
outside-not false true c q = omega arith
outside-not false false true q = omega arith
outside-not false false false q = omega arith

module _ (u : ℕ) (s B : List ℕ) where
  -- the number that reading answers
  pub read_number : (reads u s B).0.number ≡ refusal (read_grounds u s (length B))
  unfolding reads read_grounds
  read_number = go (parsed s) (refusal (read_grounds u s (length B))) refl
    where
      go : (r : Result) (g : ℕ) → refusal (text_grounds u s (length B) r) ≡ g → (read_or g u r B).0.number ≡ g
      go failed zero e = unfold text_grounds syntax_grounds refusal in absurd (outside-not (not (leb 1 u && leb u 64)) (ltb 4096 (length s)) (not (known_bytes s)) e)
      go (read sets a) zero e = unfold read_refused read_or in refl
      go r (suc g) e = unfold read_refused read_or in refl

  -- By the grammar and not by the parser: of a text that the grammar derives, the grounds by its sets and its tree; of any other, 3 if
  -- none of 10, 1 and 2 applies.
  pub read-derived : (sets : List Declared) (a : Tree) → Text (symbols s) sets a → (reads u s B).0.number ≡ refusal (text_grounds u s (length B) (read sets a))
  unfolding read_grounds
  read-derived sets a D = read_number ∙ ap (λ (r : Result). refusal (text_grounds u s (length B) r)) (parsed-complete s sets a D)

  pub read-outside : ((sets : List Declared) (a : Tree) → Text (symbols s) sets a → ⊥) → (reads u s B).0.number ≡ refusal (text_grounds u s (length B) failed)
  unfolding read_grounds
  read-outside never = read_number ∙ ap (λ (r : Result). refusal (text_grounds u s (length B) r)) (go (parsed s) refl)
    where
      go : (r : Result) → parsed s ≡ r → r ≡ failed
      go failed e = refl
      go (read sets a) e = absurd (never sets a (parsed-sound s sets a e))

  admitted-by : (r : Result) → parsed s ≡ r → (leb 1 u && leb u 64) ≡ true → length s ≤ 4096 → known_bytes s ≡ true
      → refusal (syntax_grounds u (length B) r) ≡ 0 → Admitted u s (length B)
  unfolding syntax_grounds core_grounds refusal
  admitted-by failed e ports short known z = absurd (omega arith)
  admitted-by (read sets a) e ports short known z =
      let P = plan_of u sets a in
      let p4 = passes (too_deep 0 a) 3 _ z in
      let p5 = passes (ground5 sets a) 4 _ p4.1 in
      let p6 = passes (ground6 a) 5 _ p5.1 in
      let p7 = passes (ground7 a) 6 _ p6.1 in
      let p8 = passes (ltb 512 (node_count (core_of (letters_of sets) a))) 7 _ p7.1 in
      let p9 = passes (ltb 1048576 (cell_count u (core_of (letters_of sets) a) 0)) 8 _ p8.1 in
      let p12 = passes (ltb (length B) (table_length P)) 11 _ p9.1 in
      record {
        ports1 = leb-true 1 u (and_left (leb 1 u) _ ports);
        ports64 = leb-true u 64 (and_right (leb 1 u) _ ports);
        short = short;
        known = known;
        sets = sets;
        tree = a;
        derived = parsed-sound s sets a e;
        shallow = p4.0;
        names = p5.0;
        constants = p6.0;
        quantifiers = p7.0;
        few-nodes = unfold plan_of in ltb-false 512 _ p8.0;
        few-cells = unfold plan_of own_cells in ltb-false 1048576 _ p9.0;
        fits = ltb-false (length B) _ p12.0;
      }

  -- an accepted text is admitted
  pub accepted-admitted : (reads u s B).0.number ≡ 0 → Admitted u s (length B)
  unfolding text_grounds read_grounds refusal
  accepted-admitted e =
      let p10 = passes (not (leb 1 u && leb u 64)) 9 _ (sym read_number ∙ e) in
      let p1 = passes (ltb 4096 (length s)) 0 _ p10.1 in
      let p2 = passes (not (known_bytes s)) 1 _ p1.1 in
      admitted-by (parsed s) refl (not-false _ p10.0) (ltb-false 4096 _ p1.0) (not-false _ p2.0) p2.1

  module _ (A : Admitted u s (length B)) where
    admitted-parsed : parsed s ≡ read A.sets A.tree
    admitted-parsed = parsed-complete s A.sets A.tree A.derived

    no-ground : refusal (read_grounds u s (length B)) ≡ 0
    unfolding text_grounds read_grounds syntax_grounds core_grounds refusal plan_of own_cells
    no-ground = rw (
      ports-in u A.ports1 A.ports64,
      le-ltb 4096 (length s) A.short,
      A.known,
      admitted-parsed,
      A.shallow,
      A.names,
      A.constants,
      A.quantifiers,
      le-ltb 512 (node_count (core_of (letters_of A.sets) A.tree)) A.few-nodes,
      le-ltb 1048576 (cell_count u (core_of (letters_of A.sets) A.tree) 0) A.few-cells,
      le-ltb (length B) (table_length (plan_of u A.sets A.tree)) A.fits,
    )

    -- The answer and the bytes for an admitted text.
    pub admitted-read : reads u s B
        ≡ (record { number = 0; nodes = node_count (admitted_plan A).formula; cells = own_cells (admitted_plan A) }, encoding (admitted_plan A) ++ drop (table_length (admitted_plan A)) B)
    unfolding reads read_or admitted_plan
    admitted-read = λ i. read_or (no-ground i) u (admitted-parsed i) B

    pub admitted-accepted : (reads u s B).0.number ≡ 0
    admitted-accepted = ap (λ (x : ReadValues × List ℕ). x.0.number) admitted-read

    -- The plan of an admitted text keeps the rules of a plan.
    pub admitted-rules : plan_rule (admitted_plan A) ≡ true
    unfolding plan_rule admitted_plan plan_of most_cells
    admitted-rules =
        let two : 2 ≤ node_count (core_of (letters_of A.sets) A.tree) = two-nodes (length A.sets) (letters_of A.sets) A.tree (core-rules A.sets A.tree A.names A.constants A.quantifiers) in
        and-true _ _ (and-true _ _ (and-true _ _ (and-true _ _ (and-true _ _ (and-true _ _ (and-true _ _
        (le-leb 1 u A.ports1) (le-leb u 64 A.ports64)) (le-leb 1 _ (parsed-sets s A.sets A.tree admitted-parsed)))
        (le-leb _ 16 (few-sets A.sets A.tree A.names))) (le-leb 2 _ two)) (le-leb _ 512 A.few-nodes))
        (core-rules A.sets A.tree A.names A.constants A.quantifiers)) (le-leb _ 1048576 A.few-cells)

    -- An accepted reading's table never meets ground 11: it is decoded as the text's plan.
    pub read-decodes : decode (reads u s B).1 ≡ sound (admitted_plan A)
    read-decodes = decode-complete _ _ record {
      rest = drop (table_length (admitted_plan A)) B;
      is = ap (λ (x : ReadValues × List ℕ). x.1) admitted-read;
      rules = admitted-rules;
    }
