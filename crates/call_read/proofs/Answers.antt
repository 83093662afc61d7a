-- Reading's answer in each of its cases. Assumes nothing.
use mathlib.Core.Path.{◌≡◌, sym, ap, ◌∙◌, subst}
use mathlib.Core.Bool.{Bool, true, false, cond, ◌&&◌}
use mathlib.Core.List.{List, [], ◌∷◌, ◌++◌}
use Prim.Native.Nat.{ℕ, ◌≤◌, ◌<◌}
use lib.Dec.{leb, ltb}
use lib.ListN.{length, take}
use borrow.Author.Tests.{lt-ltb, le-ltb}
use Rattle.std.specs.Prelude.{Result as Outcome, Ok, Err}
use Rattle.logic.specs.declared.refusal.Refusal.{Refusal}
use Rattle.logic.specs.Refusal.{refusal_number}
use Rattle.logic.specs.declared.refusal.Refusal.TheVariants.{TextTooLong, UnknownByte, OutsideGrammar, TextTooDeep, PortsOutOfRange}
use Rattle.logic.specs.Moves.{Ground, refusal}
use Rattle.text_tree.specs.Tree.{Tree, Declared, letters_of, too_deep}
use Rattle.text_tokens.specs.Tokens.{known_bytes}
use Rattle.text_grammar.specs.declared.Syntax.{Syntax}
use Rattle.text_grammar.specs.Parser.{Result, failed, read, parsed}
use Rattle.text_grammar.specs.inner.Contract.{Whole}
use Rattle.text_core.specs.Core.{plan_of}
use Rattle.text_core.specs.Grounds.{core_grounds}
use Rattle.contracts.specs.declared.Read.{Read}
use Rattle.contracts.specs.Read.{ReadValues, table_length, syntax_grounds, text_grounds, read_grounds, read_or, reads, ReadPromise}
use Rattle.call_read.specs.inner.Contract.{TextKept, SomeText, Finishes}
use Rattle.text_core.proofs.Letters.{parsed-lettered}
use Rattle.contracts.proofs.Grounds.{ports-in}
use Rattle.call_read.proofs.Finishing.{refuses}

module _ (u : ℕ) (s B : List ℕ) where
  abbrev grounds : List Ground
  grounds = read_grounds u s (length B)

  refused-by : (g : Refusal) → refusal grounds ≡ refusal_number g → ReadPromise (reads u s B) (Err g) B
  unfolding reads
  refused-by g e = refuses g u (parsed s) B _ (ap (λ (x : ℕ). read_or x u (parsed s) B) e)

  pub read-10 : (leb 1 u && leb u 64) ≡ false → ReadPromise (reads u s B) (Err PortsOutOfRange) B
  unfolding text_grounds read_grounds refusal refusal_number
  read-10 p = refused-by PortsOutOfRange (rw p)

  module _ (ports : (leb 1 u && leb u 64) ≡ true) where
    pub read-1 : 4096 < length s → ReadPromise (reads u s B) (Err TextTooLong) B
    unfolding text_grounds read_grounds refusal refusal_number
    read-1 h = refused-by TextTooLong (rw (ports, lt-ltb 4096 (length s) h))

    module _ (short : length s ≤ 4096) where
      pub read-2 : known_bytes s ≡ false → ReadPromise (reads u s B) (Err UnknownByte) B
      unfolding text_grounds read_grounds refusal refusal_number
      read-2 k = refused-by UnknownByte (rw (ports, le-ltb 4096 (length s) short, k))

      module _ (known : known_bytes s ≡ true) where
        -- grounds 10, 1 and 2 do not apply
        opened : refusal grounds ≡ refusal (syntax_grounds u (length B) (parsed s))
        unfolding text_grounds read_grounds refusal
        opened = rw (ports, le-ltb 4096 (length s) short, known)

        pub read-3 : parsed s ≡ failed → ReadPromise (reads u s B) (Err OutsideGrammar) B
        unfolding syntax_grounds refusal refusal_number
        read-3 e = refused-by OutsideGrammar (opened ∙ ap (λ (r : Result). refusal (syntax_grounds u (length B) r)) e)

        module _ (sets : List Declared) (a : Tree) (e : parsed s ≡ read sets a) where
          in-grammar : refusal grounds
              ≡ cond (too_deep 0 a) 4 (refusal (core_grounds u sets a ++ ((12, ltb (length B) (table_length (plan_of u sets a))) ∷ [])))
          unfolding syntax_grounds refusal
          in-grammar = opened ∙ ap (λ (r : Result). refusal (syntax_grounds u (length B) r)) e

          pub read-4 : too_deep 0 a ≡ true → ReadPromise (reads u s B) (Err TextTooDeep) B
          unfolding refusal_number
          read-4 d =
              let rest = refusal (core_grounds u sets a ++ ((12, ltb (length B) (table_length (plan_of u sets a))) ∷ [])) in
              refused-by TextTooDeep (in-grammar ∙ ap (λ (b : Bool). cond b 4 rest) d)

          pub read-rest : too_deep 0 a ≡ false
              → read_or (refusal (core_grounds u sets a ++ ((12, ltb (length B) (table_length (plan_of u sets a))) ∷ []))) u (read sets a) B ≡ reads u s B
          unfolding reads
          read-rest d =
              let rest = refusal (core_grounds u sets a ++ ((12, ltb (length B) (table_length (plan_of u sets a))) ∷ [])) in
              let g : refusal grounds ≡ rest = in-grammar ∙ ap (λ (b : Bool). cond b 4 rest) d in
              sym ((λ i. read_or (g i) u (e i) B))

-- what parsing leaves of a text that is not too deep
module _ (s t letters : List ℕ) (r : Syntax) (W : Whole s t letters r) (room : length letters ≡ 17) (deep : r.deep ≡ false) where
  kept-text : TextKept t r.end letters r.sets W.sets W.tree
  kept-text = record {
    stored = W.stored deep;
    lettered = parsed-lettered s W.sets W.tree W.is;
    letters-are = W.kept ∙ ap (λ (m : ℕ). take m (letters_of W.sets)) room;
  }

  pub some-text : (u : ℕ) → 1 ≤ u → u ≤ 64 → SomeText u t r.end letters r.sets
  some-text u h g = record { ports1 = h; ports64 = g; within = W.few; sets = W.sets; tree = W.tree; kept = kept-text }

  pub read-last : (u : ℕ) (B O : List ℕ) (x : Outcome Read Refusal) → 1 ≤ u → u ≤ 64 → length s ≤ 4096 → known_bytes s ≡ true
      → Finishes u t r.end letters r.sets B O x → ReadPromise (reads u s B) x O
  unfolding Finishes
  read-last u B O x h g short known E =
      subst (λ (given : ReadValues × List ℕ). ReadPromise given x O)
      (read-rest u s B (ports-in u h g) short known W.sets W.tree W.is (sym W.deeper ∙ deep))
      (E W.sets W.tree kept-text)
