-- The first of grounds 5 to 9 that applies. Assumes nothing.
use mathlib.Core.Path.{◌≡◌, sym, ap, ◌∙◌}
use mathlib.Core.Bool.{Bool, true, false}
use mathlib.Core.List.{List, []}
use Prim.Native.Nat.{ℕ, ◌≤◌, ◌<◌}
use native.Mathlib.Decide.{dec_le}
use native.Mathlib.Omega.{arith}
use lib.ListN.{length, take, length-take}
use lib.Seq.{take_all}
use borrow.Author.Tests.{lt-ltb, le-ltb}
use Rattle.std.specs.Prelude.{Ok, Err}
use Rattle.logic.specs.declared.refusal.Refusal.{Refusal}
use Rattle.logic.specs.declared.refusal.Refusal.TheVariants.{WrongName, ConstantTooLarge, FourthQuantifier, TooManyNodes, TooManyCells}
use Rattle.logic.specs.Refusal.{refusal_number, answer_number}
use Rattle.logic.specs.Formula.{node_count}
use Rattle.logic.specs.Cells.{cell_count}
use Rattle.logic.specs.Moves.{refusal}
use Rattle.logic.proofs.Lists.{or-false, or-true-left, or_true_right}
use Rattle.text_tree.specs.Tree.{Tree, Declared, letters_of}
use Rattle.text_tree.specs.inner.Stored.{Stored}
use Rattle.text_names.specs.declared.Faults.{Faults}
use Rattle.text_grounds.specs.declared.CoreSize.{CoreSize}
use Rattle.text_core.specs.Core.{core_of}
use Rattle.text_core.specs.Names.{misdeclared, misnamed, ground5, ground6, ground7, Lettered}
use Rattle.text_counts.specs.inner.Counts.{CountsNodes, CountsCells}
use Rattle.text_names.proofs.Finding.{long-list}
use Rattle.text_core.specs.Grounds.{core_grounds}
use Rattle.text_core.specs.inner.Refusal.{core_refusal}
use Rattle.text_grounds.specs.inner.Answered.{Answered, Answers}
use Rattle.text_names.specs.inner.Faults.{Misdeclares, FindsFaults}

module _ (u : ℕ) (sets : List Declared) (a : Tree) where
  stop : (g : Refusal) → core_refusal u sets a ≡ refusal_number g → Answered u sets a (Err g)
  unfolding answer_number
  stop g h = record { refused-is = sym h; sizes-are = tt }

  at_5 : ground5 sets a ≡ true → core_refusal u sets a ≡ 5
  unfolding core_refusal core_grounds refusal
  at_5 h = rw h

  module _ (h5 : ground5 sets a ≡ false) where
    at-6 : ground6 a ≡ true → core_refusal u sets a ≡ 6
    unfolding core_refusal core_grounds refusal
    at-6 h = rw (h5, h)

    module _ (h6 : ground6 a ≡ false) where
      at_7 : ground7 a ≡ true → core_refusal u sets a ≡ 7
      unfolding core_refusal core_grounds refusal
      at_7 h = rw (h5, h6, h)

      module _ (h7 : ground7 a ≡ false) where
        at_8 : 512 < node_count (core_of (letters_of sets) a) → core_refusal u sets a ≡ 8
        unfolding core_refusal core_grounds refusal
        at_8 h = rw (h5, h6, h7, lt-ltb 512 _ h)

        at_9 : node_count (core_of (letters_of sets) a) ≤ 512 → 1048576 < cell_count u (core_of (letters_of sets) a) 0 → core_refusal u sets a ≡ 9
        unfolding core_refusal core_grounds refusal
        at_9 h8 h = rw (h5, h6, h7, le-ltb 512 _ h8, lt-ltb 1048576 _ h)

        at-0 : node_count (core_of (letters_of sets) a) ≤ 512 → cell_count u (core_of (letters_of sets) a) 0 ≤ 1048576 → core_refusal u sets a ≡ 0
        unfolding core_refusal core_grounds refusal
        at-0 h8 h = rw (h5, h6, h7, le-ltb 512 _ h8, le-ltb 1048576 _ h)

module _ (t : List ℕ) (e : ℕ) (letters : List ℕ) (u : ℕ) (m : Bool) (M : Misdeclares letters m) where
  pub answer-declared : m ≡ true → Answers t e letters u (Err WrongName)
  unfolding refusal_number Answers Misdeclares ground5
  answer-declared h sets a own s l = stop u sets a WrongName (at_5 u sets a (or-true-left _ _ (sym (M sets own) ∙ h)))

  module _ (f : Faults) (F : FindsFaults t e letters f) where
    named : (sets : List Declared) (a : Tree) → letters_of sets ≡ letters → Stored t e a → Lettered a → misnamed (letters_of sets) [] a ≡ f.names
    unfolding FindsFaults
    named sets a own s l = ap (λ (x : List ℕ). misnamed x [] a) own ∙ sym (F a s l).names-is

    pub answer-names : f.names ≡ true → Answers t e letters u (Err WrongName)
    unfolding refusal_number Answers ground5
    answer-names h sets a own s l = stop u sets a WrongName (at_5 u sets a (or_true_right (misdeclared sets) _ (named sets a own s l ∙ h)))

    module _ (hd : m ≡ false) (hn : f.names ≡ false) where
      sound-5 : (sets : List Declared) (a : Tree) → letters_of sets ≡ letters → Stored t e a → Lettered a → ground5 sets a ≡ false
      unfolding Misdeclares ground5
      sound-5 sets a own s l = or-false _ _ (sym (M sets own) ∙ hd) (named sets a own s l ∙ hn)

      pub answer-constants : f.constants ≡ true → Answers t e letters u (Err ConstantTooLarge)
      unfolding refusal_number Answers FindsFaults
      answer-constants h sets a own s l = stop u sets a ConstantTooLarge (at-6 u sets a (sound-5 sets a own s l) (sym (F a s l).constants-is ∙ h))

      module _ (hc : f.constants ≡ false) where
        sound-6 : (a : Tree) → Stored t e a → Lettered a → ground6 a ≡ false
        unfolding FindsFaults
        sound-6 a s l = sym (F a s l).constants-is ∙ hc

        pub answer-quantifiers : f.quantifiers ≡ true → Answers t e letters u (Err FourthQuantifier)
        unfolding refusal_number Answers FindsFaults
        answer-quantifiers h sets a own s l = stop u sets a FourthQuantifier (at_7 u sets a (sound-5 sets a own s l) (sound-6 a s l) (sym (F a s l).quantifiers-is ∙ h))

        module _ (hq : f.quantifiers ≡ false) (nodes : ℕ) (N : CountsNodes t e nodes) where
          sound-7 : (a : Tree) → Stored t e a → Lettered a → ground7 a ≡ false
          unfolding FindsFaults
          sound-7 a s l = sym (F a s l).quantifiers-is ∙ hq

          pub answer-nodes : 512 < nodes → Answers t e letters u (Err TooManyNodes)
          unfolding refusal_number Answers CountsNodes
          answer-nodes h sets a own s l =
              stop u sets a TooManyNodes (at_8 u sets a (sound-5 sets a own s l) (sound-6 a s l) (sound-7 a s l) (omega (arith, N (letters_of sets) a s)))

          module _ (few : nodes ≤ 512) (cells : ℕ) (C : CountsCells t e u cells) where
            pub answer-cells : 1048576 < cells → Answers t e letters u (Err TooManyCells)
            unfolding refusal_number Answers CountsNodes CountsCells
            answer-cells h sets a own s l =
                stop u sets a TooManyCells
                (at_9 u sets a (sound-5 sets a own s l) (sound-6 a s l) (sound-7 a s l) (omega (arith, N (letters_of sets) a s)) (omega (arith, C (letters_of sets) a s)))

            pub answer-counts : (x : CoreSize) → x.nodes ≡ nodes → x.cells ≡ cells → cells ≤ 1048576 → Answers t e letters u (Ok x)
            unfolding answer_number Answers CountsNodes CountsCells
            answer-counts x n c h sets a own s l =
                let z = at-0 u sets a (sound-5 sets a own s l) (sound-6 a s l) (sound-7 a s l) (omega (arith, N (letters_of sets) a s)) (omega (arith, C (letters_of sets) a s)) in
                record {
                  refused-is = sym z;
                  sizes-are = (omega (arith, n, N (letters_of sets) a s), omega (arith, c, C (letters_of sets) a s));
                }

-- a reader need keep no more than 17 sets of the declaration
long-refusal : (u : ℕ) (sets : List Declared) (a : Tree) → 16 < length sets → core_refusal u sets a ≡ 5
unfolding ground5
long-refusal u sets a h = at_5 u sets a (or-true-left _ _ (sym (long-list sets h)))

pub refusal-prefix : (u : ℕ) (sets : List Declared) (a : Tree) → core_refusal u (take 17 sets) a ≡ core_refusal u sets a
refusal-prefix u sets a = go (dec_le (length sets) 16)
  where
    go : Dec (length sets ≤ 16) → core_refusal u (take 17 sets) a ≡ core_refusal u sets a
    go (yes h) = ap (λ (l : List Declared). core_refusal u l a) (take_all 17 sets (omega arith))
    go (no n) = long-refusal u (take 17 sets) a (omega (arith, length-take 17 sets)) ∙ sym (long-refusal u sets a (omega arith))
