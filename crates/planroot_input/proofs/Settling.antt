-- Where nothing that follows changes the line. Assumes nothing.
use mathlib.Core.Path.{◌≡◌, refl, sym, ap, ◌∙◌, subst}
use mathlib.Core.Bool.{Bool, true, false, ◌&&◌, ◌||◌, false≢true}
use mathlib.Core.Logic.{◌⊎◌, inl, inr}
use mathlib.Core.List.{List, [], ◌∷◌, ◌++◌, append_assoc, append-nil}
use Prim.Native.Nat.{ℕ, ◌≤◌, ◌<◌}
use native.Mathlib.Decide.{ℕ_discrete}
use native.Mathlib.Omega.{arith}
use lib.Dec.{eqb}
use lib.ListN.{length}
use borrow.Author.Tests.{eqb-true, eq-eqb}
use Rattle.text_tokens.specs.Tokens.{pick}
use Rattle.planroot_input.specs.declared.Word.{Word}
use Rattle.planroot_input.specs.declared.Word.TheVariants as word
use Rattle.planroot_input.specs.declared.Phase.TheVariants as phase
use Rattle.planroot_input.specs.declared.Scan.{Scan}
use Rattle.planroot_input.specs.Lines.{line, behind, ends, words, value, is_run, all_runs, values, sound, ports, masks, text, Settled, wrong, long}
use Rattle.planroot_input.specs.inner.Words.{is-bad, IsWord}
use Rattle.planroot_input.specs.inner.Scans.{Line1, Line2, InText, Decided, DecidesLine}
use Rattle.planroot_input.proofs.Phases.{of-line-1, of-line-2, of-text}
use Rattle.planroot_input.proofs.Gathering.{runs-snoc}
use Rattle.planroot_input.proofs.Splitting.{line-is, behind-is, ends_is, line-open, behind-none, words_snoc, words-space}

and_none : (a : Bool) → (a && false) ≡ false
and_none true = refl
and_none false = refl

-- words of which one is no digit run, whatever follows
data Wrong (s : List ℕ) : Type 0 where
  ended-wrong : (done : List (List ℕ)) (last : List ℕ) → words s ≡ done ++ (last ∷ []) → all_runs done ≡ false → Wrong s
  last-wrong : (done : List (List ℕ)) (last : List ℕ) → words s ≡ done ++ (last ∷ []) → ((x : List ℕ) → is_run (last ++ x) ≡ false) → Wrong s

wrong-now : (done : List (List ℕ)) (last : List ℕ) → ((x : List ℕ) → is_run (last ++ x) ≡ false) → all_runs (done ++ (last ∷ [])) ≡ false
wrong-now done last f =
    let e : is_run last ≡ false = rw (append-nil last) at (f []) in
    runs-snoc done last ∙ ap (λ (b : Bool). all_runs done && b) e ∙ and_none (all_runs done)

wrong-runs : (s : List ℕ) → Wrong s → all_runs (words s) ≡ false
wrong-runs s (ended-wrong done last e f) = ap all_runs e ∙ runs-snoc done last ∙ ap (λ (b : Bool). b && is_run last) f
wrong-runs s (last-wrong done last e f) = ap all_runs e ∙ wrong-now done last f

wrong-snoc : (s : List ℕ) (b : ℕ) → Dec (b ≡ 32) → Wrong s → Wrong (s ++ (b ∷ []))
wrong-snoc s b (yes h) W = ended-wrong (words s) [] (rw h (words-space s)) (wrong-runs s W)
wrong-snoc s b (no g) (ended-wrong done last e f) = ended-wrong done (last ++ (b ∷ [])) (words_snoc s b done last g e) f
wrong-snoc s b (no g) (last-wrong done last e f) = last-wrong done (last ++ (b ∷ [])) (words_snoc s b done last g e) (λ x. rw (append_assoc last (b ∷ []) x) (f (b ∷ x)))

wrong-on : (y s : List ℕ) → Wrong s → Wrong (s ++ y)
wrong-on [] s W = rw (append-nil s) W
wrong-on (b ∷ y) s W = subst Wrong (append_assoc s (b ∷ []) y) (wrong-on y (s ++ (b ∷ [])) (wrong-snoc s b (ℕ_discrete b 32) W))

-- a word that is no beginning of a digit run
bad : (v : List ℕ) → IsWord v word.NoRun → (x : List ℕ) → is_run (v ++ x) ≡ false
bad v (is-bad _ F) = F

word-bad : (v : List ℕ) (w : Word) → IsWord v w → w ≡ word.NoRun → (x : List ℕ) → is_run (v ++ x) ≡ false
word-bad v w W e = bad v (subst (IsWord v) e W)

-- line 1 is wrong, whatever follows
first-wrong : (input : List ℕ) → ends input ≡ false → ((x : List ℕ) → is_run (input ++ x) ≡ false) → Settled input
unfolding sound
first-wrong input o f = wrong λ more. rw (line-open input more o, f (line more), and_none (ends (input ++ more)))

-- line 1 has ended: whether it is wrong, and line 2
module _ (first rest : List ℕ) (o : ends first ≡ false) where
  sound-of : sound (first ++ (10 ∷ rest)) ≡ (is_run first && all_runs (words (line rest)))
  unfolding sound
  sound-of = rw (ends_is rest first, line-is rest first o, behind-is rest first o)

second-wrong : (input first rest : List ℕ) → input ≡ first ++ (10 ∷ rest) → ends first ≡ false → ends rest ≡ false → Wrong rest → Settled input
second-wrong input first rest e f r W = wrong λ more.
    ap sound (ap (λ (l : List ℕ). l ++ more) e ∙ append_assoc first (10 ∷ rest) more) ∙ sound-of first (rest ++ more) f
    ∙ ap (λ (l : List ℕ). is_run first && all_runs (words l)) (line-open rest more r)
    ∙ ap (λ (b : Bool). is_run first && b) (wrong-runs (rest ++ line more) (wrong-on (line more) rest W)) ∙ and_none (is_run first)

start-wrong : (input first rest : List ℕ) → input ≡ first ++ (10 ∷ rest) → ends first ≡ false → is_run first ≡ false → Settled input
start-wrong input first rest e f h = wrong λ more.
    ap sound (ap (λ (l : List ℕ). l ++ more) e ∙ append_assoc first (10 ∷ rest) more) ∙ sound-of first (rest ++ more) f
    ∙ ap (λ (b : Bool). b && all_runs (words (line (rest ++ more)))) h

-- no text where two lines have not ended
no-text-1 : (input : List ℕ) → ends input ≡ false → text input ≡ []
unfolding text behind
no-text-1 input h = ap behind (behind-none input h)

no-text-2 : (input first rest : List ℕ) → input ≡ first ++ (10 ∷ rest) → ends first ≡ false → ends rest ≡ false → text input ≡ []
unfolding text
no-text-2 input first rest e f r = ap (λ (l : List ℕ). behind (behind l)) e ∙ ap behind (behind-is rest first f) ∙ behind-none rest r

text_of : (input first second rest : List ℕ) → input ≡ first ++ (10 ∷ (second ++ (10 ∷ rest))) → ends first ≡ false → ends second ≡ false → text input ≡ rest
unfolding text
text_of input first second rest e f r = ap (λ (l : List ℕ). behind (behind l)) e ∙ ap behind (behind-is (second ++ (10 ∷ rest)) first f) ∙ behind-is rest second r

empty-short : (t : List ℕ) → t ≡ [] → 4096 < length t → ⊥
empty-short t e h = let z : length t ≡ 0 = ap length e in omega arith

-- bytes that are not known to settle the line, and of which none is of the text
undecided : (input : List ℕ) → text input ≡ [] → Decided input false
undecided input e = record { settled = λ t. absurd (false≢true t); in-time = λ h. absurd (empty-short (text input) e h) }

-- in line 1, in line 2 and in the text
module _ (s : Scan) (p : s.phase ≡ phase.FirstLine) where
  pub decides-first : s.word ≡ word.NoRun → DecidesLine s true
  unfolding DecidesLine
  decides-first w input ms tx S =
      let L : Line1 input s = of-line-1 _ _ _ _ p S in
      record { settled = λ _. first-wrong input L.unended (word-bad input s.word L.word w); in-time = λ _. refl }

  pub undecided-first : DecidesLine s false
  unfolding DecidesLine
  undecided-first input ms tx S = let L : Line1 input s = of-line-1 _ _ _ _ p S in undecided input (no-text-1 input L.unended)

one-wrong : (a b : Bool) → (a && b) ≡ false → (a ≡ false) ⊎ (b ≡ false)
one-wrong true b h = inr h
one-wrong false b h = inl refl

module _ (s : Scan) (p : s.phase ≡ phase.SecondLine) where
  pub decides-second : s.word ≡ word.NoRun → DecidesLine s true
  unfolding DecidesLine
  decides-second w input ms tx S =
      let L : Line2 input s ms = of-line-2 _ _ _ _ p S in
      record {
        settled = λ _. second-wrong input L.first L.rest L.is L.first-open L.rest-open (last-wrong L.done L.last L.words_are (word-bad L.last s.word L.word w));
        in-time = λ _. refl;
      }

  pub wrong-second : s.ok ≡ false → DecidesLine s true
  unfolding DecidesLine
  wrong-second o input ms tx S = record { settled = λ _. go (one-wrong _ _ (sym L.ok-is ∙ o)); in-time = λ _. refl }
    where
      L : Line2 input s ms
      L = of-line-2 _ _ _ _ p S

      go : (is_run L.first ≡ false) ⊎ (all_runs L.done ≡ false) → Settled input
      go (inl h) = start-wrong input L.first L.rest L.is L.first-open h
      go (inr h) = second-wrong input L.first L.rest L.is L.first-open L.rest-open (ended-wrong L.done L.last L.words_are h)

  pub undecided-second : DecidesLine s false
  unfolding DecidesLine
  undecided-second input ms tx S =
      let L : Line2 input s ms = of-line-2 _ _ _ _ p S in
      undecided input (no-text-2 input L.first L.rest L.is L.first-open L.rest-open)

module _ (s : Scan) (p : s.phase ≡ phase.Text) where
  pub decides-text : DecidesLine s (eqb s.length 4097)
  unfolding DecidesLine
  decides-text input ms tx S =
      let T : InText input s ms tx = of-text _ _ _ _ p S in
      let t : length (text input) ≡ length T.rest = ap length (text_of input T.first T.second T.rest T.is T.first-open T.second-open) in
      record {
        settled = λ y. let k : s.length ≡ 4097 = eqb-true s.length 4097 y in long (omega (arith, T.length-is));
        in-time = λ h. eq-eqb s.length 4097 (omega (arith, T.length-is));
      }

  pub wrong-text : s.ok ≡ false → DecidesLine s true
  unfolding DecidesLine
  wrong-text o input ms tx S = record { settled = λ _. wrong unsound; in-time = λ _. refl }
    where
      T : InText input s ms tx
      T = of-text _ _ _ _ p S

      unsound : (more : List ℕ) → sound (input ++ more) ≡ false
      unsound more =
          ap sound (ap (λ (l : List ℕ). l ++ more) T.is ∙ append_assoc T.first (10 ∷ (T.second ++ (10 ∷ T.rest))) more)
          ∙ sound-of T.first ((T.second ++ (10 ∷ T.rest)) ++ more) T.first-open
          ∙ ap (λ (l : List ℕ). is_run T.first && all_runs (words (line l))) (append_assoc T.second (10 ∷ T.rest) more)
          ∙ ap (λ (l : List ℕ). is_run T.first && all_runs (words l)) (line-is (T.rest ++ more) T.second T.second-open)
          ∙ sym T.ok-is ∙ o

-- more bytes behind an input that has a second line change neither its first two lines nor the beginning of its text
module _ (more : List ℕ) where
  pub ends-kept : (x : List ℕ) → 1 ≤ length (behind x) → ends (x ++ more) ≡ ends x
  unfolding behind ends
  ends-kept [] h = absurd (omega arith)
  ends-kept (c ∷ x) h = go (eqb c 10) h (λ k. ends-kept x k)
    where
      go : (t : Bool) → 1 ≤ length (pick t x (behind x)) → (1 ≤ length (behind x) → ends (x ++ more) ≡ ends x) → (t || ends (x ++ more)) ≡ (t || ends x)
      go true h K = refl
      go false h K = K h

  pub line_kept : (x : List ℕ) → 1 ≤ length (behind x) → line (x ++ more) ≡ line x
  unfolding behind line
  line_kept [] h = absurd (omega arith)
  line_kept (c ∷ x) h = go (eqb c 10) h (λ k. line_kept x k)
    where
      go : (t : Bool) → 1 ≤ length (pick t x (behind x)) → (1 ≤ length (behind x) → line (x ++ more) ≡ line x) → pick t [] (c ∷ line (x ++ more)) ≡ pick t [] (c ∷ line x)
      go true h K = refl
      go false h K = ap (λ (l : List ℕ). c ∷ l) (K h)

  pub behind-kept : (x : List ℕ) → 1 ≤ length (behind x) → behind (x ++ more) ≡ behind x ++ more
  unfolding behind
  behind-kept [] h = absurd (omega arith)
  behind-kept (c ∷ x) h = go (eqb c 10) h (λ k. behind-kept x k)
    where
      go : (t : Bool) → 1 ≤ length (pick t x (behind x)) → (1 ≤ length (behind x) → behind (x ++ more) ≡ behind x ++ more)
          → pick t (x ++ more) (behind (x ++ more)) ≡ pick t x (behind x) ++ more
      go true h K = refl
      go false h K = K h

  some-behind : (x : List ℕ) → 1 ≤ length (behind x) → 1 ≤ length x
  unfolding behind
  some-behind [] h = h
  some-behind (c ∷ x) h = omega arith

  module _ (input : List ℕ) (h : 1 ≤ length (text input)) where
    second-there : 1 ≤ length (behind input)
    unfolding text
    second-there = some-behind (behind input) h

    second-kept : line (behind (input ++ more)) ≡ line (behind input)
    unfolding text
    second-kept = ap line (behind-kept input second-there) ∙ line_kept (behind input) h

    pub sound-kept : sound (input ++ more) ≡ sound input
    unfolding sound
    sound-kept = rw (ends-kept input second-there, line_kept input second-there, second-kept)

    pub ports-kept : ports (input ++ more) ≡ ports input
    unfolding ports
    ports-kept = ap value (line_kept input second-there)

    pub masks-kept : masks (input ++ more) ≡ masks input
    unfolding masks
    masks-kept = ap (λ (l : List ℕ). values (words l)) second-kept

    pub text-kept : text (input ++ more) ≡ text input ++ more
    unfolding text
    text-kept = ap behind (behind-kept input second-there) ∙ behind-kept (behind input) h
