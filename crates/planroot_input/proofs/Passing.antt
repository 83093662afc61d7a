-- One byte of the input more. Assumes nothing.
use mathlib.Core.Path.{◌≡◌, refl, sym, ap, ◌∙◌}
use mathlib.Core.Bool.{Bool, ◌&&◌}
use mathlib.Core.List.{List, [], ◌∷◌, ◌++◌, append_assoc}
use Prim.Native.Nat.{ℕ, ◌+◌, ◌≤◌, min}
use native.Mathlib.Omega.{arith}
use lib.ListN.{length, length-append}
use Rattle.planroot_input.specs.declared.Word.{Word}
use Rattle.planroot_input.specs.declared.Word.TheVariants as word
use Rattle.planroot_input.specs.declared.Phase.TheVariants as phase
use Rattle.planroot_input.specs.declared.Scan.{Scan}
use Rattle.std.specs.Prelude.{Option, is_some}
use Rattle.std.specs.Option.{unwrap_or}
use Rattle.planroot_input.specs.Lines.{ends, words, is_run, all_runs}
use Rattle.planroot_input.specs.inner.Words.{is-empty, AddsByte, JudgesWord}
use Rattle.planroot_input.specs.inner.Scans.{placed, EndsWord, PassesFirst, PassesSecond, PassesText}
use Rattle.planroot_input.proofs.Phases.{in-line-1, in-line-2, in-text}
use Rattle.planroot_input.proofs.Gathering.{and_assoc, and_one, runs-snoc, one_more, gathered_none, run-known, run-value}
use Rattle.planroot_input.proofs.Splitting.{ends_snoc, words_snoc, words-space}

-- line 1
module _ (s : Scan) (b : ℕ) where
  pub first_more : (w : Word) → (b ≡ 10 → ⊥) → AddsByte s.word b w
      → PassesFirst s b (record { phase = s.phase; ok = s.ok; word = w; ports = s.ports; masks = s.masks; length = s.length })
  unfolding PassesFirst AddsByte
  first_more w f A input ms tx p L = in-line-1 _ _ _ _ p record { unended = ends_snoc input b L.unended f; word = A input L.word }

  pub first-end : (r : Option ℕ) (o : Bool) (u : ℕ) → b ≡ 10 → JudgesWord s.word r → o ≡ is_some r → u ≡ unwrap_or r 0
      → PassesFirst s b (record { phase = phase.SecondLine; ok = o; word = word.Empty; ports = u; masks = 0; length = 0 })
  unfolding PassesFirst ends words all_runs
  first-end r o u e J q k input ms tx p L = in-line-2 _ _ _ _ refl record {
    first = input;
    rest = [];
    done = [];
    last = [];
    is = ap (λ (x : ℕ). input ++ (x ∷ [])) e;
    first-open = L.unended;
    rest-open = refl;
    words_are = refl;
    word = is-empty;
    ok-is = q ∙ run-known s.word r J input L.word ∙ sym (and_one (is_run input));
    ports-are = λ h. k ∙ run-value s.word r J input L.word h;
    masks-are = gathered_none ms;
    fresh = refl;
  }

-- line 2
behind-line : (first rest : List ℕ) (b : ℕ) → (first ++ (10 ∷ rest)) ++ (b ∷ []) ≡ first ++ (10 ∷ (rest ++ (b ∷ [])))
behind-line first rest b = append_assoc first (10 ∷ rest) (b ∷ [])

ok-ended : (o a c d : Bool) → o ≡ (a && c) → (o && d) ≡ (a && (c && d))
ok-ended o a c d e = rw e (and_assoc a c d)

module _ (s : Scan) (b : ℕ) (ms : List ℕ) where
  pub second_more : (w : Word) → (b ≡ 32 → ⊥) → (b ≡ 10 → ⊥) → AddsByte s.word b w
      → PassesSecond s b ms (record { phase = s.phase; ok = s.ok; word = w; ports = s.ports; masks = s.masks; length = s.length }) ms
  unfolding PassesSecond AddsByte
  second_more w f g A input tx p L = in-line-2 _ _ _ _ p record {
    first = L.first;
    rest = L.rest ++ (b ∷ []);
    done = L.done;
    last = L.last ++ (b ∷ []);
    is = ap (λ (x : List ℕ). x ++ (b ∷ [])) L.is ∙ behind-line L.first L.rest b;
    first-open = L.first-open;
    rest-open = ends_snoc L.rest b L.rest-open g;
    words_are = words_snoc L.rest b L.done L.last f L.words_are;
    word = A L.last L.word;
    ok-is = L.ok-is;
    ports-are = L.ports-are;
    masks-are = L.masks-are;
    fresh = L.fresh;
  }

  pub second-space : (r : Scan) (ms' : List ℕ) → b ≡ 32 → EndsWord s ms r ms' → PassesSecond s b ms r ms'
  unfolding PassesSecond EndsWord
  second-space r ms' e E input tx p L =
      let D = E L.done L.last L.word L.masks-are in
      in-line-2 _ _ _ _ (D.phase-is ∙ p) record {
        first = L.first;
        rest = L.rest ++ (b ∷ []);
        done = L.done ++ (L.last ∷ []);
        last = [];
        is = ap (λ (x : List ℕ). x ++ (b ∷ [])) L.is ∙ behind-line L.first L.rest b;
        first-open = L.first-open;
        rest-open = ends_snoc L.rest b L.rest-open (λ z. omega arith);
        words_are = rw e (words-space L.rest) ∙ ap (λ (x : List (List ℕ)). x ++ ([] ∷ [])) L.words_are;
        word = D.word;
        ok-is = D.ok-is ∙ ok-ended s.ok (is_run L.first) (all_runs L.done) (is_run L.last) L.ok-is
            ∙ ap (λ (x : Bool). is_run L.first && x) (sym (runs-snoc L.done L.last));
        ports-are = λ h. D.ports-are ∙ L.ports-are h;
        masks-are = D.masks-are;
        fresh = D.length-is ∙ L.fresh;
      }

  pub second-end : (m : Scan) (w : Word) (ms' : List ℕ) → b ≡ 10 → EndsWord s ms m ms'
      → PassesSecond s b ms (record { phase = phase.Text; ok = m.ok; word = w; ports = m.ports; masks = m.masks; length = m.length }) ms'
  unfolding PassesSecond EndsWord
  second-end m w ms' e E input tx p L =
      let D = E L.done L.last L.word L.masks-are in
      let none : m.length ≡ 0 = D.length-is ∙ L.fresh in
      in-text _ _ _ _ refl record {
        first = L.first;
        second = L.rest;
        rest = [];
        is = ap (λ (x : List ℕ). x ++ (b ∷ [])) L.is ∙ behind-line L.first L.rest b ∙ ap (λ (x : ℕ). L.first ++ (10 ∷ (L.rest ++ (x ∷ [])))) e;
        first-open = L.first-open;
        second-open = L.rest-open;
        ok-is = D.ok-is ∙ ok-ended s.ok (is_run L.first) (all_runs L.done) (is_run L.last) L.ok-is
            ∙ ap (λ (x : Bool). is_run L.first && x) (sym (runs-snoc L.done L.last) ∙ ap all_runs (sym L.words_are));
        ports-are = λ h. D.ports-are ∙ L.ports-are h;
        masks-are = rw L.words_are D.masks-are;
        length-is = none;
        text-is = rw none;
      }

-- the text
pub text-more : (s : Scan) (b : ℕ) (tx : List ℕ) (w : Word) (n : ℕ) → 4097 ≤ length tx → n ≡ min 4097 (s.length + 1)
    → PassesText s b tx (record { phase = s.phase; ok = s.ok; word = w; ports = s.ports; masks = s.masks; length = n }) (placed 4097 tx s.length b)
unfolding PassesText
text-more s b tx w n room c input ms p T = in-text _ _ _ _ p record {
  first = T.first;
  second = T.second;
  rest = T.rest ++ (b ∷ []);
  is = ap (λ (x : List ℕ). x ++ (b ∷ [])) T.is ∙ behind-line T.first (T.second ++ (10 ∷ T.rest)) b
      ∙ ap (λ (x : List ℕ). T.first ++ (10 ∷ x)) (behind-line T.second T.rest b);
  first-open = T.first-open;
  second-open = T.second-open;
  ok-is = T.ok-is;
  ports-are = T.ports-are;
  masks-are = T.masks-are;
  length-is = c ∙ omega (arith, T.length-is, length-append T.rest (b ∷ []));
  text-is = rw c (one_more 4097 4097 T.rest tx s.length b (omega arith) T.length-is room T.text-is);
}
