-- The end of the input. Assumes nothing.
use mathlib.Core.Path.{◌≡◌, sym, ap, ◌∙◌}
use mathlib.Core.Bool.{Bool, true, false, ◌&&◌, false≢true}
use mathlib.Core.List.{List, [], ◌∷◌, ◌++◌}
use Prim.Native.Nat.{ℕ, ◌≤◌, min}
use native.Mathlib.Omega.{arith}
use lib.ListN.{length, take}
use Rattle.logic.proofs.Lists.{and_left, and_right}
use Rattle.planroot_input.specs.declared.Phase.TheVariants as phase
use Rattle.planroot_input.specs.declared.Scan.{Scan}
use Rattle.planroot_input.specs.Lines.{line, behind, ends, words, value, is_run, all_runs, values, sound, ports, masks, text}
use Rattle.planroot_input.specs.inner.Scans.{Gathered, Line1, Line2, InText, EndsWord, Closed, Closes}
use Rattle.planroot_input.proofs.Phases.{of-line-1, of-line-2, of-text}
use Rattle.planroot_input.proofs.Gathering.{and_assoc, runs-snoc, length-values}
use Rattle.planroot_input.proofs.Splitting.{line-is, behind-is, ends_is, line-all, behind-none}

-- an input of two lines and a text
record Parts (input first second rest : List ℕ) : Type 0 where
  pub ended : ends input ≡ true
  pub first-is : line input ≡ first
  pub second_is : line (behind input) ≡ second
  pub rest-is : behind (behind input) ≡ rest

module _ (input first second rest : List ℕ) (P : Parts input first second rest) where
  sound-is : sound input ≡ (is_run first && all_runs (words second))
  unfolding sound
  sound-is = rw (P.ended, P.first-is, P.second_is)

  closed_parts : (r : Scan) (ms tx : List ℕ) → r.ok ≡ (is_run first && all_runs (words second)) → r.length ≡ min 4097 (length rest) → (is_run first ≡ true → r.ports ≡ value first)
      → Gathered (words second) r.masks ms → take r.length tx ≡ take 4097 rest → Closed input r ms tx
  unfolding ports masks text
  closed_parts r ms tx o l p G t = record {
    ok-is = o ∙ sym sound-is;
    short = omega arith;
    lines = λ h.
        let both = sym sound-is ∙ h in
        let second-same = ap (λ (x : List ℕ). values (words x)) P.second_is in
        record {
          ports-are = p (and_left (is_run first) _ both) ∙ ap value (sym P.first-is);
          count-is = G.count-is ∙ ap (λ (x : ℕ). min 17 x) (sym (length-values (words second)) ∙ ap length (sym second-same));
          masks-are = G.are (and_right (is_run first) _ both) ∙ ap (take 16) (sym second-same);
          text-is = t ∙ ap (take 4097) (sym P.rest-is);
        };
  }

module _ (s : Scan) (ms : List ℕ) where
  pub closes-unended : (r : Scan) → s.phase ≡ phase.FirstLine → r.ok ≡ false → r.length ≡ 0 → Closes s ms r ms
  unfolding Closes sound
  closes-unended r p o l input tx S =
      let L : Line1 input s = of-line-1 _ _ _ _ p S in
      record {
        ok-is = o ∙ sym (rw L.unended);
        short = omega (arith, l);
        lines = λ h. absurd (false≢true (sym (rw L.unended) ∙ h));
      }

  pub closes-second : (r : Scan) (ms' : List ℕ) → s.phase ≡ phase.SecondLine → EndsWord s ms r ms' → Closes s ms r ms'
  unfolding Closes EndsWord
  closes-second r ms' p E input tx S =
      let L : Line2 input s ms = of-line-2 _ _ _ _ p S in
      let D = E L.done L.last L.word L.masks-are in
      let none : r.length ≡ 0 = D.length-is ∙ L.fresh in
      closed_parts input L.first L.rest []
      record {
        ended = ap ends L.is ∙ ends_is L.rest L.first;
        first-is = ap line L.is ∙ line-is L.rest L.first L.first-open;
        second_is = ap (λ (x : List ℕ). line (behind x)) L.is ∙ ap line (behind-is L.rest L.first L.first-open) ∙ line-all L.rest L.rest-open;
        rest-is = ap (λ (x : List ℕ). behind (behind x)) L.is ∙ ap behind (behind-is L.rest L.first L.first-open) ∙ behind-none L.rest L.rest-open;
      }
      r ms' tx
      (D.ok-is ∙ ap (λ (x : Bool). x && is_run L.last) L.ok-is ∙ and_assoc (is_run L.first) (all_runs L.done) (is_run L.last)
      ∙ ap (λ (x : Bool). is_run L.first && x) (sym (runs-snoc L.done L.last) ∙ ap all_runs (sym L.words_are)))
      none (λ h. D.ports-are ∙ L.ports-are h) (rw L.words_are D.masks-are) (rw none)

  pub closes-text : s.phase ≡ phase.Text → Closes s ms s ms
  unfolding Closes
  closes-text p input tx S =
      let T : InText input s ms tx = of-text _ _ _ _ p S in
      let y : List ℕ = T.second ++ (10 ∷ T.rest) in
      let up : behind input ≡ y = ap behind T.is ∙ behind-is y T.first T.first-open in
      let low : s.length ≤ 4097 = omega (arith, T.length-is) in
      let same : min 4097 s.length ≡ s.length = omega arith in
      closed_parts input T.first T.second T.rest
      record {
        ended = ap ends T.is ∙ ends_is y T.first;
        first-is = ap line T.is ∙ line-is y T.first T.first-open;
        second_is = ap line up ∙ line-is T.rest T.second T.second-open;
        rest-is = ap behind up ∙ behind-is T.rest T.second T.second-open;
      }
      s ms tx T.ok-is T.length-is T.ports-are T.masks-are (ap (λ (x : ℕ). take x tx) (sym same) ∙ T.text-is)
