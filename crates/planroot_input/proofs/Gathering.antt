-- The masks of line 2, one by one. Assumes nothing.
use mathlib.Core.Path.{◌≡◌, refl, sym, ap, ◌∙◌}
use mathlib.Core.Bool.{Bool, true, false, ◌&&◌, false≢true}
use mathlib.Core.List.{List, [], ◌∷◌, ◌++◌}
use Prim.Native.Nat.{ℕ, suc, ◌+◌, ◌≤◌, ◌<◌, min}
use native.Mathlib.Decide.{dec_lt}
use native.Mathlib.Omega.{arith}
use lib.Dec.{ltb}
use lib.ListN.{length, take, set, length-append}
use lib.Seq.{take-suc-set, take_all, take-append-le}
use borrow.Author.Tests.{lt-ltb, le-ltb}
use Rattle.std.specs.Prelude.{Option, Some, None, is_some, SomeIff}
use Rattle.std.specs.Option.{unwrap_or}
use Rattle.std.proofs.lemmas.Bool.{false_from_ne_true}
use Rattle.logic.proofs.Lists.{and_left, and_right}
use Rattle.text_tokens.specs.Tokens.{pick}
use Rattle.planroot_input.specs.declared.Word.{Word}
use Rattle.planroot_input.specs.declared.Word.TheVariants as word
use Rattle.planroot_input.specs.declared.Phase.TheVariants as phase
use Rattle.planroot_input.specs.declared.Scan.{Scan}
use Rattle.planroot_input.specs.Lines.{ends, value, is_run, all_runs, values}
use Rattle.planroot_input.specs.inner.Words.{is-empty, IsWord, JudgesWord}
use Rattle.planroot_input.specs.inner.Scans.{Gathered, placed, Scanned, EndsWord}
use Rattle.planroot_input.proofs.Phases.{in-line-1}

pub and_assoc : (a b c : Bool) → ((a && b) && c) ≡ (a && (b && c))
and_assoc true b c = refl
and_assoc false b c = refl

pub and_off : (a b : Bool) → a ≡ false → a ≡ (a && b)
and_off true b e = absurd (false≢true (sym e))
and_off false b e = refl

pub and_one : (a : Bool) → (a && true) ≡ a
and_one true = refl
and_one false = refl

pub runs-snoc : (ws : List (List ℕ)) (w : List ℕ) → all_runs (ws ++ (w ∷ [])) ≡ (all_runs ws && is_run w)
unfolding all_runs
runs-snoc [] w = and_one (is_run w)
runs-snoc (x ∷ ws) w = ap (λ (b : Bool). is_run x && b) (runs-snoc ws w) ∙ sym (and_assoc (is_run x) (all_runs ws) (is_run w))

pub values-snoc : (ws : List (List ℕ)) (w : List ℕ) → values (ws ++ (w ∷ [])) ≡ values ws ++ (value w ∷ [])
unfolding values
values-snoc [] w = refl
values-snoc (x ∷ ws) w = ap (λ (l : List ℕ). value x ∷ l) (values-snoc ws w)

pub length-values : (ws : List (List ℕ)) → length (values ws) ≡ length ws
unfolding values
length-values [] = refl
length-values (w ∷ ws) = ap suc (length-values ws)

length-snoc : (ws : List (List ℕ)) (w : List ℕ) → length (ws ++ (w ∷ [])) ≡ length ws + 1
length-snoc ws w = length-append ws (w ∷ [])

-- one number more, of which the first k are kept and K counted
pub one_more : (k K : ℕ) (vs ms : List ℕ) (n v : ℕ) → k ≤ K → n ≡ min K (length vs) → k ≤ length ms → take (min k n) ms ≡ take k vs
    → take (min k (min K (n + 1))) (placed k ms n v) ≡ take k (vs ++ (v ∷ []))
unfolding placed
one_more k K vs ms n v low count room are = go (dec_lt n k)
  where
    go : Dec (n < k) → take (min k (min K (n + 1))) (pick (ltb n k) (set ms n v) ms) ≡ take k (vs ++ (v ∷ []))
    go (yes h) =
        let j : min k (min K (n + 1)) ≡ suc n = omega arith in
        let m : min k n ≡ n = omega arith in
        let whole : take n ms ≡ vs = ap (λ (x : ℕ). take x ms) (sym m) ∙ are ∙ take_all k vs (omega arith) in
        rw (j, lt-ltb n k h)
        (take-suc-set ms n v (omega arith) ∙ ap (λ (l : List ℕ). l ++ (v ∷ [])) whole
        ∙ sym (take_all k (vs ++ (v ∷ [])) (omega (arith, length-append vs (v ∷ [])))))
    go (no f) =
        let j : min k (min K (n + 1)) ≡ min k n = omega arith in
        rw (j, le-ltb n k (omega arith)) (are ∙ sym (take-append-le k vs (v ∷ []) (omega arith)))

module _ {A : Type 0} (k : ℕ) (xs : List A) (n : ℕ) (x : A) where
  pub placed-low : n < k → set xs n x ≡ placed k xs n x
  unfolding placed
  placed-low h = rw (lt-ltb n k h)

  pub placed-high : k ≤ n → xs ≡ placed k xs n x
  unfolding placed
  placed-high h = rw (le-ltb n k h)

pub gathered_none : (ms : List ℕ) → Gathered [] 0 ms
unfolding values
gathered_none ms = record { count-is = refl; are = λ _. refl }

pub start-scanned : (o : Bool) (p m l : ℕ) (ms tx : List ℕ)
    → Scanned [] (record { phase = phase.FirstLine; ok = o; word = word.Empty; ports = p; masks = m; length = l }) ms tx
unfolding ends
start-scanned o p m l ms tx = in-line-1 _ _ _ _ refl record { unended = refl; word = is-empty }

-- what is known of the number of a word that is a digit run
module _ (w : Word) (r : Option ℕ) (J : JudgesWord w r) (v : List ℕ) (W : IsWord v w) where
  pub run-known : is_some r ≡ is_run v
  unfolding JudgesWord
  run-known = go r (J v W)
    where
      go : (r : Option ℕ) → SomeIff r (is_run v ≡ true) (value v) → is_some r ≡ is_run v
      go None f = sym (false_from_ne_true (is_run v) f)
      go (Some n) g = sym g.0

  pub run-value : is_run v ≡ true → unwrap_or r 0 ≡ value v
  unfolding JudgesWord
  run-value h = go r (J v W)
    where
      go : (r : Option ℕ) → SomeIff r (is_run v ≡ true) (value v) → unwrap_or r 0 ≡ value v
      go None f = absurd (f h)
      go (Some n) g = g.1

pub ends-word : (s : Scan) (ms : List ℕ) (r : Option ℕ) (b : Bool) (n : ℕ) → 16 ≤ length ms → JudgesWord s.word r → b ≡ (s.ok && is_some r) → n ≡ min 17 (s.masks + 1)
    → EndsWord s ms (record { phase = s.phase; ok = b; word = word.Empty; ports = s.ports; masks = n; length = s.length }) (placed 16 ms s.masks (unwrap_or r 0))
unfolding EndsWord
ends-word s ms r b n room J o c done last W G = record {
  masks-are = record {
    count-is = c ∙ omega (arith, G.count-is, length-snoc done last);
    are = λ h.
        let runs : (all_runs done && is_run last) ≡ true = sym (runs-snoc done last) ∙ h in
        let v : unwrap_or r 0 ≡ value last = run-value s.word r J last W (and_right (all_runs done) _ runs) in
        rw (values-snoc done last, c, ← v)
        (one_more 16 17 (values done) ms s.masks (unwrap_or r 0) (omega arith) (G.count-is ∙ ap (λ (x : ℕ). min 17 x) (sym (length-values done))) room (G.are (and_left (all_runs done) _ runs)));
  };
  ok-is = o ∙ ap (λ (x : Bool). s.ok && x) (run-known s.word r J last W);
  word = is-empty;
  phase-is = refl;
  ports-are = refl;
  length-is = refl;
}
