-- At most 21,504 legal moves exist: 1,024 adds and drops, 4,096 transfers, 16,384 swaps. Assumes nothing.
use mathlib.Core.Path.{◌≡◌, refl, sym, ap, ◌∙◌}
use mathlib.Core.Logic.{◌≢◌}
use mathlib.Core.Bool.{Bool, true, false, cond, not, ◌&&◌, true≢false, false≢true}
use mathlib.Core.List.{List, [], ◌∷◌}
use Prim.Native.Nat.{ℕ, zero, suc, ◌+◌, ◌*◌, ◌≤◌, ◌<◌}
use native.Mathlib.Omega.{arith}
use native.Mathlib.Nat.{le_refl, le_trans, le_of_eq}
use lib.Dec.{eqb}
use lib.ListN.{length, length-append}
use borrow.Author.Tests.{ne_eqb}
use Rattle.logic.specs.declared.Move.{Move}
use Rattle.logic.specs.Formula.{Plan}
use Rattle.logic.specs.Configuration.{Sets, indicator}
use Rattle.logic.specs.Penalty.{each_port}
use Rattle.logic.specs.Moves.{move_kind, fields_fit, known, fits, legal, of_kinds}
use Rattle.logic.proofs.Lists.{and_right}
use Rattle.contracts.specs.MoveOrder.{fields_are, all_moves, kept, candidates}
use Rattle.contracts.proofs.Candidates.{kept_append}
use Rattle.logic.specs.inner.MoveFields.{t_end, q_end, Fields, Sized}
use Rattle.move_order.proofs.Listing.{candidate-fields}

-- the sum of h below n
unfoldable total : ℕ → (ℕ → ℕ) → ℕ
total zero h = 0
total (suc n) h = total n h + h n

total-add : (n : ℕ) (g h : ℕ → ℕ) → total n (λ i. g i + h i) ≡ total n g + total n h
unfolding total
total-add zero g h = omega arith
total-add (suc n) g h = omega (arith, total-add n g h)

total-below : (n most c : ℕ) (h : ℕ → ℕ) → n ≤ most → ((i : ℕ) → h i ≤ c) → total n h ≤ most * c
unfolding total
total-below zero most c h e l = omega arith
total-below (suc n) zero c h e l = absurd (omega arith)
total-below (suc n) (suc most) c h e l = omega (arith, total-below n most c h (omega arith) l, l n)

total-zero : (n : ℕ) → total n (λ i. 0) ≡ 0
total-zero n = omega (arith, total-below n n 0 (λ i. 0) (le_refl n) (λ i. le_refl 0))

total-swap : (m n : ℕ) (h : ℕ → ℕ → ℕ) → total m (λ i. total n (h i)) ≡ total n (λ j. total m (λ i. h i j))
unfolding total
total-swap zero n h = sym (total-zero n)
total-swap (suc m) n h = omega (arith, total-swap m n h, total-add n (λ j. total m (λ i. h i j)) (h m))

-- pairs, of which the first passes one test and the second another
pairs-one : (b : Bool) (n : ℕ) (d : ℕ → Bool) → total n (λ j. indicator (b && d j)) ≡ indicator b * total n (λ j. indicator (d j))
unfolding indicator
pairs-one true n d = omega arith
pairs-one false n d = omega (arith, total-zero n)

pairs : (m n : ℕ) (a d : ℕ → Bool)
    → total m (λ i. total n (λ j. indicator (a i && d j))) ≡ total m (λ i. indicator (a i)) * total n (λ j. indicator (d j))
unfolding total
pairs zero n a d = omega arith
pairs (suc m) n a d = omega (arith, pairs m n a d, pairs-one (a m) n d)

-- a test and its opposite
both : (b : Bool) → indicator b + indicator (not b) ≡ 1
unfolding indicator
both true = refl
both false = refl

halves : (n : ℕ) (a : ℕ → Bool) → total n (λ i. indicator (a i)) + total n (λ i. indicator (not (a i))) ≡ n
unfolding total
halves zero a = refl
halves (suc n) a = omega (arith, halves n a, both (a n))

-- Two numbers of a given sum have the greatest product where they are equal.
square : (a b c : ℕ) → a + b ≤ c + c → a * b ≤ c * c
square zero b c h = omega arith
square (suc a) zero c h = omega arith
square (suc a) (suc b) zero h = absurd (omega arith)
square (suc a) (suc b) (suc c) h = omega (arith, square a b c (omega arith))

-- pairs of one that passes a test and one that does not
mixed : (n c : ℕ) (a : ℕ → Bool) → n ≤ c + c → total n (λ i. total n (λ j. indicator (a i && not (a j)))) ≤ c * c
mixed n c a h = le_trans (le_of_eq (pairs n n a (λ j. not (a j)))) (square _ _ c (omega (arith, halves n a, h)))

-- how many moves of a list a test keeps
module _ (f : Move → Bool) where
  abbrev count : List Move → ℕ
  count ms = length (kept f ms)

  count-one : (m : Move) (b : Bool) → (f m ≡ true → b ≡ true) → count (m ∷ []) ≤ indicator b
  unfolding kept indicator
  count-one m b h = go (f m) b h
    where
      go : (a b : Bool) → (a ≡ true → b ≡ true) → length (cond a (m ∷ []) []) ≤ cond b 1 0
      go true true l = omega arith
      go true false l = absurd (false≢true (l refl))
      go false b l = omega arith

  count-more : (n : ℕ) (g : ℕ → List Move) → count (each_port (suc n) g) ≡ count (each_port n g) + count (g n)
  unfolding each_port
  count-more n g = ap length (kept_append f (each_port n g) (g n)) ∙ length-append (kept f (each_port n g)) (kept f (g n))

  count-each : (n : ℕ) (g : ℕ → List Move) (h : ℕ → ℕ) → ((i : ℕ) → count (g i) ≤ h i) → count (each_port n g) ≤ total n h
  unfolding kept each_port total
  count-each zero g h l = omega arith
  count-each (suc n) g h l = omega (arith, count-more n g, count-each n g h l, l n)

  count_none : (n : ℕ) (g : ℕ → List Move) → ((i : ℕ) → count (g i) ≤ 0) → count (each_port n g) ≤ 0
  count_none n g l = omega (arith, count-each n g (λ i. 0) l, total-zero n)

  -- where only the first list has any
  count-first : (n : ℕ) (g : ℕ → List Move) (c : ℕ) → count (g 0) ≤ c → ((i : ℕ) → count (g (suc i)) ≤ 0) → count (each_port n g) ≤ c
  unfolding kept each_port
  count-first zero g c h l = omega arith
  count-first (suc zero) g c h l = h
  count-first (suc (suc n)) g c h l = omega (arith, count-more (suc n) g, count-first (suc n) g c h l, l n)

-- a transfer's sets differ of themselves: the port is in one only
less_asked : (a b c : Bool) → indicator (a && b && c) ≤ indicator (b && c)
unfolding indicator
less_asked true b c = le_refl _
less_asked false b c = omega arith

-- `t_end` and `q_end` are 1 where the field is unused
past_end : (b : Bool) (x n : ℕ) → b ≡ false → suc x < cond b n 1 → ⊥
past_end true x n e h = true≢false e
past_end false x n e h = omega arith

module _ (P : Plan) (Z : Sized P.ports P.sets) (kinds : ℕ) (k : Sets) where
  abbrev candidate : Move → Bool
  candidate m = of_kinds kinds m && legal P k m

  -- the moves of some first fields, in the order of `all_moves`
  abbrev over_q : ℕ → ℕ → ℕ → ℕ → List Move
  over_q kind s t p = each_port P.ports (λ q. fields_are kind s t p q ∷ [])

  abbrev over_p : ℕ → ℕ → ℕ → List Move
  over_p kind s t = each_port P.ports (over_q kind s t)

  abbrev of_kind : ℕ → List Move
  of_kind kind = each_port P.sets (λ s. each_port P.sets (over_p kind s))

  one-legal : (m : Move) → candidate m ≡ true → legal P k m ≡ true
  one-legal m h = and_right (of_kinds kinds m) (legal P k m) h

  one-fits : (m : Move) → count candidate (m ∷ []) ≤ indicator (fits k m)
  unfolding legal
  one-fits m = count-one candidate m (fits k m) (λ h. and_right (known P m) (fits k m) (one-legal m h))

  one_none : (m : Move) → (Fields P.ports P.sets m → ⊥) → count candidate (m ∷ []) ≤ 0
  unfolding indicator
  one_none m n = count-one candidate m false (λ h. absurd (n (candidate-fields P k m (one-legal m h))))

  -- "a field that its kind doesn't use is 0"
  t-unused : (kind s t : ℕ) → kind ≢ 3 → count candidate (over_p kind s (suc t)) ≤ 0
  unfolding fields_are t_end
  t-unused kind s t n =
      count_none candidate P.ports _ (λ p. count_none candidate P.ports _ (λ q.
      one_none _ (λ F. past_end _ t P.sets (ne_eqb kind 3 n) F.t-below)))

  q-unused : (kind s t p : ℕ) → kind ≢ 4 → count candidate (over_q kind s t p) ≤ indicator (fits k (fields_are kind s t p 0))
  unfolding fields_are q_end
  q-unused kind s t p n =
      count-first candidate P.ports _ _ (one-fits _) (λ q.
      one_none _ (λ F. past_end _ q P.ports (ne_eqb kind 4 n) F.q-below))

  both-unused : (kind : ℕ) → kind ≢ 3 → kind ≢ 4
      → count candidate (of_kind kind) ≤ total P.sets (λ s. total P.ports (λ p. indicator (fits k (fields_are kind s 0 p 0))))
  both-unused kind a b =
      count-each candidate P.sets _ _ (λ s. count-first candidate P.sets _ _
      (count-each candidate P.ports _ _ (λ p. q-unused kind s 0 p b)) (λ t. t-unused kind s t a))

  -- 1,024 adds and drops; no kind is 0
  adds-drops : count candidate (of_kind 0) + count candidate (of_kind 1) + count candidate (of_kind 2) ≤ 1024
  unfolding fits fields_fit move_kind fields_are indicator
  adds-drops =
      let ins : ℕ → ℕ = λ s. total P.ports (λ p. indicator (k s p)) in
      let outs : ℕ → ℕ = λ s. total P.ports (λ p. indicator (not (k s p))) in
      let none = both-unused 0 (omega arith) (omega arith) in
      let nothing = total-below P.sets 16 0 (λ s. total P.ports (λ p. 0)) Z.sets-high (λ s. le_of_eq (total-zero P.ports)) in
      let adds = both-unused 1 (omega arith) (omega arith) in
      let drops = both-unused 2 (omega arith) (omega arith) in
      let sums = total-add P.sets ins outs in
      let most = total-below P.sets 16 64 (λ s. ins s + outs s) Z.sets-high (λ s. omega (arith, halves P.ports (k s), Z.ports-high)) in
      omega (arith, none, nothing, adds, drops, sums, most)

  -- 4,096 transfers: at each port, from a set that has it to one that has it not
  -- (the sums change places, so that the port comes first)
  transfers : count candidate (of_kind 3) ≤ 4096
  unfolding fits fields_fit move_kind fields_are
  transfers =
      let able : ℕ → ℕ → ℕ → ℕ = λ s t p. indicator (k s p && not (k t p)) in
      let by-s = count-each candidate P.sets _ (λ s. total P.ports (λ p. total P.sets (λ t. able s t p))) (λ s.
      le_trans (count-each candidate P.sets _ _ (λ t. count-each candidate P.ports _ _ (λ p.
      le_trans (q-unused 3 s t p (omega arith)) (less_asked (not (eqb s t)) (k s p) (not (k t p))))))
      (le_of_eq (total-swap P.sets P.ports (able s)))) in
      le_trans (le_trans by-s (le_of_eq (total-swap P.sets P.ports (λ s p. total P.sets (λ t. able s t p)))))
      (total-below P.ports 64 64 _ Z.ports-high (λ p. mixed P.sets 8 (λ s. k s p) Z.sets-high))

  -- 16,384 swaps: in each set, of a port in it with one that is not
  swaps : count candidate (of_kind 4) ≤ 16384
  unfolding fits fields_fit move_kind fields_are
  swaps =
      le_trans (count-each candidate P.sets _ (λ s. total P.ports (λ p. total P.ports (λ q. indicator (k s p && not (k s q))))) (λ s.
      count-first candidate P.sets _ _ (count-each candidate P.ports _ _ (λ p. count-each candidate P.ports _ _ (λ q. one-fits _)))
      (λ t. t-unused 4 s t (omega arith))))
      (total-below P.sets 16 1024 _ Z.sets-high (λ s. mixed P.ports 32 (k s) Z.ports-high))

  all_kinds : count candidate (all_moves P) ≤ 21504
  unfolding all_moves total
  all_kinds =
      omega (arith, count-each candidate 5 of_kind (λ kind. count candidate (of_kind kind)) (λ kind. le_refl _), adds-drops, transfers, swaps)

-- At most 21,504 legal moves exist, whatever the sets are.
pub few-candidates : (P : Plan) → Sized P.ports P.sets → (kinds : ℕ) (k : Sets) → length (candidates P kinds k) ≤ 21504
unfolding candidates
few-candidates P Z kinds k = all_kinds P Z kinds k
