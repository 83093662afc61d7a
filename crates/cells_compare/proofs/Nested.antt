-- Two variables whose runs stand inside one another: their ports from round to round, and comparisons by order. Assumes nothing.
use mathlib.Core.Path.{◌≡◌, refl, sym, ap, ap₂, ◌∙◌}
use mathlib.Core.Bool.{false, cond, not}
use mathlib.Core.List.{List}
use Prim.Native.Nat.{ℕ, ◌+◌, ◌-◌, ◌*◌, ◌/◌, ◌%◌, ◌≤◌, ◌<◌}
use native.Mathlib.Nat.{mod-lt, mod-eq_of_lt, mod-mod_of_dvd, zero-div, zero-mod, zero-add, one-le-mul, mul_comm, mul-le-mul_right, suc-mul, div-div-eq-div-mul, div-lt_iff_lt-mul, le-div_iff_mul-le, div-mul_cancel, div-add-mod', dvd_of_mod-eq-zero, dvd_iff_mod-eq-zero, dvd-mul_left_of_dvd}
use native.Mathlib.Decide.{dec_lt}
use native.Mathlib.Omega.{arith}
use lib.Arith.{digits_div}
use lib.Dec.{eqb, ltb}
use lib.ListN.{length}
use borrow.Author.Tests.{lt-ltb, le-ltb, le-leb, lt-leb, eq-eqb, ne_eqb}
use Rattle.logic.specs.Formula.{Relation, lt, le, eq, ne, ge, gt, relation_of}
use Rattle.logic.specs.Configuration.{indicator}
use Rattle.logic.specs.Penalty.{compare}
use Rattle.logic.proofs.Written.{Written, written}
use Rattle.cells_rule.specs.inner.Rule.{rule_penalty}
use Rattle.cells_runs.specs.declared.Digit.{Digit}
use Rattle.cells_runs.specs.inner.Ports.{digit_at, DigitIs, by_order, RunsPlaced, NestedPlaced}
use Rattle.cells_runs.proofs.Digits.{digit_lt, digit-start, run_fits}
use Rattle.cells_runs.proofs.Runs.{run_more}
use Rattle.cells_runs.proofs.Rounds.{period-on, digit-period}

-- A number by order is what each case says.
pub by-order : (x y z n a b : ℕ) → (a < b → x ≡ n) → (a ≡ b → y ≡ n) → (b < a → z ≡ n) → by_order x y z a b ≡ n
unfolding by_order
by-order x y z n a b f g h = go (dec_lt a b) (dec_lt b a)
  where
    go : Dec (a < b) → Dec (b < a) → cond (ltb a b) x (cond (eqb a b) y z) ≡ n
    go (yes l) m = rw (lt-ltb a b l) (f l)
    go (no l) (yes m) = rw (le-ltb a b (omega arith), ne_eqb a b (λ e. omega arith)) (h m)
    go (no l) (no m) = rw (le-ltb a b (omega arith), eq-eqb a b (omega arith)) (g (omega arith))

-- A relation of numbers depends on their order alone.
compare-less : (r : Relation) (a b : ℕ) → a < b → compare r 0 1 ≡ compare r a b
unfolding compare
compare-less lt a b h = sym (lt-ltb a b h)
compare-less le a b h = sym (le-leb a b (omega arith))
compare-less eq a b h = sym (ne_eqb a b (λ e. omega arith))
compare-less ne a b h = sym (ap not (ne_eqb a b (λ e. omega arith)))
compare-less ge a b h = sym (lt-leb b a h)
compare-less gt a b h = sym (le-ltb b a (omega arith))

compare_same : (r : Relation) (a b : ℕ) → a ≡ b → compare r 0 0 ≡ compare r a b
unfolding compare
compare_same lt a b h = sym (le-ltb a b (omega arith))
compare_same le a b h = sym (le-leb a b (omega arith))
compare_same eq a b h = sym (eq-eqb a b h)
compare_same ne a b h = sym (ap not (eq-eqb a b h))
compare_same ge a b h = sym (le-leb b a (omega arith))
compare_same gt a b h = sym (le-ltb b a (omega arith))

compare-more : (r : Relation) (a b : ℕ) → b < a → compare r 1 0 ≡ compare r a b
unfolding compare
compare-more lt a b h = sym (le-ltb a b (omega arith))
compare-more le a b h = sym (lt-leb a b h)
compare-more eq a b h = sym (ne_eqb a b (λ e. omega arith))
compare-more ne a b h = sym (ap not (ne_eqb a b (λ e. omega arith)))
compare-more ge a b h = sym (le-leb b a (omega arith))
compare-more gt a b h = sym (lt-ltb b a h)

-- the penalty of a port comparison
abbrev pub related : ℕ → ℕ → ℕ → ℕ
related r a b = rule_penalty 7 r false a b

related-by : (r a b x y : ℕ) → compare (relation_of r) a b ≡ compare (relation_of r) x y → related r a b ≡ related r x y
unfolding rule_penalty
related-by r a b x y e = ap (λ t. indicator (not t)) e

pub same-port : (r a b : ℕ) → a ≡ b → related r 0 0 ≡ related r a b
same-port r a b h = related-by r 0 0 a b (compare_same (relation_of r) a b h)

-- the order of the inner port to the outer, whichever variable is which
module _ (r less same more : ℕ) (l : less ≡ related r 0 1) (s : same ≡ related r 0 0) (m : more ≡ related r 1 0) (a b : ℕ) where
  pub second-inner : by_order more same less b a ≡ related r a b
  second-inner =
      by-order more same less (related r a b) b a (λ h. m ∙ related-by r 1 0 a b (compare-more (relation_of r) a b h)) (λ e. s ∙ same-port r a b (sym e))
      (λ h. l ∙ related-by r 0 1 a b (compare-less (relation_of r) a b h))

  pub first_inner : by_order less same more a b ≡ related r a b
  first_inner =
      by-order less same more (related r a b) a b (λ h. l ∙ related-by r 0 1 a b (compare-less (relation_of r) a b h)) (λ e. s ∙ same-port r a b e)
      (λ h. m ∙ related-by r 1 0 a b (compare-more (relation_of r) a b h))

-- In whole rounds of the inner variable: its port, and the outer's.
first_round : (u other i : ℕ) → 1 ≤ other → i < u * other → digit_at u other i ≡ i / other
unfolding digit_at
first_round u other i o1 l = mod-eq_of_lt ((div-lt_iff_lt-mul o1).1 l)

inner-port : (u other t i : ℕ) → 1 ≤ u → 1 ≤ other → t % (u * other) ≡ 0 → i < u * other → digit_at u other (t + i) ≡ i / other
inner-port u other t i u1 o1 z l =
    sym (digit-period u other (t + i) u1 o1) ∙ ap (digit_at u other) (period-on t i (u * other) z) ∙ digit-period u other i u1 o1 ∙ first_round u other i o1 l

outer-port : (u block round rounds t i : ℕ) → block ≡ rounds * round → t % round ≡ 0 → i < round → digit_at u block (t + i) ≡ digit_at u rounds (t / round)
unfolding digit_at
outer-port u block round rounds t i e z l =
    let q : t ≡ t / round * round = omega (arith, div-add-mod' t round) in
    ap (λ (x : ℕ). x % u)
    (ap₂ (λ (x y : ℕ). (x + i) / y) q (e ∙ mul_comm rounds round) ∙ sym (div-div-eq-div-mul (t / round * round + i) round rounds)
    ∙ ap (λ (x : ℕ). x / rounds) (digits_div (t / round) l))

pub first-digit : (u rounds round : ℕ) (d : Digit) → d.port ≡ 0 → d.left ≡ rounds → DigitIs u rounds (0 / round) d
first-digit u rounds round d h l = rw (zero-div round) (digit-start u rounds d h l)

module _ {u block other w : ℕ} {cells : List ℕ} (p : NestedPlaced u block other w cells) where
  pub round1 : 1 ≤ u * other
  round1 = one-le-mul p.ports1 p.other1

  pub period1 : 1 ≤ u * block
  period1 = one-le-mul p.ports1 p.block1

  pub block-is : block ≡ block / (u * other) * (u * other)
  block-is = sym (div-mul_cancel (u * other) (dvd_of_mod-eq-zero (u * other) p.nested))

  pub rounds1 : 1 ≤ block / (u * other)
  rounds1 = go (dec_lt 0 (block / (u * other)))
    where
      go : Dec (0 < block / (u * other)) → 1 ≤ block / (u * other)
      go (yes l) = l
      go (no l) = let e : block / (u * other) ≡ 0 = omega arith in absurd (omega (arith, p.block1, block-is ∙ ap (λ (x : ℕ). x * (u * other)) e))

  -- rounds and periods are whole
  pub placed : RunsPlaced u (u * other) (u * block) cells
  placed = record {
    ports1 = p.ports1;
    ports64 = p.ports64;
    block1 = round1;
    whole = (dvd_iff_mod-eq-zero (u * other)).0 (dvd-mul_left_of_dvd (u * other) (dvd_of_mod-eq-zero (u * other) p.nested) u);
    room = omega (arith, p.once, p.room);
  }

  pub round-ends : (t : ℕ) → t % (u * other) ≡ 0 → t < u * block → t + u * other ≤ u * block
  round-ends t z l = run_fits placed t z l

  pub round-in-period : u * other ≤ u * block
  round-in-period = rw zero-add at (round-ends 0 (zero-mod (u * other)) period1)

  -- a period on, both ports are the same
  pub both-again : (less same more t : ℕ) → by_order less same more (digit_at u other t) (digit_at u block t)
      ≡ by_order less same more (digit_at u other (t % (u * block))) (digit_at u block (t % (u * block)))
  both-again less same more t =
      let m : t % (u * block) % (u * other) ≡ t % (u * other) = mod-mod_of_dvd (u * other) t (dvd-mul_left_of_dvd (u * other) (dvd_of_mod-eq-zero (u * other) p.nested) u) in
      ap₂ (by_order less same more)
      (sym (digit-period u other t p.ports1 p.other1) ∙ ap (digit_at u other) (sym m) ∙ digit-period u other (t % (u * block)) p.ports1 p.other1)
      (sym (digit-period u block t p.ports1 p.block1))

  -- the runs of one round, below the outer's port, at it and above it
  pub round-more : (less same more t port : ℕ) (xs c0 c1 c2 c3 : List ℕ) → u * block ≤ length xs → t % (u * other) ≡ 0 → t < u * block
      → port ≡ digit_at u (block / (u * other)) (t / (u * other))
      → (let f : ℕ → ℕ = λ i. by_order less same more (digit_at u other i) (digit_at u block i) in Written f 0 (u * block) xs c0 t)
      → c1 ≡ written (λ _. less) t (port * other) c0
      → c2 ≡ written (λ _. same) (t + port * other) other c1
      → c3 ≡ written (λ _. more) (t + port * other + other) (u * other - port * other - other) c2
      → (let f : ℕ → ℕ = λ i. by_order less same more (digit_at u other i) (digit_at u block i) in Written f 0 (u * block) xs c3 (t + u * other))
  round-more less same more t port xs c0 c1 c2 c3 room z l e i a1 a2 a3 =
      let f : ℕ → ℕ = λ i. by_order less same more (digit_at u other i) (digit_at u block i) in
      let pu : port < u = rw e (digit_lt u (block / (u * other)) (t / (u * other)) p.ports1) in
      let fit : port * other + other ≤ u * other = rw (← (suc-mul port other)) (mul-le-mul_right other pu) in
      let ends : t + u * other ≤ u * block = round-ends t z l in
      let at : (i : ℕ) → i < u * other → by_order less same more (digit_at u other (t + i)) (digit_at u block (t + i)) ≡ by_order less same more (i / other) port =
      λ i q. ap₂ (by_order less same more) (inner-port u other t i p.ports1 p.other1 z q)
      (outer-port u block (u * other) (block / (u * other)) t i block-is z q ∙ sym e) in
      let w1 : Written (λ i. by_order less same more (digit_at u other i) (digit_at u block i)) 0 (u * block) xs c1 (t + port * other) =
      run_more (λ i. by_order less same more (digit_at u other i) (digit_at u block i)) (u * block) t (port * other) less xs c0 c1 i (omega arith) room
      (λ i q. sym (at i (omega arith) ∙ below i ((div-lt_iff_lt-mul p.other1).1 q))) a1 in
      let w2 : Written (λ i. by_order less same more (digit_at u other i) (digit_at u block i)) 0 (u * block) xs c2 (t + port * other + other) =
      run_more (λ i. by_order less same more (digit_at u other i) (digit_at u block i)) (u * block) (t + port * other) other same xs c1 c2 w1 (omega arith) room
      (λ i q. sym (ap (λ (x : ℕ). by_order less same more (digit_at u other x) (digit_at u block x)) (omega arith) ∙ at (port * other + i) (omega arith) ∙ level (port * other + i) (digits_div port q))) a2 in
      let w3 : Written (λ i. by_order less same more (digit_at u other i) (digit_at u block i)) 0 (u * block) xs c3 (t + port * other + other + (u * other - port * other - other)) =
      run_more (λ i. by_order less same more (digit_at u other i) (digit_at u block i)) (u * block) (t + port * other + other) (u * other - port * other - other) more xs c2 c3 w2 (omega arith) room
      (λ i q. sym (ap (λ (x : ℕ). by_order less same more (digit_at u other x) (digit_at u block x)) (omega arith) ∙ at (port * other + other + i) (omega arith)
      ∙ over (port * other + other + i) ((le-div_iff_mul-le p.other1).1 (rw (suc-mul port other) (omega arith))))) a3 in
      let n : t + port * other + other + (u * other - port * other - other) ≡ t + u * other = omega arith in
      rw n at w3
    where
      below : (i : ℕ) → i / other < port → by_order less same more (i / other) port ≡ less
      below i l = by-order less same more less (i / other) port (λ _. refl) (λ e. absurd (omega arith)) (λ m. absurd (omega arith))

      level : (i : ℕ) → i / other ≡ port → by_order less same more (i / other) port ≡ same
      level i l = by-order less same more same (i / other) port (λ m. absurd (omega arith)) (λ _. refl) (λ m. absurd (omega arith))

      over : (i : ℕ) → port < i / other → by_order less same more (i / other) port ≡ more
      over i l = by-order less same more more (i / other) port (λ m. absurd (omega arith)) (λ e. absurd (omega arith)) (λ _. refl)

  -- what the three runs and the step to the next round ask
  pub runs_fit : (d : Digit) (t : ℕ) → DigitIs u (block / (u * other)) (t / (u * other)) d → d.port * other + other ≤ u * other
  runs_fit d t i =
      let pu : d.port < u = rw i.port-is (digit_lt u (block / (u * other)) (t / (u * other)) p.ports1) in
      rw (← (suc-mul d.port other)) (mul-le-mul_right other pu)

  pub step-asks : (d : Digit) (t : ℕ) → DigitIs u (block / (u * other)) (t / (u * other)) d → (d.port < u) × (u ≤ 64) × (1 ≤ d.left)
  step-asks d t i =
      (rw i.port-is (digit_lt u (block / (u * other)) (t / (u * other)) p.ports1), p.ports64, omega (arith, i.left_is, mod-lt (t / (u * other)) rounds1))
