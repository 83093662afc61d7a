-- Cells that repeat: the first of them copied up to a width. Assumes nothing.
use mathlib.Core.Path.{◌≡◌, refl, sym, ap, ap₂, ◌∙◌}
use mathlib.Core.List.{List, ◌++◌}
use Prim.Native.Nat.{ℕ, ◌+◌, ◌-◌, ◌*◌, ◌/◌, ◌%◌, ◌≤◌, ◌<◌, min}
use native.Mathlib.Nat.{div-one, mod-lt, mod-eq_of_lt, mod_self, mod-mod, mod-add-mod, zero-add, one-le-mul, mul-mod_left}
use native.Mathlib.Decide.{dec_lt}
use native.Mathlib.Omega.{arith}
use lib.Arith.{digits_div, mod-mul}
use lib.ListN.{length, take, drop, get_or, get_or-append, take-append-drop}
use lib.Seq.{drop-drop, drop-append-add}
use Rattle.logic.specs.Cells.{tabulate}
use Rattle.logic.proofs.Tables.{length-tabulate, get_d_tabulate, tabulate-cong}
use Rattle.cells_runs.specs.inner.Ports.{digit_at, RunsPlaced, repeated, Round}
use Rattle.cells_runs.proofs.Digits.{run_fits}
use Rattle.logic.proofs.Written.{Written, done, from_first, take-tabulate, copied}
use Rattle.cells_runs.proofs.Runs.{part-more}

-- Whole periods on, a place is the same in its period.
pub period-on : (t i p : ℕ) → t % p ≡ 0 → (t + i) % p ≡ i % p
period-on t i p z = sym (mod-add-mod t p i) ∙ ap (λ (x : ℕ). (x + i) % p) z ∙ ap (λ (x : ℕ). x % p) (zero-add i)

first_cell : (f : ℕ → ℕ) (n i : ℕ) (xs : List ℕ) → i < n → get_or (tabulate n f ++ xs) i 0 ≡ f i
first_cell f n i xs l = get_or-append (tabulate n f) xs 0 i (rw (length-tabulate n f) l) ∙ get_d_tabulate n f i l

-- What the repeating has done at t: so many cells are those of the first period in turn, whole periods if more are to come.
pub record Repeating (p w : ℕ) (xs cells : List ℕ) (t : ℕ) : Type 0 where
  pub is : Written (λ i. get_or xs (i % p) 0) 0 w xs cells t
  pub past : p ≤ t
  pub whole : t < w → t % p ≡ 0

pub repeat-start : (p w : ℕ) (xs : List ℕ) → p ≤ w → w ≤ length xs → Repeating p w xs xs p
repeat-start p w xs h l =
    let first : tabulate p (λ i. get_or xs (i % p) 0) ≡ take p xs =
    tabulate-cong p (λ i. get_or xs (i % p) 0) (λ i. get_or xs i 0) (λ i q. ap (λ (x : ℕ). get_or xs x 0) (mod-eq_of_lt q)) ∙ sym (take-tabulate p xs (omega arith)) in
    record {
      is = record {
        within = h;
        same_length = refl;
        is = sym (from_first (λ i. get_or xs (i % p) 0) p xs ∙ ap (λ (k : List ℕ). k ++ drop p xs) first ∙ take-append-drop p xs);
      };
      past = omega arith;
      whole = λ _. mod_self p;
    }

-- all that is there, or what is left, copied
pub repeat-more : (p w : ℕ) (xs cells after : List ℕ) (t len : ℕ) → Repeating p w xs cells t → t < w → w ≤ length xs → len ≡ min t (w - t)
    → after ≡ take t cells ++ (take len cells ++ drop (t + len) cells) → Repeating p w xs after (t + len)
repeat-more p w xs cells after t len c l h e a =
    let z : t % p ≡ 0 = c.whole l in
    let k : cells ≡ tabulate t (λ i. get_or xs (i % p) 0) ++ drop t xs = c.is.is ∙ from_first (λ i. get_or xs (i % p) 0) t xs in
    let room : t + len ≤ length cells = omega (arith, c.is.same_length) in
    let same : (i : ℕ) → i < len → get_or cells i 0 ≡ get_or xs ((t + i) % p) 0 =
    λ i q. ap (λ (x : List ℕ). get_or x i 0) k ∙ first_cell (λ j. get_or xs (j % p) 0) t i (drop t xs) (omega arith) ∙ ap (λ (x : ℕ). get_or xs x 0) (sym (period-on t i p z)) in
    record {
      is = part-more (λ i. get_or xs (i % p) 0) (λ i. get_or cells i 0) w t len xs cells after c.is (omega arith) h same (a ∙ sym (copied t len cells cells (omega arith)));
      past = omega (arith, c.past);
      whole = λ q. let d : len ≡ t = omega arith in ap (λ (x : ℕ). (t + x) % p) d ∙ period-on t t p z ∙ z;
    }

pub repeat-all : (p w : ℕ) (xs cells : List ℕ) (t : ℕ) → Repeating p w xs cells t → w ≤ t → cells ≡ repeated p w xs
unfolding repeated
repeat-all p w xs cells t c h = done (λ i. get_or xs (i % p) 0) 0 w xs cells t c.is h ∙ from_first (λ i. get_or xs (i % p) 0) w xs

-- The first cells are f's, and f is the same a period on: so are all.
pub repeated-is : (f : ℕ → ℕ) (r w : ℕ) (xs first after : List ℕ) → first ≡ tabulate r f ++ drop r xs → after ≡ repeated r w first → min 1 w ≤ r → r ≤ w
    → ((t : ℕ) → t < w → f t ≡ f (t % r)) → after ≡ tabulate w f ++ drop w xs
unfolding repeated
repeated-is f r w xs first after e a h k q =
    let n : w ≡ length (tabulate r f) + (w - r) = omega (arith, length-tabulate r f) in
    let m : r + (w - r) ≡ w = omega arith in
    let rest : drop w (tabulate r f ++ drop r xs) ≡ drop w xs =
    ap (λ (x : ℕ). drop x (tabulate r f ++ drop r xs)) n ∙ drop-append-add (tabulate r f) (drop r xs) (w - r) ∙ drop-drop (w - r) r xs ∙ ap (λ (x : ℕ). drop x xs) m in
    let own : (t : ℕ) → t < w → get_or first (t % r) 0 ≡ f t =
    λ t l. ap (λ (x : List ℕ). get_or x (t % r) 0) e ∙ first_cell f r (t % r) (drop r xs) (mod-lt t (omega arith)) ∙ sym (q t l) in
    a ∙ ap₂ (λ (x y : List ℕ). x ++ y) (tabulate-cong w (λ t. get_or first (t % r) 0) f own) (ap (drop w) e ∙ rest)

-- the port in the run of a port
pub round-port : (u block port i : ℕ) → port < u → i < block → port ≡ digit_at u block (port * block + i)
unfolding digit_at
round-port u block port i h l = sym (ap (λ (x : ℕ). x % u) (digits_div port l) ∙ mod-eq_of_lt h)

pub round-fits : {u block w : ℕ} {cells : List ℕ} → RunsPlaced u block w cells → (port t : ℕ) → t ≡ port * block → t < w → t + block ≤ w
round-fits {u} {block} p port t e l = run_fits p t (ap (λ (x : ℕ). x % block) e ∙ mul-mod_left port block) l

-- after the last port the first comes again
pub digit-period : (u block x : ℕ) → 1 ≤ u → 1 ≤ block → digit_at u block (x % (u * block)) ≡ digit_at u block x
unfolding digit_at
digit-period u block x u1 b1 =
    ap (λ (m : ℕ). m / block % u) (mod-mul x u1 b1) ∙ ap (λ (m : ℕ). m % u) (digits_div (x / block % u) (mod-lt x b1)) ∙ mod-mod (x / block) u

-- every port once
pub round_whole : {u block w : ℕ} {cells : List ℕ} → RunsPlaced u block w cells → (t : ℕ) → t ≡ u * block → t < w → Round u block w t
round_whole {u} {block} {w} p t e l = record {
  some = omega (arith, one-le-mul p.ports1 p.block1);
  within = omega arith;
  again = λ x _. sym (ap (λ (m : ℕ). digit_at u block (x % m)) e ∙ digit-period u block x p.ports1 p.block1);
}

-- all there are
pub round-all : (u block w t : ℕ) → t ≡ w → Round u block w t
round-all u block w t e = record {
  some = omega arith;
  within = omega arith;
  again = λ x l. ap (digit_at u block) (sym (ap (λ (m : ℕ). x % m) e ∙ mod-eq_of_lt l));
}

-- every port once, or all there are
pub round-end : {u block w : ℕ} {cells : List ℕ} → RunsPlaced u block w cells → (t : ℕ) → t ≡ u * block → t ≤ w → Round u block w t
round-end {u} {block} {w} p t e h = go (dec_lt t w)
  where
    go : Dec (t < w) → Round u block w t
    go (yes l) = round_whole p t e l
    go (no n) = round-all u block w t (omega arith)

-- the first row of the innermost variable
pub row-port : (u t : ℕ) → t < u → t ≡ digit_at u 1 t
unfolding digit_at
row-port u t h = sym (ap (λ (x : ℕ). x % u) (div-one t) ∙ mod-eq_of_lt h)

pub round-row : {u w : ℕ} {cells : List ℕ} → RunsPlaced u 1 w cells → (t : ℕ) → t ≡ min u w → Round u 1 w t
round-row {u} {w} p t e = go (dec_lt t w)
  where
    go : Dec (t < w) → Round u 1 w t
    go (yes l) = round_whole p t (omega arith) l
    go (no l) = round-all u 1 w t (omega arith)
