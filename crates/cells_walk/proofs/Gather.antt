-- A cell's new number, gathered from the cells directly below it one after the other. Assumes nothing.
use mathlib.Core.Path.{◌≡◌, refl, sym, ap, ◌∙◌}
use mathlib.Core.Bool.{Bool, true, false, cond}
use mathlib.Core.List.{List, [], ◌∷◌, ◌++◌}
use Prim.Native.Nat.{ℕ, zero, suc, ◌+◌, ◌-◌, ◌^◌, ◌%◌, ◌≤◌, ◌<◌, min}
use native.Mathlib.Nat.{min-le_left}
use native.Mathlib.Omega.{arith}
use lib.ListN.{length, length-append}
use borrow.Author.Tests.{eqb-true, leb-true}
use Rattle.logic.specs.Formula.{Node, root, all, any, and, or, lit, Forest, none, tree, kind_number, child_depth}
use Rattle.logic.specs.inner.Literals.{Every, OfLiteral}
use Rattle.logic.specs.Configuration.{Configuration}
use Rattle.logic.specs.Truth.{Tuple}
use Rattle.logic.specs.Penalty.{literal_penalty, least, copy, combine, each_port, below}
use Rattle.logic.specs.Cells.{sibling_first}
use Rattle.logic.specs.Change.{Change, touched, modulus, Renewal, differences, new_numbers, renew, OldCells, renewals, new_cell}
use Rattle.logic.proofs.Bound.{LiteralsAtMost}
use Rattle.logic.proofs.Touched.{Inner}
use Rattle.table_format.specs.Rules.{tree_count, arity_rule}
use Rattle.cells_sum.specs.inner.Walk.{adds, most_cell, begun, taken, gathered}

-- a cell of 32 bits, before and after, that keeps its number if it is not touched
pub record Fits (x : Renewal) : Type 0 where
  pub old-fits : x.old < modulus
  pub new-fits : x.new < modulus
  pub kept : x.hit ≡ false → x.new ≡ x.old

unfoldable pub AllFit : List Renewal → Type 0
AllFit [] = Unit {0}
AllFit (x ∷ xs) = Fits x × AllFit xs

-- how many cells must stand directly below a cell whose new number is gathered: a minimum of none has no number
unfoldable pub Enough : Node → ℕ → Type 0
Enough root m = m ≡ 1
Enough all m = Unit {0}
Enough any m = 1 ≤ m
Enough and m = Unit {0}
Enough or m = 1 ≤ m
Enough (lit l) m = ⊥

-- a cell that is not touched adds its number less itself, which is nothing modulo 2^32
sum_step : (hit : Bool) (acc old new rest : ℕ) → old < modulus → (hit ≡ false → new ≡ old)
    → ((acc + (new + (modulus - old))) % modulus + rest) % modulus ≡ (acc + (cond hit (new + (modulus - old)) 0 + rest)) % modulus
unfolding modulus
sum_step true acc old new rest l h = omega arith
sum_step false acc old new rest l h = omega (arith, h refl)

gathered-sum : (acc : ℕ) (xs : List Renewal) → AllFit xs → acc < modulus → gathered true acc xs ≡ (acc + differences xs) % modulus
unfolding gathered taken differences AllFit modulus
gathered-sum acc [] F l = omega arith
gathered-sum acc (x ∷ xs) F l =
    gathered-sum ((acc + (x.new + (modulus - x.old))) % modulus) xs F.1 (omega arith)
    ∙ sum_step x.hit acc x.old x.new (differences xs) F.0.old-fits F.0.kept

gathered-least : (acc : ℕ) (x : Renewal) (xs : List Renewal) → gathered false acc (x ∷ xs) ≡ min acc (least (new_numbers (x ∷ xs)))
unfolding gathered taken new_numbers least
gathered-least acc x [] = refl
gathered-least acc x (y ∷ ys) = gathered-least (min acc x.new) y ys ∙ omega arith

least-le : (x : Renewal) (xs : List Renewal) → least (new_numbers (x ∷ xs)) ≤ x.new
unfolding new_numbers least
least-le x [] = omega arith
least-le x (y ∷ ys) = min-le_left x.new (least (new_numbers (y ∷ ys)))

-- a minimum may begin with the largest number
gathered-afresh : (xs : List Renewal) → AllFit xs → 1 ≤ length xs → gathered false most_cell xs ≡ least (new_numbers xs)
unfolding AllFit most_cell modulus
gathered-afresh [] F h = absurd (omega arith)
gathered-afresh (x ∷ xs) F h = gathered-least 4294967295 x xs ∙ omega (arith, least-le x xs, F.0.new-fits)

copy-least : (xs : List Renewal) → length xs ≡ 1 → copy (new_numbers xs) ≡ least (new_numbers xs)
unfolding copy new_numbers least
copy-least [] h = absurd (omega arith)
copy-least (x ∷ []) h = refl
copy-least (x ∷ y ∷ ys) h = absurd (omega arith)

pub renew-gathered : (k : Configuration) (n : Node) (e : Tuple) (old : ℕ) (xs : List Renewal) → AllFit xs → Enough n (length xs) → old < modulus
    → renew k n e old xs ≡ gathered (adds n) (begun (adds n) old) xs
unfolding renew combine adds begun Enough
renew-gathered k root e old xs F h l = copy-least xs h ∙ sym (gathered-afresh xs F (omega arith))
renew-gathered k all e old xs F h l = sym (gathered-sum old xs F l)
renew-gathered k any e old xs F h l = sym (gathered-afresh xs F h)
renew-gathered k and e old xs F h l = sym (gathered-sum old xs F l)
renew-gathered k or e old xs F h l = sym (gathered-afresh xs F h)
renew-gathered k (lit x) e old xs F h l = absurd h

-- The cells of a plan are such.

all-fit-append : (xs ys : List Renewal) → AllFit xs → AllFit ys → AllFit (xs ++ ys)
unfolding AllFit
all-fit-append [] ys h k = k
all-fit-append (x ∷ xs) ys h k = (h.0, all-fit-append xs ys h.1 k)

all-fit-ports : (u : ℕ) (g : ℕ → List Renewal) → ((p : ℕ) → AllFit (g p)) → AllFit (each_port u g)
unfolding AllFit each_port
all-fit-ports zero g H = tt
all-fit-ports (suc u) g H = all-fit-append (each_port u g) (g u) (all-fit-ports u g H) (H u)

all-fit-below : (u : ℕ) (n : Node) (e : Tuple) (g : Tuple → List Renewal) → ((x : Tuple) → AllFit (g x)) → AllFit (below u n e g)
unfolding below
all-fit-below u root e g H = H e
all-fit-below u all e g H = all-fit-ports u _ (λ p. H (p ∷ e))
all-fit-below u any e g H = all-fit-ports u _ (λ p. H (p ∷ e))
all-fit-below u and e g H = H e
all-fit-below u or e g H = H e
all-fit-below u (lit l) e g H = H e

least_fits : (xs : List Renewal) → AllFit xs → least (new_numbers xs) < modulus
unfolding AllFit new_numbers least modulus
least_fits [] F = omega arith
least_fits (x ∷ xs) F = omega (arith, least-le x xs, F.0.new-fits)

copy-fits : (xs : List Renewal) → AllFit xs → copy (new_numbers xs) < modulus
unfolding AllFit new_numbers copy modulus
copy-fits [] F = omega arith
copy-fits (x ∷ xs) F = F.0.new-fits

cond-fits : (hit : Bool) (x y : ℕ) → x < modulus → y < modulus → cond hit x y < modulus
cond-fits true x y h k = h
cond-fits false x y h k = k

cond-kept : (hit : Bool) (x y : ℕ) → hit ≡ false → cond hit x y ≡ y
cond-kept hit x y h = ap (λ (a : Bool). cond a x y) h

module _ (u : ℕ) (k : Configuration) (ch : Change) (t : OldCells) (low : (b : ℕ) (e : Tuple) → t b e < modulus) (B : ℕ) (small : B < modulus) where
  renew-fits : (n : Node) (e : Tuple) (old : ℕ) (xs : List Renewal) → OfLiteral (λ l. (x : Tuple) → literal_penalty k l x ≤ B) n → AllFit xs
      → renew k n e old xs < modulus
  unfolding renew combine OfLiteral modulus
  renew-fits root e old xs h F = copy-fits xs F
  renew-fits all e old xs h F = omega arith
  renew-fits any e old xs h F = least_fits xs F
  renew-fits and e old xs h F = omega arith
  renew-fits or e old xs h F = least_fits xs F
  renew-fits (lit l) e old xs h F = omega (arith, h e)

  pub renewals-fit : (f : Forest) (b d : ℕ) (e : Tuple) → LiteralsAtMost B k f d → AllFit (renewals u k ch t f b d e)
  unfolding AllFit renewals LiteralsAtMost Every
  renewals-fit none b d e h = tt
  renewals-fit (tree n c s) b d e h = (
    record {
      old-fits = low b e;
      new-fits = cond-fits (touched ch n c e) _ _
          (renew-fits n e (t b e) _ h.0
          (all-fit-below u n e (renewals u k ch t c (b + u ^ d) (child_depth n d)) (λ x. renewals-fit c (b + u ^ d) (child_depth n d) x h.1)))
          (low b e);
      kept = λ a. cond-kept (touched ch n c e) _ (t b e) a;
    },
    renewals-fit s (sibling_first u n c b d) d e h.2,
  )

  pub below-fit : (n : Node) (c : Forest) (b d : ℕ) (e : Tuple) → LiteralsAtMost B k c d → AllFit (below u n e (renewals u k ch t c b d))
  below-fit n c b d e h = all-fit-below u n e (renewals u k ch t c b d) (λ x. renewals-fit c b d x h)

pub length-renewals : (u : ℕ) (k : Configuration) (ch : Change) (t : OldCells) (f : Forest) (b d : ℕ) (e : Tuple)
    → length (renewals u k ch t f b d e) ≡ tree_count f
unfolding renewals tree_count
length-renewals u k ch t none b d e = refl
length-renewals u k ch t (tree n c s) b d e = ap suc (length-renewals u k ch t s (sibling_first u n c b d) d e)

length-ports : (u : ℕ) (g : ℕ → List Renewal) → 1 ≤ u → ((p : ℕ) → 1 ≤ length (g p)) → 1 ≤ length (each_port u g)
unfolding each_port
length-ports zero g h H = absurd (omega arith)
length-ports (suc u) g h H = omega (arith, length-append (each_port u g) (g u), H u)

-- "Root and quantifiers have one child, and/or two or more"
pub enough-below : (u : ℕ) → 1 ≤ u → (n : Node) (e : Tuple) (g : Tuple → List Renewal) (m : ℕ) → Inner n → arity_rule (kind_number n) m ≡ true
    → ((x : Tuple) → length (g x) ≡ m) → Enough n (length (below u n e g))
unfolding Inner arity_rule kind_number below Enough
enough-below u u1 root e g m i a H = H e ∙ eqb-true m 1 a
enough-below u u1 all e g m i a H = tt
enough-below u u1 any e g m i a H = length-ports u (λ p. g (p ∷ e)) u1 (λ p. omega (arith, H (p ∷ e), eqb-true m 1 a))
enough-below u u1 and e g m i a H = tt
enough-below u u1 or e g m i a H = omega (arith, H e, leb-true 2 m a)
enough-below u u1 (lit l) e g m i a H = absurd i

-- the new number of a touched cell of a node that is no literal
pub new-cell-gathered : (u : ℕ) → 1 ≤ u → (k : Configuration) (ch : Change) (t : OldCells) → ((b : ℕ) (e : Tuple) → t b e < modulus)
    → (B : ℕ) → B < modulus → (n : Node) (c : Forest) (b d : ℕ) (e : Tuple) → LiteralsAtMost B k c (child_depth n d)
    → Inner n → arity_rule (kind_number n) (tree_count c) ≡ true → touched ch n c e ≡ true
    → new_cell u k ch t n c b d e
    ≡ gathered (adds n) (begun (adds n) (t b e)) (below u n e (renewals u k ch t c (b + u ^ d) (child_depth n d)))
unfolding new_cell
new-cell-gathered u u1 k ch t low B small n c b d e h i a hot =
    let g = renewals u k ch t c (b + u ^ d) (child_depth n d) in
    ap (λ (x : Bool). cond x (renew k n e (t b e) (below u n e g)) (t b e)) hot
    ∙ renew-gathered k n e (t b e) (below u n e g) (below-fit u k ch t low B small n c (b + u ^ d) (child_depth n d) e h)
    (enough-below u u1 n e g (tree_count c) i a (λ x. length-renewals u k ch t c (b + u ^ d) (child_depth n d) x)) (low b e)
