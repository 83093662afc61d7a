-- A row read, gone into a sum or a minimum, and counted, port by port. Assumes nothing.
use Rattle.std.proofs.Common.{◌≡◌, ℕ, zero, suc, ◌+◌, ◌<◌, Bool, true, false, not, eqb, List, [], ◌∷◌, get_or, drop, sym, refl, ap, ◌∙◌, ap₂, arith}
use lib.ListN.{get_or-append}
use Rattle.logic.specs.Configuration.{indicator}
use Rattle.logic.specs.Cells.{tabulate}
use Rattle.logic.specs.Penalty.{sum, each_port}
use Rattle.logic.specs.Change.{modulus, Renewal}
use Rattle.logic.proofs.Lists.{each-port-cong}
use Rattle.logic.proofs.Tables.{length-tabulate, get_d_tabulate}
use Rattle.cells_sum.specs.inner.Walk.{taken, gathered}
use Rattle.cells_sum.proofs.Sums.{taken-same, gathered-append, sum-port}
use Rattle.cells_row.specs.inner.Row.{row_of, renewal_at, row_gathered, row_changes, row_taken, row_kept}

pub row_at : (u : ℕ) (g : ℕ → ℕ) (out : List ℕ) (x : ℕ) → x < u → get_or (row_of u g out) x 0 ≡ g x
unfolding row_of
row_at u g out x h =
    get_or-append (tabulate u g) (drop u out) 0 x (rw length-tabulate h) ∙ get_d_tabulate u g x h

-- one more port
pub gathered-port : (add : Bool) (acc u : ℕ) (h : ℕ → Renewal)
    → gathered add acc (each_port (suc u) (λ x. h x ∷ [])) ≡ taken add (gathered add acc (each_port u (λ x. h x ∷ []))) (h u)
unfolding each_port gathered
gathered-port add acc u h = gathered-append add acc (each_port u (λ x. h x ∷ [])) (h u ∷ [])

-- a row that holds the numbers of the cells below a quantifier goes into its cell as they do
pub gathered-rows : (add : Bool) (acc u : ℕ) (new old : List ℕ) (h : ℕ → Renewal)
    → ((x : ℕ) → x < u → (get_or old x 0 ≡ (h x).old) × (get_or new x 0 ≡ (h x).new))
    → row_gathered add acc new old u ≡ gathered add acc (each_port u (λ x. h x ∷ []))
unfolding row_gathered renewal_at each_port
gathered-rows add acc zero new old h H = refl
gathered-rows add acc (suc u) new old h H =
    gathered-port add acc u (renewal_at new old)
    ∙ ap (λ (m : ℕ). taken add m (renewal_at new old u)) (gathered-rows add acc u new old h (λ x l. H x (omega arith)))
    ∙ taken-same add (gathered add acc (each_port u (λ x. h x ∷ []))) (renewal_at new old u) (h u) (H u (omega arith)).0 (H u (omega arith)).1
    ∙ sym (gathered-port add acc u h)

pub sums_same : (u : ℕ) (f g : ℕ → ℕ) → ((x : ℕ) → x < u → f x ≡ g x) → sum (each_port u (λ x. f x ∷ [])) ≡ sum (each_port u (λ x. g x ∷ []))
sums_same u f g H = ap sum (each-port-cong u (λ x. f x ∷ []) (λ x. g x ∷ []) (λ x l. ap (λ (y : ℕ). y ∷ []) (H x l)))

pub sums-together : (u : ℕ) (f g : ℕ → ℕ)
    → sum (each_port u (λ x. (f x + g x) ∷ [])) ≡ sum (each_port u (λ x. f x ∷ [])) + sum (each_port u (λ x. g x ∷ []))
unfolding each_port sum
sums-together zero f g = refl
sums-together (suc u) f g =
    omega (arith, sum-port u (λ x. f x + g x), sum-port u f, sum-port u g, sums-together u f g)

pub changes-rows : (u : ℕ) (new old : List ℕ) (h g : ℕ → ℕ) → ((x : ℕ) → x < u → (get_or new x 0 ≡ h x) × (get_or old x 0 ≡ g x))
    → row_changes new old u ≡ sum (each_port u (λ x. indicator (not (eqb (h x) (g x))) ∷ []))
unfolding row_changes
changes-rows u new old h g H =
    sums_same u _ (λ x. indicator (not (eqb (h x) (g x)))) (λ x l. ap₂ (λ (a b : ℕ). indicator (not (eqb a b))) (H x l).0 (H x l).1)

-- a row that goes into a row, and one that is not touched
pub taken_at : (add : Bool) (u : ℕ) (new old out : List ℕ) (x : ℕ) → x < u → get_or (row_taken add new old u out) x 0 ≡ taken add (get_or out x 0) (renewal_at new old x)
unfolding row_taken
taken_at add u new old out x l = row_at u (λ y. taken add (get_or out y 0) (renewal_at new old y)) out x l

pub kept_at : (add : Bool) (u : ℕ) (old out : List ℕ) (x : ℕ) → x < u → get_or out x 0 < modulus → get_or old x 0 < modulus
    → get_or (row_kept add old u out) x 0 ≡ taken add (get_or out x 0) (renewal_at old old x)
unfolding row_kept taken renewal_at modulus
kept_at true u old out x l h k = omega arith
kept_at false u old out x l h k = taken_at false u old old out x l
