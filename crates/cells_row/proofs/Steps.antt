-- One port more in a loop over a row. Assumes nothing.
use Rattle.std.proofs.Common.{◌≡◌, ℕ, zero, suc, ◌+◌, ◌%◌, ◌<◌, ◌≤◌, min, Bool, false, not, eqb, List, [], ◌∷◌, ◌++◌, length, get_or, set, take, drop, replicate, sym, refl, ap, ◌∙◌, add-one, arith}
use Rattle.std.proofs.lemmas.List.{replicate_more}
use lib.Seq.{get_or-take, length-take-le}
use Rattle.logic.specs.Cells.{tabulate}
use Rattle.logic.specs.Configuration.{indicator}
use Rattle.logic.specs.Penalty.{sum, each_port}
use Rattle.logic.proofs.Written.{Written, one-more-first, next-first, take-tabulate}
use Rattle.cells_sum.specs.inner.Walk.{taken, gathered}
use Rattle.cells_sum.proofs.Sums.{sum-port}
use Rattle.cells_row.specs.inner.Row.{row_of, renewal_at, row_gathered, row_changes}
use Rattle.cells_row.proofs.Rows.{gathered-port}

pub gathered_none : (add : Bool) (acc : ℕ) (new old : List ℕ) → acc ≡ row_gathered add acc new old 0
unfolding row_gathered gathered each_port
gathered_none add acc new old = refl

pub gathered_more : (add : Bool) (acc x s r : ℕ) (new old : List ℕ) → s ≡ row_gathered add acc new old x → r ≡ taken add s (renewal_at new old x)
    → r ≡ row_gathered add acc new old (x + 1)
unfolding row_gathered
gathered_more add acc x s r new old h k =
    k ∙ ap (λ (m : ℕ). taken add m (renewal_at new old x)) h ∙ sym (gathered-port add acc x (renewal_at new old))
    ∙ ap (row_gathered add acc new old) (sym (add-one x))

-- a minimum takes no number before
pub least_new : (acc u : ℕ) (new old : List ℕ) → row_gathered false acc new new u ≡ row_gathered false acc new old u
unfolding row_gathered gathered each_port taken renewal_at
least_new acc zero new old = refl
least_new acc (suc u) new old =
    gathered-port false acc u (renewal_at new new) ∙ ap (λ (m : ℕ). min m (get_or new u 0)) (least_new acc u new old)
    ∙ sym (gathered-port false acc u (renewal_at new old))

pub changes_none : (new old : List ℕ) → 0 ≡ row_changes new old 0 % 4294967296
unfolding row_changes sum each_port
changes_none new old = refl

pub changes_more : (x s d r : ℕ) (new old : List ℕ) → s ≡ row_changes new old x % 4294967296 → d ≡ indicator (not (eqb (get_or new x 0) (get_or old x 0)))
    → r ≡ (s + d) % 4294967296 → r ≡ row_changes new old (x + 1) % 4294967296
unfolding row_changes
changes_more x s d r new old h e k =
    wrapped s d r _ _ h e k ∙ ap (λ (m : ℕ). m % 4294967296) (sym (sum-port x (λ y. indicator (not (eqb (get_or new y 0) (get_or old y 0))))))
    ∙ ap (λ (m : ℕ). row_changes new old m % 4294967296) (sym (add-one x))
  where
    wrapped : (s d r n i : ℕ) → s ≡ n % 4294967296 → d ≡ i → r ≡ (s + d) % 4294967296 → r ≡ (n + i) % 4294967296
    wrapped s d r n i h e k = omega arith

-- what a row's number at port x becomes
abbrev pub taken_at : Bool → List ℕ → List ℕ → List ℕ → ℕ → ℕ
taken_at add new old out x = taken add (get_or out x 0) (renewal_at new old x)

-- one more number of a row: it is not written yet
pub taken_more : (add : Bool) (u x v : ℕ) (new old out cells : List ℕ) → Written (taken_at add new old out) 0 u out cells x → x < u → u ≤ length out
    → v ≡ taken add (get_or cells x 0) (renewal_at new old x) → Written (taken_at add new old out) 0 u out (set cells x v) (x + 1)
taken_more add u x v new old out cells i l h e =
    let f = taken_at add new old out in
    one-more-first f u out cells x v i l h
    (e ∙ ap (λ (m : ℕ). taken add m (renewal_at new old x)) (ap (λ (c : List ℕ). get_or c x 0) i.is ∙ next-first f x out))

-- a cell of the row's own part of a table
pub part_cell : (u : ℕ) (xs : List ℕ) (i : ℕ) → u ≤ length xs → i < length (take u xs) → get_or (take u xs) i 0 ≡ get_or xs i 0
part_cell u xs i h l = get_or-take u xs i 0 (omega (arith, length-take-le u xs h))

-- a row that is a copy, and one of one number
pub copied_row : (u : ℕ) (from out row : List ℕ) → u ≤ length from → row ≡ take u from → row ++ drop u out ≡ row_of u (λ x. get_or from x 0) out
unfolding row_of
copied_row u from out row h e = ap (λ (r : List ℕ). r ++ drop u out) (e ∙ take-tabulate u from h)

tabulate-one : (n v : ℕ) → replicate n v ≡ tabulate n (λ _. v)
unfolding tabulate
tabulate-one zero v = refl
tabulate-one (suc n) v =
    ap (λ (k : ℕ). replicate k v) (sym (add-one n)) ∙ sym (replicate_more n v) ∙ ap (λ (r : List ℕ). r ++ (v ∷ [])) (tabulate-one n v)

pub filled_row : (u v : ℕ) (out row : List ℕ) → u ≤ length out → row ≡ replicate (length (take u out)) v → row ++ drop u out ≡ row_of u (λ _. v) out
unfolding row_of
filled_row u v out row h e =
    ap (λ (r : List ℕ). r ++ drop u out) (e ∙ ap (λ (n : ℕ). replicate n v) (length-take-le u out h) ∙ tabulate-one u v)
