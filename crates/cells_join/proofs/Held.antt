-- Two rows merged at once, and a row that is not joined yet. Assumes nothing.
use Rattle.std.proofs.Common.{◌≡◌, ℕ, ◌+◌, ◌-◌, ◌*◌, ◌%◌, ◌<◌, ◌≤◌, Bool, true, false, cond, eqb, ◌≢◌, List, [], ◌∷◌, ◌++◌, length, get_or, take, drop, set, sym, refl, ap, ◌∙◌, subst, ap₂, append_assoc, lt_of_not-le, zero-add, mul-one, arith, length-append, length-drop, get_or-drop, eq-eqb, ne_eqb}
use native.Mathlib.Decide.{dec_le}
use lib.ListN.{get_or-append}
use lib.Seq.{drop-append-le, get_or-take, length-take-le}
use Rattle.cells_join.specs.declared.Join.{Join}
use Rattle.cells_join.specs.declared.Join.TheVariants.{Add, Least, LeastBit}
use Rattle.logic.specs.Cells.{tabulate}
use Rattle.logic.proofs.Tables.{length-tabulate, get_d_tabulate, tabulate-cong}
use Rattle.logic.proofs.Written.{Written, one-more-first, behind-first, from_first}
use Rattle.cells_join.specs.inner.Joined.{meet, compared, limit_of, join_all, join_into, merged, settled, join_of, spread_of, Low, HeldPlaced, ChildPlaced, Joins}
use Rattle.cells_join.proofs.Prefix.{step-low, one_at, joined_at}

-- a cell that is not written yet
pub kept : (f : ℕ → ℕ) (over t i : ℕ) (xs cells : List ℕ) → Written f 0 over xs cells t → t ≤ i → get_or cells i 0 ≡ get_or xs i 0
kept f over t i xs cells w h =
    let e : i ≡ t + (i - t) = omega arith in
    ap (λ (m : ℕ). get_or cells m 0) e ∙ sym (get_or-drop t cells (i - t) 0)
    ∙ ap (λ (l : List ℕ). get_or l (i - t) 0) (ap (drop t) w.is ∙ behind-first f t t xs (omega arith))
    ∙ get_or-drop t xs (i - t) 0 ∙ ap (λ (m : ℕ). get_or xs m 0) (sym e)

-- what stands behind the merged cells is as it was
pub merged-behind : (join : Join) (first : Bool) (over s at i : ℕ) (l : List ℕ) → over ≤ i → drop i (merged join first over s at l) ≡ drop i l
unfolding merged
merged-behind join first over s at i l h =
    ap (drop i) (sym (from_first (joined_at join first s at l) over l)) ∙ behind-first (joined_at join first s at l) over i l h

merged-at : (join : Join) (first : Bool) (over s at t : ℕ) (l : List ℕ) → t < over → get_or (merged join first over s at l) t 0 ≡ joined_at join first s at l t
unfolding merged
merged-at join first over s at t l h =
    get_or-append (tabulate over (joined_at join first s at l)) (drop over l) 0 t (rw length-tabulate h) ∙ get_d_tabulate over (joined_at join first s at l) t h

-- one more cell of two rows merged
pub rows_more : (join : Join) (first : Bool) (over held at t x v : ℕ) (xs cells : List ℕ)
    → Written (joined_at join false 1 at (merged join first over 1 held xs)) 0 over xs cells t → t < over → over ≤ held → held ≤ at → at + over ≤ length xs
    → x ≡ join_into join first (get_or cells t 0) (get_or cells (held + t) 0 ∷ []) → v ≡ meet join x (get_or cells (at + t) 0)
    → Written (joined_at join false 1 at (merged join first over 1 held xs)) 0 over xs (set cells t v) (t + 1)
unfolding join_into join_all
rows_more join first over held at t x v xs cells w l h k r e q =
    let D = merged join first over 1 held xs in
    let g : ℕ → ℕ = joined_at join false 1 at D in
    let same : (i : ℕ) → t ≤ i → get_or cells i 0 ≡ get_or xs i 0 = λ i. kept g over t i xs cells w in
    let row : (i : ℕ) → i + t < length xs → get_or cells (i + t) 0 ∷ [] ≡ take 1 (drop (i + t * 1) xs) = λ i b.
    ap (λ (y : ℕ). y ∷ []) (same (i + t) (omega arith)) ∙ sym (one_at (i + t) xs b) ∙ ap (λ (m : ℕ). take 1 (drop (i + m) xs)) (sym (mul-one t)) in
    let own : x ≡ get_or D t 0 =
    e ∙ ap₂ (join_into join first) (same t (omega arith)) (row held (omega arith)) ∙ sym (merged-at join first over 1 held t xs l) in
    let below : get_or cells (at + t) 0 ∷ [] ≡ take 1 (drop (at + t * 1) D) =
    row at (omega arith) ∙ ap (take 1) (sym (merged-behind join first over 1 held (at + t * 1) xs (omega arith))) in
    one-more-first g over xs cells t v w l (omega arith) (q ∙ ap₂ (λ (y : ℕ) (ys : List ℕ). join_into join false y ys) own below)

pub rows_all : (join : Join) (first : Bool) (over held at : ℕ) (xs : List ℕ)
    → tabulate over (joined_at join false 1 at (merged join first over 1 held xs)) ++ drop over xs ≡ merged join false over 1 at (merged join first over 1 held xs)
unfolding merged
rows_all join first over held at xs =
    ap (λ (l : List ℕ). tabulate over (joined_at join false 1 at (merged join first over 1 held xs)) ++ l) (sym (merged-behind join first over 1 held over xs (omega arith)))

-- no row, and a row
pub settled-none : (join : Join) (over held : ℕ) (l : List ℕ) → held ≡ 0 → settled join over held l ≡ l
unfolding settled
settled-none join over held l h = rw (eq-eqb held 0 h)

pub settled-some : (join : Join) (over held : ℕ) (l : List ℕ) → 1 ≤ held → settled join over held l ≡ merged join (eqb held over) over 1 held l
unfolding settled
settled-some join over held l h = rw (ne_eqb held 0 (λ q. absurd (omega arith)))

-- What stands behind the node's cells is as it was.
pub settled-behind : (join : Join) (over held i : ℕ) (l : List ℕ) → over ≤ i → drop i (settled join over held l) ≡ drop i l
unfolding settled
settled-behind join over held i l h = go (eqb held 0)
  where
    go : (b : Bool) → drop i (cond b l (merged join (eqb held over) over 1 held l)) ≡ drop i l
    go true = refl
    go false = merged-behind join (eqb held over) over 1 held i l h

merged-length : (join : Join) (first : Bool) (over at : ℕ) (l : List ℕ) → over ≤ length l → length (merged join first over 1 at l) ≡ length l
unfolding merged
merged-length join first over at l h = simp (length-append, length-tabulate, length-drop) (omega arith)

pub length-settled : (join : Join) (over held : ℕ) (l : List ℕ) → over ≤ length l → length (settled join over held l) ≡ length l
unfolding settled
length-settled join over held l h = go (eqb held 0)
  where
    go : (b : Bool) → length (cond b l (merged join (eqb held over) over 1 held l)) ≡ length l
    go true = refl
    go false = merged-length join (eqb held over) over held l h

-- What stands behind the row that is not joined yet has no part in it.
merged-front : (join : Join) (first : Bool) (over at : ℕ) (C D : List ℕ) → over ≤ at → at + over ≤ length C
    → merged join first over 1 at (C ++ D) ≡ merged join first over 1 at C ++ D
unfolding merged
merged-front join first over at C D h k =
    ap₂ ◌++◌
    (tabulate-cong over (joined_at join first 1 at (C ++ D)) (joined_at join first 1 at C) (λ t q.
    let b : at + t * 1 < length C = omega (arith, mul-one t) in
    ap₂ (join_into join first) (get_or-append C D 0 t (omega arith))
    (one_at (at + t * 1) (C ++ D) (omega (arith, length-append C D)) ∙ ap (λ (x : ℕ). x ∷ []) (get_or-append C D 0 (at + t * 1) b) ∙ sym (one_at (at + t * 1) C b))))
    (drop-append-le over C D (omega arith))
    ∙ sym (append_assoc (tabulate over (joined_at join first 1 at C)) (drop over C) D)

pub settled-front : (join : Join) (over held : ℕ) (C D : List ℕ) → HeldPlaced over held (length C) → settled join over held (C ++ D) ≡ settled join over held C ++ D
unfolding HeldPlaced
settled-front join over held C D h = go (dec_le 1 held)
  where
    go : Dec (1 ≤ held) → settled join over held (C ++ D) ≡ settled join over held C ++ D
    go (yes q) =
        settled-some join over held (C ++ D) q ∙ merged-front join (eqb held over) over held C D (h q).0 (h q).1
        ∙ ap (λ (l : List ℕ). l ++ D) (sym (settled-some join over held C q))
    go (no f) =
        let z : held ≡ 0 = omega (arith, lt_of_not-le f) in
        settled-none join over held (C ++ D) z ∙ ap (λ (l : List ℕ). l ++ D) (sym (settled-none join over held C z))

-- What is low where it is not written yet
pub low-kept : (f : ℕ → ℕ) (join : Join) (over t i : ℕ) (xs cells : List ℕ) → Written f 0 over xs cells t → t ≤ i → (join ≢ Add → get_or xs i 0 < limit_of join)
    → join ≢ Add → get_or cells i 0 < limit_of join
low-kept f join over t i xs cells w h l q = rw (kept f over t i xs cells w h) (l q)

pub low_part : (f : ℕ → ℕ) (join : Join) (over t at n from s : ℕ) (xs cells : List ℕ) → Written f 0 over xs cells t → t ≤ from → at ≤ from → from + s ≤ at + n → Low join xs at n → Low join cells from s
unfolding Low
low_part f join over t at n from s xs cells w a b c low q l =
    let e : at + (from + q - at) ≡ from + q = omega arith in
    low-kept f join over t (from + q) xs cells w (omega arith) (λ k. subst (λ (m : ℕ). get_or xs m 0 < limit_of join) e (low (from + q - at) (omega arith) k))

-- A part of s cells that is lent, as the slice of a range makes it.
pub part-is : (from s : ℕ) (l : List ℕ) → take (from + s - from) (drop from l) ≡ take s (drop from l)
part-is from s l = let n : from + s - from ≡ s = omega arith in ap (λ (m : ℕ). take m (drop from l)) n

pub part-length : (from s : ℕ) (l : List ℕ) → from + s ≤ length l → length (take (from + s - from) (drop from l)) ≡ s
part-length from s l h = ap length (part-is from s l) ∙ length-take-le s (drop from l) (rw (length-drop from l) (omega arith))

pub part-low : (join : Join) (from s : ℕ) (l : List ℕ) → from + s ≤ length l → Low join l from s
    → Low join (take (from + s - from) (drop from l)) 0 (length (take (from + s - from) (drop from l)))
unfolding Low
part-low join from s l h low t q k =
    let b : t < s = omega (arith, part-length from s l h) in
    let e : get_or (take (from + s - from) (drop from l)) (0 + t) 0 ≡ get_or l (from + t) 0 =
    ap (λ (m : ℕ). get_or (take (from + s - from) (drop from l)) m 0) (zero-add t) ∙ ap (λ (x : List ℕ). get_or x t 0) (part-is from s l)
    ∙ get_or-take s (drop from l) t 0 b ∙ get_or-drop from l t 0 in
    subst (λ (m : ℕ). m < limit_of join) (sym e) (low t b k)

-- The cells that two rows are merged into are low.
merged-low : (join : Join) (first : Bool) (over at : ℕ) (l : List ℕ) → at + over ≤ length l → Low join l at over → Low join (merged join first over 1 at l) 0 over
unfolding Low
merged-low join first over at l h low t q k =
    rw (zero-add t, merged-at join first over 1 at t l q, mul-one t, one_at (at + t) l (omega arith)) (step-low join first (get_or l t 0) (get_or l (at + t) 0) (limit_of join) k (low t q k))

merged-else : (join : Join) (first : Bool) (over s at i : ℕ) (l : List ℕ) → over ≤ i → get_or (merged join first over s at l) i 0 ≡ get_or l i 0
merged-else join first over s at i l h =
    let e : i ≡ over + (i - over) = omega arith in
    ap (λ (m : ℕ). get_or (merged join first over s at l) m 0) e ∙ sym (get_or-drop over (merged join first over s at l) (i - over) 0)
    ∙ ap (λ (x : List ℕ). get_or x (i - over) 0) (merged-behind join first over s at over l (omega arith)) ∙ get_or-drop over l (i - over) 0 ∙ ap (λ (m : ℕ). get_or l m 0) (sym e)

-- Two joins alike, that both add or both take the minimum, make the same of all cells.
meet-compared : (a : Join) (x y : ℕ) → meet (compared a) x y ≡ meet a x y
unfolding meet compared
meet-compared Add x y = refl
meet-compared Least x y = refl
meet-compared LeastBit x y = refl

meet-alike : (a b : Join) → compared a ≡ compared b → (x y : ℕ) → meet a x y ≡ meet b x y
meet-alike a b h x y = sym (meet-compared a x y) ∙ ap (λ (j : Join). meet j x y) h ∙ meet-compared b x y

all_alike : (a b : Join) → compared a ≡ compared b → (x : ℕ) (ys : List ℕ) → join_all a x ys ≡ join_all b x ys
unfolding join_all
all_alike a b h x [] = refl
all_alike a b h x (y ∷ ys) = all_alike a b h (meet a x y) ys ∙ ap (λ (z : ℕ). join_all b z ys) (meet-alike a b h x y)

into-alike : (a b : Join) → compared a ≡ compared b → (first : Bool) (x : ℕ) (ys : List ℕ) → join_into a first x ys ≡ join_into b first x ys
unfolding join_into
into-alike a b h false x ys = all_alike a b h x ys
into-alike a b h true x [] = refl
into-alike a b h true x (y ∷ ys) = all_alike a b h y ys

pub merged-alike : (a b : Join) → compared a ≡ compared b → (first : Bool) (over s at : ℕ) (l : List ℕ) → merged a first over s at l ≡ merged b first over s at l
unfolding merged
merged-alike a b h first over s at l =
    ap (λ (x : List ℕ). x ++ drop over l) (tabulate-cong over (joined_at a first s at l) (joined_at b first s at l) (λ t _. into-alike a b h first (get_or l t 0) (take s (drop (at + t * s) l))))

pub settled-alike : (a b : Join) → compared a ≡ compared b → (over held : ℕ) (l : List ℕ) → settled a over held l ≡ settled b over held l
unfolding settled
settled-alike a b h over held l = ap (cond (eqb held 0) l) (merged-alike a b h (eqb held over) over 1 held l)

-- The join of a kind compares, so that it stands for all that are alike.
pub kind-compared : (above : ℕ) → compared (join_of above) ≡ join_of above
unfolding join_of compared
kind-compared above = go (eqb (above % 2) 1)
  where
    go : (b : Bool) → compared (cond b Add Least) ≡ cond b Add Least
    go true = refl
    go false = refl

pub of-kind : (join : Join) (above : ℕ) → compared join ≡ join_of above → compared join ≡ compared (join_of above)
of-kind join above h = h ∙ sym (kind-compared above)

-- The three ways in which a child's cells are met.
pub joins-two : (join : Join) (above ports over held at : ℕ) (xs ys : List ℕ) → ChildPlaced join above ports over held at xs → 1 ≤ held
    → ys ≡ merged join false over 1 at (merged join (eqb held over) over 1 held xs) → Joins join above ports over held at xs ys 0
unfolding HeldPlaced Low
joins-two join above ports over held at xs ys p h e =
    let w = p.waits h in
    let later : over < at = omega (arith, p.over1) in
    let one = p.later later in
    let k = of-kind join above p.alike in
    let D = merged join (eqb held over) over 1 held xs in
    let wide : over * spread_of above ports ≡ over = ap (λ (s : ℕ). over * s) one ∙ mul-one over in
    let below : Low join D at over = λ t q k. rw (merged-else join (eqb held over) over 1 held (at + t) xs (omega arith)) (p.low t (omega arith) k) in
    let long : length D ≡ length xs = merged-length join (eqb held over) over held xs (omega (arith, p.room)) in
    record {
      held-is = λ q. absurd (omega arith);
      joined = settled-none (join_of above) over 0 ys refl ∙ e
          ∙ merged-alike join (join_of above) k false over 1 at D ∙ ap (merged (join_of above) false over 1 at) (merged-alike join (join_of above) k (eqb held over) over 1 held xs)
          ∙ (λ j. merged (join_of above) (sym (ne_eqb at over (λ q. absurd (omega arith))) j) over (sym one j) at (sym (settled-some (join_of above) over held xs h) j));
      own-low = λ _ _. subst (λ (l : List ℕ). Low join l 0 over) (sym e) (merged-low join false over at D (omega (arith, p.room)) below);
    }

pub joins-later : (join : Join) (above ports over held at : ℕ) (xs : List ℕ) → ChildPlaced join above ports over held at xs → held ≡ 0 → spread_of above ports ≡ 1
    → Joins join above ports over held at xs xs at
joins-later join above ports over held at xs p h s = record {
  held-is = λ q. (refl, s, h, refl);
  joined = settled-some (join_of above) over at xs (omega (arith, p.over1, p.after))
      ∙ (λ j. merged (join_of above) (eqb at over) over (sym s j) at (sym (settled-none (join_of above) over held xs h) j));
  own-low = λ _ z. absurd (omega (arith, p.over1, p.after));
}

-- what is gathered is the first child
first-child : (join : Join) (above ports over held at : ℕ) (xs : List ℕ) → ChildPlaced join above ports over held at xs → spread_of above ports ≢ 1 → at ≡ over
first-child join above ports over held at xs p s = go (dec_le at over)
  where
    go : Dec (at ≤ over) → at ≡ over
    go (yes h) = omega (arith, p.after)
    go (no f) = absurd (s (p.later (lt_of_not-le f)))

pub joins-ports : (join : Join) (above ports over held at : ℕ) (xs ys : List ℕ) → ChildPlaced join above ports over held at xs → held ≡ 0 → spread_of above ports ≢ 1
    → ys ≡ merged (join_of above) true over (spread_of above ports) at xs → Joins join above ports over held at xs ys 0
joins-ports join above ports over held at xs ys p h s q = record {
  held-is = λ z. absurd (omega arith);
  joined = settled-none (join_of above) over 0 ys refl ∙ q
      ∙ (λ j. merged (join_of above) (sym (eq-eqb at over (first-child join above ports over held at xs p s)) j) over (spread_of above ports) at (sym (settled-none (join_of above) over held xs h) j));
  own-low = λ z _. absurd (s z);
}
