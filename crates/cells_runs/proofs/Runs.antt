-- Lists of computed cells, written a run at a time. Assumes nothing.
use mathlib.Core.Path.{◌≡◌, sym, ap, ◌∙◌}
use mathlib.Core.List.{List, ◌++◌, append_assoc, append-nil}
use Prim.Native.Nat.{ℕ, zero, suc, ◌+◌, ◌≤◌, ◌<◌}
use native.Mathlib.Nat.{add-zero, add-suc}
use native.Mathlib.Omega.{arith}
use lib.ListN.{length, take, drop}
use lib.Seq.{take_at, drop_at, drop-drop}
use Rattle.logic.specs.Cells.{tabulate}
use Rattle.logic.proofs.Tables.{length-tabulate, tabulate-cong}
use Rattle.logic.proofs.Written.{Written, written, length-written, from_first}

pub tabulate-add : (a n : ℕ) (f : ℕ → ℕ) → tabulate (a + n) f ≡ tabulate a f ++ tabulate n (λ i. f (a + i))
unfolding tabulate
tabulate-add a zero f = rw (add-zero, append-nil)
tabulate-add a (suc n) f = rw (add-suc, tabulate-add a n f, append_assoc)

-- n cells on to the first ones, f's at each of their places
pub part-more : (f g : ℕ → ℕ) (w n len : ℕ) (xs cells after : List ℕ) → Written f 0 w xs cells n → n + len ≤ w → w ≤ length xs
    → ((i : ℕ) → i < len → g i ≡ f (n + i)) → after ≡ written g n len cells → Written f 0 w xs after (n + len)
part-more f g w n len xs cells after i l h e a =
    let c : cells ≡ tabulate n f ++ drop n xs = i.is ∙ from_first f n xs in
    let t : take n cells ≡ tabulate n f = ap (take n) c ∙ take_at (tabulate n f) (drop n xs) n (length-tabulate n f) in
    let d : drop (n + len) cells ≡ drop (n + len) xs =
    sym (drop-drop len n cells) ∙ ap (drop len) (ap (drop n) c ∙ drop_at (tabulate n f) (drop n xs) n (length-tabulate n f)) ∙ drop-drop len n xs in
    record {
      within = l;
      same_length = ap length a ∙ length-written g n len cells (omega (arith, i.same_length)) ∙ i.same_length;
      is =
          a ∙ rw (t, d, tabulate-cong len g (λ j. f (n + j)) e) (sym (append_assoc (tabulate n f) (tabulate len (λ j. f (n + j))) (drop (n + len) xs)))
          ∙ ap (λ (k : List ℕ). k ++ drop (n + len) xs) (sym (tabulate-add n len f)) ∙ sym (from_first f (n + len) xs);
    }

-- a run of one value
pub run_more : (f : ℕ → ℕ) (w n len v : ℕ) (xs cells after : List ℕ) → Written f 0 w xs cells n → n + len ≤ w → w ≤ length xs
    → ((i : ℕ) → i < len → v ≡ f (n + i)) → after ≡ written (λ _. v) n len cells → Written f 0 w xs after (n + len)
run_more f w n len v = part-more f (λ _. v) w n len

-- the same cells by another function
pub same-cells : (f g : ℕ → ℕ) (w : ℕ) (xs after : List ℕ) → after ≡ tabulate w f ++ drop w xs → ((t : ℕ) → f t ≡ g t) → after ≡ tabulate w g ++ drop w xs
same-cells f g w xs after e h = e ∙ ap (λ (l : List ℕ). l ++ drop w xs) (tabulate-cong w f g (λ t _. h t))
