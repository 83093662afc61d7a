-- One record more in a list. Assumes nothing.
use mathlib.Core.Path.{◌≡◌, sym, ap, ◌∙◌}
use mathlib.Core.Logic.{◌≢◌}
use mathlib.Core.List.{List, [], ◌∷◌, ◌++◌}
use Prim.Native.Nat.{ℕ, suc, ◌+◌, ◌<◌}
use native.Mathlib.Numerals.{add-one}
use lib.ListN.{length, drop, set, get_or}
use lib.Seq.{drop-cons, append_snoc, set_at}
use borrow.Author.Tests.{eq-eqb, ne_eqb}
use Rattle.logic.specs.declared.Move.{Move}
use Rattle.contracts.specs.BestCall.{move_record}
use Rattle.move_list.specs.inner.Records.{Put}

-- the record is put, or the list stays
module _ (m : Move) (value least at : ℕ) (list : List (List ℕ)) where
  pub put-there : value ≡ least → (next : ℕ) (r : List ℕ) → r ≡ move_record m → next ≡ at + 1 → Put m value least at list (set list at r) next
  put-there e next r f g = record { list-is = rw (eq-eqb value least e, f); next-is = rw (eq-eqb value least e) g }

  pub put-not : value ≢ least → Put m value least at list list at
  put-not d = record { list-is = rw (ne_eqb value least d); next-is = rw (ne_eqb value least d) }

-- behind records that fill the list up to its place
pub record-more : (rs list : List (List ℕ)) (r : List ℕ) (at : ℕ) → length rs ≡ at → at < length list
    → set (rs ++ drop at list) at r ≡ (rs ++ r ∷ []) ++ drop (at + 1) list
record-more rs list r at n l =
    ap (λ (ys : List (List ℕ)). set (rs ++ ys) at r) (drop-cons list at [] l)
    ∙ set_at rs (get_or list at []) (drop (suc at) list) r at n
    ∙ sym (append_snoc rs r (drop (suc at) list))
    ∙ ap (λ (k : ℕ). (rs ++ r ∷ []) ++ drop k list) (sym (add-one at))
