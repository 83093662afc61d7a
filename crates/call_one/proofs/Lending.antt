-- What a call is lent of scratch and of the list, and what is there when it gives it back. Assumes nothing.
use mathlib.Core.Path.{◌≡◌, refl, sym, ap, ap₂, ◌∙◌, subst}
use mathlib.Core.List.{List, [], ◌++◌, append_assoc, map}
use Prim.Native.Nat.{ℕ, ◌-◌, ◌≤◌, min}
use native.Mathlib.Omega.{arith}
use lib.ListN.{length, take, drop, length-append, length-drop, length-map, take-append-drop}
use lib.Seq.{length-take-le, drop-append-le, take-append_seam, drop-append_seam, take_at, drop_at}
use Rattle.logic.specs.declared.Move.{Move}
use Rattle.table_format.specs.Decode.{Decoded}
use Rattle.contracts.specs.TrialCall.{ScratchAfter}
use Rattle.contracts.specs.BestCall.{move_record}
use Rattle.contracts.specs.Lists.{Exchange}
use Rattle.call_one.specs.Scratch.{lent_to, answer_number, ScratchOne}

-- the cells of scratch, or the records of the list, that a call gets
pub part-lent : {A : Type 0} (xs : List A) (asked x n : ℕ) → x ≡ asked → n ≡ min x (length xs) → length (take (n - 0) xs) ≡ min asked (length xs)
part-lent xs asked x n e h = length-take-le (n - 0) xs (omega arith) ∙ omega arith

-- a list of which the first records are lent, and given back with some of them written
pub list_back : (ms : List Move) (l part : List (List ℕ)) (r : ℕ) → r ≤ length l → length part ≡ length (take r l)
    → part ≡ map move_record ms ++ drop (length ms) (take r l) → part ++ drop r l ≡ map move_record ms ++ drop (length ms) l
list_back ms l part r h e q =
    let few : length ms ≤ length (take r l) =
    omega (arith, ap length q, length-append (map move_record ms) (drop (length ms) (take r l)), length-drop (length ms) (take r l), length-map ms move_record, e) in
    ap (λ (ks : List (List ℕ)). ks ++ drop r l) q
    ∙ append_assoc (map move_record ms) (drop (length ms) (take r l)) (drop r l)
    ∙ ap (λ (ks : List (List ℕ)). map move_record ms ++ ks) (sym (drop-append-le (length ms) (take r l) (drop r l) few) ∙ ap (drop (length ms)) (take-append-drop r l))

-- a call that is lent the first l cells, and gives them back
module _ (d : Decoded) (s part : List ℕ) (l : ℕ) (x : Exchange) (e : lent_to x ≡ take l s)
    (h : ScratchAfter d (answer_number x) (take l s) part) where
  whole : take l s ++ drop l s ≡ s
  whole = take-append-drop l s

  same : length part ≡ length (lent_to x)
  same = h.same_length ∙ ap length (sym e)

  pub front-lent : ScratchOne d x s (part ++ drop l s)
  front-lent = record {
    front =
        ap₂ take (ap length e) (sym whole) ∙ take-append_seam (take l s) (drop l s) ∙ sym e;
    written =
        subst (λ (ys : List ℕ). ScratchAfter d (answer_number x) (lent_to x) ys) (sym (take_at part (drop l s) (length (lent_to x)) same))
        (subst (λ (ys : List ℕ). ScratchAfter d (answer_number x) ys part) (sym e) h);
    behind =
        drop_at part (drop l s) (length (lent_to x)) same
        ∙ sym (ap₂ drop (ap length e) (sym whole) ∙ drop-append_seam (take l s) (drop l s));
  }

-- a call that is lent none writes none
pub none_lent : (d : Decoded) (x : Exchange) (s : List ℕ) → lent_to x ≡ [] → ScratchOne d x s s
none_lent d x s e = front-lent d s [] 0 x e record { same_length = refl; past = refl; refused = λ _. refl }
