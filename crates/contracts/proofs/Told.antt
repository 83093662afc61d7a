-- The values of an answer tell its case: two answers that have the same values are one. So a promise by 01's number and values leaves
-- one answer. Assumes nothing.
use mathlib.Core.Path.{◌≡◌, sym, ap}
use Prim.Native.Nat.{ℕ}
use native.Mathlib.Omega.{arith}
use Rattle.std.specs.Prelude.{Result, Ok, Err}
use Rattle.logic.specs.declared.refusal.Refusal.{Refusal}
use Rattle.logic.specs.Refusal.{refusal_number}
use Rattle.logic.proofs.Refusals.{number-some, one-ground}
use Rattle.contracts.specs.declared.Read.{Read}
use Rattle.contracts.specs.declared.Loaded.{Loaded}
use Rattle.contracts.specs.declared.Moved.{Moved}
use Rattle.contracts.specs.declared.Improved.{Improved}
use Rattle.contracts.specs.declared.Improved.TheVariants.{Made, NoBetter}
use Rattle.contracts.specs.Read.{ReadValues, read_refused, read_values, ReadTold}
use Rattle.contracts.specs.Load.{LoadValues, load_refused, load_values, LoadTold}
use Rattle.contracts.specs.MoveCall.{MoveValues, move_refused, move_accepted, move_values, MoveTold}
use Rattle.contracts.specs.ImproveCall.{ImproveValues, improve_refused, improve_made, no_better, improve_values, ImproveTold}
use Rattle.contracts.specs.Counting.{CountValues, count_refused, count_accepted, count_values, CountTold}

pub read_told : (a b : Result Read Refusal) → ReadTold a → ReadTold b → read_values a ≡ read_values b → a ≡ b
unfolding read_refused read_values
read_told (Ok r) (Ok r') p q e = λ i. Ok (record { nodes = (e i).nodes; cells = (e i).cells })
read_told (Ok r) (Err g) p q e = absurd (number-some g (sym (ap (λ (v : ReadValues). v.number) e)))
read_told (Err g) (Ok r) p q e = absurd (number-some g (ap (λ (v : ReadValues). v.number) e))
read_told (Err g) (Err g') p q e = ap Err (one-ground g g' (ap (λ (v : ReadValues). v.number) e))

pub load_told : (a b : Result Loaded Refusal) → LoadTold a → LoadTold b → load_values a ≡ load_values b → a ≡ b
unfolding load_refused load_values
load_told (Ok r) (Ok r') p q e = λ i. Ok (record { root = (e i).root; cells = (e i).cells })
load_told (Ok r) (Err g) p q e = absurd (number-some g (sym (ap (λ (v : LoadValues). v.number) e)))
load_told (Err g) (Ok r) p q e = absurd (number-some g (ap (λ (v : LoadValues). v.number) e))
load_told (Err g) (Err g') p q e = ap Err (one-ground g g' (ap (λ (v : LoadValues). v.number) e))

pub move-told : (a b : Result Moved Refusal) → MoveTold a → MoveTold b → move_values a ≡ move_values b → a ≡ b
unfolding move_refused move_accepted move_values
move-told (Ok r) (Ok r') p q e = λ i. Ok (record { before = (e i).before; after = (e i).after; changed = (e i).changed })
move-told (Ok r) (Err g) p q e = absurd (number-some g (sym (ap (λ (v : MoveValues). v.number) e)))
move-told (Err g) (Ok r) p q e = absurd (number-some g (ap (λ (v : MoveValues). v.number) e))
move-told (Err g) (Err g') p q e = ap Err (one-ground g g' (ap (λ (v : MoveValues). v.number) e))

pub improve-told : (a b : Result Improved Refusal) → ImproveTold a → ImproveTold b → improve_values a ≡ improve_values b → a ≡ b
unfolding improve_refused improve_made no_better move_accepted improve_values
improve-told (Ok (Made m x y n)) (Ok (Made m' x' y' n')) p q e = λ i. Ok (Made (e i).chosen (e i).before (e i).after (e i).changed)
improve-told (Ok (Made m x y n)) (Ok (NoBetter r)) p q e = let f : ◌≡◌ {A = ℕ} 1 0 = ap (λ (v : ImproveValues). v.found) e in absurd (omega arith)
improve-told (Ok (Made m x y n)) (Err g) p q e = absurd (number-some g (sym (ap (λ (v : ImproveValues). v.number) e)))
improve-told (Ok (NoBetter r)) (Ok (Made m x y n)) p q e = let f : ◌≡◌ {A = ℕ} 0 1 = ap (λ (v : ImproveValues). v.found) e in absurd (omega arith)
improve-told (Ok (NoBetter r)) (Ok (NoBetter r')) p q e = λ i. Ok (NoBetter (e i).before)
improve-told (Ok (NoBetter r)) (Err g) p q e = absurd (number-some g (sym (ap (λ (v : ImproveValues). v.number) e)))
improve-told (Err g) (Ok (Made m x y n)) p q e = absurd (number-some g (ap (λ (v : ImproveValues). v.number) e))
improve-told (Err g) (Ok (NoBetter r)) p q e = absurd (number-some g (ap (λ (v : ImproveValues). v.number) e))
improve-told (Err g) (Err g') p q e = ap Err (one-ground g g' (ap (λ (v : ImproveValues). v.number) e))

pub count-told : (a b : Result ℕ Refusal) → CountTold a → CountTold b → count_values a ≡ count_values b → a ≡ b
unfolding count_refused count_accepted count_values
count-told (Ok n) (Ok n') p q e = λ i. Ok (e i).count
count-told (Ok n) (Err g) p q e = absurd (number-some g (sym (ap (λ (v : CountValues). v.number) e)))
count-told (Err g) (Ok n) p q e = absurd (number-some g (ap (λ (v : CountValues). v.number) e))
count-told (Err g) (Err g') p q e = ap Err (one-ground g g' (ap (λ (v : CountValues). v.number) e))
