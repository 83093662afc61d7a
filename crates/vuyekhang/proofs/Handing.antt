-- What the exported functions give, from what the calls below them give. Assumes nothing.
use mathlib.Core.Path.{◌≡◌, refl, sym, ap, subst, ◌∙◌}
use mathlib.Core.List.{List}
use Prim.Native.Nat.{ℕ}
use lib.ListN.{length, set}
use Rattle.std.specs.Prelude.{Result}
use Rattle.logic.specs.declared.Move.{Move}
use Rattle.logic.specs.declared.refusal.Refusal.{Refusal}
use Rattle.table_format.specs.Decode.{Decoded}
use Rattle.contracts.specs.declared.Read.{Read}
use Rattle.contracts.specs.Read.{ReadValues, read_values, ReadPromise}
use Rattle.contracts.specs.declared.Loaded.{Loaded}
use Rattle.contracts.specs.State.{State}
use Rattle.contracts.specs.Journal.{newest, count_after, count_taken}
use Rattle.contracts.specs.declared.Moved.{Moved}
use Rattle.contracts.specs.declared.Improved.{Improved}
use Rattle.contracts.specs.Load.{LoadValues, load_values, LoadPromise}
use Rattle.contracts.specs.MoveCall.{MoveValues, move_values, MovedAs, MadeAs, moves, moves_journaled, MovePromise}
use Rattle.contracts.specs.TrialCall.{ScratchAfter}
use Rattle.contracts.specs.ImproveCall.{ImproveValues, improve_values, improves, improves_journaled, ImprovePromise}
use Rattle.contracts.specs.UndoCall.{undoes, undoes_journaled}
use Rattle.contracts.specs.Counting.{CountValues, count_values}
use Rattle.contracts.specs.BestCall.{Listing, ListPromise}
use Rattle.contracts.specs.WriteCall.{WritePromise}
use Rattle.journal_rules.specs.inner.Counting.{place_of}
use Rattle.journal_rules.proofs.Writing.{journal}
use Rattle.journal_rules.proofs.Promised.{held, move-held, improve-held, undo-held}
use Rattle.answers.specs.declared.ReadAnswer.{ReadAnswer}
use Rattle.answers.specs.declared.LoadAnswer.{LoadAnswer}
use Rattle.answers.specs.declared.MoveAnswer.{MoveAnswer}
use Rattle.answers.specs.declared.ImproveAnswer.{ImproveAnswer}
use Rattle.answers.specs.declared.CountAnswer.{CountAnswer}
use Rattle.answers.specs.Boundary.{ReadFields, ReadGives, LoadFields, LoadGives, CountFields, WriteGives}
use Rattle.answers.specs.Moving.{MoveFields, MoveGives, TestGives, TrialGives, ImproveFields, ImproveGives, ListGives}

-- an answer handed on field by field
pub read-gives : (a : Result Read Refusal) (t : List ℕ) (given : ReadValues × List ℕ) (r : ReadAnswer)
    → ReadPromise given a t → ReadFields (read_values a) r → ReadGives given r t
read-gives a t given r p f = record { fields = subst (λ (v : ReadValues). ReadFields v r) p.values-are f; table_is = p.table_is }

pub write-gives : (given : CountValues × List ℕ) (a : Result ℕ Refusal) (t : List ℕ) (r : CountAnswer) → WritePromise given a t → CountFields (count_values a) r → WriteGives given r t
write-gives given a t r p f = record { fields = subst (λ (v : CountValues). CountFields v r) p.values-are f; text-is = p.text-is }

pub load_gives : (given : LoadValues × State) (a : Result Loaded Refusal) (s' : State) (r : LoadAnswer) → LoadPromise given a s' → LoadFields (load_values a) r → LoadGives given r s'
load_gives given a s' r p f = record { fields = subst (λ (v : LoadValues). LoadFields v r) p.values-are f; tables-are = p.tables-are }

-- a call with a journal, the record put
pub move_gives : (d : Decoded) (m : Move) (s s' : State) (records records' : List Move) (count count' : ℕ) (a : Result Moved Refusal) (r : MoveAnswer)
    → MovePromise count_after (moves d m s (length records) count) count a s' count'
    → records' ≡ set records (place_of count count' (length records)) m → MoveFields (move_values a) r
    → MoveGives (moves_journaled d m (held s records count)) r (held s' records' count')
move_gives d m s s' records records' count count' a r p e f =
    let q = move-held d s s' records (length records) count count' refl m a p in
    record {
      fields = subst (λ (v : MoveValues). MoveFields v r) q.0 f;
      lent-are = ap (λ (xs : List Move). held s' xs count') e ∙ q.1;
    }

pub undo-gives : (d : Decoded) (m : Move) (s s' : State) (records : List Move) (count count' : ℕ) (a : Result Moved Refusal) (r : MoveAnswer)
    → m ≡ newest (journal records count) → MovePromise count_taken (undoes d m s (length records) count) count a s' count' → MoveFields (move_values a) r
    → MoveGives (undoes_journaled d (held s records count)) r (held s' records count')
undo-gives d m s s' records count count' a r e p f =
    let q = undo-held d s s' records (length records) count count' refl m a (sym e) p in
    record { fields = subst (λ (v : MoveValues). MoveFields v r) q.0 f; lent-are = q.1 }

pub test-gives : (given : MoveValues × State) (a : Result Moved Refusal) (s' : State) (r : MoveAnswer) → MadeAs given a s' → MoveFields (move_values a) r → TestGives given r s'
test-gives given a s' r p f = record { fields = subst (λ (v : MoveValues). MoveFields v r) p.answers.values-are f; tables-are = p.tables-are }

-- the number that scratch is held to is the struct's own
pub trial-gives : (d : Decoded) (given : MoveValues) (scratch scratch' : List ℕ) (a : Result Moved Refusal) (r : MoveAnswer)
    → MovedAs given a → ScratchAfter d (move_values a).number scratch scratch' → MoveFields (move_values a) r → TrialGives d given r scratch scratch'
trial-gives d given scratch scratch' a r p w f =
    record {
      fields = subst (λ (v : MoveValues). MoveFields v r) p.values-are f;
      scratch-is = subst (λ (x : ℕ). ScratchAfter d x scratch scratch') (sym f.number_is) w;
    }

pub improve-gives : (d : Decoded) (kinds : ℕ) (m : Move) (s s' : State) (scratch scratch' : List ℕ) (records records' : List Move) (count count' : ℕ) (a : Result Improved Refusal) (r : ImproveAnswer)
    → ImprovePromise (improves d kinds s (length scratch) (length records) count) count a s' count'
    → m ≡ (improve_values a).chosen → records' ≡ set records (place_of count count' (length records)) m
    → ScratchAfter d (improve_values a).number scratch scratch' → ImproveFields (improve_values a) r
    → ImproveGives d (improves_journaled d kinds (held s records count) (length scratch)) r (held s' records' count') scratch scratch'
improve-gives d kinds m s s' scratch scratch' records records' count count' a r p c e w f =
    let q = improve-held d s s' records (length records) count count' refl kinds (length scratch) m a c p in
    record {
      fields = subst (λ (v : ImproveValues). ImproveFields v r) q.0 f;
      lent-are = ap (λ (xs : List Move). held s' xs count') e ∙ q.1;
      scratch-is = subst (λ (x : ℕ). ScratchAfter d x scratch scratch') (sym f.number_is) w;
    }

pub list-gives : (d : Decoded) (given : Listing) (list list' : List (List ℕ)) (scratch scratch' : List ℕ) (a : Result ℕ Refusal) (r : CountAnswer)
    → ListPromise given a list list' → ScratchAfter d (count_values a).number scratch scratch' → CountFields (count_values a) r
    → ListGives d given r list list' scratch scratch'
list-gives d given list list' scratch scratch' a r p w f =
    record {
      fields = subst (λ (v : CountValues). CountFields v r) p.values-are f;
      list-is = p.list-is;
      scratch-is = subst (λ (x : ℕ). ScratchAfter d x scratch scratch') (sym f.number_is) w;
    }
