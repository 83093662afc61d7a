-- What a caller of move, improve or undo has of the tables with their journal, when it has put the record where the two counts say: the
-- answer and the tables with the journal of the call's definition. Assumes nothing.
use mathlib.Core.Path.{◌≡◌, sym, ap, subst, ◌∙◌}
use mathlib.Core.List.{List}
use Prim.Native.Nat.{ℕ, ◌≤◌}
use lib.ListN.{length, set}
use Rattle.std.specs.Prelude.{Result}
use Rattle.logic.specs.declared.Move.{Move}
use Rattle.logic.specs.declared.refusal.Refusal.{Refusal}
use Rattle.table_format.specs.Decode.{Decoded}
use Rattle.contracts.specs.State.{State}
use Rattle.contracts.specs.Journal.{Journaled, room_of, newest, count_after, count_taken}
use Rattle.contracts.specs.declared.Moved.{Moved}
use Rattle.contracts.specs.declared.Improved.{Improved}
use Rattle.contracts.specs.MoveCall.{move_values, moves, moves_journaled, MovePromise}
use Rattle.contracts.specs.ImproveCall.{ImproveValues, improve_values, improves, improves_journaled, ImprovePromise}
use Rattle.contracts.specs.UndoCall.{undoes, undoes_journaled}
use Rattle.journal_rules.specs.inner.Counting.{place_of}
use Rattle.journal_rules.proofs.Writing.{journal, unwritten, written, taken}

-- tables with a journal
abbrev pub held : State → List Move → ℕ → Journaled
held s records count = record { tables = s; journal = journal records count }

module _ (d : Decoded) (s s' : State) (records : List Move) (room count count' : ℕ) (l : length records ≡ room) where
  abbrev put : Move → List Move
  put m = set records (place_of count count' room) m

  -- where the count was not raised no record was put
  pub put-none : (m : Move) → count' ≤ count → put m ≡ records
  put-none m h = ap (λ (n : ℕ). set records (place_of count count' n) m) (sym l) ∙ unwritten records count count' m h

  pub move-held : (m : Move) (a : Result Moved Refusal) → MovePromise count_after (moves d m s room count) count a s' count'
      → (let given = moves_journaled d m (held s records count) in (move_values a ≡ given.0) × (held s' (put m) count' ≡ given.1))
  unfolding moves_journaled room_of
  move-held m a p =
      let q = subst (λ (n : ℕ). MovePromise count_after (moves d m s n count) count a s' count') (sym l) p in (
        q.answers.values-are,
        λ i. record {
          tables = q.tables-are i;
          journal = (ap (λ (n : ℕ). journal (set records (place_of count count' n) m) count') (sym l) ∙ written _ m records count count' q.count-is) i;
        },
      )

  pub improve-held : (kinds scratch : ℕ) (m : Move) (a : Result Improved Refusal) → m ≡ (improve_values a).chosen
      → ImprovePromise (improves d kinds s scratch room count) count a s' count'
      → (let given = improves_journaled d kinds (held s records count) scratch in (improve_values a ≡ given.0) × (held s' (put m) count' ≡ given.1))
  unfolding improves_journaled room_of
  improve-held kinds scratch m a c p =
      let q = subst (λ (n : ℕ). ImprovePromise (improves d kinds s scratch n count) count a s' count') (sym l) p in
      let chosen = c ∙ ap (λ (v : ImproveValues). v.chosen) q.values-are in (
        q.values-are,
        λ i. record {
          tables = q.tables-are i;
          journal = ((λ k. journal (set records (place_of count count' (sym l k)) (chosen k)) count') ∙ written _ _ records count count' q.count-is) i;
        },
      )

  -- undo writes no record
  pub undo-held : (m : Move) (a : Result Moved Refusal) → newest (journal records count) ≡ m → MovePromise count_taken (undoes d m s room count) count a s' count'
      → (let given = undoes_journaled d (held s records count) in (move_values a ≡ given.0) × (held s' records count' ≡ given.1))
  unfolding undoes_journaled room_of
  undo-held m a e p =
      let q : MovePromise count_taken (undoes d (newest (journal records count)) s (length records) count) count a s' count' =
      subst (λ (n : ℕ). MovePromise count_taken (undoes d (newest (journal records count)) s n count) count a s' count') (sym l)
      (subst (λ (x : Move). MovePromise count_taken (undoes d x s room count) count a s' count') (sym e) p) in (
        q.answers.values-are,
        λ i. record { tables = q.tables-are i; journal = taken _ records count count' q.count-is i },
      )
