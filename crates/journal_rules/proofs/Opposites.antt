-- The opposite of a move by its kind. Assumes nothing.
use mathlib.Core.Path.{◌≡◌, refl, ap}
use Prim.Native.Nat.{ℕ, zero, suc}
use Rattle.logic.specs.declared.Move.{Move}
use Rattle.logic.specs.Moves.{MoveKind, unknown, move_kind}
use Rattle.contracts.specs.Journal.{kind_opposite, opposite}

-- a kind that is none of the four is unknown
none-known : (k : ℕ) → (k ≡ 1 → ⊥) → (k ≡ 2 → ⊥) → (k ≡ 3 → ⊥) → (k ≡ 4 → ⊥) → move_kind k ≡ unknown
unfolding move_kind
none-known zero a b c d = refl
none-known (suc zero) a b c d = absurd (a refl)
none-known (suc (suc zero)) a b c d = absurd (b refl)
none-known (suc (suc (suc zero))) a b c d = absurd (c refl)
none-known (suc (suc (suc (suc zero)))) a b c d = absurd (d refl)
none-known (suc (suc (suc (suc (suc k))))) a b c d = refl

-- the opposite of a move of a kind
pub of-kind : (m : Move) (k : MoveKind) → move_kind m.kind ≡ k → opposite m ≡ kind_opposite k m
unfolding opposite
of-kind m k e = ap (λ (x : MoveKind). kind_opposite x m) e

pub of_none : (m : Move) → (m.kind ≡ 1 → ⊥) → (m.kind ≡ 2 → ⊥) → (m.kind ≡ 3 → ⊥) → (m.kind ≡ 4 → ⊥) → opposite m ≡ m
unfolding kind_opposite
of_none m a b c d = of-kind m unknown (none-known m.kind a b c d)

-- a move by its fields
abbrev pub of_fields : ℕ → ℕ → ℕ → ℕ → ℕ → Move
of_fields kind s t p q = record { kind = kind; s = s; t = t; p = p; q = q }
