-- What a move brings beyond the tables where both its ports meet in an atom: a swap what is counted over the list, every other kind nothing. Assumes nothing.
use Rattle.std.proofs.Common.{◌≡◌, ℕ, zero, suc, ◌%◌, ◌≢◌, List, [], ◌∷◌, length, sym, refl, ap, ◌∙◌, arith}
use Rattle.logic.specs.declared.Move.{Move}
use Rattle.logic.specs.Formula.{Plan}
use Rattle.logic.specs.Moves.{MoveKind, add, drop, transfer, swap, unknown, move_kind}
use Rattle.logic.specs.Change.{modulus}
use Rattle.cells_share.specs.inner.Listed.{Listed, of_listed}
use Rattle.move_shares.specs.inner.Listing.{cross_read}
use Rattle.move_crossed.specs.inner.Crossed.{CrossedReady, CrossedGives}
use Rattle.move_root.specs.inner.Telling.{BothAsked, BothRead}

-- no kind but a swap has a correction
none_other : (κ : ℕ) → κ ≢ 4 → (P : Plan) (masks sizes cells : List ℕ) (m : Move) (xs : List Listed) → 0 ≡ cross_read (move_kind κ) P masks sizes cells m xs % modulus
unfolding move_kind cross_read modulus
none_other zero n P masks sizes cells m xs = refl
none_other (suc zero) n P masks sizes cells m xs = refl
none_other (suc (suc zero)) n P masks sizes cells m xs = refl
none_other (suc (suc (suc zero))) n P masks sizes cells m xs = refl
none_other (suc (suc (suc (suc zero)))) n P masks sizes cells m xs = absurd (n refl)
none_other (suc (suc (suc (suc (suc j))))) n P masks sizes cells m xs = refl

-- nor has any kind over an empty list
none-listed : (κ : MoveKind) (P : Plan) (masks sizes cells : List ℕ) (m : Move) → 0 ≡ cross_read κ P masks sizes cells m [] % modulus
unfolding cross_read of_listed modulus
none-listed add P masks sizes cells m = refl
none-listed drop P masks sizes cells m = refl
none-listed transfer P masks sizes cells m = refl
none-listed swap P masks sizes cells m = refl
none-listed unknown P masks sizes cells m = refl

module _ {ports sets : ℕ} {bytes firsts ends uses masks cells : List ℕ} {m : Move} {list : List ℕ} {count : ℕ}
    (asked : BothAsked ports sets bytes firsts ends uses masks cells m list count) where
  pub crossed-ready : m.kind ≡ 4 → CrossedReady ports sets bytes firsts ends uses masks cells m list count
  crossed-ready e = record {
    plan = asked.plan;
    sizes = asked.sizes;
    atoms = asked.atoms;
    swap = record { given = asked.given; is-legal = asked.is-legal; is-swap = e };
    listed = asked.listed;
    room = asked.room;
  }

  pub both-swap : (r : ℕ) → m.kind ≡ 4 → CrossedGives ports sets bytes firsts ends uses masks cells m list count r
      → BothRead ports sets bytes firsts ends uses masks cells m list count r
  unfolding CrossedGives BothRead move_kind cross_read
  both-swap r e gives = λ P sizes xs given is-legal listed.
      gives P sizes xs (record { given = given; is-legal = is-legal; is-swap = e }) listed
      ∙ ap (λ (κ : ℕ). cross_read (move_kind κ) P masks sizes cells m xs % modulus) (sym e)

  pub both-other : m.kind ≢ 4 → BothRead ports sets bytes firsts ends uses masks cells m list count 0
  unfolding BothRead
  both-other n = λ P sizes xs given is-legal listed. none_other m.kind n P masks sizes cells m xs

  pub both-nothing : count ≡ 0 → BothRead ports sets bytes firsts ends uses masks cells m list count 0
  unfolding BothRead
  both-nothing e = λ P sizes xs given is-legal listed. go P sizes xs (sym e ∙ listed.count-is)
    where
      go : (P : Plan) (sizes : List ℕ) (xs : List Listed) → 0 ≡ length xs → 0 ≡ cross_read (move_kind m.kind) P masks sizes cells m xs % modulus
      go P sizes [] h = none-listed (move_kind m.kind) P masks sizes cells m
      go P sizes (a ∷ xs) h = absurd (omega arith)
