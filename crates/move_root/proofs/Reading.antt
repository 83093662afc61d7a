-- The sums that the tables say of a move. Assumes nothing.
use Rattle.std.proofs.Common.{◌≡◌, ℕ, ◌+◌, ◌-◌, ◌*◌, ◌%◌, ◌≢◌, List, [], sym, ap, ◌∙◌, ap₂, arith}
use Rattle.logic.specs.declared.Move.{Move}
use Rattle.logic.specs.Moves.{transfer, swap, move_kind}
use Rattle.move_shares.specs.inner.Shares.{entering, leaving, exchanged}
use Rattle.move_slots.specs.inner.Slots.{slot_at, flip_read, single_read, joint_read, kind_read, move_read}
use Rattle.move_root.specs.inner.Reading.{Readable}

-- sums of numbers that are known modulo 2^32
pub wrapped-first : (r a b x : ℕ) → r ≡ (a + b) % 4294967296 → a ≡ x % 4294967296 → r ≡ (x + b) % 4294967296
wrapped-first r a b x h f = omega arith

pub wrapped-last : (r a b y : ℕ) → r ≡ (a + b) % 4294967296 → b ≡ y % 4294967296 → r ≡ (a + y) % 4294967296
wrapped-last r a b y h f = omega arith

module _ (one still : List ℕ) (test : ℕ) (m : Move) where
  -- a set's numbers, by its number and what becomes of its size
  single-is : {s j S J a : ℕ} → s ≡ S → j ≡ J → a ≡ single_read one still s j m.p % 4294967296 → a ≡ single_read one still S J m.p % 4294967296
  single-is es ej h = h ∙ ap₂ (λ (x y : ℕ). single_read one still x y m.p % 4294967296) es ej

  pub transfer-is : (joint : List ℕ) {s t j l a b w z r : ℕ} → s ≡ m.s → t ≡ m.t → j ≡ leaving test m.p → l ≡ entering test m.p
      → a ≡ single_read one still s j m.p % 4294967296 → b ≡ single_read one still t l m.p % 4294967296
      → w ≡ (a + b) % 4294967296 → z ≡ slot_at joint (16 * s + t) m.p → r ≡ (w + z) % 4294967296
      → r ≡ kind_read transfer one still joint test m % 4294967296
  unfolding kind_read joint_read
  transfer-is joint es et ej el ea eb ew ez er =
      wrapped-first _ _ _ _ er (wrapped-last _ _ _ _ (wrapped-first _ _ _ _ ew (single-is es ej ea)) (single-is et el eb))
      ∙ ap (λ (x : ℕ). (single_read one still m.s (leaving test m.p) m.p + single_read one still m.t (entering test m.p) m.p + x) % 4294967296)
      (ez ∙ ap₂ (λ (x y : ℕ). slot_at joint (16 * x + y) m.p) es et)

  pub swap_is : {s j l a b r : ℕ} → s ≡ m.s → j ≡ leaving test m.p → l ≡ entering test m.q
      → a ≡ single_read one still s (j + l - 1) m.p % 4294967296 → b ≡ flip_read one s (j + l - 1) m.q % 4294967296
      → r ≡ (a + b) % 4294967296 → r ≡ kind_read swap one still [] test m % 4294967296
  unfolding kind_read exchanged single_read
  swap_is es ej el ea eb er =
      let e = ap₂ (λ (x y : ℕ). x + y - 1) ej el in
      wrapped-last _ _ _ _ (wrapped-first _ _ _ _ er (single-is es e ea)) (eb ∙ ap₂ (λ (x y : ℕ). flip_read one x y m.q % 4294967296) es e)

  module _ (joint : List ℕ) where
    pub read-transfer : {r : ℕ} → m.kind ≡ 3 → r ≡ kind_read transfer one still joint test m % 4294967296 → r ≡ move_read one still joint test m % 4294967296
    unfolding move_read move_kind
    read-transfer e h = h ∙ ap (λ (κ : ℕ). kind_read (move_kind κ) one still joint test m % 4294967296) (sym e)

    pub read-swap : {r : ℕ} → m.kind ≡ 4 → r ≡ kind_read swap one still [] test m % 4294967296 → r ≡ move_read one still joint test m % 4294967296
    unfolding move_read move_kind kind_read
    read-swap e h = h ∙ ap (λ (κ : ℕ). kind_read (move_kind κ) one still joint test m % 4294967296) (sym e)

    pub read-add : {s j r : ℕ} → m.kind ≡ 1 → s ≡ m.s → j ≡ entering test m.p → r ≡ single_read one still s j m.p % 4294967296
        → r ≡ move_read one still joint test m % 4294967296
    unfolding move_read move_kind kind_read
    read-add e es ej h = single-is es ej h ∙ ap (λ (κ : ℕ). kind_read (move_kind κ) one still joint test m % 4294967296) (sym e)

    pub read-drop : {s j r : ℕ} → Readable m → m.kind ≢ 3 → m.kind ≢ 4 → m.kind ≢ 1 → s ≡ m.s → j ≡ leaving test m.p
        → r ≡ single_read one still s j m.p % 4294967296 → r ≡ move_read one still joint test m % 4294967296
    unfolding move_read move_kind kind_read
    read-drop known n3 n4 n1 es ej h =
        let e : m.kind ≡ 2 = omega (arith, known.kind-low, known.kind-high, n3, n4, n1) in
        single-is es ej h ∙ ap (λ (κ : ℕ). kind_read (move_kind κ) one still joint test m % 4294967296) (sym e)
