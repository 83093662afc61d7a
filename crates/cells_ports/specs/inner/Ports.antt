-- All ports at once: what flips of some sets bring to the row of a tree without quantifiers, for each port at which they may flip.
use Rattle.std.specs.Prelude.{◌≡◌, Bool, false, List, [], ◌∷◌, ℕ, suc, ◌+◌, ◌-◌, ◌*◌, ◌%◌, ◌≤◌, ◌<◌, length, get_or}
use Rattle.logic.specs.Formula.{Node, Forest, tree}
use Rattle.logic.specs.Configuration.{Configuration, in_mask}
use Rattle.logic.specs.Truth.{Tuple}
use Rattle.logic.specs.Penalty.{sum, each_port}
use Rattle.logic.specs.Cells.{CellRule}
use Rattle.logic.specs.Change.{Change, modulus, OldCells, cell_of, new_cell}
use Rattle.cells_atoms.specs.inner.Ports.{Lists, at_one}
use Rattle.cells_flip.specs.inner.Flips.{Flipped, FlipVisit, FlipSettled}

-- Words for some sets that flip and some that are resized, four bits a set: three bits of a set that flips, the fourth of one that is
-- resized.
pub record Words (flips resizes : ℕ → Bool) (members resized : ℕ) : Type 0 where
  pub members-are : (S v : ℕ) → S < 16 → v < 3 → in_mask members (4 * S + v) ≡ flips S
  pub members-high : (S : ℕ) → S < 16 → in_mask members (4 * S + 3) ≡ false
  pub resized-are : (S : ℕ) → S < 16 → in_mask resized (4 * S + 3) ≡ resizes S
  pub resized-low : (S v : ℕ) → S < 16 → v < 3 → in_mask resized (4 * S + v) ≡ false

-- A change that only resizes, and one that flips some sets at port x beside.
unfoldable pub Resizes : (ℕ → Bool) → Change → Type 0
Resizes resizes ch = Lists (λ S p. false) resizes ch

unfoldable pub FlipsAt : (ℕ → Bool) → (ℕ → Bool) → ℕ → Change → Type 0
FlipsAt flips resizes x ch = Lists (at_one flips x) resizes ch

-- New minus old of a cell under a resizing, and what a flip adds to that; modulo 2^32, so that the modulus is added.
unfoldable pub resized_by : ℕ → Configuration → Change → OldCells → CellRule
resized_by u k base t n c b d e = new_cell u k base t n c b d e + (modulus - t b e)

unfoldable pub flipped_by : ℕ → Configuration → Change → Configuration → Change → OldCells → CellRule
flipped_by u k₀ base k ch t n c b d e = new_cell u k ch t n c b d e + (modulus - new_cell u k₀ base t n c b d e)

-- Before the row of one tree below a quantifier at depth d.
pub record RowPortsReady (u : ℕ) (bytes firsts ends uses masks sizes cells : List ℕ) (i d row digits members resized : ℕ) (out : List ℕ) : Type 0 where
  pub sets : ℕ
  pub node : Node
  pub children : Forest
  pub siblings : Forest
  pub first : ℕ
  pub tuple : Tuple
  pub flips : ℕ → Bool
  pub resizes : ℕ → Bool
  pub settled : FlipSettled u sets masks sizes cells
  pub visit : FlipVisit u sets bytes firsts ends uses cells i (tree node children siblings) first (suc d) u d row digits (λ x. x ∷ tuple)
  pub words : Words flips resizes members resized
  pub room : u ≤ length out

-- The resizing's differences over the row, and in `out`, port by port, what the flip there adds.
pub record RowPortsAre (u : ℕ) (uses masks sizes cells : List ℕ) (i d : ℕ) (flips resizes : ℕ → Bool) (n : Node) (c : Forest) (b : ℕ) (e : Tuple)
    (k₀ : Configuration) (base : Change) (before after : List ℕ) (r : ℕ) : Type 0 where
  pub resized-is : r ≡ sum (each_port u (λ z. resized_by u k₀ base (cell_of u cells) n c b (suc d) (z ∷ e) ∷ [])) % modulus
  pub flipped-is : (x : ℕ) → x < u → (ch : Change) (k : Configuration) → FlipsAt flips resizes x ch → Flipped (get_or uses i 0) masks sizes ch k
      → get_or after x 0 ≡ (get_or before x 0 + sum (each_port u (λ z. flipped_by u k₀ base k ch (cell_of u cells) n c b (suc d) (z ∷ e) ∷ []))) % modulus

unfoldable pub RowPortsGive : ℕ → List ℕ → List ℕ → List ℕ → List ℕ → List ℕ → List ℕ → List ℕ → ℕ → ℕ → ℕ → ℕ → ℕ → ℕ → List ℕ → List ℕ → ℕ → Type 0
RowPortsGive u bytes firsts ends uses masks sizes cells i d row digits members resized before after r =
    (sets : ℕ) (n : Node) (c s : Forest) (b : ℕ) (e : Tuple) (flips resizes : ℕ → Bool)
    → FlipSettled u sets masks sizes cells
    → FlipVisit u sets bytes firsts ends uses cells i (tree n c s) b (suc d) u d row digits (λ x. x ∷ e)
    → Words flips resizes members resized
    → (k₀ : Configuration) (base : Change) → Resizes resizes base → Flipped (get_or uses i 0) masks sizes base k₀
    → RowPortsAre u uses masks sizes cells i d flips resizes n c b e k₀ base before after r
