-- What the steps from tuple to tuple ask and give.
use Rattle.std.specs.Prelude.{◌≡◌, ℕ, zero, suc, ◌+◌, ◌-◌, ◌*◌, ◌%◌, ◌<◌, ◌≤◌, Bool, false, cond, ◌&&◌, ◌≢◌, List, [], ◌∷◌, length, ◌==◌, bit_and, bit_or, nat_lt, slice_index}
use Rattle.logic.specs.Formula.{Node, Forest, tree}
use Rattle.logic.specs.Configuration.{indicator, in_mask}
use Rattle.logic.specs.Truth.{Tuple, port_of}
use Rattle.logic.specs.Penalty.{sum, each_port}
use Rattle.logic.specs.Cells.{place_of}
use Rattle.logic.specs.Change.{modulus, cell_of}
use Rattle.logic.proofs.Lists.{TupleOf}
use Rattle.cells_touch.specs.inner.Hits.{meets, level}
use Rattle.cells_walk.specs.inner.Visit.{packed}
use Rattle.cells_atoms.specs.inner.Atoms.{over_tuples}
use Rattle.cells_flip.specs.inner.Flips.{FlipSettled}
use Rattle.cells_ports.specs.inner.Ports.{Words}
use Rattle.cells_tuples.specs.inner.Tuples.{FlatTree}
use Rattle.cells_both.specs.inner.Both.{FourChanges, FourAre, both_by, BothReady}

-- The bits of the sets that flip, at the variables of a tuple that stand at port x.
pub record Held (flips : ℕ → Bool) (e : Tuple) (x word : ℕ) : Type 0 where
  pub members : (S v : ℕ) → S < 16 → v < 3 → in_mask word (4 * S + v) ≡ (flips S && (nat_lt v (length e) && port_of e v == x))
  pub high : (S : ℕ) → S < 16 → in_mask word (4 * S + 3) ≡ false

-- The same with one more variable, which stands at port x.
unfoldable pub held_word : ℕ → ℕ → ℕ → ℕ → ℕ → ℕ
held_word word members l x p = cond (x == p) (bit_or word (bit_and members (level l))) word

-- How many of two ports no variable stands at by which a tree tests a set that flips.
unfoldable pub missing_of : ℕ → ℕ → ℕ → ℕ
missing_of used pword qword = cond (meets used pword) 0 1 + cond (meets used qword) 0 1

-- Whether a tree tests a set that flips by variable l; and by how many of the m variables from l on.
unfoldable pub tests : ℕ → ℕ → ℕ → Bool
tests used members l = meets used (bit_and members (level l))

unfoldable pub left_of : ℕ → ℕ → ℕ → ℕ → ℕ
left_of used members l zero = 0
left_of used members l (suc m) = indicator (tests used members l) + left_of used members (suc l) m

-- A tuple of l ports, as the numbers say it.
pub record Stands (u : ℕ) (flips : ℕ → Bool) (p q l place digits pword qword : ℕ) (e : Tuple) : Type 0 where
  pub tuple : TupleOf u l e
  pub place_is : place ≡ place_of u e
  pub digits_are : digits ≡ packed e
  pub p-held : Held flips e p pword
  pub q-held : Held flips e q qword

module _ (u : ℕ) (bytes firsts ends uses masks sizes cells : List ℕ) (i d members resized p q l place digits pword qword : ℕ) where
  -- Before the tuples that go on from such a one, `left` of whose variables count.
  pub record FromReady (left : ℕ) : Type 0 where
    pub ready : BothReady u bytes firsts ends uses masks sizes cells i d members resized p q
    pub tuple : Tuple
    pub at : Stands u ready.flips p q l place digits pword qword tuple
    pub within : l ≤ d
    pub left_is : left ≡ left_of (slice_index uses i) members l (d - l)

  -- A number is what some rule says of the tuple, for any tree, tuple and changes that the numbers can stand for.
  unfoldable pub Tells : ((Tuple → ℕ) → Tuple → ℕ) → ℕ → Type 0
  Tells g r =
      (sets : ℕ) (n : Node) (c s : Forest) (b : ℕ) (flips resizes : ℕ → Bool)
      → FlipSettled u sets masks sizes cells
      → FlatTree u sets bytes firsts ends uses cells i (tree n c s) b d
      → Words flips resizes members resized → p ≢ q
      → (e : Tuple) → Stands u flips p q l place digits pword qword e
      → (f : FourChanges) → FourAre (slice_index uses i) masks sizes flips resizes p q f
      → r ≡ g (both_by u f (cell_of u cells) n c b d) e % modulus

  -- The sum over all tuples that go on from it; over those that go on by port x; and by one of the first m ports.
  unfoldable pub FromGives : ℕ → Type 0
  FromGives r = Tells (λ h e. over_tuples u (d - l) h e) r

  unfoldable pub PortGives : ℕ → ℕ → Type 0
  PortGives x r = Tells (λ h e. over_tuples u (d - (l + 1)) h (x ∷ e)) r

  unfoldable pub PortsGive : ℕ → ℕ → Type 0
  PortsGive m r = Tells (λ h e. sum (each_port m (λ x. over_tuples u (d - (l + 1)) h (x ∷ e) ∷ []))) r
