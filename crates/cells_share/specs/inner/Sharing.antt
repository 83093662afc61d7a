-- What a change adds to a node's cells: new minus old, modulo 2^32, over the tuples that go on from one. Paper 01, section One move:
-- "the new minus the old of every touched cell".
use Rattle.std.specs.Prelude.{◌≡◌, ℕ, ◌+◌, ◌-◌, ◌%◌, ◌≤◌, true, List, [], ◌∷◌, slice_index}
use Rattle.logic.specs.Formula.{Node, Forest}
use Rattle.logic.specs.Configuration.{configured, in_masks}
use Rattle.logic.specs.Truth.{Tuple}
use Rattle.logic.specs.Penalty.{sum, each_port}
use Rattle.logic.specs.Cells.{place_of}
use Rattle.logic.specs.Change.{Change, modulus, cell_of}
use Rattle.logic.proofs.Lists.{TupleOf}
use Rattle.cells_touch.specs.declared.Changed.{Changed}
use Rattle.cells_touch.specs.inner.Hits.{meets, HitWord}
use Rattle.cells_walk.specs.inner.Visit.{packed}
use Rattle.cells_visit.specs.inner.Walking.{WalkReady}
use Rattle.cells_atoms.specs.inner.Atoms.{over_tuples, difference}
use Rattle.cells_zero.specs.inner.Zero.{TreeStands}

-- A tuple of `level` ports, with the tuples of a node at depth d that go on from it.
pub record SharesVisit (u sets : ℕ) (ch : Change) (bytes firsts ends uses cells : List ℕ) (i : ℕ) (n : Node) (c s : Forest) (b d level : ℕ) (e : Tuple)
    (place digits word : ℕ) : Type 0 where
  pub stands : TreeStands u sets bytes firsts ends uses cells i n c s b d
  pub within : level ≤ d
  pub tuple : TupleOf u level e
  pub place_is : place ≡ place_of u e
  pub digits_are : digits ≡ packed e
  pub word-is : HitWord ch e word

pub record SharesReady (u sets : ℕ) (c : Changed) (bytes firsts ends uses masks cells : List ℕ) (i d level place digits word : ℕ) : Type 0 where
  pub change : Change
  pub node : Node
  pub children : Forest
  pub siblings : Forest
  pub first : ℕ
  pub tuple : Tuple
  pub ready : WalkReady u sets c masks cells change
  pub visit : SharesVisit u sets change bytes firsts ends uses cells i node children siblings first d level tuple place digits word

unfoldable pub SharesGive : ℕ → ℕ → Changed → List ℕ → List ℕ → List ℕ → List ℕ → List ℕ → List ℕ → ℕ → ℕ → ℕ → ℕ → ℕ → ℕ → ℕ → Type 0
SharesGive u sets c bytes firsts ends uses masks cells i d level place digits word r =
    (ch : Change) (n : Node) (f s : Forest) (b : ℕ) (e : Tuple) → WalkReady u sets c masks cells ch
    → SharesVisit u sets ch bytes firsts ends uses cells i n f s b d level e place digits word
    → r ≡ over_tuples u (d - level) (difference u (configured u sets (in_masks masks)) ch (cell_of u cells) n f b d) e % modulus

-- The tuple is whole, and its cell touched.
pub record TouchedReady (u sets : ℕ) (c : Changed) (bytes firsts ends uses masks cells : List ℕ) (i d place digits word : ℕ) : Type 0 where
  pub begins : SharesReady u sets c bytes firsts ends uses masks cells i d d place digits word
  pub touched : meets (slice_index uses i) word ≡ true

-- The tuples that go on from one with the ports below m.
unfoldable pub PortsGive : ℕ → ℕ → Changed → List ℕ → List ℕ → List ℕ → List ℕ → List ℕ → List ℕ → ℕ → ℕ → ℕ → ℕ → ℕ → ℕ → ℕ → ℕ → Type 0
PortsGive u sets c bytes firsts ends uses masks cells i d level place digits word m r =
    (ch : Change) (n : Node) (f s : Forest) (b : ℕ) (e : Tuple) → WalkReady u sets c masks cells ch
    → SharesVisit u sets ch bytes firsts ends uses cells i n f s b d level e place digits word
    → r ≡ sum (each_port m (λ x. over_tuples u (d - (level + 1)) (difference u (configured u sets (in_masks masks)) ch (cell_of u cells) n f b d) (x ∷ e) ∷ [])) % modulus
