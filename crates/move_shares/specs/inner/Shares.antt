-- What each atom adds to the root after a move, in the parts that improve keeps: by the sets that change, what becomes of their sizes,
-- and the port.
use Rattle.std.specs.Prelude.{◌≡◌, Bool, true, cond, ◌&&◌, ◌||◌, List, [], ◌∷◌, map, ℕ, ◌+◌, ◌-◌, ◌*◌, ◌<◌, eqb, get_or}
use Rattle.std.specs.Int.Bits.{bit_or}
use Rattle.logic.specs.declared.Move.{Move}
use Rattle.logic.specs.Formula.{Node, Forest, none, tree, Plan}
use Rattle.logic.specs.Configuration.{Configuration, in_mask, in_masks, spelled}
use Rattle.logic.specs.Moves.{Pair, move_masks, move_pairs, flips}
use Rattle.logic.specs.Change.{Change, some_of, pairs_change, cell_of}
use Rattle.cells_touch.specs.inner.Hits.{variable_bits, size_bit}
use Rattle.table_format.specs.Rules.{plan_rule}
use Rattle.cells_walk.specs.inner.Nodes.{Fitting}
use Rattle.cells_walk.specs.inner.Visit.{MasksSettled, CellsFit}
use Rattle.cells_atoms.specs.inner.Atoms.{over_tuples, difference, AllRegular}
use Rattle.cells_ports.specs.inner.Ports.{resized_by, flipped_by}
use Rattle.cells_both.specs.inner.Both.{FourChanges, both_by}

-- The configuration and the change of a move, and its share of an atom: new minus old over all the atom's cells.
unfoldable pub configuration_after : Plan → List ℕ → Move → Configuration
configuration_after P own m = spelled P (move_masks P m own)

unfoldable pub change_by : Plan → List ℕ → Move → Change
change_by P own m = pairs_change (move_pairs P (in_masks own) m)

unfoldable pub share_of : Plan → List ℕ → List ℕ → Move → Node → Forest → ℕ → ℕ → ℕ
share_of P own before m n c b d =
    over_tuples P.ports d (difference P.ports (configuration_after P own m) (change_by P own m) (cell_of P.ports before) n c b d) []

-- What becomes of a set's size: 0 one less, 1 the same, 2 one more. A port in test does not count.
unfoldable pub entering : ℕ → ℕ → ℕ
entering test p = cond (in_mask test p) 1 2

unfoldable pub leaving : ℕ → ℕ → ℕ
leaving test p = cond (in_mask test p) 1 0

unfoldable pub exchanged : ℕ → ℕ → ℕ → ℕ
exchanged test p q = leaving test p + entering test q - 1

-- Some sets, each with what becomes of its size.
abbrev pub Outcome : Type 0
Outcome = ℕ × ℕ

unfoldable pub changing : List Outcome → ℕ → Bool
changing zs S = some_of (λ z. eqb S z.0) zs

unfoldable pub sized_as : List ℕ → List Outcome → ℕ → ℕ
sized_as sizes [] S = get_or sizes S 0
sized_as sizes (z ∷ zs) S = cond (eqb S z.0) (get_or sizes S 0 + z.1 - 1) (sized_as sizes zs S)

-- These sets are resized alone, or flip at port x beside.
unfoldable pub pairs_of : List Outcome → ℕ → List Pair
pairs_of zs x = map (λ (z : Outcome). (z.0, x)) zs

unfoldable pub resizing : List Outcome → Change
resizing zs = record { pairs = []; resized = changing zs }

unfoldable pub flipping : List Outcome → ℕ → Change
flipping zs x = record { pairs = pairs_of zs x; resized = changing zs }

unfoldable pub resized_to : List ℕ → List ℕ → List Outcome → Configuration
resized_to own sizes zs = record { member = in_masks own; size = sized_as sizes zs }

unfoldable pub flipped_to : List ℕ → List ℕ → List Outcome → ℕ → Configuration
flipped_to own sizes zs x = record { member = flips (pairs_of zs x) (in_masks own); size = sized_as sizes zs }

-- What the resizing adds to an atom, and what the flip at x adds to that.
unfoldable pub resized_share : ℕ → List ℕ → List ℕ → List ℕ → List Outcome → Node → Forest → ℕ → ℕ → ℕ
resized_share u own sizes before zs n c b d =
    over_tuples u d (resized_by u (resized_to own sizes zs) (resizing zs) (cell_of u before) n c b d) []

unfoldable pub flipped_share : ℕ → List ℕ → List ℕ → List ℕ → List Outcome → ℕ → Node → Forest → ℕ → ℕ → ℕ
flipped_share u own sizes before zs x n c b d =
    over_tuples u d (flipped_by u (resized_to own sizes zs) (resizing zs) (flipped_to own sizes zs x) (flipping zs x) (cell_of u before) n c b d) []

-- Both.
unfoldable pub whole_share : ℕ → List ℕ → List ℕ → List ℕ → List Outcome → ℕ → Node → Forest → ℕ → ℕ → ℕ
whole_share u own sizes before zs x n c b d = resized_share u own sizes before zs n c b d + flipped_share u own sizes before zs x n c b d

-- The set of a swap, with what becomes of its size.
abbrev pub swapped_set : Plan → List ℕ → Move → List Outcome
swapped_set P own m = (m.s, exchanged (get_or own P.sets 0) m.p m.q) ∷ []

-- A swap's resizing alone, with each flip, and with both; and what both add to an atom beyond each.
unfoldable pub four_of : Plan → List ℕ → List ℕ → Move → FourChanges
four_of P own sizes m =
    let zs = swapped_set P own m in
    record {
      k₀ = resized_to own sizes zs;
      base = resizing zs;
      kp = flipped_to own sizes zs m.p;
      atp = flipping zs m.p;
      kq = flipped_to own sizes zs m.q;
      atq = flipping zs m.q;
      kb = configuration_after P own m;
      both = change_by P own m;
    }

unfoldable pub both_share : Plan → List ℕ → List ℕ → List ℕ → Move → Node → Forest → ℕ → ℕ → ℕ
both_share P own sizes before m n c b d = over_tuples P.ports d (both_by P.ports (four_of P own sizes m) (cell_of P.ports before) n c b d) []

-- The list has the sizes of a plan's sets.
unfoldable pub SizesAre : Plan → List ℕ → List ℕ → Type 0
SizesAre P own sizes = (S : ℕ) → S < P.sets → get_or sizes S 0 ≡ (spelled P own).size S

-- A plan that keeps its rules, masks that are settled, cells of 32 bits, and the sizes.
pub record ShareReady (P : Plan) (own before sizes : List ℕ) : Type 0 where
  pub rules : plan_rule P ≡ true
  pub settled : MasksSettled P.ports P.sets own
  pub cells_fit : CellsFit before
  pub sizes-are : SizesAre P own sizes

-- An atom of the plan's formula, or any tree of it: what its rules say of it.
pub record TreeReady (P : Plan) (n : Node) (c : Forest) (d : ℕ) : Type 0 where
  pub regular : AllRegular (tree n c none) d
  pub fitting : Fitting P.sets (tree n c none) d

-- The four bits of a set in a word of uses.
unfoldable pub set_bits : ℕ → ℕ
set_bits S = bit_or (variable_bits S) (size_bit S)

-- Whether a set is tested by more than one variable, by a word of uses.
unfoldable pub crosses : ℕ → ℕ → Bool
crosses used S =
    (in_mask used (4 * S) && (in_mask used (4 * S + 1) || in_mask used (4 * S + 2))) || (in_mask used (4 * S + 1) && in_mask used (4 * S + 2))
