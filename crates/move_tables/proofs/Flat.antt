-- Nodes without quantifiers, one after the other, and the forest of which they are. Assumes nothing.
use mathlib.Core.Path.{◌≡◌, sym, ap, ◌∙◌}
use mathlib.Core.Bool.{false, ◌&&◌}
use Prim.Native.Nat.{ℕ, suc, ◌+◌, ◌^◌, ◌≤◌}
use native.Mathlib.Decide.{ℕ_discrete}
use native.Mathlib.Omega.{arith}
use lib.Dec.{leb}
use mathlib.Core.List.{List}
use Rattle.logic.specs.Formula.{Forest, none, tree, node_count, child_depth}
use Rattle.logic.specs.inner.Literals.{Every}
use Rattle.logic.specs.Cells.{sibling_first}
use Rattle.table_format.specs.Bytes.{kind_field, record_at}
use Rattle.cells_walk.specs.inner.Nodes.{IndexHolds}
use Rattle.cells_flip.specs.inner.Flips.{NoQuantifier, Flat}
use Rattle.move_tables.specs.inner.Taking.{NoneBinds}

pub none_yet : (bytes : List ℕ) (i : ℕ) → NoneBinds bytes i i
unfolding NoneBinds
none_yet bytes i j h l = absurd (omega arith)

pub one_more : (bytes : List ℕ) (i m : ℕ) → NoneBinds bytes i m → (leb 1 (kind_field (record_at bytes m)) && leb (kind_field (record_at bytes m)) 2) ≡ false
    → NoneBinds bytes i (m + 1)
unfolding NoneBinds
one_more bytes i m H h j a l = go (ℕ_discrete j m)
  where
    go : Dec (j ≡ m) → (leb 1 (kind_field (record_at bytes j)) && leb (kind_field (record_at bytes j)) 2) ≡ false
    go (yes e) = ap (λ (x : ℕ). leb 1 (kind_field (record_at bytes x)) && leb (kind_field (record_at bytes x)) 2) e ∙ h
    go (no e) = H j a (omega arith)

-- the nodes of a forest stand one after the other from its first
pub flat-forest : (u : ℕ) (bytes firsts ends uses : List ℕ) (i : ℕ) (f : Forest) (b d until : ℕ) → IndexHolds u bytes firsts ends uses i f b d
    → i + node_count f ≤ until → (start : ℕ) → start ≤ i → NoneBinds bytes start until → Flat f d
unfolding IndexHolds Flat Every NoneBinds NoQuantifier node_count
flat-forest u bytes firsts ends uses i none b d until h l start s H = tt
flat-forest u bytes firsts ends uses i (tree n c t) b d until h l start s H = (
  ap (λ (x : ℕ). leb 1 x && leb x 2) (sym h.0.kind-is) ∙ H i s (omega arith),
  flat-forest u bytes firsts ends uses (suc i) c (b + u ^ d) (child_depth n d) until h.1 (omega arith) start (omega arith) H,
  flat-forest u bytes firsts ends uses (i + suc (node_count c)) t (sibling_first u n c b d) d until h.2 (omega arith) start (omega arith) H,
)

pub up_to : (bytes : List ℕ) (i until m : ℕ) → until ≤ m → NoneBinds bytes i m → NoneBinds bytes i until
unfolding NoneBinds
up_to bytes i until m l H j a h = H j a (omega arith)
