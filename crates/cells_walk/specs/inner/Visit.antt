-- Where the walk of a change stands, and what its steps give.
use Rattle.std.specs.Prelude.{◌≡◌, Bool, true, List, [], ◌∷◌, ℕ, suc, ◌+◌, ◌*◌, ◌^◌, ◌%◌, ◌≤◌, ◌<◌, length, get_or}
use Rattle.logic.specs.Formula.{Test, Literal, Node, Forest, tree, none, test_kind, node_count}
use Rattle.logic.specs.Configuration.{Configuration, configured, in_masks, mask_count, within_ports}
use Rattle.logic.specs.Truth.{Tuple}
use Rattle.logic.specs.Penalty.{literal_penalty, each_port, sum}
use Rattle.logic.specs.Cells.{place_of, cell_count}
use Rattle.logic.specs.Change.{Change, modulus, OldCells, renewals, new_cell}
use Rattle.logic.proofs.Lists.{TupleOf}
use Rattle.cells_touch.specs.inner.Hits.{HitWord}
use Rattle.cells_sum.specs.inner.Walk.{taken, gathered, changes}
use Rattle.cells_sum.specs.declared.After.{After}
use Rattle.cells_sum.specs.declared.Sum.{Sum}
use Rattle.table_format.specs.Bytes.{record_length, kind_field, relation_field, a_field, b_field, records_of, record_at, test_relation, test_a, test_b}
use Rattle.cells_walk.specs.inner.Nodes.{IndexHolds, TestFits, Fitting}

-- The ports of a tuple in one number, eight bits a variable, the outermost lowest.
unfoldable pub packed : Tuple → ℕ
packed [] = 0
packed (p ∷ e) = packed e + p * 256 ^ length e

-- The walk stands before the trees of a forest at a tuple.
pub record Visit (u sets : ℕ) (ch : Change) (bytes firsts ends uses cells : List ℕ) (i : ℕ) (f : Forest) (b d : ℕ) (e : Tuple) (place digits word : ℕ) : Type 0 where
  pub holds : IndexHolds u bytes firsts ends uses i f b d
  pub fitting : Fitting sets f d
  pub tuple : TupleOf u d e
  pub place_is : place ≡ place_of u e
  pub digits_are : digits ≡ packed e
  pub word-is : HitWord ch e word
  pub room : b + cell_count u f d ≤ length cells
  pub nodes : i + node_count f ≤ 512

-- What does not change in a walk: the ports, the sets and the masks after the change; and numbers that fit in their cells.
pub record MasksSettled (u sets : ℕ) (masks : List ℕ) : Type 0 where
  pub ports1 : 1 ≤ u
  pub ports64 : u ≤ 64
  pub sets16 : sets ≤ 16
  pub masks-long : mask_count sets ≤ length masks
  pub within : (S : ℕ) → S < sets → within_ports u (get_or masks S 0) ≡ true

unfoldable pub CellsFit : List ℕ → Type 0
CellsFit cells = (j : ℕ) → get_or cells j 0 < modulus

-- A cell's old number, its new one, and how many cells at or below it differ from before.
pub record CellAfter (u : ℕ) (k : Configuration) (ch : Change) (t : OldCells) (n : Node) (c : Forest) (b d : ℕ) (e : Tuple) (r : After) : Type 0 where
  pub old-is : r.old ≡ t b e
  pub new_is : r.value ≡ new_cell u k ch t n c b d e
  pub changed-is : r.changed ≡ changes u k ch t (tree n c none) b d e % modulus

-- The trees of a forest at a tuple gone into a sum or a minimum.
pub record TreesAfter (u : ℕ) (k : Configuration) (ch : Change) (t : OldCells) (add : Bool) (f : Forest) (b d : ℕ) (e : Tuple) (acc r : Sum) : Type 0 where
  pub value-is : r.value ≡ gathered add acc.value (renewals u k ch t f b d e)
  pub changed-is : r.changed ≡ (acc.changed + changes u k ch t f b d e) % modulus

-- The fields of a literal's test, its masks and its tuple's digits.
pub record TestAt (u sets d kind relation a b : ℕ) (masks : List ℕ) (digits : ℕ) (t : Test) (e : Tuple) : Type 0 where
  pub kind-is : kind ≡ test_kind t
  pub relation-is : relation ≡ test_relation t
  pub a-is : a ≡ test_a t
  pub b-is : b ≡ test_b t
  pub fits : TestFits sets d t
  pub depth3 : d ≤ 3
  pub tuple : TupleOf u d e
  pub digits_are : digits ≡ packed e

pub record LiteralReady (u sets d kind relation a b : ℕ) (masks : List ℕ) (digits : ℕ) : Type 0 where
  pub literal : Literal
  pub ports : Tuple
  pub at : TestAt u sets d kind relation a b masks digits literal.test ports
  pub settled : MasksSettled u sets masks

-- "literals [..] afresh"
unfoldable pub Afresh : ℕ → ℕ → ℕ → ℕ → ℕ → ℕ → ℕ → List ℕ → ℕ → ℕ → Type 0
Afresh u sets d kind relation a b masks digits r =
    (l : Literal) (e : Tuple) → TestAt u sets d kind relation a b masks digits l.test e
    → r ≡ literal_penalty (configured u sets (in_masks masks)) l e

-- The same of the record of node i.
pub record RecordReady (u sets d : ℕ) (bytes : List ℕ) (i : ℕ) (masks : List ℕ) (digits : ℕ) : Type 0 where
  pub whole : record_length * i + record_length ≤ length (records_of bytes)
  pub literal : LiteralReady u sets d (kind_field (record_at bytes i)) (relation_field (record_at bytes i)) (a_field (record_at bytes i)) (b_field (record_at bytes i)) masks digits

unfoldable pub RecordAfresh : ℕ → ℕ → ℕ → List ℕ → ℕ → List ℕ → ℕ → ℕ → Type 0
RecordAfresh u sets d bytes i masks digits r =
    Afresh u sets d (kind_field (record_at bytes i)) (relation_field (record_at bytes i)) (a_field (record_at bytes i)) (b_field (record_at bytes i)) masks digits r

-- The walk stands below a quantifier at depth d, before the trees of a forest at each port: `row` is the place of the first.
pub record RowVisit (u sets : ℕ) (ch : Change) (bytes firsts ends uses cells : List ℕ) (i : ℕ) (f : Forest) (b d : ℕ) (e : Tuple) (row digits word : ℕ) : Type 0 where
  pub holds : IndexHolds u bytes firsts ends uses i f b (suc d)
  pub fitting : Fitting sets f (suc d)
  pub tuple : TupleOf u d e
  pub row_is : row ≡ place_of u e * u
  pub digits_are : digits ≡ packed e
  pub word-is : HitWord ch e word
  pub room : b + cell_count u f (suc d) ≤ length cells
  pub nodes : i + node_count f ≤ 512
  pub depth : d < 3

-- The trees of a forest at each port of a quantifier gone into a sum or a minimum, for the ports below m.
pub record PortsAfter (u : ℕ) (k : Configuration) (ch : Change) (t : OldCells) (add : Bool) (f : Forest) (b d : ℕ) (e : Tuple) (m : ℕ) (acc r : Sum) : Type 0 where
  pub value-is : r.value ≡ gathered add acc.value (each_port m (λ x. renewals u k ch t f b (suc d) (x ∷ e)))
  pub changed-is : r.changed ≡ (acc.changed + sum (each_port m (λ x. changes u k ch t f b (suc d) (x ∷ e) ∷ []))) % modulus

-- The row of a node, its cells at each port: their new numbers, and how many cells at or below them differ from before.
pub record RowAfter (u : ℕ) (k : Configuration) (ch : Change) (t : OldCells) (n : Node) (c : Forest) (b d : ℕ) (e : Tuple) (out : List ℕ) (changed : ℕ) : Type 0 where
  pub numbers : (x : ℕ) → x < u → get_or out x 0 ≡ new_cell u k ch t n c b (suc d) (x ∷ e)
  pub changed-is : changed ≡ sum (each_port u (λ x. changes u k ch t (tree n c none) b (suc d) (x ∷ e) ∷ [])) % modulus

-- The row of a node gone into a row of sums or minima.
pub record RowJoined (u : ℕ) (k : Configuration) (ch : Change) (t : OldCells) (add : Bool) (n : Node) (c : Forest) (b d : ℕ) (e : Tuple) (acc out : List ℕ) (changed : ℕ) : Type 0 where
  pub numbers : (x : ℕ) → x < u → get_or out x 0 ≡ taken add (get_or acc x 0) record { hit = true; old = t b (x ∷ e); new = new_cell u k ch t n c b (suc d) (x ∷ e) }
  pub changed-is : changed ≡ sum (each_port u (λ x. changes u k ch t (tree n c none) b (suc d) (x ∷ e) ∷ [])) % modulus

-- The rows of a forest's trees gone into a row of sums or minima.
pub record RowTreesAfter (u : ℕ) (k : Configuration) (ch : Change) (t : OldCells) (add : Bool) (f : Forest) (b d : ℕ) (e : Tuple) (acc : List ℕ) (before : ℕ) (out : List ℕ) (changed : ℕ) : Type 0 where
  pub numbers : (x : ℕ) → x < u → get_or out x 0 ≡ gathered add (get_or acc x 0) (renewals u k ch t f b (suc d) (x ∷ e))
  pub changed-is : changed ≡ (before + sum (each_port u (λ x. changes u k ch t f b (suc d) (x ∷ e) ∷ []))) % modulus
