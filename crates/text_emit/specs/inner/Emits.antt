-- What the writers of a core's records ask and ensure.
use Rattle.std.specs.Prelude.{◌≡◌, Bool, true, false, not, List, ◌++◌, ℕ, zero, suc, ◌*◌, ◌-◌, ◌≤◌, ◌<◌, length, drop, get_or}
use Rattle.logic.specs.Formula.{Literal, lit, Forest, none, tree, kind_number, node_count}
use Rattle.text_tree.specs.Tree.{Join, conj, disj, imp, rev, iff, Tree, Declared, letters_of}
use Rattle.text_tree.specs.inner.Stored.{join_operator, Stored, JoinAt}
use Rattle.text_core.specs.Names.{fourth, Lettered}
use Rattle.text_names.specs.inner.Faults.{ReadAs}
use Rattle.text_core.specs.Core.{Above, alone, inside, joint_node, Part, two, literal_at, join_with, place, core_of, plan_of}
use Rattle.table_format.specs.Bytes.{record_length, table_bytes, records, encoding}
use Rattle.text_emit.specs.declared.Bound.{Bound}
use Rattle.text_emit.specs.declared.Up.{Up}
use Rattle.text_emit.specs.inner.Fields.{bound_letters}
use Rattle.table_format.specs.inner.Written.{Records}

-- What stands above, by its kind.
unfoldable pub above_of : ℕ → Above
above_of zero = alone
above_of (suc zero) = alone
above_of (suc (suc zero)) = alone
above_of (suc (suc (suc zero))) = inside true
above_of (suc (suc (suc (suc zero)))) = inside false
above_of (suc (suc (suc (suc (suc k))))) = alone

-- The joint that a join makes at a polarity, and the polarities of its two parts: "F->G is ~F|G, F<-G is F|~G", and De Morgan.
unfoldable pub joint_at : Join → Bool → Bool
joint_at conj p = p
joint_at disj p = not p
joint_at imp p = not p
joint_at rev p = not p
joint_at iff p = p

unfoldable pub left_at : Join → Bool → Bool
left_at conj p = p
left_at disj p = p
left_at imp p = not p
left_at rev p = p
left_at iff p = p

unfoldable pub right_at : Join → Bool → Bool
right_at conj p = p
right_at disj p = p
right_at imp p = p
right_at rev p = not p
right_at iff p = p

unfoldable pub JointIs : ℕ → Bool → ℕ → Type 0
JointIs operator p r = (j : Join) → operator ≡ join_operator j → r ≡ kind_number (joint_node (joint_at j p))

unfoldable pub LeftIs : ℕ → Bool → Bool → Type 0
LeftIs operator p r = (j : Join) → operator ≡ join_operator j → r ≡ left_at j p

unfoldable pub RightIs : ℕ → Bool → Bool → Type 0
RightIs operator p r = (j : Join) → operator ≡ join_operator j → r ≡ right_at j p

-- What the joint of a join holds: its two parts, or for `<->` the joints of `->` and `<-`.
unfoldable pub row_of : Join → Bool → (Bool → Part) → (Bool → Part) → Forest → Forest
row_of conj p F G s = F p (inside p) (G p (inside p) s)
row_of disj p F G s = F p (inside (not p)) (G p (inside (not p)) s)
row_of imp p F G s = F (not p) (inside (not p)) (G p (inside (not p)) s)
row_of rev p F G s = F p (inside (not p)) (G (not p) (inside (not p)) s)
row_of iff p F G s = join_with two imp p F G (inside p) (join_with two rev p F G (inside p) s)

-- The table has room for records up to number i, and for 512 of them at most.
pub record EmitReady (sets : List ℕ) (i : ℕ) (out : List ℕ) : Type 0 where
  pub few-sets : length sets ≤ 16
  pub placed : record_length * i ≤ length out
  pub few : length out ≤ record_length * 512

-- The record of a literal's node.
pub record EmitsLiteral (operator payload : ℕ) (sets : List ℕ) (b : Bound) (p : Bool) (parent i : ℕ) (before after : List ℕ) (r : ℕ) : Type 0 where
  pub placed : record_length * r ≤ length before
  pub writes : (l : Literal) → ReadAs operator payload l.test
      → Records (tree (lit (literal_at sets (bound_letters b) p l)) none none) parent i before after r

-- The tree whose records end at place e, with d quantifiers around it and no fourth.
pub record Emittable (t : List ℕ) (e d : ℕ) (a : Tree) : Type 0 where
  pub stored : Stored t e a
  pub lettered : Lettered a
  pub shallow : fourth d a ≡ false

-- The next number is within the table, and whatever tree the table keeps, the records of its part of the core are written.
pub record Emits (t : List ℕ) (e : ℕ) (sets : List ℕ) (b : Bound) (p : Bool) (up : Up) (i : ℕ) (before after : List ℕ) (r : ℕ) : Type 0 where
  pub placed : record_length * r ≤ length before
  pub writes : (a : Tree) → Emittable t e b.count a → Records (place sets (bound_letters b) p a (above_of up.kind) none) up.number i before after r

abbrev pub core : List ℕ → Bound → Tree → Bool → Part
core sets b a p = place sets (bound_letters b) p a

pub record EmitsJoin (t : List ℕ) (m e operator : ℕ) (sets : List ℕ) (b : Bound) (p : Bool) (up : Up) (i : ℕ) (before after : List ℕ) (r : ℕ) : Type 0 where
  pub placed : record_length * r ≤ length before
  pub writes : (j : Join) → operator ≡ join_operator j → (x y : Tree) → Emittable t m b.count x → Emittable t e b.count y
      → Records (join_with two j p (core sets b x) (core sets b y) (above_of up.kind) none) up.number i before after r

-- The same inside the joint.
pub record EmitsRow (t : List ℕ) (m e operator : ℕ) (sets : List ℕ) (b : Bound) (p : Bool) (up : Up) (i : ℕ) (before after : List ℕ) (r : ℕ) : Type 0 where
  pub placed : record_length * r ≤ length before
  pub writes : (j : Join) → operator ≡ join_operator j → above_of up.kind ≡ inside (joint_at j p) → (x y : Tree) → Emittable t m b.count x → Emittable t e b.count y
      → Records (row_of j p (core sets b x) (core sets b y) none) up.number i before after r

-- The last record before place e is a join that goes on with the joint of a kind: it makes the same one at the polarity p, and is no
-- `<->`, which makes two.
pub record GoesOn (t : List ℕ) (e : ℕ) (p : Bool) (kind : ℕ) : Type 0 where
  pub join : JoinAt t e
  pub single : get_or t (e - 1) 0 < 9
  pub joint : JointIs (get_or t (e - 1) 0) p kind

-- Of the tree whose records end at e some parts are written, up to node n, and what remains is the tree whose records end at `last`:
-- whatever its records come to, those of the whole do.
pub record EmitsOnward (t : List ℕ) (e : ℕ) (sets : List ℕ) (b : Bound) (p : Bool) (up : Up) (i : ℕ) (before : List ℕ) (n last : ℕ) (q : Bool) (now : List ℕ) : Type 0 where
  pub placed : record_length * n ≤ length before
  pub same_length : length now ≡ length before
  pub last-low : last ≤ e
  pub onward : (after : List ℕ) (r : ℕ) → Emits t last sets b q up n now after r → Emits t e sets b p up i before after r

-- The records of a text's core fill a table of their length. "The root is node 0 with parent 65,535."
unfoldable pub PutsCore : List ℕ → ℕ → List ℕ → List ℕ → List ℕ → Type 0
PutsCore t e sets before after =
    (a : Tree) → Emittable t e 0 a → length before ≡ record_length * node_count (core_of sets a) → after ≡ records (core_of sets a) 0 65535

-- The table has room for the header and so many records.
pub record PlanReady (sets : List ℕ) (nodes : ℕ) (table : List ℕ) : Type 0 where
  pub few-sets : length sets ≤ 16
  pub some : 1 ≤ nodes
  pub few : nodes ≤ 512
  pub room : table_bytes (length sets) nodes ≤ length table

-- "Reading [..] writes the plan table": the bytes of the plan, and behind them what stood there.
unfoldable pub WritesPlan : ℕ → List ℕ → List ℕ → ℕ → ℕ → List ℕ → List ℕ → Type 0
WritesPlan u letters t e nodes before after =
    (sets : List Declared) (a : Tree) → letters_of sets ≡ letters → Emittable t e 0 a → nodes ≡ node_count (core_of letters a)
    → after ≡ encoding (plan_of u sets a) ++ drop (table_bytes (length sets) nodes) before
