-- An atom without quantifiers, as the tables of single sets and of transfers ask it. Assumes nothing.
use Rattle.std.proofs.Common.{◌≡◌, ℕ, ◌*◌, ◌<◌, ◌≤◌, List, get_or, sym, ◌∙◌, subst, arith}
use lib.Bits.{or_zero_r}
use Rattle.logic.specs.Formula.{Node, Forest, none, tree, node_count, Plan}
use Rattle.logic.specs.inner.Literals.{Every}
use Rattle.table_format.specs.inner.Index.{forest_uses}
use Rattle.cells_walk.specs.inner.Nodes.{IndexHolds, Fitting}
use Rattle.cells_walk.specs.inner.Visit.{MasksSettled}
use Rattle.move_shares.specs.inner.Shares.{TreeReady}
use Rattle.move_slots.specs.inner.Slots.{AtomGiven, AtomReady}

-- few ports, few slots, and a node that the tables have
module _ (u sets : ℕ) (bytes firsts ends uses masks sizes cells : List ℕ) (i d : ℕ) (atom : AtomReady u sets bytes firsts ends uses masks sizes cells i d) where
  pub ports-few : u ≤ 64
  ports-few = omega (arith, atom.given.ports-are, atom.given.ready.settled.ports64)

  pub slots-few : 4 * sets ≤ 64
  slots-few = omega (arith, atom.given.sets-are, atom.given.ready.settled.sets16)

  pub node-low : i < 512
  unfolding node_count
  node-low = omega (arith, atom.given.stands.nodes)

-- without siblings the tree fits as with them
fits-alone : (sets : ℕ) (n : Node) (c s : Forest) (d : ℕ) → Fitting sets (tree n c s) d → Fitting sets (tree n c none) d
unfolding Fitting Every
fits-alone sets n c s d h = (h.0, h.1, tt)

-- so it uses the same
pub uses-alone : (u : ℕ) (bytes firsts ends uses : List ℕ) (i : ℕ) (n : Node) (c s : Forest) (b d : ℕ)
    → IndexHolds u bytes firsts ends uses i (tree n c s) b d → get_or uses i 0 ≡ forest_uses (tree n c none)
unfolding IndexHolds forest_uses
uses-alone u bytes firsts ends uses i n c s b d h = h.0.uses-are ∙ sym (or_zero_r _)

-- the masks by its ports and sets, its word of uses, and what its plan's rules say of it
module _ (u sets : ℕ) (bytes firsts ends uses masks sizes cells : List ℕ) (i d : ℕ) (P : Plan) (n : Node) (c s : Forest) (b : ℕ)
    (g : AtomGiven u sets bytes firsts ends uses masks sizes cells i d P n c s b) where
  pub masks-settled-so : MasksSettled u sets masks
  masks-settled-so =
      subst (λ (a : ℕ). MasksSettled a sets masks) (sym g.ports-are)
      (subst (λ (k : ℕ). MasksSettled P.ports k masks) (sym g.sets-are) g.ready.settled)

  pub uses-are : get_or uses i 0 ≡ forest_uses (tree n c none)
  uses-are = uses-alone u bytes firsts ends uses i n c s b d g.stands.holds

  pub tree-ready : TreeReady P n c d
  tree-ready = record {
    regular = g.regular;
    fitting = subst (λ (k : ℕ). Fitting k (tree n c none) d) g.sets-are (fits-alone sets n c s d g.stands.fitting);
  }
