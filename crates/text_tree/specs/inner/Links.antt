-- How parts that one sign joins are kept until the last of them is read: behind the records of each part but the last stands a
-- link, two numbers of which the first is where the link before it ends, or where the first part begins. The joins follow the
-- last part, and the links stay between the parts, where no tree reads them.
use Rattle.std.specs.Prelude.{◌≡◌, List, [], ◌∷◌, ℕ, ◌+◌, ◌*◌, ◌-◌, ◌≤◌, length, set}
use Rattle.text_tree.specs.Tree.{Join, Tree, join}
use Rattle.text_tree.specs.inner.Stored.{Record, Stored}

-- A part with a link behind it: its tree, and where its records end.
pub record Left : Type 0 where
  pub tree : Tree
  pub ends : ℕ

-- The links of the table t from the one that ends at place e back to place n, and the parts before them, the last part first.
pub data Linked (t : List ℕ) (n : ℕ) : ℕ → List Left → Type 0 where
  no-link : Linked t n n []
  link : {e back operator : ℕ} {p : Left} {ps : List Left} → Record t e back operator → p.ends ≡ e - 2 → back ≤ e - 2 → Linked t n back ps → Linked t n e (p ∷ ps)

-- The parts have their records.
pub data AllStored (t : List ℕ) : List Left → Type 0 where
  none-stored : AllStored t []
  one-stored : {p : Left} {ps : List Left} → Stored t p.ends p.tree → AllStored t ps → AllStored t (p ∷ ps)

-- The tree of the parts, the last first, with the tree b behind them.
unfoldable pub joined_to : Join → List Left → Tree → Tree
joined_to j [] b = b
joined_to j (p ∷ ps) b = joined_to j ps (join j p.tree b)

-- The table t with a join for each part, written from place e on.
unfoldable pub with_joins : ℕ → List Left → List ℕ → ℕ → List ℕ
with_joins operator [] t e = t
with_joins operator (p ∷ ps) t e = with_joins operator ps (set (set t e p.ends) (e + 1) operator) (e + 2)

-- What the writer of the joins asks: links from place `last` back to place n, and room for their joins behind place e.
pub record JoinsRoom (t : List ℕ) (n last e : ℕ) : Type 0 where
  pub parts : List Left
  pub linked : Linked t n last parts
  pub behind : last ≤ e
  pub room : e + 2 * length parts ≤ 8192
  pub wide : 8192 ≤ length t

-- What it ensures, whatever trees the parts are.
pub record JoinsWritten (parts : List Left) (before after : List ℕ) (e operator r : ℕ) : Type 0 where
  pub is : after ≡ with_joins operator parts before e
  pub ends : r ≡ e + 2 * length parts

abbrev pub WritesJoins : List ℕ → List ℕ → ℕ → ℕ → ℕ → ℕ → ℕ → Type 0
WritesJoins before after n last e operator r = (parts : List Left) → Linked before n last parts → JoinsWritten parts before after e operator r
