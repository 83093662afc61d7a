-- An atom put behind the last of one of the two lists. Assumes nothing.
use mathlib.Core.Path.{◌≡◌, sym, ap, ◌∙◌}
use mathlib.Core.List.{List, [], ◌∷◌}
use Prim.Native.Nat.{ℕ, ◌+◌, ◌*◌, ◌<◌}
use native.Mathlib.Omega.{arith}
use lib.ListN.{length, get_or, set, drop}
use lib.Seq.{get_or-set_same, get_or-set_other, get_or-drop}
use Rattle.logic.specs.Formula.{Node, Forest, none, tree, Plan}
use Rattle.cells_atoms.specs.inner.Atoms.{AllRegular}
use Rattle.cells_flip.specs.inner.Flips.{Flat}
use Rattle.cells_zero.specs.inner.Zero.{TreeStands}
use Rattle.cells_share.specs.inner.Listed.{Listed, ListStands}
use Rattle.move_shares.specs.inner.Listing.{AllFlat}
use Rattle.move_tables.specs.declared.Left.{Left}
use Rattle.move_tables.specs.inner.Taking.{PlanGiven, ForestStands, ListsGiven}

-- an atom of a list, by its parts
unfoldable pub entry : ℕ → ℕ → Node → Forest → Forest → ℕ → Listed
entry i d n c s b = record { at = i; depth = d; node = n; children = c; siblings = s; first = b }

-- what is put below place 512 leaves what is from there on
behind-same : (list : List ℕ) (count v : ℕ) → count < 512 → (j : ℕ) → get_or (drop 512 (set list count v)) j 0 ≡ get_or (drop 512 list) j 0
behind-same list count v l j =
    get_or-drop 512 (set list count v) j 0 ∙ get_or-set_other list count (512 + j) v 0 (λ e. omega arith) ∙ sym (get_or-drop 512 list j 0)

module _ (u sets : ℕ) (bytes firsts ends uses cells : List ℕ) where
  -- a list that has the same numbers has the same atoms
  stand-same : (list list' : List ℕ) (xs : List Listed) → ((j : ℕ) → j < length xs → get_or list' j 0 ≡ get_or list j 0)
      → ListStands u sets bytes firsts ends uses cells list xs → ListStands u sets bytes firsts ends uses cells list' xs
  unfolding ListStands
  stand-same list list' [] same h = tt
  stand-same list list' (a ∷ xs) same h = (
    same (length xs) (omega arith) ∙ h.0,
    h.1,
    stand-same list list' xs (λ j l. same j (omega arith)) h.2,
  )

  one-listed : (list list' : List ℕ) (xs : List Listed) (i d : ℕ) (n : Node) (c s : Forest) (b : ℕ)
      → get_or list' (length xs) 0 ≡ 4 * i + d → ((j : ℕ) → j < length xs → get_or list' j 0 ≡ get_or list j 0)
      → TreeStands u sets bytes firsts ends uses cells i n c s b d
      → ListStands u sets bytes firsts ends uses cells list xs → ListStands u sets bytes firsts ends uses cells list' (entry i d n c s b ∷ xs)
  unfolding ListStands entry
  one-listed list list' xs i d n c s b k same t h = (k, t, stand-same list list' xs same h)

  module _ {lists : List ℕ} {left left' : Left} {xs ys : List Listed} (h : ListsGiven u sets bytes firsts ends uses cells lists left xs ys)
      (long : length lists ≡ 1024) (v i d : ℕ) (is : v ≡ 4 * i + d) (n : Node) (c s : Forest) (b : ℕ)
      (t : TreeStands u sets bytes firsts ends uses cells i n c s b d) (low : left.hards < 512) where
    -- an atom with quantifiers
    pub hard-put : left'.hards ≡ left.hards + 1 → left'.crossed ≡ left.crossed
        → ListsGiven u sets bytes firsts ends uses cells (set lists left.hards v) left' (entry i d n c s b ∷ xs) ys
    hard-put e f = record {
      stands = one-listed lists (set lists left.hards v) xs i d n c s b
          (ap (λ (x : ℕ). get_or (set lists left.hards v) x 0) (sym h.count-is) ∙ get_or-set_same lists left.hards v 0 (omega arith) ∙ is)
          (λ j l. get_or-set_other lists left.hards j v 0 (λ q. omega (arith, h.count-is))) t h.stands;
      count-is = omega (arith, h.count-is);
      crossed = record {
        stands = stand-same (drop 512 lists) (drop 512 (set lists left.hards v)) ys (λ j l. behind-same lists left.hards v low j) h.crossed.stands;
        flat = h.crossed.flat;
        count-is = f ∙ h.crossed.count-is;
      };
    }

    -- one that tests some set by more than one variable
    pub crossing-put : s ≡ none → Flat (tree n c none) d → AllRegular (tree n c none) d → left.crossed < 512
        → left'.hards ≡ left.hards → left'.crossed ≡ left.crossed + 1
        → ListsGiven u sets bytes firsts ends uses cells (set lists (512 + left.crossed) v) left' xs (entry i d n c s b ∷ ys)
    unfolding AllFlat entry
    crossing-put z flat regular l e f =
        let at = 512 + left.crossed in
        let after = set lists at v in
        let last : get_or (drop 512 after) (length ys) 0 ≡ 4 * i + d =
        get_or-drop 512 after (length ys) 0 ∙ ap (λ (x : ℕ). get_or after (512 + x) 0) (sym h.crossed.count-is) ∙ get_or-set_same lists at v 0 (omega arith) ∙ is in
        record {
          stands = stand-same lists after xs (λ j m. get_or-set_other lists at j v 0 (λ q. omega (arith, h.count-is))) h.stands;
          count-is = e ∙ h.count-is;
          crossed = record {
            stands = one-listed (drop 512 lists) (drop 512 after) ys i d n c s b last
                (λ j m. get_or-drop 512 after j 0 ∙ get_or-set_other lists at (512 + j) v 0 (λ q. omega (arith, h.crossed.count-is)) ∙ sym (get_or-drop 512 lists j 0))
                t h.crossed.stands;
            flat = (z, flat, regular, h.crossed.flat);
            count-is = omega (arith, h.crossed.count-is);
          };
        }

pub tree-stands : {u sets : ℕ} {bytes firsts ends uses cells : List ℕ} {i : ℕ} {n : Node} {c s : Forest} {b d : ℕ} {masks sizes : List ℕ}
    → ForestStands u sets bytes firsts ends uses cells i (tree n c s) b d → (P : Plan) → PlanGiven u sets masks sizes cells P
    → TreeStands u sets bytes firsts ends uses cells i n c s b d
tree-stands w P g = record {
  holds = w.holds;
  fitting = w.fitting;
  sets16 = omega (arith, g.sets-are, g.ready.settled.sets16);
  room = w.room;
  nodes = w.nodes;
}
