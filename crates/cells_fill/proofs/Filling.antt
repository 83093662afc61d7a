-- Filling siblings one after the other: what is left to fill says what the whole part comes to. Assumes nothing.
use mathlib.Core.Path.{◌≡◌, refl, sym, ap, ap₂, ◌∙◌, subst}
use mathlib.Core.Bool.{Bool, false}
use mathlib.Core.Logic.{◌≢◌, ⊎_elim, inl, inr}
use mathlib.Core.List.{List, [], ◌∷◌, ◌++◌, append_assoc}
use Prim.Native.Nat.{ℕ, ◌+◌, ◌-◌, ◌*◌, ◌^◌, ◌≤◌, ◌<◌, min}
use native.Mathlib.Decide.{dec_le}
use native.Mathlib.Nat.{add-zero, suc-add, mul-one, pow-suc, one-le-pow, lt_of_not-le}
use native.Mathlib.Omega.{arith}
use lib.Dec.{eqb}
use lib.ListN.{length, get_or, take, drop, length-append, length-drop, take-append-drop, get_or-append}
use lib.Seq.{take_all, take_at, drop_at, drop-drop, length-take-le, get_or-take, drop-append-add, get_or-append-add}
use borrow.Author.Tests.{ne_eqb}
use Rattle.logic.specs.Formula.{Node, root, all, any, and, or, lit, Forest, none, tree, kind_number, node_count, child_depth}
use Rattle.logic.specs.Configuration.{Configuration}
use Rattle.logic.specs.Penalty.{below, penalty}
use Rattle.logic.specs.Cells.{cell_count, tuple_at, tabulate, layout}
use Rattle.logic.proofs.Tables.{length-tabulate, get_d_tabulate, tabulate-cong, length-layout}
use Rattle.logic.proofs.Written.{take-tabulate}
use Rattle.table_format.specs.Bytes.{record_length, kind_field, end_field, records}
use Rattle.table_format.specs.Rules.{tree_count, every_node, node_rule}
use Rattle.table_format.proofs.Parts.{rest_all, some-record, one-fits}
use Rattle.table_format.proofs.Opened.{one-forest, not_none, PartOpened, part-opened, part-span}
use Rattle.table_format.proofs.Bytes.{record-pos}
use Rattle.table_format.proofs.Encoding.{length-records}
use Rattle.cells_join.specs.declared.Join.{Join}
use Rattle.cells_join.specs.inner.Joined.{join_into, merged, settled, join_of, spread_of, compared, begin_join, join_with, Low, HeldPlaced, HeldLow, ChildPlaced, Joins}
use Rattle.cells_join.proofs.Prefix.{into-none, into-append}
use Rattle.cells_join.proofs.Held.{settled-none, settled-behind, length-settled, settled-front, settled-alike, of-kind}
use Rattle.cells_join.proofs.Limits.{begin-alike, with-alike, low-with, number-low}
use Rattle.cells_fill.specs.inner.Fill.{treewise, config, table, TreesPlaced, FillPlaced, TreeFilled, FillsTree, Filled, Fills}
use Rattle.cells_fill.proofs.Values.{below-pos, literal-spread, cells-below, table-tree}
use Rattle.cells_fill.proofs.Trees.{few-parts, tree-low, bit-low}

length-table : (u : ℕ) (k : Configuration) (f : Forest) (d : ℕ) → length (table u k f d) ≡ cell_count u f d
unfolding table
length-table u k f d = length-layout u (λ n c b i e. penalty u k n c e) f 0 d

-- a list is what can be read of it
as-tabulated : (m : ℕ) (l : List ℕ) → length l ≡ m → l ≡ tabulate m (λ t. get_or l t 0)
as-tabulated m l h = sym (take_all m l (omega arith)) ∙ take-tabulate m l (omega arith)

-- no records: nothing is written
pub fill_none : (l : List ℕ) (i above ports sets depth over at : ℕ) (masks cells : List ℕ) → length l < record_length → Fills l i above ports sets depth over at masks cells cells at
unfolding Fills records cell_count treewise table layout node_count
fill_none l i above ports sets depth over at masks cells h n outer none up kn dn on is = record {
  ends_at = sym (add-zero at);
  cells_are = λ A G X R e lA lG lX.
      let x : X ≡ [] = no_length X lX in
      e ∙ ap₂ (λ (a b : List ℕ). a ++ (G ++ (b ++ R)))
      (as-tabulated over A lA ∙ tabulate-cong over _ _ (λ t q. into-none (join_of above) (eqb at over) (get_or A t 0))) x;
}
  where
    no_length : (X : List ℕ) → length X ≡ 0 → X ≡ []
    no_length [] q = refl
    no_length (x ∷ X) q = absurd (omega arith)
fill_none l i above ports sets depth over at masks cells h n outer (tree m c s) up kn dn on is =
    absurd (omega (arith, some-record record_length record-pos (length l) (node_count c + node_count s) (ap length is ∙ length-records (tree m c s) i up ∙ ap (λ (x : ℕ). record_length * x) (suc-add (node_count c) (node_count s)))))

-- a tree's own cells, below the node n of depth outer
abbrev row_of : ℕ → Configuration → Node → Node → Forest → ℕ → List ℕ
row_of ports k n m c outer = tabulate (ports ^ child_depth n outer) (λ i. penalty ports k m c (tuple_at ports (child_depth n outer) i))

-- The parent's cells after a tree's own cells are merged into them.
module _ (ports : ℕ) (k : Configuration) (n m : Node) (c : Forest) (outer over at above : ℕ) (first : Bool) (on : over ≡ ports ^ outer) (kn : kind_number n ≡ above)
    (A G T : List ℕ) (lA : length A ≡ over) (lG : length A + length G ≡ at) where
  abbrev row : List ℕ
  row = row_of ports k n m c outer

  abbrev joined : ℕ → ℕ
  joined t = join_into (join_of above) first (get_or A t 0) (below ports n (tuple_at ports outer t) (λ x. penalty ports k m c x ∷ []))

  abbrev whole : List ℕ
  whole = A ++ (G ++ (row ++ T))

  behind : (j : ℕ) → drop (at + j) whole ≡ drop j (row ++ T)
  behind j =
      ap₂ (λ (x : ℕ) (y : List ℕ). drop (x + j) y) (sym (length-append A G ∙ lG)) (sym (append_assoc A G (row ++ T))) ∙ drop-append-add (A ++ G) (row ++ T) j

  pub merged-is : merged (join_of above) first over (spread_of above ports) at whole ≡ tabulate over joined ++ (G ++ (row ++ T))
  unfolding merged
  merged-is =
      ap₂ ◌++◌
      (tabulate-cong over _ joined (λ t h.
      ap₂ (join_into (join_of above) first) (get_or-append A (G ++ (row ++ T)) 0 t (rw lA h))
      (ap (take (spread_of above ports)) (behind (t * spread_of above ports))
      ∙ ap (λ (a : ℕ). take (spread_of a ports) (drop (t * spread_of a ports) (row ++ T))) (sym kn)
      ∙ cells-below ports (penalty ports k m c) T n outer t (rw (← on) h))))
      (drop_at A (G ++ (row ++ T)) over lA)

-- What a filled tree leaves as it was, and its own row.
module _ (ports sets depth at nn : ℕ) (masks xs xs₂ : List ℕ) (m : Node) (c : Forest) (made : TreeFilled ports sets depth at m c masks xs xs₂ nn) (room : at + nn ≤ length xs) where
  tree-split : xs₂ ≡ take at xs
      ++ (tabulate (ports ^ depth) (λ t. penalty ports (config ports sets masks) m c (tuple_at ports depth t)) ++ (table ports (config ports sets masks) c (child_depth m depth) ++ drop nn (drop at xs)))
  tree-split =
      made.cells_are (take at xs) (take nn (drop at xs)) (drop nn (drop at xs))
      (sym (take-append-drop at xs) ∙ ap (λ (x : List ℕ). take at xs ++ x) (sym (take-append-drop nn (drop at xs))))
      (length-take-le at xs (omega arith)) (length-take-le nn (drop at xs) (omega (arith, length-drop at xs)))

  tree-kept : (i : ℕ) → i < at → get_or xs₂ i 0 ≡ get_or xs i 0
  tree-kept i h =
      ap (λ (l : List ℕ). get_or l i 0) tree-split ∙ get_or-append (take at xs) _ 0 i (rw (length-take-le at xs (omega arith)) h) ∙ get_or-take at xs i 0 h

  tree-row : (t : ℕ) → t < ports ^ depth → get_or xs₂ (at + t) 0 ≡ penalty ports (config ports sets masks) m c (tuple_at ports depth t)
  tree-row t h =
      let row = tabulate (ports ^ depth) (λ t. penalty ports (config ports sets masks) m c (tuple_at ports depth t)) in
      ap₂ (λ (l : List ℕ) (n : ℕ). get_or l (n + t) 0) tree-split (sym (length-take-le at xs (omega arith))) ∙ get_or-append-add (take at xs) _ t 0
      ∙ get_or-append row _ 0 t (rw length-tabulate h) ∙ get_d_tabulate (ports ^ depth) _ t h

-- One tree, joined or held, and its later siblings.
module _ (join : Join) (above ports sets depth over at outer held held₂ nn r : ℕ) (masks xs xs₂ xs₃ xs₄ : List ℕ) (n m : Node) (c s : Forest) (u1 : 1 ≤ ports)
    (kn : kind_number n ≡ above) (dn : depth ≡ child_depth n outer) (on : over ≡ ports ^ outer) (after : over ≤ at) (room : at ≤ length xs) (waits : HeldPlaced over held at)
    (made : TreeFilled ports sets depth at m c masks xs xs₂ nn) (met : Joins join above ports over held at xs₂ xs₃ held₂)
    (rest : Filled above ports sets depth over (at + nn) outer n s masks (settled (join_of above) over held₂ xs₃) xs₄ r) where
  abbrev K : Configuration
  K = config ports sets masks

  abbrev T : List ℕ
  T = table ports K c (child_depth m depth)

  abbrev own : List ℕ
  own = row_of ports K n m c outer

  joined_at : List ℕ → ℕ → ℕ
  joined_at A t = join_into (join_of above) (eqb at over) (get_or A t 0) (below ports n (tuple_at ports outer t) (λ x. penalty ports K m c x ∷ []))

  -- the table in its parts, after each step
  module _ (A G X Y R : List ℕ) (ex : settled (join_of above) over held xs ≡ A ++ (G ++ (X ++ (Y ++ R)))) (lA : length A ≡ over) (lG : length A + length G ≡ at)
      (lX : length X ≡ nn) (lY : length Y ≡ cell_count ports s depth) where
    abbrev C : List ℕ
    C = take at xs

    l_c : length C ≡ at
    l_c = length-take-le at xs room

    both : settled (join_of above) over held xs ≡ (A ++ G) ++ (X ++ (Y ++ R))
    both = ex ∙ sym (append_assoc A G (X ++ (Y ++ R)))

    front : xs ≡ C ++ (X ++ (Y ++ R))
    front =
        sym (take-append-drop at xs)
        ∙ ap (λ (x : List ℕ). C ++ x)
        (sym (settled-behind (join_of above) over held at xs after) ∙ ap (drop at) both ∙ drop_at (A ++ G) (X ++ (Y ++ R)) at (length-append A G ∙ lG))

    held-front : (D : List ℕ) → settled (join_of above) over held (C ++ D) ≡ settled (join_of above) over held C ++ D
    held-front D = settled-front (join_of above) over held C D (subst (HeldPlaced over held) (sym l_c) waits)

    head : settled (join_of above) over held C ≡ A ++ G
    head =
        sym (take_at (settled (join_of above) over held C) (X ++ (Y ++ R)) at (length-settled (join_of above) over held C (omega (arith, l_c)) ∙ l_c))
        ∙ ap (take at) (sym (held-front (X ++ (Y ++ R))) ∙ ap (settled (join_of above) over held) (sym front) ∙ both)
        ∙ take_at (A ++ G) (X ++ (Y ++ R)) at (length-append A G ∙ lG)

    filled : settled (join_of above) over held xs₂ ≡ A ++ (G ++ (own ++ (T ++ (Y ++ R))))
    filled =
        ap (settled (join_of above) over held) (made.cells_are C X (Y ++ R) front l_c lX)
        ∙ ap (λ (a : ℕ). settled (join_of above) over held (C ++ (tabulate (ports ^ a) (λ t. penalty ports K m c (tuple_at ports a t)) ++ (T ++ (Y ++ R))))) dn
        ∙ held-front (own ++ (T ++ (Y ++ R))) ∙ ap (λ (x : List ℕ). x ++ (own ++ (T ++ (Y ++ R)))) head ∙ append_assoc A G (own ++ (T ++ (Y ++ R)))

    abbrev G₃ : List ℕ
    G₃ = G ++ (own ++ T)

    regroup : (Z : List ℕ) → G ++ (own ++ (T ++ Z)) ≡ G₃ ++ Z
    regroup Z = ap (λ (x : List ℕ). G ++ x) (sym (append_assoc own T Z)) ∙ sym (append_assoc G (own ++ T) Z)

    joined_is : settled (join_of above) over held₂ xs₃ ≡ tabulate over (joined_at A) ++ (G₃ ++ (Y ++ R))
    unfolding joined_at
    joined_is =
        met.joined ∙ ap (merged (join_of above) (eqb at over) over (spread_of above ports) at) filled
        ∙ merged-is ports K n m c outer over at above (eqb at over) on kn A G (T ++ (Y ++ R)) lA lG
        ∙ ap (λ (x : List ℕ). tabulate over (joined_at A) ++ x) (regroup (Y ++ R))

    long : length (tabulate over (joined_at A)) + length G₃ ≡ at + nn
    long =
        let a = length-tabulate over (joined_at A) in
        let b = length-append G (own ++ T) in
        let d = length-append own T in
        let f : length own ≡ ports ^ depth = length-tabulate (ports ^ child_depth n outer) _ ∙ ap (λ (x : ℕ). ports ^ x) (sym dn) in
        let g = length-table ports K c (child_depth m depth) in
        let h = made.count in
        omega arith

    -- a later sibling does not begin right behind the parent's cells
    later : eqb (at + nn) over ≡ false
    later = ne_eqb (at + nn) over (λ q. absurd (omega (arith, made.count, one-le-pow depth ports u1)))

    last : xs₄ ≡ tabulate over (λ t. join_into (join_of above) (eqb (at + nn) over) (get_or (tabulate over (joined_at A)) t 0) (treewise ports K n s (tuple_at ports outer t)))
        ++ (G₃ ++ (table ports K s depth ++ R))
    last = rest.cells_are (tabulate over (joined_at A)) G₃ Y R joined_is (length-tabulate over (joined_at A)) long lY

    all-joined : tabulate over (λ t. join_into (join_of above) (eqb (at + nn) over) (get_or (tabulate over (joined_at A)) t 0) (treewise ports K n s (tuple_at ports outer t)))
        ≡ tabulate over (λ t. join_into (join_of above) (eqb at over) (get_or A t 0) (treewise ports K n (tree m c s) (tuple_at ports outer t)))
    unfolding treewise joined_at
    all-joined = tabulate-cong over _ _ (λ t h.
        ap₂ (λ (b : Bool) (x : ℕ). join_into (join_of above) b x (treewise ports K n s (tuple_at ports outer t))) later (get_d_tabulate over (joined_at A) t h)
        ∙ sym (into-append (join_of above) (eqb at over) (get_or A t 0) (below ports n (tuple_at ports outer t) (λ x. penalty ports K m c x ∷ [])) (treewise ports K n s (tuple_at ports outer t))
        (below-pos ports n (tuple_at ports outer t) (λ x. penalty ports K m c x ∷ []) u1 (λ x. omega arith))))

    whole-table : table ports K (tree m c s) depth ≡ own ++ (T ++ table ports K s depth)
    whole-table =
        table-tree ports K m c s depth
        ∙ ap (λ (a : ℕ). tabulate (ports ^ a) (λ t. penalty ports K m c (tuple_at ports a t)) ++ (T ++ table ports K s depth)) dn

    tree-cells : xs₄ ≡ tabulate over (λ t. join_into (join_of above) (eqb at over) (get_or A t 0) (treewise ports K n (tree m c s) (tuple_at ports outer t)))
        ++ (G ++ (table ports K (tree m c s) depth ++ R))
    tree-cells = last ∙ ap₂ ◌++◌ all-joined
        (sym (regroup (table ports K s depth ++ R))
        ∙ ap (λ (x : List ℕ). G ++ x)
        (ap (λ (x : List ℕ). own ++ x) (sym (append_assoc T (table ports K s depth) R))
        ∙ sym (append_assoc own (T ++ table ports K s depth) R) ∙ ap (λ (x : List ℕ). x ++ R) (sym whole-table)))

  tree-filled : Filled above ports sets depth over at outer n (tree m c s) masks (settled (join_of above) over held xs) xs₄ r
  unfolding cell_count
  tree-filled = record {
    ends_at = omega (arith, rest.ends_at, made.count);
    cells_are = λ A G X R ex lA lG lX.
        let d = length-drop nn X in
        tree-cells A G (take nn X) (drop nn X) R
        (ex ∙ ap (λ (x : List ℕ). A ++ (G ++ x)) (ap (λ (x : List ℕ). x ++ R) (sym (take-append-drop nn X)) ∙ append_assoc (take nn X) (drop nn X) R))
        lA lG (length-take-le nn X (omega (arith, made.count))) (omega (arith, made.count));
  }

spread-width : (n : Node) (ports outer : ℕ) → ports ^ outer * spread_of (kind_number n) ports ≡ ports ^ child_depth n outer
unfolding spread_of kind_number child_depth
spread-width root ports outer = omega arith
spread-width all ports outer = sym (pow-suc ports outer)
spread-width any ports outer = sym (pow-suc ports outer)
spread-width and ports outer = omega arith
spread-width or ports outer = omega arith
spread-width (lit l) ports outer = rw (literal-spread l.test ports) (omega arith)

-- A part of which the trees before byte `place` are filled, and joined but for the row held: where the trees from there on stand,
-- and that what filling them comes to, the whole part comes to.
pub record Passed (l : List ℕ) (i above ports sets depth width over : ℕ) (masks xs : List ℕ) (place node at held : ℕ) (join : Join) (cells : List ℕ) : Type 0 where
  pub within : place ≤ length l
  pub same_length : length cells ≡ length xs
  pub placed : FillPlaced (drop place l) node above ports sets depth width over at masks cells
  pub waits : HeldPlaced over held at
  pub held_one : 1 ≤ held → spread_of above ports ≡ 1
  pub alike : compared join ≡ join_of above
  pub held_low : 1 ≤ held → Low join cells held over
  pub own-low : spread_of above ports ≡ 1 → over < at → held ≢ over → Low join cells 0 over
  pub comes-to : (ys : List ℕ) (r : ℕ) → Fills (drop place l) node above ports sets depth over at masks (settled (join_of above) over held cells) ys r
      → Fills l i above ports sets depth over over masks xs ys r

pub passed_none : (l : List ℕ) (i above ports sets depth width over : ℕ) (masks xs : List ℕ) → FillPlaced l i above ports sets depth width over over masks xs
    → (join : Join) → join ≡ begin_join above → Passed l i above ports sets depth width over masks xs 0 i over 0 join xs
unfolding HeldPlaced
passed_none l i above ports sets depth width over masks xs p join e = record {
  within = omega arith;
  same_length = refl;
  placed = p;
  waits = λ h. absurd (omega arith);
  held_one = λ h. absurd (omega arith);
  alike = rw e (begin-alike above);
  held_low = λ h. absurd (omega arith);
  own-low = λ _ h. absurd (omega arith);
  comes-to = λ ys r f. subst (λ (x : List ℕ). Fills l i above ports sets depth over over masks x ys r) (settled-none (join_of above) over 0 xs refl) f;
}

module _ (l : List ℕ) (i above ports sets depth width over : ℕ) (masks xs : List ℕ) (place node at held : ℕ) (join : Join) (cells : List ℕ)
    (p : Passed l i above ports sets depth width over masks xs place node at held join cells) where
  -- where all are passed
  pub passed-all : (ys : List ℕ) → length l ≤ place → ys ≡ settled join over held cells → Fills l i above ports sets depth over over masks xs ys at
  passed-all ys h e =
      p.comes-to ys at (subst (λ (x : List ℕ). Fills (drop place l) node above ports sets depth over at masks (settled (join_of above) over held cells) x at) (sym (e ∙ settled-alike join (join_of above) (of-kind join above p.alike) over held cells))
      (fill_none (drop place l) node above ports sets depth over at masks (settled (join_of above) over held cells) (omega (arith, length-drop place l, record-pos))))

  -- the row held stands before the end of the cells
  pub held-placed : (n : ℕ) → at ≤ n → HeldPlaced over held n
  unfolding HeldPlaced
  held-placed n h q = let w = p.waits q in (w.0, omega (arith, w.1))

  pub held-lows : HeldLow join over held cells
  unfolding HeldPlaced
  held-lows = record {
    row = p.held_low;
    own = λ h.
        let some : 1 ≤ held = omega arith in
        p.own-low (p.held_one some) (omega (arith, (p.waits some).1)) (λ q. absurd (omega arith));
  }

  -- the part from there on, as the code lends it
  pub placed_on : TreesPlaced (take (length l - place) (drop place l)) node ports sets depth width at masks cells
  placed_on = subst (λ (x : List ℕ). TreesPlaced x node ports sets depth width at masks cells) (sym (rest_all place l)) p.placed.trees

  module _ (more : place < length l) where
    abbrev L : List ℕ
    L = drop place l

    some-tree : record_length ≤ length L
    unfolding records node_count
    some-tree = go p.placed.trees.forest p.placed.trees.is
      where
        go : (f : Forest) → L ≡ records f node p.placed.trees.up → record_length ≤ length L
        go none q = absurd (omega (arith, ap length q, length-drop place l))
        go (tree m c s) q =
            some-record record_length record-pos (length L) (node_count c + node_count s)
            (ap length q ∙ length-records (tree m c s) node p.placed.trees.up ∙ ap (λ (x : ℕ). record_length * x) (suc-add (node_count c) (node_count s)))

    pub tree-long : record_length ≤ length (take (length l - place) L)
    tree-long = rw (rest_all place l) some-tree

    module _ (e : ℕ) (en : e ≡ end_field (take (length l - place) L)) where
      abbrev far : ℕ
      far = record_length * (e - node)

      end_is : e ≡ end_field L
      end_is = en ∙ ap end_field (rest_all place l)

      opened : (m : Node) (c s : Forest) (up : ℕ) → L ≡ records (tree m c s) node up
          → PartOpened L node up depth sets m c s e × (p.placed.trees.forest ≡ tree m c s)
      opened m c s up is =
          let g = one-forest L p.placed.trees.forest (tree m c s) node p.placed.trees.up up p.placed.trees.is is in
          (part-opened L node up depth sets e m c s is (ap (λ (x : Forest). every_node (node_rule sets) x depth) (sym g) ∙ p.placed.trees.rules) end_is, g)

      first-tree : (m : Node) × (c : Forest) × (s : Forest) × (L ≡ records (tree m c s) node p.placed.trees.up)
      first-tree = go p.placed.trees.forest p.placed.trees.is
        where
          go : (f : Forest) → L ≡ records f node p.placed.trees.up → (m : Node) × (c : Forest) × (s : Forest) × (L ≡ records (tree m c s) node p.placed.trees.up)
          go none q = absurd (not_none L node p.placed.trees.up q some-tree)
          go (tree m c s) q = (m, c, s, q)

      pub tree-ahead : (node < e) × (e ≤ 512) × (1 ≤ far) × (place + far ≤ length l)
      tree-ahead =
          let f = first-tree in
          let o = (opened f.0 f.1 f.2 p.placed.trees.up f.3).0 in
          let sp = part-span L node p.placed.trees.up depth sets f.0 f.1 f.2 e o p.placed.trees.nodes in (
            sp.after,
            sp.few,
            omega (arith, one-fits record_length record-pos (e - node) (omega (arith, sp.after)), record-pos),
            omega (arith, sp.within, length-drop place l, p.within),
          )

      module _ (kind : ℕ) (join₂ : Join) (ki : kind ≡ kind_field (take (length l - place) L)) (jn : join₂ ≡ join_with join kind) (nn : ℕ) (xs₂ : List ℕ) (made : FillsTree (take (length l - place) L) node ports sets depth at masks cells xs₂ nn) (l₂ : length xs₂ ≡ length cells) where
        abbrev m : Node
        m = first-tree.0

        abbrev c : Forest
        c = first-tree.1

        abbrev s : Forest
        s = first-tree.2

        abbrev up : ℕ
        up = p.placed.trees.up

        o : PartOpened L node up depth sets m c s e
        o = (opened m c s up first-tree.3).0

        g : p.placed.trees.forest ≡ tree m c s
        g = (opened m c s up first-tree.3).1

        room : at + cell_count ports (tree m c s) depth ≤ length cells
        room = rw g at p.placed.trees.room

        few : cell_count ports (tree m c s) 0 ≤ 1048576
        few = rw g at p.placed.trees.few

        t : TreeFilled ports sets depth at m c masks cells xs₂ nn
        unfolding FillsTree
        t = made m c s up (rest_all place l ∙ first-tree.3)

        fits : at + nn ≤ length cells
        unfolding cell_count
        fits = omega (arith, room, t.count)

        width_of : over * spread_of above ports ≡ ports ^ depth
        width_of =
            ap₂ (λ (x y : ℕ). x * spread_of y ports) p.placed.over-is (sym p.placed.kind-is) ∙ spread-width p.placed.parent ports p.placed.outer
            ∙ ap (λ (x : ℕ). ports ^ x) (sym p.placed.depth_is)

        one_each : over < at → spread_of above ports ≡ 1
        unfolding tree_count
        one_each h = ⊎_elim (λ (x : spread_of above ports ≡ 1). x) (λ (x : tree_count (tree m c s) + min 1 (at - over) ≤ 1). absurd (omega arith)) (rw g at p.placed.alone)

        kind-is : kind ≡ kind_number m
        kind-is = ki ∙ ap kind_field (rest_all place l) ∙ o.kind

        row_low : Low join₂ xs₂ at (over * spread_of above ports)
        unfolding Low
        row_low i h k =
            rw (tree-row ports sets depth at nn masks cells xs₂ m c t fits i (omega (arith, width_of)), jn)
            (number-low join kind _
            (tree-low ports sets masks m c s depth (tuple_at ports depth i) p.placed.trees.ports64 (ap (λ (x : Forest). every_node (node_rule sets) x depth) (sym g) ∙ p.placed.trees.rules) few)
            (λ a b. bit-low ports (config ports sets masks) m c (tuple_at ports depth i) (omega (arith, kind-is)) (omega (arith, kind-is))))

        kept_low : (from : ℕ) → from + over ≤ at → Low join cells from over → Low join xs₂ from over
        unfolding Low
        kept_low from h low i q k = rw (tree-kept ports sets depth at nn masks cells xs₂ m c t fits (from + i) (omega arith)) (low i q k)

        -- low cells before the tree stay so
        still-low : (from : ℕ) → from + over ≤ at → Low join cells from over → Low join₂ xs₂ from over
        still-low from h low = rw jn (low-with join kind from over xs₂ (kept_low from h low))

        over-one : 1 ≤ over
        over-one = rw p.placed.over-is (one-le-pow p.placed.outer ports p.placed.trees.ports1)

        next-join : compared join₂ ≡ join_of above
        next-join = ap compared jn ∙ with-alike join kind ∙ p.alike

        -- where its cells are joined
        pub join-placed : ChildPlaced join₂ above ports over held at xs₂
        unfolding HeldPlaced
        join-placed = record {
          alike = next-join;
          ports1 = p.placed.trees.ports1;
          over1 = over-one;
          after = p.placed.after;
          room = omega (arith, fits, width_of, l₂, t.count);
          later = one_each;
          waits = p.waits;
          low = row_low;
          held_low = record {
            row = λ h. still-low held (p.waits h).1 (p.held_low h);
            own = λ h. still-low 0 (omega (arith, p.placed.after)) (held-lows.own h);
          };
        }

        -- The tree is passed as well.
        pub passed-tree : (held₂ : ℕ) (xs₃ : List ℕ) → Joins join₂ above ports over held at xs₂ xs₃ held₂ → length xs₃ ≡ length cells
            → (at + nn ≤ length xs) × Passed l i above ports sets depth width over masks xs (place + far) e (at + nn) held₂ join₂ xs₃
        unfolding Fills HeldPlaced cell_count tree_count
        passed-tree held₂ xs₃ met lx =
            let q = p.placed in
            let sp = part-span L node up depth sets m c s e o q.trees.nodes in
            let on-part : drop far L ≡ drop (place + far) l = drop-drop far place l in (
              omega (arith, fits, p.same_length),
              record {
                within = tree-ahead.3;
                same_length = lx ∙ p.same_length;
                placed = record {
                  trees = record {
                    forest = s;
                    up = up;
                    width_is = q.trees.width_is;
                    is = sym on-part ∙ o.rest;
                    rules = o.rules-rest;
                    few = (few-parts ports m c s q.trees.ports1 few).2;
                    nodes = rw (sym on-part ∙ sym (rest_all far L)) sp.rest-nodes;
                    ports1 = q.trees.ports1;
                    ports64 = q.trees.ports64;
                    depth4 = q.trees.depth4;
                    sets-masks = q.trees.sets-masks;
                    within = q.trees.within;
                    room = omega (arith, t.count, room);
                  };
                  parent = q.parent;
                  outer = q.outer;
                  kind-is = q.kind-is;
                  depth_is = q.depth_is;
                  over-is = q.over-is;
                  after = omega (arith, q.after);
                  alone = ⊎_elim (λ (h : spread_of above ports ≡ 1). inl h) (λ (h : tree_count (tree m c s) + min 1 (at - over) ≤ 1). inr (omega arith)) (rw g at q.alone);
                };
                waits = λ h.
                    let k = met.held-is h in
                    let w : over * spread_of above ports ≡ over = ap (λ (x : ℕ). over * x) k.1 ∙ mul-one over in
                    (omega (arith, k.0, q.after), omega (arith, k.0, w, width_of, t.count));
                held_one = λ h. (met.held-is h).1;
                alike = next-join;
                held_low = λ h.
                    let k = met.held-is h in
                    let w : over * spread_of above ports ≡ over = ap (λ (x : ℕ). over * x) k.1 ∙ mul-one over in
                    rw (k.0, k.3) (rw w at row_low);
                own-low = λ one _ ne. own-still one ne (dec_le 1 held₂) met;
                comes-to = λ ys r rest. p.comes-to ys r (λ n outer f' up' kn dn on is.
                    let g' = one-forest L (tree m c s) f' node up up' first-tree.3 is in
                    subst (λ (x : Forest). Filled above ports sets depth over at outer n x masks (settled (join_of above) over held cells) ys r) g'
                    (tree-filled join₂ above ports sets depth over at outer held held₂ nn r masks cells xs₂ xs₃ ys n m c s q.trees.ports1 kn dn on q.after (omega (arith, room)) p.waits t met
                    (rest n outer s up kn dn on (sym on-part ∙ o.rest))));
              },
            )
          where
            own-still : {h₂ : ℕ} {ws : List ℕ} → spread_of above ports ≡ 1 → h₂ ≢ over → Dec (1 ≤ h₂) → Joins join₂ above ports over held at xs₂ ws h₂ → Low join₂ ws 0 over
            own-still one ne (yes h) j =
                let k = j.held-is h in
                let past : over < at = (let z : at ≢ over = (λ y. ne (k.0 ∙ y)) in omega (arith, z, p.placed.after)) in
                let fresh : held ≢ over = λ y. absurd (omega (arith, y, k.2, over-one)) in
                rw k.3 (still-low 0 (omega arith) (p.own-low one past fresh))
            own-still one ne (no f) j = j.own-low one (let z = lt_of_not-le f in omega arith)
