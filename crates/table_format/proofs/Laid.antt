-- The index tables laid out node by node. Assumes nothing.
use mathlib.Core.Path.{◌≡◌, refl, sym, ap, ap₂, ◌∙◌}
use mathlib.Core.List.{List, [], ◌∷◌, ◌++◌, append_assoc}
use Prim.Native.Nat.{ℕ, zero, suc, ◌+◌, ◌-◌, ◌*◌, ◌^◌, ◌≤◌, ◌<◌}
use native.Mathlib.Nat.{le_trans, pow-le-pow_left, pow-le-pow_right, add-zero, zero-add, suc-add}
use native.Mathlib.Numerals.{add-one}
use native.Mathlib.Omega.{arith}
use lib.ListN.{length, take, drop, set, length-append, take-append-drop}
use lib.Seq.{take-append_seam, drop-append-add, drop-drop}
use Rattle.logic.specs.Formula.{Forest, none, tree, node_count}
use Rattle.logic.specs.Cells.{first_cells}
use Rattle.table_format.specs.Bytes.{record_length, records}
use Rattle.table_format.specs.Decode.{forest_of}
use Rattle.table_format.specs.inner.Index.{ends, uses_table, laid}
use Rattle.table_format.proofs.Parts.{children_of, siblings_of}
use Rattle.table_format.proofs.Encoding.{forest-of-records}

-- the records of node i's children and of its later siblings, where its tree ends at e; the siblings' also as the fill's code
-- lends them
abbrev pub kids_of : List ℕ → ℕ → ℕ → List ℕ
kids_of l i e = children_of record_length (e - i) l

abbrev pub later_of : List ℕ → ℕ → ℕ → List ℕ
later_of l i e = siblings_of record_length (e - i) l

abbrev pub rest_of : List ℕ → ℕ → ℕ → List ℕ
rest_of l i e = take (length l - record_length * (e - i)) (siblings_of record_length (e - i) l)

-- records are of one forest only
pub same-forest : (f g : Forest) (i p : ℕ) → records f i p ≡ records g i p → f ≡ g
same-forest f g i p h =
    sym (forest-of-records (node_count f + node_count g) f i p (omega arith))
    ∙ ap (λ (l : List ℕ). forest_of (node_count f + node_count g) l i) h
    ∙ forest-of-records (node_count f + node_count g) g i p (omega arith)

-- Lists with numbers laid from a place on.
pub laid-nothing : (xs : List ℕ) (i : ℕ) → laid xs i [] ≡ xs
unfolding laid
laid-nothing xs i = ap (λ (j : ℕ). take i xs ++ drop j xs) (add-zero i) ∙ take-append-drop i xs

laid_cons : (x : ℕ) (xs : List ℕ) (i : ℕ) (vs : List ℕ) → laid (x ∷ xs) (suc i) vs ≡ x ∷ laid xs i vs
unfolding laid
laid_cons x xs i vs = ap (λ (j : ℕ). x ∷ (take i xs ++ (vs ++ drop j (x ∷ xs)))) (suc-add i (length vs))

laid-front : (xs vs : List ℕ) → laid xs 0 vs ≡ vs ++ drop (length vs) xs
unfolding laid
laid-front xs vs = ap (λ (j : ℕ). vs ++ drop j xs) (zero-add (length vs))

laid-behind : (cs ss xs : List ℕ) → laid (cs ++ xs) (length cs) ss ≡ cs ++ laid xs 0 ss
unfolding laid
laid-behind cs ss xs =
    ap₂ (λ (a b : List ℕ). a ++ (ss ++ b)) (take-append_seam cs xs) (drop-append-add cs xs (length ss))
    ∙ ap (λ (j : ℕ). cs ++ (ss ++ drop j xs)) (sym (zero-add (length ss)))

-- a node's own entry between those of its children and of its siblings
pub laid-tree : (xs : List ℕ) (i v : ℕ) (cs ss : List ℕ) → i < length xs
    → laid (set (laid xs (suc i) cs) i v) (suc i + length cs) ss ≡ laid xs i (v ∷ (cs ++ ss))
laid-tree [] i v cs ss h = absurd (omega arith)
laid-tree (x ∷ xs) zero v cs ss h =
    let one : 1 + length cs ≡ suc (length cs) = omega arith in
    let D = drop (length cs) xs in
    ap (λ (L : List ℕ). laid (set L 0 v) (1 + length cs) ss) (laid_cons x xs 0 cs)
    ∙ ap (λ (j : ℕ). laid (v ∷ laid xs 0 cs) j ss) one
    ∙ laid_cons v (laid xs 0 cs) (length cs) ss
    ∙ ap (λ (L : List ℕ). v ∷ L)
    (ap (λ (L : List ℕ). laid L (length cs) ss) (laid-front xs cs)
    ∙ laid-behind cs ss D
    ∙ ap (λ (L : List ℕ). cs ++ L) (laid-front D ss ∙ ap (λ (L : List ℕ). ss ++ L) (drop-drop (length ss) (length cs) xs))
    ∙ sym (append_assoc cs ss (drop (length cs + length ss) xs))
    ∙ ap (λ (j : ℕ). cs ++ ss ++ drop j xs) (sym (length-append cs ss)))
    ∙ sym (laid-front (x ∷ xs) (v ∷ (cs ++ ss)))
laid-tree (x ∷ xs) (suc i) v cs ss h =
    ap (λ (L : List ℕ). laid (set L (suc i) v) (suc (suc i) + length cs) ss) (laid_cons x xs (suc i) cs)
    ∙ ap (λ (j : ℕ). laid (x ∷ set (laid xs (suc i) cs) i v) j ss) (suc-add (suc i) (length cs))
    ∙ laid_cons x (set (laid xs (suc i) cs) i v) (suc i + length cs) ss
    ∙ ap (λ (L : List ℕ). x ∷ L) (laid-tree xs i v cs ss (omega arith))
    ∙ sym (laid_cons x xs i (v ∷ (cs ++ ss)))

-- the tables have an entry for each node
pub length-firsts : (u : ℕ) (f : Forest) (b d : ℕ) → length (first_cells u f b d) ≡ node_count f
unfolding first_cells node_count
length-firsts u none b d = refl
length-firsts u (tree n c s) b d = simp (length-append, length-firsts u c, length-firsts u s) (omega arith)

pub length-ends : (f : Forest) (i : ℕ) → length (ends f i) ≡ node_count f
unfolding ends node_count
length-ends none i = refl
length-ends (tree n c s) i = simp (length-append, length-ends c, length-ends s) (omega arith)

pub length-uses : (f : Forest) → length (uses_table f) ≡ node_count f
unfolding uses_table node_count
length-uses none = refl
length-uses (tree n c s) = simp (length-append, length-uses c, length-uses s) (omega arith)

-- one table after a node's children, its own entry and its siblings
pub table-tree : (i e v : ℕ) (cs ss xs ys zs ws : List ℕ) → e ≡ suc i + length cs → i < length xs
    → ys ≡ laid xs (i + 1) cs → zs ≡ set ys i v → ws ≡ laid zs e ss → ws ≡ laid xs i (v ∷ (cs ++ ss))
table-tree i e v cs ss xs ys zs ws en h a b c =
    c ∙ ap₂ (λ (L : List ℕ) (j : ℕ). laid L j ss) (b ∙ ap (λ (L : List ℕ). set L i v) (a ∙ ap (λ (j : ℕ). laid xs j cs) (add-one i))) en
    ∙ laid-tree xs i v cs ss h

-- with at most 64 ports a node of a depth that the rules admit has at most 64^3 cells
pub width_low : (u d : ℕ) → 1 ≤ u → u ≤ 64 → d ≤ 3 → u ^ d ≤ 262144
width_low u d h l e = le_trans (pow-le-pow_left l d) (pow-le-pow_right (omega arith) e)
