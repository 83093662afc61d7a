-- Parts of a table of records, for any length r of a record. A part begins with a record; those of its children follow, and then
-- those of its later siblings. Assumes nothing.
use mathlib.Core.Path.{◌≡◌, sym, ap, ◌∙◌}
use mathlib.Core.List.{List, ◌++◌}
use Prim.Native.Nat.{ℕ, zero, suc, ◌+◌, ◌-◌, ◌*◌, ◌≤◌, ◌<◌}
use native.Mathlib.Nat.{mul-zero, mul-suc, mul-add, mul-le-mul_left, le-mul_of_pos_right, le_of_mul-le-mul_left, eq_of_mul-eq-mul_left}
use native.Mathlib.Numerals.{add-one}
use native.Mathlib.Omega.{arith}
use lib.ListN.{length, take, drop, length-drop, take-append-drop}
use lib.Seq.{take_all, drop-drop, length-take-le}

-- the rest of a list from a place on, as the code lends it
pub rest_all : (k : ℕ) (l : List ℕ) → take (length l - k) (drop k l) ≡ drop k l
rest_all k l = take_all (length l - k) (drop k l) (rw (length-drop k l) (omega arith))

pub length-rest-all : (k : ℕ) (l : List ℕ) → length (take (length l - k) (drop k l)) ≡ length l - k
length-rest-all k l = ap length (rest_all k l) ∙ length-drop k l

-- the children's records and the later siblings', where the first tree of a part has m records of length r
abbrev pub children_of : ℕ → ℕ → List ℕ → List ℕ
children_of r m l = take (r * m - r) (drop r l)

abbrev pub siblings_of : ℕ → ℕ → List ℕ → List ℕ
siblings_of r m l = drop (r * m) l

module _ (r : ℕ) (pos : 1 ≤ r) where
  -- how many records so many bytes are
  pub cancel-le : (n m : ℕ) → r * n ≤ r * m → n ≤ m
  cancel-le n m h = le_of_mul-le-mul_left h pos

  pub one-fits : (m : ℕ) → 1 ≤ m → r ≤ r * m
  one-fits m h = le-mul_of_pos_right r h

  pub cancel-children : (n m : ℕ) → r * n ≡ r * m - r → 1 ≤ m → m ≡ suc n
  cancel-children n m e h = eq_of_mul-eq-mul_left r pos m (suc n) (omega (arith, one-fits m h, mul-suc r n))

  pub no_record : (k n : ℕ) → k ≡ r * n → k < r → k ≡ 0
  no_record k zero e h = e ∙ mul-zero r
  no_record k (suc n) e h = absurd (omega (arith, mul-suc r n))

  pub some-record : (k n : ℕ) → k ≡ r * suc n → r ≤ k
  some-record k n e = omega (arith, mul-suc r n)

  -- the records of a tree whose children have m
  pub span-tree : (i m : ℕ) → r + r * m ≡ r * (i + suc m - i)
  span-tree i m = let e : i + suc m - i ≡ suc m = omega arith in omega (arith, ap (λ (x : ℕ). r * x) e, mul-suc r m)

  pub span-children : (i m : ℕ) → r * m ≡ r * (i + suc m - i) - r
  span-children i m = omega (arith, span-tree i m)

  pub span-forest : (m n : ℕ) → r + (r * m + r * n) ≡ r * (suc m + n)
  span-forest m n = omega (arith, mul-add r (suc m) n, mul-suc r m)

  pub span-within : (m n : ℕ) → m ≤ n → r * m ≤ r * n
  span-within m n h = mul-le-mul_left r h

  -- the two parts are what follows the first record
  module _ (m : ℕ) (l : List ℕ) (within : r * m ≤ length l) where
    pub length-children : length (children_of r m l) ≡ r * m - r
    length-children = length-take-le (r * m - r) (drop r l) (rw (length-drop r l) (omega arith))

    pub parts_join : 1 ≤ m → drop r l ≡ children_of r m l ++ siblings_of r m l
    parts_join h =
        let e : r + (r * m - r) ≡ r * m = omega (arith, one-fits m h) in
        sym (take-append-drop (r * m - r) (drop r l))
        ∙ ap (λ (x : List ℕ). children_of r m l ++ x) (drop-drop (r * m - r) r l ∙ ap (λ (j : ℕ). drop j l) e)

  -- the numbers of the nodes: of n bytes from node i on, all below node k, the first tree has those up to node e
  pub first_below : (i n k : ℕ) → r ≤ n → r * i + n ≤ r * k → i < k
  first_below i n k h few = cancel-le (suc i) k (omega (arith, mul-suc r i))

  module _ (i e n k : ℕ) (after : i < e) (within : r * (e - i) ≤ n) (few : r * i + n ≤ r * k) where
    nodes-of-tree : r * e ≡ r * i + r * (e - i)
    nodes-of-tree = let q : e ≡ i + (e - i) = omega arith in ap (λ (x : ℕ). r * x) q ∙ mul-add r i (e - i)

    pub end_below : e ≤ k
    end_below = cancel-le e k (omega (arith, nodes-of-tree))

    pub children-below : r * (i + 1) + (r * (e - i) - r) ≤ r * k
    children-below = let q : 1 ≤ e - i = omega arith in omega (arith, one-fits (e - i) q, ap (λ (x : ℕ). r * x) (add-one i), mul-suc r i)

    pub siblings-below : r * e + (n - r * (e - i)) ≤ r * k
    siblings-below = omega (arith, nodes-of-tree)
