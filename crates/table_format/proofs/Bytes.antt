-- The layout of the header and of a record: the laws that know which byte is where. Assumes nothing.
use mathlib.Core.Path.{◌≡◌, refl, sym, ap, ap₂, ◌∙◌, subst}
use mathlib.Core.Bool.{true}
use mathlib.Core.List.{List, [], ◌∷◌, ◌++◌}
use Prim.Native.Nat.{ℕ, zero, suc, ◌+◌, ◌-◌, ◌*◌, ◌/◌, ◌%◌, ◌≤◌, ◌<◌}
use native.Mathlib.Nat.{add-zero}
use native.Mathlib.Omega.{arith}
use lib.Dec.{eqb}
use lib.ListN.{length, get_or, set, drop, length-drop, get_or-append}
use lib.Seq.{drop-cons, drop_at, get_or-drop}
use borrow.Author.Tests.{eqb-true}
use Rattle.logic.specs.Formula.{Node, kind_number}
use Rattle.table_format.specs.Bytes.{header_length, record_length, records_from, records_of, record_at, word, word_bytes, kind_field, relation_field, a_field, b_field, parent_field, end_field, marked, version_field, ports_field, sets_field, nodes_field, relation_byte, a_byte, b_byte, record_bytes, record_of, header}
use Rattle.table_format.specs.inner.Fields.{Bytes}
use Rattle.table_format.specs.inner.Written.{Written}
use Rattle.table_format.proofs.Writing.{written_then, written_byte}
use Rattle.table_format.proofs.Conjunctions.{three-true}

pub record-pos : 1 ≤ record_length
unfolding record_length
record-pos = omega arith

-- the records begin behind the header
pub header-within : (n : ℕ) → header_length ≤ records_from n
unfolding records_from
header-within n = omega arith

-- a number of 16 bits and its bytes
word-of-bytes : (x : ℕ) → word (x % 256) (x / 256) ≡ x
unfolding word
word-of-bytes x = omega arith

low-of-word : (x y z : ℕ) → word x y ≡ z → x < 256 → x ≡ z % 256
unfolding word
low-of-word x y z e h = omega arith

high-of-word : (x y z : ℕ) → word x y ≡ z → x < 256 → y ≡ z / 256
unfolding word
high-of-word x y z e h = omega arith

-- the record that a part begins with
pub length-record : (n : Node) (p e : ℕ) → length (record_of n p e) ≡ record_length
unfolding record_of record_bytes word_bytes record_length
length-record n p e = refl

module _ (n : Node) (p e : ℕ) (t : List ℕ) where
  pub kind-of-record : kind_field (record_of n p e ++ t) ≡ kind_number n
  unfolding kind_field record_of record_bytes
  kind-of-record = refl

  pub relation-of-record : relation_field (record_of n p e ++ t) ≡ relation_byte n
  unfolding relation_field record_of record_bytes
  relation-of-record = refl

  pub a-of-record : a_field (record_of n p e ++ t) ≡ a_byte n
  unfolding a_field record_of record_bytes
  a-of-record = refl

  pub b-of-record : b_field (record_of n p e ++ t) ≡ b_byte n
  unfolding b_field record_of record_bytes
  b-of-record = refl

  pub parent-of-record : parent_field (record_of n p e ++ t) ≡ p
  unfolding parent_field record_of record_bytes word_bytes
  parent-of-record = word-of-bytes p

  pub end-of-record : end_field (record_of n p e ++ t) ≡ e
  unfolding end_field record_of record_bytes word_bytes
  end-of-record = word-of-bytes e

-- the header that a table begins with
pub length-header : (u n k : ℕ) → length (header u n k) ≡ records_from n
unfolding header word_bytes records_from header_length
length-header u n k = refl

module _ (u n k : ℕ) (t : List ℕ) where
  pub header-marked : marked (header u n k ++ t) ≡ true
  unfolding marked header
  header-marked = refl

  pub version-of-header : version_field (header u n k ++ t) ≡ 1
  unfolding version_field header word_bytes
  version-of-header = word-of-bytes 1

  pub ports-of-header : ports_field (header u n k ++ t) ≡ u
  unfolding ports_field header word_bytes
  ports-of-header = refl

  pub sets-of-header : sets_field (header u n k ++ t) ≡ n
  unfolding sets_field header word_bytes
  sets-of-header = refl

  pub nodes-of-header : nodes_field (header u n k ++ t) ≡ k
  unfolding nodes_field header word_bytes
  nodes-of-header = word-of-bytes k

-- and then the records
pub records-of-header : (u n k : ℕ) (t : List ℕ) → records_of (header u n k ++ t) ≡ t
unfolding records_of
records-of-header u n k t =
    ap (λ (x : ℕ). drop (records_from x) (header u n k ++ t)) (sets-of-header u n k t) ∙ drop_at (header u n k) t (records_from n) (length-header u n k)

pub length-records-of : (l : List ℕ) → length (records_of l) ≡ length l - records_from (sets_field l)
unfolding records_of
length-records-of l = length-drop (records_from (sets_field l)) l

pub record-fits : (l : List ℕ) (i : ℕ) → record_length * i + record_length ≤ length (records_of l) → record_length ≤ length (record_at l i)
unfolding record_at
record-fits l i h = omega (arith, length-drop (record_length * i) (records_of l))

-- the counts of a list that has a whole header
pub sets-of-front : (l t : List ℕ) → header_length ≤ length l → sets_field (l ++ t) ≡ sets_field l
unfolding sets_field header_length
sets-of-front l t h = get_or-append l t 0 6 (omega arith)

pub nodes-of-front : (l t : List ℕ) → header_length ≤ length l → nodes_field (l ++ t) ≡ nodes_field l
unfolding nodes_field header_length
nodes-of-front l t h = ap₂ word (get_or-append l t 0 7 (omega arith)) (get_or-append l t 0 8 (omega arith))

-- n numbers of a list from place j on, one by one
abbrev listed : ℕ → ℕ → List ℕ → List ℕ
listed zero j l = []
listed (suc n) j l = get_or l j 0 ∷ listed n (suc j) l

listed-split : (n j : ℕ) (l : List ℕ) → j + n ≤ length l → drop j l ≡ listed n j l ++ drop (j + n) l
listed-split zero j l h = ap (λ (x : ℕ). drop x l) (sym (add-zero j))
listed-split (suc n) j l h =
    let e : suc j + n ≡ j + suc n = omega arith in
    drop-cons l j 0 (omega arith)
    ∙ ap (λ (x : List ℕ). get_or l j 0 ∷ x) (listed-split n (suc j) l (omega arith) ∙ ap (λ (x : ℕ). listed n (suc j) l ++ drop x l) e)

-- bytes that are long enough begin with the record of their fields
pub record-split : (l : List ℕ) → Bytes l → record_length ≤ length l
    → l ≡ record_bytes (kind_field l) (relation_field l) (a_field l) (b_field l) (parent_field l) (end_field l) ++ drop record_length l
unfolding record_length record_bytes word_bytes kind_field relation_field a_field b_field parent_field end_field
record-split l b h =
    listed-split 8 0 l h
    ∙ λ i. get_or l 0 0 ∷ get_or l 1 0 ∷ get_or l 2 0 ∷ get_or l 3 0
    ∷ low-of-word (get_or l 4 0) (get_or l 5 0) _ refl (b 4) i ∷ high-of-word (get_or l 4 0) (get_or l 5 0) _ refl (b 4) i
    ∷ low-of-word (get_or l 6 0) (get_or l 7 0) _ refl (b 6) i ∷ high-of-word (get_or l 6 0) (get_or l 7 0) _ refl (b 6) i ∷ drop 8 l

pub record_is : (n : Node) (p e : ℕ) (l : List ℕ) → Bytes l → record_length ≤ length l
    → kind_field l ≡ kind_number n → relation_field l ≡ relation_byte n → a_field l ≡ a_byte n → b_field l ≡ b_byte n → parent_field l ≡ p → end_field l ≡ e
    → l ≡ record_of n p e ++ drop record_length l
unfolding record_of
record_is n p e l b h kind relation a b' parent end =
    record-split l b h ∙ λ i. record_bytes (kind i) (relation i) (a i) (b' i) (parent i) (end i) ++ drop record_length l

-- and a marked one of version 1 with the header of its fields
pub header-split : (l : List ℕ) → Bytes l → records_from (sets_field l) ≤ length l → marked l ≡ true → version_field l ≡ 1
    → l ≡ header (ports_field l) (sets_field l) (nodes_field l) ++ records_of l
unfolding records_of records_from header_length header word_bytes marked version_field ports_field sets_field nodes_field
header-split l b h m v =
    let t = three-true (eqb (get_or l 0 0) 80) (eqb (get_or l 1 0) 76) (eqb (get_or l 2 0) 78) m in
    listed-split 9 0 l h
    ∙ λ i. eqb-true (get_or l 0 0) 80 t.0 i ∷ eqb-true (get_or l 1 0) 76 t.1 i ∷ eqb-true (get_or l 2 0) 78 t.2 i
    ∷ low-of-word (get_or l 3 0) (get_or l 4 0) 1 v (b 3) i ∷ high-of-word (get_or l 3 0) (get_or l 4 0) 1 v (b 3) i ∷ get_or l 5 0 ∷ get_or l 6 0
    ∷ low-of-word (get_or l 7 0) (get_or l 8 0) _ refl (b 7) i ∷ high-of-word (get_or l 7 0) (get_or l 8 0) _ refl (b 7) i ∷ drop 9 l

-- Lists of bytes.
bytes_drop : (k : ℕ) (l : List ℕ) → Bytes l → Bytes (drop k l)
bytes_drop k l b i = rw (get_or-drop k l i 0) (b (k + i))

pub records-bytes-of : (l : List ℕ) → Bytes l → Bytes (records_of l)
unfolding records_of
records-bytes-of l b = bytes_drop (records_from (sets_field l)) l b

bytes-cons : (x : ℕ) (xs : List ℕ) → x < 256 → Bytes xs → Bytes (x ∷ xs)
bytes-cons x xs h r zero = h
bytes-cons x xs h r (suc i) = r i

pub bytes-append : (xs ys : List ℕ) → Bytes xs → Bytes ys → Bytes (xs ++ ys)
bytes-append [] ys a b = b
bytes-append (x ∷ xs) ys a b = bytes-cons x (xs ++ ys) (a 0) (bytes-append xs ys (λ i. a (suc i)) b)

pub no_bytes : Bytes []
no_bytes i = omega arith

word-bytes : (x : ℕ) → x < 65536 → Bytes (word_bytes x)
unfolding word_bytes
word-bytes x h = bytes-cons (x % 256) ((x / 256) ∷ []) (omega arith) (bytes-cons (x / 256) [] (omega arith) no_bytes)

pub record NodeBytes (n : Node) : Type 0 where
  pub kind : kind_number n < 256
  pub relation : relation_byte n < 256
  pub a : a_byte n < 256
  pub b : b_byte n < 256

pub record-bytes : (n : Node) (p e : ℕ) → NodeBytes n → p < 65536 → e < 65536 → Bytes (record_of n p e)
unfolding record_of record_bytes
record-bytes n p e b hp he =
    let l = word_bytes p ++ word_bytes e in
    bytes-cons (kind_number n) (relation_byte n ∷ a_byte n ∷ b_byte n ∷ l) b.kind
    (bytes-cons (relation_byte n) (a_byte n ∷ b_byte n ∷ l) b.relation
    (bytes-cons (a_byte n) (b_byte n ∷ l) b.a (bytes-cons (b_byte n) l b.b (bytes-append (word_bytes p) (word_bytes e) (word-bytes p hp) (word-bytes e he)))))

pub header-bytes : (u n k : ℕ) → u < 256 → n < 256 → k < 65536 → Bytes (header u n k)
unfolding header
header-bytes u n k hu hn hk =
    let l = u ∷ n ∷ word_bytes k in
    bytes-cons 80 (76 ∷ 78 ∷ (word_bytes 1 ++ l)) (omega arith)
    (bytes-cons 76 (78 ∷ (word_bytes 1 ++ l)) (omega arith)
    (bytes-cons 78 (word_bytes 1 ++ l) (omega arith)
    (bytes-append (word_bytes 1) l (word-bytes 1 (omega arith)) (bytes-cons u (n ∷ word_bytes k) hu (bytes-cons n (word_bytes k) hn (word-bytes k hk))))))

-- a record written field by field, and a header
module _ (at k r x y parent end : ℕ) (B M O : List ℕ) where
  abbrev four : List ℕ
  four = set (set (set (set B (at + 0) k) (at + 1) r) (at + 2) x) (at + 3) y

  pub record-written : Written (at + 4) (word_bytes parent) four M → Written (at + 6) (word_bytes end) M O
      → Written at (record_bytes k r x y parent end) B O
  unfolding record_bytes word_bytes
  record-written P E =
      let b1 = set B (at + 0) k in
      let one : Written at (k ∷ []) B b1 = subst (λ (p : ℕ). Written at (k ∷ []) B (set B p k)) (sym (add-zero at)) (written_byte at k B) in
      let b2 = set b1 (at + 1) r in
      let b3 = set b2 (at + 2) x in
      let two = written_then at (k ∷ []) (r ∷ []) B b1 b2 one (written_byte (at + 1) r b1) in
      let three = written_then at (k ∷ r ∷ []) (x ∷ []) B b2 b3 two (written_byte (at + 2) x b2) in
      let all = written_then at (k ∷ r ∷ x ∷ []) (y ∷ []) B b3 four three (written_byte (at + 3) y b3) in
      let up = written_then at (k ∷ r ∷ x ∷ y ∷ []) (word_bytes parent) B four M all P in
      written_then at (k ∷ r ∷ x ∷ y ∷ word_bytes parent) (word_bytes end) B M O up E

module _ (u n nodes : ℕ) (B M O : List ℕ) where
  abbrev three : List ℕ
  three = set (set (set B 0 80) 1 76) 2 78

  abbrev five : List ℕ
  five = set (set M 5 u) 6 n

  pub header-written : Written 3 (word_bytes 1) three M → Written 7 (word_bytes nodes) five O → Written 0 (header u n nodes) B O
  unfolding header word_bytes
  header-written L W =
      let b1 = set B 0 80 in
      let b2 = set b1 1 76 in
      let m1 = set M 5 u in
      let x2 = written_then 0 (80 ∷ []) (76 ∷ []) B b1 b2 (written_byte 0 80 B) (written_byte 1 76 b1) in
      let x3 = written_then 0 (80 ∷ 76 ∷ []) (78 ∷ []) B b2 three x2 (written_byte 2 78 b2) in
      let x5 = written_then 0 (80 ∷ 76 ∷ 78 ∷ []) (word_bytes 1) B three M x3 L in
      let x6 = written_then 0 (80 ∷ 76 ∷ 78 ∷ word_bytes 1) (u ∷ []) B M m1 x5 (written_byte 5 u M) in
      let x7 = written_then 0 (80 ∷ 76 ∷ 78 ∷ (word_bytes 1 ++ (u ∷ []))) (n ∷ []) B m1 five x6 (written_byte 6 n m1) in
      written_then 0 (80 ∷ 76 ∷ 78 ∷ (word_bytes 1 ++ (u ∷ n ∷ []))) (word_bytes nodes) B five O x7 W
