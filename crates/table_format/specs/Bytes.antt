-- The plan table's bytes: paper 01, section Plan table. Fields are read and written through the names below only.
use Rattle.std.specs.Prelude.{Bool, cond, ◌&&◌, List, [], ◌∷◌, ◌++◌, ℕ, zero, suc, ◌+◌, ◌*◌, ◌/◌, ◌%◌, eqb, get_or, drop}
use Rattle.logic.specs.Formula.{Test, isin, notin, port, size, literal_of, Node, root, all, any, and, or, lit, Forest, none, tree, Plan, relation_number, relation_of, kind_number, node_count}

-- "Header, 9 bytes"; "Then 8 bytes a node".
unfoldable pub header_length : ℕ
header_length = 9

unfoldable pub record_length : ℕ
record_length = 8

-- "Header, 9 bytes [..] Then 8 bytes a node": where the records of a table over so many sets begin, right behind the header
-- however many sets there are.
unfoldable pub records_from : ℕ → ℕ
records_from sets = header_length

-- The same sentence: how many bytes a table over so many sets and of so many nodes has.
abbrev pub table_bytes : ℕ → ℕ → ℕ
table_bytes sets nodes = records_from sets + record_length * nodes

-- "stored numbers of 16 bits are little-endian"
unfoldable pub word : ℕ → ℕ → ℕ
word low high = low + 256 * high

unfoldable pub word_bytes : ℕ → List ℕ
word_bytes x = (x % 256) ∷ (x / 256) ∷ []

-- A field of one byte and of 16 bits, by its place.
abbrev pub byte_field : ℕ → List ℕ → ℕ
byte_field at l = get_or l at 0

abbrev pub word_field : ℕ → List ℕ → ℕ
word_field at l = word (get_or l at 0) (get_or l (at + 1) 0)

-- "8 bytes a node: kind, relation, a, b, 16-bit parent, 16-bit end": the fields of the record that a part begins with.
unfoldable pub kind_field : List ℕ → ℕ
kind_field l = byte_field 0 l

unfoldable pub relation_field : List ℕ → ℕ
relation_field l = byte_field 1 l

unfoldable pub a_field : List ℕ → ℕ
a_field l = byte_field 2 l

unfoldable pub b_field : List ℕ → ℕ
b_field l = byte_field 3 l

unfoldable pub parent_field : List ℕ → ℕ
parent_field l = word_field 4 l

unfoldable pub end_field : List ℕ → ℕ
end_field l = word_field 6 l

-- "mark `PLN`, 16-bit version 1, u, n, 16-bit node count": the fields of the header that a table begins with.
unfoldable pub marked : List ℕ → Bool
marked l = eqb (byte_field 0 l) 80 && eqb (byte_field 1 l) 76 && eqb (byte_field 2 l) 78

unfoldable pub version_field : List ℕ → ℕ
version_field l = word_field 3 l

unfoldable pub ports_field : List ℕ → ℕ
ports_field l = byte_field 5 l

unfoldable pub sets_field : List ℕ → ℕ
sets_field l = byte_field 6 l

unfoldable pub nodes_field : List ℕ → ℕ
nodes_field l = word_field 7 l

-- "Then 8 bytes a node": the part of a table that begins with its records, and the part that begins with node i's.
unfoldable pub records_of : List ℕ → List ℕ
records_of l = drop (records_from (sets_field l)) l

unfoldable pub record_at : List ℕ → ℕ → List ℕ
record_at l i = drop (record_length * i) (records_of l)

-- "Relation (kinds 7, 8)"; "Unused fields are 0."
unfoldable pub test_relation : Test → ℕ
test_relation (isin v S) = 0
test_relation (notin v S) = 0
test_relation (port r v w) = relation_number r
test_relation (size r S c) = relation_number r

unfoldable pub relation_byte : Node → ℕ
relation_byte root = 0
relation_byte all = 0
relation_byte any = 0
relation_byte and = 0
relation_byte or = 0
relation_byte (lit l) = test_relation l.test

-- "Kinds 5, 6: a is a variable, b a set. Kind 7: a and b are variables. Kind 8: a is a set, b the constant."
unfoldable pub test_a : Test → ℕ
test_a (isin v S) = v
test_a (notin v S) = v
test_a (port r v w) = v
test_a (size r S c) = S

-- The same sentence, of b.
unfoldable pub test_b : Test → ℕ
test_b (isin v S) = S
test_b (notin v S) = S
test_b (port r v w) = w
test_b (size r S c) = c

unfoldable pub a_byte : Node → ℕ
a_byte root = 0
a_byte all = 0
a_byte any = 0
a_byte and = 0
a_byte or = 0
a_byte (lit l) = test_a l.test

unfoldable pub b_byte : Node → ℕ
b_byte root = 0
b_byte all = 0
b_byte any = 0
b_byte and = 0
b_byte or = 0
b_byte (lit l) = test_b l.test

-- The test that a literal's kind, its relation, a and b say; other kinds are read as 8 and other relations as 5.
unfoldable pub test_of : ℕ → ℕ → ℕ → ℕ → Test
test_of kind r a b =
    cond (eqb kind 5) (isin a b) (cond (eqb kind 6) (notin a b) (cond (eqb kind 7) (port (relation_of r) a b) (size (relation_of r) a b)))

-- The node that a kind, a relation, a and b say; from kind 5 on, a literal.
unfoldable pub node_of : ℕ → ℕ → ℕ → ℕ → Node
node_of zero r a b = root
node_of (suc zero) r a b = all
node_of (suc (suc zero)) r a b = any
node_of (suc (suc (suc zero))) r a b = and
node_of (suc (suc (suc (suc zero)))) r a b = or
node_of (suc (suc (suc (suc (suc k))))) r a b = lit (literal_of (test_of (suc (suc (suc (suc (suc k))))) r a b))

-- One record by its fields, and the record of a node by its parent's number and its end.
unfoldable pub record_bytes : ℕ → ℕ → ℕ → ℕ → ℕ → ℕ → List ℕ
record_bytes kind relation a b parent end = kind ∷ relation ∷ a ∷ b ∷ (word_bytes parent ++ word_bytes end)

unfoldable pub record_of : Node → ℕ → ℕ → List ℕ
record_of n parent end = record_bytes (kind_number n) (relation_byte n) (a_byte n) (b_byte n) parent end

-- "Nodes stand parent first, children in text order, so the records of a subtree stand together, from a node up to its end
-- (the number of the first node after it)": the records of a forest whose first node is numbered i and whose parent is p.
unfoldable pub records : Forest → ℕ → ℕ → List ℕ
records none i p = []
records (tree n c s) i p =
    let end = i + suc (node_count c) in
    record_of n p end ++ (records c (suc i) i ++ records s end p)

-- "mark `PLN`, 16-bit version 1, u, n, 16-bit node count"
unfoldable pub header : ℕ → ℕ → ℕ → List ℕ
header u n nodes = 80 ∷ 76 ∷ 78 ∷ (word_bytes 1 ++ (u ∷ n ∷ word_bytes nodes))

-- "The root is node 0 with parent 65,535."
unfoldable pub encoding : Plan → List ℕ
encoding P = header P.ports P.sets (node_count P.formula) ++ records P.formula 0 65535
