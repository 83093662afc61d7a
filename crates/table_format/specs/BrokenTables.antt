-- For each rule of paper 01, section Plan table, a byte string that breaks it and, where that can be, no other: a sound table
-- with as little changed as will do. Ground 11 of every one; the sound tables are listed with the plans that they spell.
use Rattle.std.specs.Prelude.{List, [], ◌∷◌, ◌++◌, ℕ, zero, suc, ◌+◌, ◌*◌, ◌/◌, ◌%◌, set, take}
use Rattle.logic.specs.Formula.{lt, eq, ge, isin, notin, port, size, all, any, and, or, Forest, none, tree, Plan}
use Rattle.logic.specs.Known.{literal, over, plan}

-- A table of few nodes, so that the high bytes of its numbers are 0: the header and the root's record, then other records.
unfoldable pub table : ℕ → ℕ → ℕ → List ℕ → List ℕ
table u n nodes rows = 80 ∷ 76 ∷ 78 ∷ 1 ∷ 0 ∷ u ∷ n ∷ nodes ∷ 0 ∷ 0 ∷ 0 ∷ 0 ∷ 0 ∷ 255 ∷ 255 ∷ nodes ∷ 0 ∷ rows

-- A record: kind, relation, a, b, parent, end; then other records.
unfoldable pub row : ℕ → ℕ → ℕ → ℕ → ℕ → ℕ → List ℕ → List ℕ
row kind r a b parent end rows = kind ∷ r ∷ a ∷ b ∷ parent ∷ 0 ∷ end ∷ 0 ∷ rows

-- Byte j of node i's record: 0 kind, 1 relation, 2 a, 3 b, 4 and 5 parent, 6 and 7 end.
unfoldable pub byte_of : ℕ → ℕ → ℕ
byte_of i j = 9 + 8 * i + j

-- The sound tables. [S] #S < 0
unfoldable pub sized : List ℕ
sized = table 3 1 2 (row 8 0 0 0 0 2 [])

-- [S] @x #S < 0
unfoldable pub all_sized : List ℕ
all_sized = table 3 1 3 (row 1 0 0 0 0 3 (row 8 0 0 0 1 3 []))

-- [S] @x x = x
unfoldable pub all_same : List ℕ
all_same = table 3 1 3 (row 1 0 0 0 0 3 (row 7 2 0 0 1 3 []))

-- [S] ?x (x:S | x/S)
unfoldable pub any_or : List ℕ
any_or = table 3 1 5 (row 2 0 0 0 0 5 (row 4 0 0 0 1 5 (row 5 0 0 0 2 4 (row 6 0 0 0 2 5 []))))

-- [S] (#S < 1 | #S >= 2) & #S = 64
unfoldable pub and_or : List ℕ
and_or = table 3 1 6 (row 3 0 0 0 0 6 (row 4 0 0 0 1 5 (row 8 0 0 1 2 4 (row 8 4 0 2 2 5 (row 8 2 0 64 1 6 [])))))

-- [S] @x @y @z #S < 0, and with a fourth quantifier
unfoldable pub three : List ℕ
three = table 2 1 5 (row 1 0 0 0 0 5 (row 1 0 0 0 1 5 (row 1 0 0 0 2 5 (row 8 0 0 0 3 5 []))))

unfoldable pub four : List ℕ
four = table 2 1 6 (row 1 0 0 0 0 6 (row 1 0 0 0 1 6 (row 1 0 0 0 2 6 (row 1 0 0 0 3 6 (row 8 0 0 0 4 6 [])))))

-- [S] @x @y @z (x:S & y:S), u 64: 790,594 cells; and with the conjunct z:S 1,052,738 cells
unfoldable pub two_wide : List ℕ
two_wide =
    table 64 1 7 (row 1 0 0 0 0 7 (row 1 0 0 0 1 7 (row 1 0 0 0 2 7 (row 3 0 0 0 3 7 (row 5 0 0 0 4 6 (row 5 0 1 0 4 7 []))))))

unfoldable pub three_wide : List ℕ
three_wide =
    table 64 1 8
    (row 1 0 0 0 0 8 (row 1 0 0 0 1 8 (row 1 0 0 0 2 8 (row 3 0 0 0 3 8 (row 5 0 0 0 4 6 (row 5 0 1 0 4 7 (row 5 0 2 0 4 8 [])))))))

-- [S] #S < 0 | .. | #S < 0, m literals, the first of them node 2
unfoldable pub sizes : ℕ → ℕ → List ℕ
sizes zero i = []
sizes (suc m) i = 8 ∷ 0 ∷ 0 ∷ 0 ∷ 1 ∷ 0 ∷ (suc i % 256) ∷ (suc i / 256) ∷ sizes m (suc i)

unfoldable pub many : ℕ → List ℕ
many m =
    let low = (m + 2) % 256 in
    let high = (m + 2) / 256 in
    80 ∷ 76 ∷ 78 ∷ 1 ∷ 0 ∷ 3 ∷ 1 ∷ low ∷ high ∷ 0 ∷ 0 ∷ 0 ∷ 0 ∷ 255 ∷ 255 ∷ low ∷ high ∷ 4 ∷ 0 ∷ 0 ∷ 0 ∷ 0 ∷ 0 ∷ low ∷ high ∷ sizes m 2

unfoldable pub size_literals : ℕ → Forest
size_literals zero = none
size_literals (suc m) = literal (size lt 0 0) (size_literals m)

unfoldable pub sound_tables : List (List ℕ × Plan)
sound_tables =
    (sized, plan 3 1 (literal (size lt 0 0) none))
    ∷ (all_sized, plan 3 1 (over all (literal (size lt 0 0) none)))
    ∷ (all_same, plan 3 1 (over all (literal (port eq 0 0) none)))
    ∷ (any_or, plan 3 1 (over any (over or (literal (isin 0 0) (literal (notin 0 0) none)))))
    ∷ (and_or, plan 3 1 (over and (tree or (literal (size lt 0 1) (literal (size ge 0 2) none)) (literal (size eq 0 64) none))))
    ∷ (three, plan 2 1 (over all (over all (over all (literal (size lt 0 0) none)))))
    ∷ (two_wide, plan 64 1 (over all (over all (over all (over and (literal (isin 0 0) (literal (isin 1 0) none)))))))
    -- "node count (2 to 512)"
    ∷ (many 510, plan 3 1 (over or (size_literals 510)))
    -- what follows a plan's own bytes is free
    ∷ (sized ++ (9 ∷ []), plan 3 1 (literal (size lt 0 0) none))
    ∷ []

unfoldable pub broken_headers : List (List ℕ)
broken_headers =
    -- cut short: no byte, a header without its last byte, the last record missing, the last byte missing
    []
    ∷ take 8 sized
    ∷ take 25 all_sized
    ∷ take 24 sized
    -- "mark `PLN`"
    ∷ set sized 0 81
    ∷ set sized 1 77
    ∷ set sized 2 79
    -- "16-bit version 1": 0, 2, 257
    ∷ set sized 3 0
    ∷ set sized 3 2
    ∷ set sized 4 1
    -- "u is the number of ports, 1 to 64"
    ∷ set sized 5 0
    ∷ set sized 5 65
    -- "n is the number of sets, 1 to 16": 0 where no literal names a set
    ∷ set all_same 6 0
    ∷ set sized 6 17
    -- "node count (2 to 512)": a count of 1 leaves the root without a child
    ∷ table 3 1 1 []
    ∷ many 511
    ∷ []

unfoldable pub broken_fields : List (List ℕ)
broken_fields =
    -- "Kinds: 0 [..] 8"
    set sized (byte_of 1 0) 9
    -- "Relation (kinds 7, 8): 0 [..] 5"
    ∷ set all_same (byte_of 2 1) 6
    ∷ set sized (byte_of 1 1) 6
    -- "Unused fields are 0": the relation of kinds 0 to 6, a and b of kinds 0 to 4
    ∷ set sized (byte_of 0 1) 1
    ∷ set all_same (byte_of 1 1) 1
    ∷ set any_or (byte_of 1 1) 1
    ∷ set and_or (byte_of 1 1) 1
    ∷ set any_or (byte_of 2 1) 1
    ∷ set any_or (byte_of 3 1) 1
    ∷ set any_or (byte_of 4 1) 1
    ∷ set sized (byte_of 0 2) 1
    ∷ set sized (byte_of 0 3) 1
    ∷ set all_same (byte_of 1 2) 1
    ∷ set all_same (byte_of 1 3) 1
    ∷ set any_or (byte_of 1 2) 1
    ∷ set any_or (byte_of 1 3) 1
    ∷ set and_or (byte_of 1 2) 1
    ∷ set and_or (byte_of 1 3) 1
    ∷ set any_or (byte_of 2 2) 1
    ∷ set any_or (byte_of 2 3) 1
    -- "A variable's number is below the depth": in, not in, both of a port comparison
    ∷ set any_or (byte_of 3 2) 1
    ∷ set any_or (byte_of 4 2) 1
    ∷ set all_same (byte_of 2 2) 1
    ∷ set all_same (byte_of 2 3) 1
    -- a set's number is below n: in, not in, size
    ∷ set any_or (byte_of 3 3) 1
    ∷ set any_or (byte_of 4 3) 1
    ∷ set sized (byte_of 1 2) 1
    -- "Zero to 64 is the range of a size constant."
    ∷ set sized (byte_of 1 3) 65
    ∷ []

unfoldable pub broken_places : List (List ℕ)
broken_places =
    -- "The root is node 0": a quantifier is
    set sized (byte_of 0 0) 1
    -- "with parent 65,535": 65,534 and 65,279
    ∷ set sized (byte_of 0 4) 254
    ∷ set sized (byte_of 0 5) 254
    -- a parent: of a first child, of a later one, its high byte
    ∷ set any_or (byte_of 3 4) 1
    ∷ set any_or (byte_of 4 4) 3
    ∷ set any_or (byte_of 4 5) 1
    -- an end one too small, one too large: of the root, of an inner node, of a literal, of the last node
    ∷ set and_or (byte_of 0 6) 5
    ∷ set and_or (byte_of 0 6) 7
    ∷ set and_or (byte_of 2 6) 4
    ∷ set and_or (byte_of 2 6) 6
    ∷ set and_or (byte_of 3 6) 3
    ∷ set and_or (byte_of 3 6) 5
    ∷ set and_or (byte_of 5 6) 5
    ∷ set and_or (byte_of 5 6) 7
    ∷ set and_or (byte_of 5 7) 1
    -- "Depth [..] at most 3."
    ∷ four
    -- "Root and quantifiers have one child": two below the root, none and two below a quantifier
    ∷ table 3 1 3 (row 8 0 0 0 0 2 (row 8 0 0 0 0 3 []))
    ∷ set sized (byte_of 1 0) 1
    ∷ set sized (byte_of 1 0) 2
    ∷ set and_or (byte_of 1 0) 1
    ∷ set and_or (byte_of 1 0) 2
    -- "and/or two or more": none, one
    ∷ set sized (byte_of 1 0) 3
    ∷ set sized (byte_of 1 0) 4
    ∷ set all_sized (byte_of 1 0) 3
    ∷ set all_sized (byte_of 1 0) 4
    -- "literals none"
    ∷ set all_sized (byte_of 1 0) 8
    -- "No "and" is a child of "and", no "or" of "or""
    ∷ set and_or (byte_of 2 0) 3
    ∷ set and_or (byte_of 1 0) 4
    -- "and only node 0 is a root"
    ∷ set all_sized (byte_of 1 0) 0
    -- "A plan has at most 1,048,576 cells."
    ∷ three_wide
    ∷ []

-- The list.
unfoldable pub broken_tables : List (List ℕ)
broken_tables = broken_headers ++ (broken_fields ++ broken_places)
