-- The texts of the starred known plans of paper 01, with the foundation's plans, and texts that are refused.
use Rattle.std.specs.Prelude.{◌≡◌, Bool, true, ◌&&◌, List, [], ◌∷◌, ℕ, zero, suc, eqb}
use Rattle.logic.specs.Formula.{lt, eq, ne, gt, Plan}
use Rattle.logic.specs.Known.{plan_a, plan_c, plan_d, size_plan}
use Rattle.table_format.specs.Bytes.{encoding}
use Rattle.contracts.specs.Read.{table_length, reads}

-- A table of so many zeros.
unfoldable pub blank_table : ℕ → List ℕ
blank_table zero = []
blank_table (suc n) = 0 ∷ blank_table n

-- A text, the plan that it says over the plan's ports, and the plan's nodes and cells.
pub record Known : Type 0 where
  pub text : List ℕ
  pub plan : Plan
  pub nodes : ℕ
  pub total : ℕ

-- Read into a table of just the plan's length, the text is answered with node count and cell total and leaves the plan's bytes.
unfoldable pub AllRead : List Known → Type 0
AllRead [] = Unit {0}
AllRead (k ∷ ks) =
    (reads k.plan.ports k.text (blank_table (table_length k.plan))
    ≡ (record { number = 0; nodes = k.nodes; cells = k.total }, encoding k.plan)) × AllRead ks

-- "Starred ones are proved": A and B, C, D and E, F to I.
unfoldable pub known_texts : List Known
known_texts =
    -- [STI] @x (x:I <-> x:S & x:T) & #I <= 1
    record { text = 91 ∷ 83 ∷ 84 ∷ 73 ∷ 93 ∷ 32 ∷ 64 ∷ 120 ∷ 32 ∷ 40 ∷ 120 ∷ 58 ∷ 73 ∷ 32 ∷ 60 ∷ 45 ∷ 62 ∷ 32 ∷ 120 ∷ 58 ∷ 83 ∷ 32 ∷ 38 ∷ 32 ∷ 120 ∷ 58 ∷ 84 ∷ 41 ∷ 32 ∷ 38 ∷ 32 ∷ 35 ∷ 73 ∷ 32 ∷ 60 ∷ 61 ∷ 32 ∷ 49 ∷ []; plan = plan_a; nodes = 14; total = 34 }
    -- [ST] @x (x/S | x:T) & ?x (x:T & x/S)
    ∷ record { text = 91 ∷ 83 ∷ 84 ∷ 93 ∷ 32 ∷ 64 ∷ 120 ∷ 32 ∷ 40 ∷ 120 ∷ 47 ∷ 83 ∷ 32 ∷ 124 ∷ 32 ∷ 120 ∷ 58 ∷ 84 ∷ 41 ∷ 32 ∷ 38 ∷ 32 ∷ 63 ∷ 120 ∷ 32 ∷ 40 ∷ 120 ∷ 58 ∷ 84 ∷ 32 ∷ 38 ∷ 32 ∷ 120 ∷ 47 ∷ 83 ∷ 41 ∷ []; plan = plan_c; nodes = 10; total = 16 }
    -- [S] ?x x:S
    ∷ record { text = 91 ∷ 83 ∷ 93 ∷ 32 ∷ 63 ∷ 120 ∷ 32 ∷ 120 ∷ 58 ∷ 83 ∷ []; plan = plan_d; nodes = 3; total = 3 }
    -- [S] #S < 0
    ∷ record { text = 91 ∷ 83 ∷ 93 ∷ 32 ∷ 35 ∷ 83 ∷ 32 ∷ 60 ∷ 32 ∷ 48 ∷ []; plan = (size_plan lt 0); nodes = 2; total = 2 }
    -- [S] #S > 64
    ∷ record { text = 91 ∷ 83 ∷ 93 ∷ 32 ∷ 35 ∷ 83 ∷ 32 ∷ 62 ∷ 32 ∷ 54 ∷ 52 ∷ []; plan = (size_plan gt 64); nodes = 2; total = 2 }
    -- [S] #S = 2
    ∷ record { text = 91 ∷ 83 ∷ 93 ∷ 32 ∷ 35 ∷ 83 ∷ 32 ∷ 61 ∷ 32 ∷ 50 ∷ []; plan = (size_plan eq 2); nodes = 2; total = 2 }
    -- [S] #S != 2
    ∷ record { text = 91 ∷ 83 ∷ 93 ∷ 32 ∷ 35 ∷ 83 ∷ 32 ∷ 33 ∷ 61 ∷ 32 ∷ 50 ∷ []; plan = (size_plan ne 2); nodes = 2; total = 2 }
    ∷ []

-- The ports, a text, the length of the output table, and the number of the answer, 0 where the text is accepted.
pub record Answered : Type 0 where
  pub ports : ℕ
  pub text : List ℕ
  pub room : ℕ
  pub number : ℕ

unfoldable pub all_answered : List Answered → Bool
all_answered [] = true
all_answered (k ∷ ks) = eqb (reads k.ports k.text (blank_table k.room)).0.number k.number && all_answered ks

-- Grounds at their boundaries.
unfoldable pub answers : List Answered
answers =
    -- [S] ?x x:S
    record { ports = 0; text = 91 ∷ 83 ∷ 93 ∷ 32 ∷ 63 ∷ 120 ∷ 32 ∷ 120 ∷ 58 ∷ 83 ∷ []; room = 33; number = 10 }
    -- [S] ?x x:S
    ∷ record { ports = 65; text = 91 ∷ 83 ∷ 93 ∷ 32 ∷ 63 ∷ 120 ∷ 32 ∷ 120 ∷ 58 ∷ 83 ∷ []; room = 33; number = 10 }
    -- [S] ?x x:S
    ∷ record { ports = 257; text = 91 ∷ 83 ∷ 93 ∷ 32 ∷ 63 ∷ 120 ∷ 32 ∷ 120 ∷ 58 ∷ 83 ∷ []; room = 33; number = 10 }
    -- [S] ?x x:S
    ∷ record { ports = 1; text = 91 ∷ 83 ∷ 93 ∷ 32 ∷ 63 ∷ 120 ∷ 32 ∷ 120 ∷ 58 ∷ 83 ∷ []; room = 33; number = 0 }
    -- [S] ?x x:S
    ∷ record { ports = 64; text = 91 ∷ 83 ∷ 93 ∷ 32 ∷ 63 ∷ 120 ∷ 32 ∷ 120 ∷ 58 ∷ 83 ∷ []; room = 33; number = 0 }
    -- [S] ?x x:S
    ∷ record { ports = 1; text = 91 ∷ 83 ∷ 93 ∷ 32 ∷ 63 ∷ 120 ∷ 32 ∷ 120 ∷ 58 ∷ 83 ∷ []; room = 32; number = 12 }
    -- [S]#S<1 - $
    ∷ record { ports = 1; text = 91 ∷ 83 ∷ 93 ∷ 35 ∷ 83 ∷ 60 ∷ 49 ∷ 32 ∷ 45 ∷ 32 ∷ 36 ∷ []; room = 33; number = 2 }
    -- [S] #S <= 064
    ∷ record { ports = 1; text = 91 ∷ 83 ∷ 93 ∷ 32 ∷ 35 ∷ 83 ∷ 32 ∷ 60 ∷ 61 ∷ 32 ∷ 48 ∷ 54 ∷ 52 ∷ []; room = 25; number = 3 }
    -- [S] #S<1->#S<2->#S<3
    ∷ record { ports = 1; text = 91 ∷ 83 ∷ 93 ∷ 32 ∷ 35 ∷ 83 ∷ 60 ∷ 49 ∷ 45 ∷ 62 ∷ 35 ∷ 83 ∷ 60 ∷ 50 ∷ 45 ∷ 62 ∷ 35 ∷ 83 ∷ 60 ∷ 51 ∷ []; room = 64; number = 3 }
    -- [S] @x @x x:S
    ∷ record { ports = 1; text = 91 ∷ 83 ∷ 93 ∷ 32 ∷ 64 ∷ 120 ∷ 32 ∷ 64 ∷ 120 ∷ 32 ∷ 120 ∷ 58 ∷ 83 ∷ []; room = 64; number = 5 }
    -- [S] #S <= 64
    ∷ record { ports = 1; text = 91 ∷ 83 ∷ 93 ∷ 32 ∷ 35 ∷ 83 ∷ 32 ∷ 60 ∷ 61 ∷ 32 ∷ 54 ∷ 52 ∷ []; room = 25; number = 0 }
    -- [S] #S <= 65
    ∷ record { ports = 1; text = 91 ∷ 83 ∷ 93 ∷ 32 ∷ 35 ∷ 83 ∷ 32 ∷ 60 ∷ 61 ∷ 32 ∷ 54 ∷ 53 ∷ []; room = 25; number = 6 }
    -- [S] @a @b @c ~?d d:S
    ∷ record { ports = 1; text = 91 ∷ 83 ∷ 93 ∷ 32 ∷ 64 ∷ 97 ∷ 32 ∷ 64 ∷ 98 ∷ 32 ∷ 64 ∷ 99 ∷ 32 ∷ 126 ∷ 63 ∷ 100 ∷ 32 ∷ 100 ∷ 58 ∷ 83 ∷ []; room = 99; number = 7 }
    -- [S] @x @y @z (x:S & y:S)
    ∷ record { ports = 64; text = 91 ∷ 83 ∷ 93 ∷ 32 ∷ 64 ∷ 120 ∷ 32 ∷ 64 ∷ 121 ∷ 32 ∷ 64 ∷ 122 ∷ 32 ∷ 40 ∷ 120 ∷ 58 ∷ 83 ∷ 32 ∷ 38 ∷ 32 ∷ 121 ∷ 58 ∷ 83 ∷ 41 ∷ []; room = 65; number = 0 }
    -- [S] @x @y @z (x:S & y:S & z:S)
    ∷ record { ports = 64; text = 91 ∷ 83 ∷ 93 ∷ 32 ∷ 64 ∷ 120 ∷ 32 ∷ 64 ∷ 121 ∷ 32 ∷ 64 ∷ 122 ∷ 32 ∷ 40 ∷ 120 ∷ 58 ∷ 83 ∷ 32 ∷ 38 ∷ 32 ∷ 121 ∷ 58 ∷ 83 ∷ 32 ∷ 38 ∷ 32 ∷ 122 ∷ 58 ∷ 83 ∷ 41 ∷ []; room = 73; number = 9 }
    ∷ []
