-- Worked examples: texts, and what the parser reads. Assumes nothing.
use mathlib.Core.Path.{◌≡◌, refl}
use mathlib.Core.List.{[], ◌∷◌}
use Prim.Native.Nat.{ℕ}
use Rattle.logic.specs.Formula.{le, ne, ge, relation_of, isin, notin, port, size}
use Rattle.text_tree.specs.Tree.{forall, exists, conj, disj, rev, iff, neg, par, bind, join, Declared, leaf_of}
use Rattle.text_tokens.specs.Tokens.{blanks, after_blanks, single_kind, sign_of, digits, number_of, run_at, run_token, here_at, token_at}
use Rattle.text_grammar.specs.Parser.{arrow_of, quantifier_of, parse_at, sets_at, after_sets, failed, read, parsed}

-- a set by its letter
abbrev named : ℕ → Declared
named v = record { letter = v }

pub examples :
    -- [STI] @x (x:I <-> x:S & x:T) & #I <= 1
    (parsed (91 ∷ 83 ∷ 84 ∷ 73 ∷ 93 ∷ 32 ∷ 64 ∷ 120 ∷ 32 ∷ 40 ∷ 120 ∷ 58 ∷ 73 ∷ 32 ∷ 60 ∷ 45 ∷ 62 ∷ 32 ∷ 120 ∷ 58 ∷ 83 ∷ 32 ∷ 38 ∷ 32 ∷ 120 ∷ 58 ∷ 84 ∷ 41 ∷ 32 ∷ 38 ∷ 32 ∷ 35 ∷ 73 ∷ 32 ∷ 60 ∷ 61 ∷ 32 ∷ 49 ∷ [])
    ≡ read (named 83 ∷ named 84 ∷ named 73 ∷ [])
    (join conj (bind forall 120 (par (join iff (leaf_of (isin 120 73)) (join conj (leaf_of (isin 120 83)) (leaf_of (isin 120 84)))))) (leaf_of (size le 73 1)))) ×
    -- [S T]@xx:S|x/T
    (parsed (91 ∷ 83 ∷ 32 ∷ 84 ∷ 93 ∷ 64 ∷ 120 ∷ 120 ∷ 58 ∷ 83 ∷ 124 ∷ 120 ∷ 47 ∷ 84 ∷ [])
    ≡ read (named 83 ∷ named 84 ∷ []) (join disj (bind forall 120 (leaf_of (isin 120 83))) (leaf_of (notin 120 84)))) ×
    -- [S] ?x ~x!=y <- x>=y
    (parsed (91 ∷ 83 ∷ 93 ∷ 32 ∷ 63 ∷ 120 ∷ 32 ∷ 126 ∷ 120 ∷ 33 ∷ 61 ∷ 121 ∷ 32 ∷ 60 ∷ 45 ∷ 32 ∷ 120 ∷ 62 ∷ 61 ∷ 121 ∷ [])
    ≡ read (named 83 ∷ []) (join rev (bind exists 120 (neg (leaf_of (port ne 120 121)))) (leaf_of (port ge 120 121)))) ×
    -- [S] x:S & y:S & z:S
    (parsed (91 ∷ 83 ∷ 93 ∷ 32 ∷ 120 ∷ 58 ∷ 83 ∷ 32 ∷ 38 ∷ 32 ∷ 121 ∷ 58 ∷ 83 ∷ 32 ∷ 38 ∷ 32 ∷ 122 ∷ 58 ∷ 83 ∷ [])
    ≡ read (named 83 ∷ []) (join conj (leaf_of (isin 120 83)) (join conj (leaf_of (isin 121 83)) (leaf_of (isin 122 83))))) ×
    -- [S] #S <= 64
    (parsed (91 ∷ 83 ∷ 93 ∷ 32 ∷ 35 ∷ 83 ∷ 32 ∷ 60 ∷ 61 ∷ 32 ∷ 54 ∷ 52 ∷ [])
    ≡ read (named 83 ∷ []) (leaf_of (size le 83 64))) ×
    -- [S] #S <= 65
    (parsed (91 ∷ 83 ∷ 93 ∷ 32 ∷ 35 ∷ 83 ∷ 32 ∷ 60 ∷ 61 ∷ 32 ∷ 54 ∷ 53 ∷ [])
    ≡ read (named 83 ∷ []) (leaf_of (size le 83 65))) ×
    -- [S] #S <= 064
    (parsed (91 ∷ 83 ∷ 93 ∷ 32 ∷ 35 ∷ 83 ∷ 32 ∷ 60 ∷ 61 ∷ 32 ∷ 48 ∷ 54 ∷ 52 ∷ [])
    ≡ failed) ×
    -- [S] #S < = 1
    (parsed (91 ∷ 83 ∷ 93 ∷ 32 ∷ 35 ∷ 83 ∷ 32 ∷ 60 ∷ 32 ∷ 61 ∷ 32 ∷ 49 ∷ [])
    ≡ failed) ×
    -- [S] #S<1->#S<2->#S<3
    (parsed (91 ∷ 83 ∷ 93 ∷ 32 ∷ 35 ∷ 83 ∷ 60 ∷ 49 ∷ 45 ∷ 62 ∷ 35 ∷ 83 ∷ 60 ∷ 50 ∷ 45 ∷ 62 ∷ 35 ∷ 83 ∷ 60 ∷ 51 ∷ [])
    ≡ failed) ×
    -- [S] x<-y
    (parsed (91 ∷ 83 ∷ 93 ∷ 32 ∷ 120 ∷ 60 ∷ 45 ∷ 121 ∷ [])
    ≡ failed) ×
    -- [S] x:S)
    (parsed (91 ∷ 83 ∷ 93 ∷ 32 ∷ 120 ∷ 58 ∷ 83 ∷ 41 ∷ [])
    ≡ failed) ×
    -- [S]
    (parsed (91 ∷ 83 ∷ 93 ∷ [])
    ≡ failed) ×
    -- [] x:S
    (parsed (91 ∷ 93 ∷ 32 ∷ 120 ∷ 58 ∷ 83 ∷ [])
    ≡ failed)
unfolding parsed parse_at sets_at after_sets arrow_of quantifier_of relation_of token_at here_at after_blanks blanks single_kind sign_of run_token run_at digits number_of
examples = (refl, refl, refl, refl, refl, refl, refl, refl, refl, refl, refl, refl, refl)
