-- Computed cores and grounds: what no law of this crate pins down (which letter gets which number, the order of children, the
-- place of the fourth quantifier). Assumes nothing.
use mathlib.Core.Path.{◌≡◌, refl}
use mathlib.Core.Bool.{true, false}
use mathlib.Core.List.{[], ◌∷◌}
use Prim.Native.Nat.{ℕ}
use Rattle.logic.specs.Formula.{lt, le, eq, ne, ge, gt, isin, notin, port, size, literal_of, root, all, any, and, or, none, tree}
use Rattle.logic.specs.Change.{some_of}
use Rattle.logic.specs.Known.{literal, over, plan, plan_a, plan_c}
use Rattle.text_tree.specs.Tree.{forall, exists, conj, disj, imp, rev, iff, Tree, neg, par, bind, join, Declared, letters_of, leaf_of}
use Rattle.text_core.specs.Names.{among, set_number, variable_number, declared_twice, misdeclared, misnamed_test, misnamed, ground5, high_constant, ground6, fourth, ground7}
use Rattle.text_core.specs.Core.{joint_node, joint, two, quantifier_node, opposite, relation_at, member_at, test_at, literal_at, join_with, place, core_of}

-- the letters' bytes
abbrev S : ℕ
S = 83

abbrev T : ℕ
T = 84

abbrev I : ℕ
I = 73

abbrev x : ℕ
x = 120

abbrev y : ℕ
y = 121

-- a set by its letter
abbrev named : ℕ → Declared
named v = record { letter = v }

abbrev x_s : Tree
x_s = leaf_of (isin x S)

abbrev x_t : Tree
x_t = leaf_of (isin x T)

-- plan A, `[STI] @x (x:I <-> x:S & x:T) & #I <= 1`
known-A : core_of (S ∷ T ∷ I ∷ []) (join conj (bind forall x (par (join iff (leaf_of (isin x I)) (join conj x_s x_t)))) (leaf_of (size le I 1))) ≡ plan_a.formula
unfolding core_of place join_with two joint joint_node quantifier_node literal_of test_at literal_at member_at relation_at variable_number set_number plan_a plan over literal
known-A = refl

-- plan C, `[ST] @x (x/S | x:T) & ?x (x:T & x/S)`
known-C : core_of (S ∷ T ∷ []) (join conj (bind forall x (par (join disj (leaf_of (notin x S)) x_t))) (bind exists x (par (join conj x_t (leaf_of (notin x S)))))) ≡ plan_c.formula
unfolding core_of place join_with two joint joint_node quantifier_node literal_of test_at literal_at member_at relation_at variable_number set_number plan_c plan over literal
known-C = refl

-- `[ST] ~@x (x:S -> ?y (x < y & y:T))`: the opposite quantifier, relation and membership, and the outermost variable is 0
known-negated : core_of (S ∷ T ∷ []) (neg (bind forall x (par (join imp x_s (bind exists y (par (join conj (leaf_of (port lt x y)) (leaf_of (isin y T)))))))))
    ≡ over root (over any (over and (literal (isin 0 0) (over all (over or (literal (port ge 0 1) (literal (notin 1 1) none)))))))
unfolding core_of place join_with two joint joint_node quantifier_node literal_of test_at literal_at member_at relation_at opposite variable_number set_number over literal
known-negated = refl

-- `[ST] ~(#S = 1 <-> #T > 2)` is (F & ~G) | (~F & G), and `[ST] #S = 1 <- #T > 2` is F | ~G
known-iff : core_of (S ∷ T ∷ []) (neg (par (join iff (leaf_of (size eq S 1)) (leaf_of (size gt T 2)))))
    ≡ over root (over or (tree and (literal (size eq 0 1) (literal (size le 1 2) none)) (over and (literal (size ne 0 1) (literal (size gt 1 2) none)))))
unfolding core_of place join_with two joint joint_node literal_of test_at literal_at relation_at opposite set_number over literal
known-iff = refl

known-rev : core_of (S ∷ T ∷ []) (join rev (leaf_of (size eq S 1)) (leaf_of (size gt T 2))) ≡ over root (over or (literal (size eq 0 1) (literal (size le 1 2) none)))
unfolding core_of place join_with two joint joint_node literal_of test_at literal_at relation_at opposite set_number over literal
known-rev = refl

-- `[S] @x x:S & x:S`, `[S] @x @x x:S`, `[S] @x x:T` and `[STS] @x x:S` are 5, `[S] @x x:S & @x x:S` is sound; a seventeenth
-- letter is 5
known-5 : (ground5 (named S ∷ []) (join conj (bind forall x x_s) x_s) ≡ true)
    × (ground5 (named S ∷ []) (bind forall x (bind forall x x_s)) ≡ true)
    × (ground5 (named S ∷ []) (join conj (bind forall x x_s) (bind forall x x_s)) ≡ false)
    × (ground5 (named S ∷ []) (bind forall x x_t) ≡ true)
    × (ground5 (named S ∷ named T ∷ named S ∷ []) (bind forall x x_s) ≡ true)
    × (misdeclared (named 65 ∷ named 66 ∷ named 67 ∷ named 68 ∷ named 69 ∷ named 70 ∷ named 71 ∷ named 72 ∷ named 73 ∷ named 74 ∷ named 75 ∷ named 76 ∷ named 77 ∷ named 78 ∷ named 79 ∷ named 80 ∷ []) ≡ false)
    × (misdeclared (named 65 ∷ named 66 ∷ named 67 ∷ named 68 ∷ named 69 ∷ named 70 ∷ named 71 ∷ named 72 ∷ named 73 ∷ named 74 ∷ named 75 ∷ named 76 ∷ named 77 ∷ named 78 ∷ named 79 ∷ named 80 ∷ named 81 ∷ []) ≡ true)
unfolding literal_of ground5 letters_of misdeclared declared_twice misnamed misnamed_test among some_of
known-5 = (refl, refl, refl, refl, refl, refl, refl)

-- 64 is read and 65 is 6; three quantifiers are read and four are 7
known-6 : (ground6 (leaf_of (size le S 64)) ≡ false) × (ground6 (leaf_of (size le S 65)) ≡ true)
unfolding literal_of ground6 high_constant
known-6 = (refl, refl)

known-7 : (ground7 (bind forall 97 (bind exists 98 (bind forall x x_s))) ≡ false) × (ground7 (bind forall 97 (bind exists 98 (neg (bind forall 99 (bind exists x x_s))))) ≡ true)
unfolding ground7 fourth
known-7 = (refl, refl)
