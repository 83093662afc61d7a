-- The text of a plan, from its declaration and what stands below its root. Assumes nothing.
use mathlib.Core.Path.{◌≡◌, refl, sym, ap, ◌∙◌, subst}
use mathlib.Core.List.{List, [], ◌∷◌, ◌++◌}
use Prim.Native.Nat.{ℕ, zero, suc, ◌+◌, ◌*◌, ◌≤◌}
use native.Mathlib.Nat.{mul-suc, mul-le-mul_left}
use native.Mathlib.Numerals.{add-one}
use native.Mathlib.Omega.{arith}
use lib.ListN.{length}
use Rattle.logic.specs.Formula.{root, Forest, Plan, kind_number, node_count, child_depth}
use Rattle.table_format.specs.Bytes.{record_length}
use Rattle.table_format.specs.Rules.{tree_count}
use Rattle.table_format.specs.inner.Tests.{below_root}
use Rattle.table_format.proofs.Encoding.{length-records, decode-sound, one-plan}
use Rattle.table_format.proofs.Ready.{ready}
use Rattle.table_format.proofs.Rooted.{rooted}
use Rattle.text_tree.specs.Tree.{letters_of, too_deep}
use Rattle.text_form.specs.Form.{set_byte, own_level, child_level, needs_brackets, enclosed, node_tree, beside, children_tree, tree_of, sets_from, sets_of}
use Rattle.text_form.specs.Spelling.{tree_bytes, text_bytes, plan_text}
use Rattle.text_put.specs.inner.Puts.{Puts}
use Rattle.text_put.proofs.Putting.{puts-more}
use Rattle.text_write.specs.declared.Extent.{Extent}
use Rattle.text_write.specs.inner.Forming.{forest_bytes, forest_deep, FormPlaced, Forms, FormReady, FormedPlan, FormsPlan}
use Rattle.text_write.proofs.Trees.{children-bytes, children-deep}

-- the letters of so many sets
abbrev pub letters : ℕ → List ℕ
letters n = letters_of (sets_from (set_byte 0) n)

letters-more : (letter n : ℕ) → letters_of (sets_from letter (suc n)) ≡ letters_of (sets_from letter n) ++ ((letter + n) ∷ [])
unfolding letters_of sets_from
letters-more letter zero = let e : letter ≡ letter + 0 = omega arith in ap (λ (x : ℕ). x ∷ []) e
letters-more letter (suc n) = let e : suc letter + n ≡ letter + suc n = omega arith in ap (λ (x : List ℕ). letter ∷ x) (letters-more (suc letter) n ∙ ap (λ (x : ℕ). letters_of (sets_from (suc letter) n) ++ (x ∷ [])) e)

pub letters-long : (letter n : ℕ) → length (letters_of (sets_from letter n)) ≡ n
unfolding letters_of sets_from
letters-long letter zero = refl
letters-long letter (suc n) = ap suc (letters-long (suc letter) n)

-- one letter more
pub puts-letter : (at : ℕ) (out m o : List ℕ) (s end : ℕ) → Puts at (letters s) out (at + s) m → Puts (at + s) ((65 + s) ∷ []) m end o → Puts at (letters (s + 1)) out (at + (s + 1)) o
unfolding set_byte
puts-letter at out m o s end P Q =
    let n : end ≡ at + (s + 1) = omega (arith, Q.end_is) in
    rw (add-one s, letters-more 65 s, ← add-one s, ← n) (puts-more at out (letters s) ((65 + s) ∷ []) (at + s) end m o P Q)

-- what a root over c is written as
rooted-text : (u n : ℕ) (c : Forest) → plan_text (rooted u n c) ≡ (91 ∷ []) ++ (letters n ++ ((93 ∷ 32 ∷ []) ++ tree_bytes (children_tree root c 0)))
unfolding plan_text text_bytes sets_of tree_of children_tree beside enclosed needs_brackets child_level own_level node_tree child_depth
rooted-text u n c = refl

rooted-tree : (u n : ℕ) (c : Forest) → tree_of (rooted u n c) ≡ children_tree root c 0
unfolding tree_of children_tree beside enclosed needs_brackets child_level own_level node_tree child_depth
rooted-tree u n c = refl

-- the records below the root of a plan, where its declaration ends
pub placed_below : (bytes : List ℕ) (sets nodes at : ℕ) → FormReady bytes sets nodes → at ≤ 19 → FormPlaced (below_root bytes nodes) 1 0 0 at
placed_below bytes sets nodes at p h =
    let r = ready bytes p.plan nodes p.decodes p.nodes-are in
    let f = r.facts in
    let l : length (below_root bytes nodes) ≡ record_length * node_count r.below = ap length r.part ∙ length-records r.below 1 0 in
    let n : suc (node_count r.below) ≤ 512 = f.nodes512 in
    record {
      forest = r.below;
      up = 0;
      sets = p.plan.sets;
      is = r.part;
      sets16 = f.sets16;
      rules = f.rules;
      nodes = omega (arith, l, mul-suc record_length (node_count r.below), mul-le-mul_left record_length n);
      depth4 = omega arith;
      room = omega arith;
      nests = omega arith;
    }

-- a plan's text, put piece by piece
pub plan-formed : (bytes : List ℕ) (sets nodes : ℕ) → FormReady bytes sets nodes → (out x y z v : List ℕ) (p q at : ℕ) (r : Extent)
    → Puts 0 (91 ∷ []) out p x → Puts p (letters sets) x q y → Puts q (93 ∷ 32 ∷ []) y at z → Forms (below_root bytes nodes) 1 0 0 0 at z v r → FormsPlan bytes out v r
unfolding Forms FormsPlan
plan-formed bytes sets nodes R out x y z v p q at r A B C F P d =
    let same : R.plan ≡ P = one-plan bytes R.plan P (decode-sound bytes R.plan R.decodes) (decode-sound bytes P d) in
    let t = ready bytes R.plan nodes R.decodes R.nodes-are in
    let K = F t.below 0 t.part in
    let rule = t.facts.rules in
    let some : 1 ≤ tree_count t.below = omega (arith, t.facts.one) in
    let bytes-are : forest_bytes 0 t.below 0 ≡ tree_bytes (children_tree root t.below 0) = unfold kind_number in children-bytes R.plan.sets root t.below 0 rule some in
    let deep-are : forest_deep 0 0 t.below ≡ too_deep 0 (children_tree root t.below 0) = unfold kind_number in children-deep R.plan.sets root t.below 0 0 rule some in
    let whole : Puts 0 ((91 ∷ []) ++ (letters sets ++ ((93 ∷ 32 ∷ []) ++ forest_bytes 0 t.below 0))) out r.end v =
    puts-more 0 out (91 ∷ []) _ p r.end x v A (puts-more p x (letters sets) _ q r.end y v B (puts-more q y (93 ∷ 32 ∷ []) _ at r.end z v C K.puts)) in
    let text-is : (91 ∷ []) ++ (letters sets ++ ((93 ∷ 32 ∷ []) ++ forest_bytes 0 t.below 0)) ≡ plan_text (rooted R.plan.ports R.plan.sets t.below) =
    (λ j. (91 ∷ []) ++ (letters (R.sets-are j) ++ ((93 ∷ 32 ∷ []) ++ bytes-are j))) ∙ sym (rooted-text R.plan.ports R.plan.sets t.below) in
    subst (λ (Q : Plan). FormedPlan Q out v r) same
    (subst (λ (Q : Plan). FormedPlan Q out v r) (sym t.is-root)
    (record {
      puts = subst (λ (b : List ℕ). Puts 0 b out r.end v) text-is whole;
      deep_is = K.deep_is ∙ deep-are ∙ ap (too_deep 0) (sym (rooted-tree R.plan.ports R.plan.sets t.below));
    }))
