-- The writers of a core's records, by the last record of the tree. Assumes nothing.
use mathlib.Core.Path.{◌≡◌, refl, sym, ap, ◌∙◌}
use mathlib.Core.Bool.{Bool, true, false, not, true≢false}
use mathlib.Core.List.{List, ◌∷◌}
use mathlib.Core.Logic.{◌⊎◌, inl, inr}
use Prim.Native.Nat.{ℕ, ◌+◌, ◌*◌, ◌-◌, ◌≤◌, ◌<◌}
use native.Mathlib.Omega.{arith}
use lib.Dec.{leb}
use lib.ListN.{length, get_or}
use borrow.Author.Tests.{leb-false, lt-ltb}
use Rattle.logic.specs.Formula.{Node, none, tree, kind_number}
use Rattle.logic.proofs.Lists.{or_left, or_right, or-true-left}
use Rattle.text_tree.specs.Tree.{Quantifier, forall, exists, Join, conj, disj, imp, rev, iff, Tree, par, bind, join}
use Rattle.text_tree.specs.inner.Stored.{quantifier_operator, join_operator, Record, Stored, literal_code}
use Rattle.text_core.specs.Names.{fourth, Lettered}
use Rattle.text_core.specs.Core.{alone, inside, joint_node, quantifier_node, literal_at, place}
use Rattle.text_tree.proofs.Table.{stored-after, stored-within, on-leaf, on-neg, on-bind, on-join}
use Rattle.text_tree.proofs.Joins.{join-other, join-no-negation}
use Rattle.text_core.proofs.Siblings.{place-before}
use Rattle.table_format.specs.Bytes.{record_length, relation_byte, a_byte, b_byte, record_of}
use Rattle.text_emit.specs.declared.Bound.{Bound}
use Rattle.text_emit.specs.declared.Up.{Up}
use Rattle.table_format.specs.declared.Fields.{Fields}
use Rattle.text_emit.specs.inner.Fields.{Shows, bound_letters, BindsLetter, QuantifierIs, LiteralIs}
use Rattle.table_format.specs.inner.Written.{field_bytes, Written, Records}
use Rattle.text_emit.specs.inner.Emits.{above_of, joint_at, left_at, right_at, JointIs, LeftIs, RightIs, row_of, EmitsLiteral, Emittable, Emits, core, EmitsJoin, EmitsRow, GoesOn, EmitsOnward}
use Rattle.text_emit.proofs.Forests.{shown, records-both, records-tree, records-full, records-none}
use Rattle.text_emit.proofs.Joints.{join-operands, operands-two, above-joint, joint-merged, joint-own, above-quantifier}

-- a record written from a node's own bytes
pub recorded : (f : Fields) (n : Node) (at parent end : ℕ) (M O : List ℕ) → Shows f n → Written at (field_bytes f parent end) M O
    → Written at (record_of n parent end) M O
recorded f n at parent end M O s w = rw (← shown f n parent end s) w

-- an operator that is no literal's and no quantifier's or negation's is a join's
pub join-low : (n : ℕ) → literal_code n ≡ false → (n < 2) ⊎ (5 ≤ n) → 5 ≤ n
unfolding literal_code
join-low n h (inl l) = absurd (true≢false (sym (or-true-left _ _ (lt-ltb n 2 l)) ∙ h))
join-low n h (inr g) = g

-- a literal's record
module _ (operator payload : ℕ) (sets : List ℕ) (b : Bound) (p : Bool) (parent i : ℕ) (B O : List ℕ) where
  pub literal-full : record_length * i ≤ length B → length B < record_length * (i + 1) → EmitsLiteral operator payload sets b p parent i B O i
  literal-full h g = record { placed = h; writes = λ l R. records-full _ none none parent i i B O g }

  pub literal-put : (f : Fields) → record_length * (i + 1) ≤ length B → LiteralIs sets operator payload b p f
      → Written (record_length * i) (field_bytes f parent (i + 1)) B O → EmitsLiteral operator payload sets b p parent i B O (i + 1)
  unfolding LiteralIs literal_at
  literal-put f h L W = record {
    placed = h;
    writes = λ l R. records-tree _ none parent i (i + 1) B B O (records-none i i B) (recorded f _ _ parent (i + 1) B O (L l.test R) W);
  }

-- a node with no relation, a and b
abbrev Plain : Node → Type 0
Plain n = (relation_byte n ≡ 0) × (a_byte n ≡ 0) × (b_byte n ≡ 0)

plain-joint : (j : Bool) → Plain (joint_node j)
unfolding joint_node relation_byte a_byte b_byte
plain-joint true = (refl, refl, refl)
plain-joint false = (refl, refl, refl)

plain-quantifier : (p : Bool) (q : Quantifier) → Plain (quantifier_node p q)
unfolding quantifier_node relation_byte a_byte b_byte
plain-quantifier true forall = (refl, refl, refl)
plain-quantifier true exists = (refl, refl, refl)
plain-quantifier false forall = (refl, refl, refl)
plain-quantifier false exists = (refl, refl, refl)

abbrev pub PlainFields : ℕ → Fields → Type 0
PlainFields k f = (f.kind ≡ k) × (f.relation ≡ 0) × (f.a ≡ 0) × (f.b ≡ 0)

pub plain-shows : (k : ℕ) (f : Fields) (n : Node) → PlainFields k f → k ≡ kind_number n → Plain n → Shows f n
plain-shows k f n F e P = record {
  kind-is = F.0 ∙ e;
  relation-is = F.1 ∙ sym P.0;
  a-is = F.2 ∙ sym P.1;
  b-is = F.3 ∙ sym P.2;
}

-- the tree whose records end at e
module _ (t : List ℕ) (e : ℕ) (sets : List ℕ) (b : Bound) (p : Bool) (up : Up) (i : ℕ) (B O : List ℕ) where
  pub emits-early : record_length * i ≤ length B → e < 2 → Emits t e sets b p up i B O i
  emits-early h g = record { placed = h; writes = λ a S. absurd (omega (arith, stored-after S.stored)) }

  pub emits-past : record_length * i ≤ length B → length t < e → Emits t e sets b p up i B O i
  emits-past h g = record { placed = h; writes = λ a S. absurd (omega (arith, stored-within S.stored)) }

  module _ (r : ℕ) where
    abbrev Goal : Tree → Type 0
    Goal a = Lettered a → fourth b.count a ≡ false → Records (place sets (bound_letters b) p a (above_of up.kind) none) up.number i B O r

    through : (a : Tree) → Goal a → Goal (par a)
    unfolding Lettered fourth place
    through a h = h

    -- a statement of every stored tree
    of-goal : record_length * r ≤ length B → ((a : Tree) → Stored t e a → Goal a) → Emits t e sets b p up i B O r
    of-goal h G = record { placed = h; writes = λ a S. G a S.stored S.lettered S.shallow }

    pub emits-leaf : literal_code (get_or t (e - 1) 0) ≡ true → EmitsLiteral (get_or t (e - 1) 0) (get_or t (e - 2) 0) sets b p up.number i B O r
        → Emits t e sets b p up i B O r
    unfolding Lettered place
    emits-leaf h L = of-goal L.placed (on-leaf t e Goal through h
        (λ l d q f. L.writes l record { operator-is = d.operator-is; payload-is = d.payload-is; lettered = q }))

    pub emits-neg : get_or t (e - 1) 0 ≡ 2 → Emits t (e - 2) sets b (not p) up i B O r → Emits t e sets b p up i B O r
    unfolding Lettered fourth place
    emits-neg h E = of-goal E.placed (on-neg t e Goal through h
        (λ a d l f. E.writes a record { stored = d; lettered = l; shallow = f }))

    module _ (other : literal_code (get_or t (e - 1) 0) ≡ false) (kept : get_or t (e - 1) 0 ≡ 2 → ⊥) where
      pub emits-full : record_length * r ≤ length B → get_or t (e - 1) 0 < 5 → length B < record_length * (i + 1) → Emits t e sets b p up i B O r
      unfolding place
      emits-full h l g = of-goal h (on-bind t e Goal through other kept l (λ q v a d s n f. records-full _ _ none up.number i r B O g))

      pub emits-bind : (M : List ℕ) (k : ℕ) (c : Bound) (F : Fields) → length M ≡ length B → get_or t (e - 1) 0 < 5 → QuantifierIs p (get_or t (e - 1) 0) k
          → BindsLetter b (get_or t (e - 2) 0) c → Emits t (e - 2) sets c p (record { kind = k; number = i }) (i + 1) B M r → PlainFields k F
          → Written (record_length * i) (field_bytes F up.number r) M O → Emits t e sets b p up i B O r
      unfolding Lettered fourth place QuantifierIs
      emits-bind M k c F same l K C E P W = of-goal E.placed (on-bind t e Goal through other kept l (λ q v a d s n f. go q v a d s n f))
        where
          go : (q : Quantifier) (v : ℕ) (a : Tree) → Record t e v (quantifier_operator q) → Stored t (e - 2) a → Lettered (bind q v a)
              → fourth b.count (bind q v a) ≡ false
              → Records (tree (quantifier_node p q) (place sets (v ∷ bound_letters b) p a alone none) none) up.number i B O r
          go q v a d s n f =
              let few : b.count < 3 = leb-false 3 b.count (or_left (leb 3 b.count) _ f) in
              let kind : k ≡ kind_number (quantifier_node p q) = K q d.operator-is in
              let bound : bound_letters c ≡ v ∷ bound_letters b = C.letters-are few ∙ ap (λ (x : ℕ). x ∷ bound_letters b) d.payload-is in
              let deep : fourth c.count a ≡ false = ap (λ (x : ℕ). fourth x a) (C.count-is few) ∙ or_right (leb 3 b.count) _ f in
              let above : above_of k ≡ alone = ap above_of kind ∙ above-quantifier p q in
              records-tree (quantifier_node p q) _ up.number i r B M O
              (rw (bound, above) at (E.writes a record { stored = s; lettered = n.1; shallow = deep }))
              (recorded F _ _ up.number r M O (plain-shows k F _ P kind (plain-quantifier p q)) W)

      pub emits-cut : record_length * r ≤ length B → 5 ≤ get_or t (e - 1) 0 → e - 2 < get_or t (e - 2) 0 → Emits t e sets b p up i B O r
      emits-cut h l g = of-goal h (on-join t e Goal through other kept l (λ j x y o m c d. absurd (omega arith)))

      pub emits-join : 5 ≤ get_or t (e - 1) 0 → EmitsJoin t (get_or t (e - 2) 0) (e - 2) (get_or t (e - 1) 0) sets b p up i B O r → Emits t e sets b p up i B O r
      unfolding Lettered fourth place
      emits-join l E = of-goal E.placed (on-join t e Goal through other kept l
          (λ j x y o m c d n f. E.writes j o x y
          record { stored = c; lettered = n.0; shallow = or_left (fourth b.count x) _ f }
          record { stored = d; lettered = n.1; shallow = or_right (fourth b.count x) _ f }))

-- two trees joined by an operator
module _ (t : List ℕ) (m e operator : ℕ) (sets : List ℕ) (b : Bound) (p : Bool) (up : Up) (i : ℕ) (B O : List ℕ) where
  pub join-merged : (k r : ℕ) → JointIs operator p k → k ≡ up.kind → EmitsRow t m e operator sets b p up i B O r
      → EmitsJoin t m e operator sets b p up i B O r
  unfolding JointIs
  join-merged k r J h E = record {
    placed = E.placed;
    writes = λ j o x y X Y.
        let above : above_of up.kind ≡ inside (joint_at j p) = ap above_of (sym h ∙ J j o) ∙ above-joint (joint_at j p) in
        rw (join-operands, above, joint-merged) (E.writes j o above x y X Y);
  }

  pub join-full : (k r : ℕ) → JointIs operator p k → (k ≡ up.kind → ⊥) → record_length * r ≤ length B → length B < record_length * (i + 1)
      → EmitsJoin t m e operator sets b p up i B O r
  unfolding JointIs
  join-full k r J h g l = record {
    placed = g;
    writes = λ j o x y X Y.
        rw (join-operands, joint-own (joint_at j p) up.kind _ none (λ q. h (J j o ∙ q))) (records-full _ _ none up.number i r B O l);
  }

  pub join-own : (M : List ℕ) (k r : ℕ) (F : Fields) → JointIs operator p k → (k ≡ up.kind → ⊥)
      → EmitsRow t m e operator sets b p (record { kind = k; number = i }) (i + 1) B M r → PlainFields k F
      → Written (record_length * i) (field_bytes F up.number r) M O → EmitsJoin t m e operator sets b p up i B O r
  unfolding JointIs
  join-own M k r F J h E P W = record {
    placed = E.placed;
    writes = λ j o x y X Y.
        let kind : k ≡ kind_number (joint_node (joint_at j p)) = J j o in
        let above : above_of k ≡ inside (joint_at j p) = ap above_of kind ∙ above-joint (joint_at j p) in
        rw (join-operands, joint-own (joint_at j p) up.kind _ none (λ q. h (kind ∙ q)))
        (records-tree _ _ up.number i r B M O (E.writes j o above x y X Y)
        (recorded F _ _ up.number r M O (plain-shows k F _ P kind (plain-joint (joint_at j p))) W));
  }

  -- the operands: two parts
  pub operands-parts : (M : List ℕ) (n r : ℕ) (x y : Bool) → operator < 9 → length M ≡ length B → LeftIs operator p x → RightIs operator p y
      → Emits t m sets b x up i B M n → Emits t e sets b y up n M O r → EmitsRow t m e operator sets b p up i B O r
  unfolding LeftIs RightIs
  operands-parts M n r x y low same L R E F = record {
    placed = rw (← same) F.placed;
    writes = λ j o above v w X Y.
        let two = operands-two j p (core sets b v) (core sets b w) (omega (arith, o)) in
        let G : Records (core sets b v (left_at j p) (inside (joint_at j p)) none) up.number i B M n = rw (← above, ← L j o) (E.writes v X) in
        let H : Records (core sets b w (right_at j p) (inside (joint_at j p)) none) up.number n M O r = rw (← above, ← R j o) (F.writes w Y) in
        rw (two, place-before sets (bound_letters b) (left_at j p) v (inside (joint_at j p)) (core sets b w (right_at j p) (inside (joint_at j p)) none))
        (records-both _ _ up.number i n r B M O G H same);
  }

  -- the operands of `<->`
  pub operands-arrows : (M : List ℕ) (n r : ℕ) → 9 ≤ operator → length M ≡ length B → EmitsJoin t m e 7 sets b p up i B M n → EmitsJoin t m e 8 sets b p up n M O r
      → EmitsRow t m e operator sets b p up i B O r
  unfolding join_operator
  operands-arrows M n r high same E F = record { placed = rw (← same) F.placed; writes = go }
    where
      go : (j : Join) → operator ≡ join_operator j → above_of up.kind ≡ inside (joint_at j p) → (x y : Tree) → Emittable t m b.count x → Emittable t e b.count y
          → Records (row_of j p (core sets b x) (core sets b y) none) up.number i B O r
      go conj o above x y X Y = absurd (omega arith)
      go disj o above x y X Y = absurd (omega arith)
      go imp o above x y X Y = absurd (omega arith)
      go rev o above x y X Y = absurd (omega arith)
      go iff o above x y X Y = unfold row_of joint_at place in
          let G = rw above at (E.writes imp refl x y X Y) in
          let H = rw above at (F.writes rev refl x y X Y) in
          rw (place-before sets (bound_letters b) p (join imp x y) (inside p) (place sets (bound_letters b) p (join rev x y) (inside p) none))
          (records-both _ _ up.number i n r B M O G H same)

-- the parts of a joint, one after the other: none yet, and one more where the last part goes on with the joint
module _ (t : List ℕ) (e : ℕ) (sets : List ℕ) (b : Bound) (p : Bool) (up : Up) (i : ℕ) (B : List ℕ) where
  pub onward-begun : record_length * i ≤ length B → EmitsOnward t e sets b p up i B i e p B
  onward-begun h = record { placed = h; same_length = refl; last-low = omega arith; onward = λ O r F. F }

  pub onward-next : (N M : List ℕ) (n k last : ℕ) (q x y : Bool) → EmitsOnward t e sets b p up i B n last q N → GoesOn t last q up.kind
      → length M ≡ length N → LeftIs (get_or t (last - 1) 0) q x → RightIs (get_or t (last - 1) 0) q y
      → Emits t (get_or t (last - 2) 0) sets b x up n N M k → EmitsOnward t e sets b p up i B k (last - 2) y M
  onward-next N M n k last q x y W G same L R E = record {
    placed = rw (← W.same_length) E.placed;
    same_length = same ∙ W.same_length;
    last-low = omega (arith, W.last-low);
    onward = λ O r F. W.onward O r
        (emits-join t last sets b q up n N O r
        (join-other t last G.join)
        (join-no-negation t last G.join)
        G.join.low
        (join-merged t (get_or t (last - 2) 0) (last - 2) (get_or t (last - 1) 0) sets b q up n N O up.kind r G.joint refl
        (operands-parts t (get_or t (last - 2) 0) (last - 2) (get_or t (last - 1) 0) sets b q up n N O M k r x y G.single same L R E F)));
  }
