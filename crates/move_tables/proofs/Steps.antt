-- The steps over an atom: what they give for every tree that may stand there. Assumes nothing.
use mathlib.Core.Path.{◌≡◌, refl, sym, ◌∙◌, subst}
use mathlib.Core.Bool.{Bool, true, false}
use mathlib.Core.List.{List, ◌∷◌}
use Prim.Native.Nat.{ℕ, ◌+◌, ◌*◌}
use native.Mathlib.Omega.{arith}
use lib.ListN.{length, get_or, set}
use Rattle.logic.specs.Formula.{Node, Forest, none, tree, Plan, node_count}
use Rattle.table_format.specs.Bytes.{kind_field, record_at}
use Rattle.move_slots.specs.inner.Slots.{AtomReady, SlotRoom, TakesSlots, JointsReady, TakesJoints, SinglesTaken, JointsTaken}
use Rattle.move_tables.specs.declared.Left.{Left}
use Rattle.move_tables.specs.inner.Taking.{NoneBinds, Crossed, is_sum, PlanGiven, ForestStands, MovesTaken, TakeReady, TakesTree}
use Rattle.move_tables.proofs.Standing.{node-low, alone, uses-here, atom-here, flat-here, tree-ready, atom-given}
use Rattle.move_tables.proofs.Listing.{entry, hard-put, crossing-put, tree-stands}
use Rattle.move_tables.proofs.Taking.{hard-taken, flat-taken, crossing-taken}

module _ (u sets : ℕ) (bytes firsts ends uses masks sizes cells : List ℕ) (i d : ℕ) (transfers : Bool) (one still joint lists : List ℕ) (left : Left)
    (atom : is_sum (kind_field (record_at bytes i)) ≡ false) where
  pub hard-tree : (left' : Left) (v : ℕ) → length lists ≡ 1024 → v ≡ 4 * i + d → left'.hards ≡ left.hards + 1 → left'.crossed ≡ left.crossed
      → TakesTree u sets bytes firsts ends uses masks sizes cells i d transfers one still joint lists left one still joint (set lists left.hards v) left'
  unfolding TakesTree node_count
  hard-tree left' v long k h e P n c s b g w xs ys given few few-crossed = record {
    listed = entry i d n c s b ∷ xs;
    crossing = ys;
    given = hard-put u sets bytes firsts ends uses cells given long v i d k n c s b (tree-stands w P g) (omega (arith, node-low w)) h e;
    few = omega arith;
    few-crossed = omega arith;
    moves = subst (λ (x : ℕ). MovesTaken x masks sizes cells P transfers (tree n c none) b d one still joint xs ys one still joint (entry i d n c s b ∷ xs) ys) (sym g.ports-are)
        (hard-taken P masks sizes cells g.ready n c b d (tree-ready w P g) (atom-here w atom) transfers one still joint xs ys i s);
  }

  module _ (until : ℕ) (one' still' joint' mine own : List ℕ) (e : until ≡ get_or ends i 0) (none-binds : NoneBinds bytes i until)
      (slots : TakesSlots u sets bytes firsts ends uses masks sizes cells i d one still one' still' mine own)
      (joints : transfers ≡ true → TakesJoints u sets bytes firsts ends uses masks sizes cells i d mine own joint joint') where
    -- the steps' results at a tree that stands there
    module _ (P : Plan) (n : Node) (c s : Forest) (b : ℕ) (g : PlanGiven u sets masks sizes cells P)
        (w : ForestStands u sets bytes firsts ends uses cells i (tree n c s) b d) where
      singles-here : SinglesTaken P.ports P.sets masks sizes cells n c b d one still one' still'
      unfolding TakesSlots
      singles-here =
          let r = slots P n c none b (atom-given w P g (flat-here w until e none-binds)) in
          subst (λ (x : ℕ). SinglesTaken x P.sets masks sizes cells n c b d one still one' still') g.ports-are
          (subst (λ (x : ℕ). SinglesTaken u x masks sizes cells n c b d one still one' still') g.sets-are r.singles)

      joints-here : transfers ≡ true → JointsTaken P.ports P.sets (get_or masks P.sets 0) masks sizes cells n c b d joint joint'
      unfolding TakesSlots TakesJoints
      joints-here t =
          let a = atom-given w P g (flat-here w until e none-binds) in
          subst (λ (x : ℕ). JointsTaken x P.sets (get_or masks P.sets 0) masks sizes cells n c b d joint joint') g.ports-are
          (subst (λ (x : ℕ). JointsTaken u x (get_or masks x 0) masks sizes cells n c b d joint joint') g.sets-are
          (joints t P n c none b a (slots P n c none b a).own-are))

    pub flat-tree : (word : ℕ) → word ≡ 0 → Crossed (get_or uses i 0) word
        → TakesTree u sets bytes firsts ends uses masks sizes cells i d transfers one still joint lists left one' still' joint' lists left
    unfolding TakesTree node_count
    flat-tree word z cross P n c s b g w xs ys given few few-crossed = record {
      listed = xs;
      crossing = ys;
      given = given;
      few = omega arith;
      few-crossed = omega arith;
      moves = subst (λ (x : ℕ). MovesTaken x masks sizes cells P transfers (tree n c none) b d one still joint xs ys one' still' joint' xs ys) (sym g.ports-are)
          (flat-taken P masks sizes cells g.ready n c b d (tree-ready w P g) (atom-here w atom) (flat-here w until e none-binds) one still joint one' still' joint'
          (singles-here P n c s b g w) transfers (joints-here P n c s b g w) xs ys word z (subst (λ (x : ℕ). Crossed x word) (uses-here w) cross));
    }

    pub crossing-tree : (left' : Left) (v : ℕ) → length lists ≡ 1024 → v ≡ 4 * i + d → left'.hards ≡ left.hards → left'.crossed ≡ left.crossed + 1
        → TakesTree u sets bytes firsts ends uses masks sizes cells i d transfers one still joint lists left one' still' joint' (set lists (512 + left.crossed) v) left'
    unfolding TakesTree node_count
    crossing-tree left' v long k h f P n c s b g w xs ys given few few-crossed = record {
      listed = xs;
      crossing = entry i d n c none b ∷ ys;
      given = crossing-put u sets bytes firsts ends uses cells given long v i d k n c none b (tree-stands (alone w) P g) (omega (arith, node-low w)) refl (flat-here w until e none-binds) (alone w).regular
          (omega (arith, node-low w)) h f;
      few = omega arith;
      few-crossed = omega arith;
      moves = subst (λ (x : ℕ). MovesTaken x masks sizes cells P transfers (tree n c none) b d one still joint xs ys one' still' joint' xs (entry i d n c none b ∷ ys)) (sym g.ports-are)
          (crossing-taken P masks sizes cells g.ready n c b d (tree-ready w P g) (atom-here w atom) (flat-here w until e none-binds) one still joint one' still' joint'
          (singles-here P n c s b g w) transfers (joints-here P n c s b g w) xs ys i);
    }

-- what they ask
module _ {u sets : ℕ} {bytes firsts ends uses masks sizes cells : List ℕ} {i d : ℕ} {atom : Bool} {mine own one still joint lists : List ℕ} {left : Left}
    (h : TakeReady u sets bytes firsts ends uses masks sizes cells i d atom mine own one still joint lists left) (until : ℕ) (e : until ≡ get_or ends i 0)
    (none-binds : NoneBinds bytes i until) where
  pub slots-asked : AtomReady u sets bytes firsts ends uses masks sizes cells i d × SlotRoom mine own one still
  slots-asked = (
    record {
      plan = h.plan;
      node = h.node;
      children = h.children;
      siblings = none;
      first = h.first;
      given = atom-given h.stands h.plan h.given (flat-here h.stands until e none-binds);
    },
    record { mine-long = h.room.mine-long; own-long = h.room.own-long; one-long = h.room.one-long; still-long = h.room.still-long },
  )

  pub joints-asked : (mine' own' : List ℕ) → length mine' ≡ length mine → length own' ≡ length own
      → JointsReady u sets bytes firsts ends uses masks sizes cells i d mine' own' joint
  joints-asked mine' own' l k = record {
    plan = h.plan;
    node = h.node;
    children = h.children;
    siblings = none;
    first = h.first;
    given = atom-given h.stands h.plan h.given (flat-here h.stands until e none-binds);
    mine-long = l ∙ h.room.mine-long;
    own-long = k ∙ h.room.own-long;
    joint-long = h.room.joint-long;
  }
