-- The links of parts that one sign joins, and the joins written for them. Assumes nothing.
use mathlib.Core.Path.{◌≡◌, refl, sym, ap, ◌∙◌}
use mathlib.Core.List.{List, [], ◌∷◌}
use Prim.Native.Nat.{ℕ, ◌+◌, ◌*◌, ◌-◌, ◌≤◌, ◌<◌}
use native.Mathlib.Omega.{arith}
use lib.ListN.{length, get_or, set}
use Rattle.text_tree.specs.Tree.{Join, Tree, join}
use Rattle.text_tree.specs.inner.Stored.{join_operator, Stored, of-join}
use Rattle.text_tree.specs.inner.Links.{Left, Linked, no-link, link, AllStored, none-stored, one-stored, joined_to, with_joins, JoinsRoom, JoinsWritten}
use Rattle.text_tree.proofs.Records.{pushed, record-kept, stored-kept, before-record}

pub linked-from : {t : List ℕ} {n e : ℕ} {ps : List Left} → Linked t n e ps → n ≤ e
linked-from no-link = omega arith
linked-from (link r i b d) = omega (arith, r.after, linked-from d)

-- links and parts depend only on the numbers before their end
pub linked-kept : {t : List ℕ} {n e : ℕ} {ps : List Left} → Linked t n e ps → (u : List ℕ) → length u ≡ length t → ((i : ℕ) → i < e → get_or u i 0 ≡ get_or t i 0) → Linked u n e ps
linked-kept no-link u w k = no-link
linked-kept (link r i b d) u w k = link (record-kept r u w k) i b (linked-kept d u w (λ x q. k x (omega arith)))

pub all-kept : {t : List ℕ} {n e : ℕ} {ps : List Left} → Linked t n e ps → AllStored t ps → (u : List ℕ) → length u ≡ length t → ((i : ℕ) → i < e → get_or u i 0 ≡ get_or t i 0) → AllStored u ps
all-kept no-link none-stored u w k = none-stored
all-kept (link r i b d) (one-stored a others) u w k =
    one-stored (stored-kept a u w (λ x q. k x (omega (arith, i)))) (all-kept d others u w (λ x q. k x (omega arith)))

-- the table with the joins
pub joins_long : (operator : ℕ) (ps : List Left) (t : List ℕ) (e : ℕ) → e + 2 * length ps ≤ length t → length (with_joins operator ps t e) ≡ length t
unfolding with_joins
joins_long operator [] t e h = refl
joins_long operator (p ∷ ps) t e h =
    let U = pushed t _ e p.ends operator (omega arith) refl in
    joins_long operator ps _ (e + 2) (omega (arith, U.same)) ∙ U.same

pub joins-kept : (operator : ℕ) (ps : List Left) (t : List ℕ) (e : ℕ) → e + 2 * length ps ≤ length t → (i : ℕ) → i < e → get_or (with_joins operator ps t e) i 0 ≡ get_or t i 0
unfolding with_joins
joins-kept operator [] t e h i l = refl
joins-kept operator (p ∷ ps) t e h i l =
    let U = pushed t _ e p.ends operator (omega arith) refl in
    joins-kept operator ps _ (e + 2) (omega (arith, U.same)) i (omega arith) ∙ U.kept i l

-- stores the tree of all parts
pub joins-stored : (j : Join) (ps : List Left) (t : List ℕ) (n last e : ℕ) (b : Tree) → Linked t n last ps → last ≤ e → e + 2 * length ps ≤ length t → AllStored t ps → Stored t e b
    → Stored (with_joins (join_operator j) ps t e) (e + 2 * length ps) (joined_to j ps b)
unfolding with_joins joined_to
joins-stored j [] t n last e b no-link h g none-stored d = let w : e + 2 * 0 ≡ e = omega arith in rw w d
joins-stored j (p ∷ ps) t n last e b (link {back = back} r w m L) h g (one-stored a others) d =
    let u = set (set t e p.ends) (e + 1) (join_operator j) in
    let U = pushed t u e p.ends (join_operator j) (omega arith) refl in
    let kept : (i : ℕ) → i < back → get_or u i 0 ≡ get_or t i 0 = λ i q. U.kept i (omega arith) in
    let left = stored-kept a u U.same (λ i q. U.kept i (omega (arith, w))) in
    let both = of-join U.is (omega (arith, w)) left (before-record (stored-kept d u U.same U.kept)) in
    let place : e + 2 + 2 * length ps ≡ e + 2 * length (p ∷ ps) = omega arith in
    rw (← place) (joins-stored j ps u n back (e + 2) (join j p.tree b) (linked-kept L u U.same kept) (omega arith) (omega (arith, U.same)) (all-kept L others u U.same kept) both)

-- the loop that writes them: what is left to write behind place `end` of the table u is what was to write behind place e of t
pub record Rest (parts : List Left) (t u : List ℕ) (n e operator last end : ℕ) : Type 0 where
  pub left : List Left
  pub linked : Linked u n last left
  pub behind : last ≤ end
  pub ends : end + 2 * length left ≡ e + 2 * length parts
  pub same : with_joins operator left u end ≡ with_joins operator parts t e
  pub long : length u ≡ length t

abbrev pub Writing : List ℕ → List ℕ → ℕ → ℕ → ℕ → ℕ → ℕ → ℕ → Type 0
Writing t u n first e operator last end = (parts : List Left) → Linked t n first parts → Rest parts t u n e operator last end

pub writing_start : (t : List ℕ) (n last e operator : ℕ) → JoinsRoom t n last e → Writing t t n last e operator last e
writing_start t n last e operator room parts L = record { left = parts; linked = L; behind = room.behind; ends = refl; same = refl; long = refl }

-- a link that is there
pub record Back (u : List ℕ) (n last : ℕ) (left : List Left) : Type 0 where
  pub part : Left
  pub others : List Left
  pub are : left ≡ part ∷ others
  pub low : 2 ≤ last
  pub within : last ≤ length u
  pub ends : part.ends ≡ last - 2
  pub back : get_or u (last - 2) 0 ≤ last - 2
  pub linked : Linked u n (get_or u (last - 2) 0) others

a-link : (u : List ℕ) (n last : ℕ) (left : List Left) → Linked u n last left → (last ≡ n → ⊥) → Back u n last left
a-link u n last left no-link z = absurd (z refl)
a-link u n last (p ∷ ps) (link r w b d) z =
    record { part = p; others = ps; are = refl; low = r.after; within = r.within; ends = w; back = rw r.payload-is b; linked = rw r.payload-is d }

module _ (t u : List ℕ) (n first e operator last end : ℕ) (room : JoinsRoom t n first e) (W : Writing t u n first e operator last end) (z : last ≡ n → ⊥) where
  ours : Rest room.parts t u n e operator last end
  ours = W room.parts room.linked

  there : Back u n last ours.left
  there = a-link u n last ours.left ours.linked z

  -- there is room for one join more
  pub one_room : (2 ≤ last) × (last ≤ end) × (end + 2 ≤ 8192) × (8192 ≤ length u) × (get_or u (last - 2) 0 < last)
  one_room =
      let some : length ours.left ≡ length (there.part ∷ there.others) = ap length there.are in
      let fits : end + 2 ≤ 8192 = omega (arith, some, ours.ends, room.room) in
      (there.low, ours.behind, fits, omega (arith, ours.long, room.wide), omega (arith, there.back, there.low))

  pub writing-on : (u' : List ℕ) → u' ≡ set (set u end (last - 2)) (end + 1) operator → (back : ℕ) → back ≡ get_or u (last - 2) 0 → Writing t u' n first e operator back (end + 2)
  unfolding with_joins
  writing-on u' w back E parts L =
      let R = W parts L in
      let B = a-link u n last R.left R.linked z in
      let U = pushed u u' end (last - 2) operator (omega (arith, one_room)) w in
      let some : length R.left ≡ length (B.part ∷ B.others) = ap length B.are in
      let one : with_joins operator (B.part ∷ B.others) u end ≡ with_joins operator B.others u' (end + 2) =
      ap (λ (x : ℕ). with_joins operator B.others (set (set u end x) (end + 1) operator) (end + 2)) B.ends ∙ ap (λ (x : List ℕ). with_joins operator B.others x (end + 2)) (sym w) in
      record {
        left = B.others;
        linked = rw E (linked-kept B.linked u' U.same (λ i q. U.kept i (omega (arith, B.back, R.behind))));
        behind = omega (arith, E, B.back, R.behind);
        ends = omega (arith, some, R.ends);
        same = sym one ∙ ap (λ (x : List Left). with_joins operator x u end) (sym B.are) ∙ R.same;
        long = U.same ∙ R.long;
      }

none_left : (u : List ℕ) (n last : ℕ) (left : List Left) → Linked u n last left → last ≡ n → left ≡ []
none_left u n last left no-link z = refl
none_left u n last (p ∷ ps) (link r w b d) z = absurd (omega (arith, r.after, linked-from d))

pub written : (t u : List ℕ) (n first e operator last end : ℕ) → Writing t u n first e operator last end → last ≡ n → (parts : List Left) → Linked t n first parts → JoinsWritten parts t u e operator end
unfolding with_joins
written t u n first e operator last end W z parts L =
    let R = W parts L in
    let none = none_left u n last R.left R.linked z in
    let few : length R.left ≡ 0 = ap length none in
    record { is = ap (λ (x : List Left). with_joins operator x u end) (sym none) ∙ R.same; ends = omega (arith, few, R.ends) }
