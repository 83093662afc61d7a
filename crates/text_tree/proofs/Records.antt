-- Records of a tree in a table: one more is written, and those before it stay. Assumes nothing.
use mathlib.Core.Path.{◌≡◌, ◌∙◌}
use mathlib.Core.List.{List}
use Prim.Native.Nat.{ℕ, ◌+◌, ◌-◌, ◌≤◌, ◌<◌}
use native.Mathlib.Omega.{arith}
use lib.ListN.{length, get_or, set, length-set}
use lib.Seq.{get_or-set_same, get_or-set_other}
use Rattle.text_tree.specs.Tree.{Tree}
use Rattle.text_tree.specs.inner.Stored.{Record, Stored, of-leaf, of-neg, of-par, of-bind, of-join}

-- a record written at c
pub record Pushed (t u : List ℕ) (c payload operator : ℕ) : Type 0 where
  pub same : length u ≡ length t
  pub is : Record u (c + 2) payload operator
  pub kept : (i : ℕ) → i < c → get_or u i 0 ≡ get_or t i 0

pub pushed : (t u : List ℕ) (c x y : ℕ) → c + 2 ≤ length t → u ≡ set (set t c x) (c + 1) y → Pushed t u c x y
pushed t u c x y h w =
    let one : c + 2 - 1 ≡ c + 1 = omega arith in
    let two : c + 2 - 2 ≡ c = omega arith in
    rw w (record {
      same = simp length-set;
      is = record {
        after = omega arith;
        within = simp length-set (omega arith);
        payload-is = rw (two, get_or-set_other (set t c x) (c + 1) c y 0 (omega arith), get_or-set_same t c x 0 (omega arith));
        operator-is = rw (one, get_or-set_same (set t c x) (c + 1) y 0 (simp length-set (omega arith)));
      };
      kept = λ i l. rw (get_or-set_other (set t c x) (c + 1) i y 0 (omega arith), get_or-set_other t c i x 0 (omega arith));
    })

pub record-kept : {t : List ℕ} {e x y : ℕ} → Record t e x y → (u : List ℕ) → length u ≡ length t → ((i : ℕ) → i < e → get_or u i 0 ≡ get_or t i 0) → Record u e x y
record-kept {e = e} r u n k =
    let after : 2 ≤ e = r.after in
    record { after = r.after; within = omega (arith, r.within); payload-is = k (e - 2) (omega arith) ∙ r.payload-is; operator-is = k (e - 1) (omega arith) ∙ r.operator-is }

-- a tree depends only on the numbers before its end
pub stored-kept : {t : List ℕ} {e : ℕ} {a : Tree} → Stored t e a → (u : List ℕ) → length u ≡ length t → ((i : ℕ) → i < e → get_or u i 0 ≡ get_or t i 0) → Stored u e a
stored-kept (of-leaf r) u n k = of-leaf (record-kept r u n k)
stored-kept (of-neg r d) u n k = of-neg (record-kept r u n k) (stored-kept d u n (λ i q. k i (omega arith)))
stored-kept (of-par d) u n k = of-par (stored-kept d u n k)
stored-kept (of-bind r d) u n k = of-bind (record-kept r u n k) (stored-kept d u n (λ i q. k i (omega arith)))
stored-kept (of-join r m d d') u n k = of-join (record-kept r u n k) m (stored-kept d u n (λ i q. k i (omega arith))) (stored-kept d' u n (λ i q. k i (omega arith)))

pub before-record : {t : List ℕ} {c : ℕ} {a : Tree} → Stored t c a → Stored t (c + 2 - 2) a
before-record {c = c} d = let e : c + 2 - 2 ≡ c = omega arith in rw e d
