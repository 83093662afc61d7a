-- De Morgan's laws for what can be decided, and that the truth of a text can be. Assumes nothing.
use mathlib.Core.Path.{◌≡◌, refl, subst}
use mathlib.Core.Logic.{◌⊎◌, inl, inr, ◌↔◌}
use mathlib.Core.Bool.{Bool, true, false, not, true≢false, false≢true}
use mathlib.Core.List.{List, ◌∷◌}
use Prim.Native.Nat.{ℕ, zero, suc, ◌<◌}
use native.Mathlib.Decide.{dec_lt}
use native.Mathlib.Omega.{arith}
use Rattle.logic.specs.Formula.{Relation, Test, isin, notin, port, size}
use Rattle.logic.specs.Configuration.{Configuration}
use Rattle.logic.specs.Truth.{Related}
use Rattle.logic.specs.Penalty.{compare}
use Rattle.logic.proofs.Zero.{compare-true}
use Rattle.text_tree.specs.Tree.{Quantifier, forall, exists, Join, conj, disj, imp, rev, iff, Tree, leaf, neg, par, bind, join}
use Rattle.text_core.specs.Core.{join_with}
use Rattle.text_core.specs.Meaning.{Binding, LeafTrue, JoinTrue, BindTrue, TreeTrue}

-- a statement, or its negation where the polarity is false
abbrev pub Signed : Bool → Type 0 → Type 0
Signed true A = A
Signed false A = A → ⊥

-- what "and" and "or" ask of two parts
abbrev pub Both : Bool → Type 0 → Type 0 → Type 0
Both true A B = A × B
Both false A B = A ⊎ B

pub iff-trans : {A B C : Type 0} → A ↔ B → B ↔ C → A ↔ C
iff-trans f g = (λ a. g.0 (f.0 a), λ c. f.1 (g.1 c))

pub both-same : {A B C D : Type 0} (p : Bool) → A ↔ B → C ↔ D → Both p A C ↔ Both p B D
both-same true f g = (λ h. (f.0 h.0, g.0 h.1), λ h. (f.1 h.0, g.1 h.1))
both-same false f g = (
  (λ h. elim h [ inl a ↦ inl (f.0 a) | inr c ↦ inr (g.0 c) ]),
  (λ h. elim h [ inl a ↦ inl (f.1 a) | inr c ↦ inr (g.1 c) ]),
)

both-swap : (A B : Type 0) (p : Bool) → Both p A B → Both p B A
both-swap A B true h = (h.1, h.0)
both-swap A B false h = elim h [ inl a ↦ inr a | inr b ↦ inl b ]

pub neg-law : {A : Type 0} (p : Bool) → Dec A → Signed (not p) A ↔ Signed p (A → ⊥)
neg-law true d = (λ h. h, λ h. h)
neg-law false (yes a) = (λ h f. f a, λ h. a)
neg-law false (no f) = (λ h g. f h, λ h. absurd (h f))

conj-law : {A B : Type 0} (p : Bool) → Dec A → Dec B → Both p (Signed p A) (Signed p B) ↔ Signed p (A × B)
conj-law true c d = (λ h. h, λ h. h)
conj-law false (yes a) d = (λ h x. elim h [ inl f ↦ f x.0 | inr g ↦ g x.1 ], λ h. inr (λ b. h (a, b)))
conj-law false (no f) d = (λ h x. f x.0, λ h. inl f)

disj-law : {A B : Type 0} (p : Bool) → Dec A → Dec B → Both (not p) (Signed p A) (Signed p B) ↔ Signed p (A ⊎ B)
disj-law true c d = (λ h. h, λ h. h)
disj-law false c d = (λ h x. elim x [ inl a ↦ h.0 a | inr b ↦ h.1 b ], λ h. (λ a. h (inl a), λ b. h (inr b)))

imp-law : {A B : Type 0} (p : Bool) → Dec A → Dec B → Both (not p) (Signed (not p) A) (Signed p B) ↔ Signed p (A → B)
imp-law true (yes a) d = (λ h x. elim h [ inl f ↦ absurd (f x) | inr b ↦ b ], λ h. inr (h a))
imp-law true (no f) d = (λ h x. absurd (f x), λ h. inl f)
imp-law false (yes a) d = (λ h g. h.1 (g h.0), λ h. (a, λ b. h (λ x. b)))
imp-law false (no f) d = (λ h g. h.1 (g h.0), λ h. absurd (h (λ a. absurd (f a))))

rev-law : {A B : Type 0} (p : Bool) → Dec A → Dec B → Both (not p) (Signed p A) (Signed (not p) B) ↔ Signed p (B → A)
rev-law {A} {B} p c d = (λ h. (imp-law p d c).0 (both-swap _ _ (not p) h), λ h. both-swap _ _ (not p) ((imp-law p d c).1 h))

imp-dec : {A B : Type 0} → Dec A → Dec B → Dec (A → B)
imp-dec (yes a) (yes b) = yes (λ x. b)
imp-dec (yes a) (no g) = no (λ h. g (h a))
imp-dec (no f) d = yes (λ a. absurd (f a))

-- what holds of two parts, however they are joined
pub joined {ℓ κ} : {X : Type ℓ} {Y : Type κ} (R : X → Y → Type 0) (f : Bool → X → X → X) (g : Bool → Y → Y → Y)
    → ((j : Bool) (x x' : X) (y y' : Y) → R x y → R x' y' → R (f j x x') (g j y y'))
    → (j : Join) (p : Bool) (F G : Bool → X) (A B : Bool → Y) → ((i : Bool) → R (F i) (A i)) → ((i : Bool) → R (G i) (B i))
    → R (join_with f j p F G) (join_with g j p A B)
unfolding join_with
joined R f g H conj p F G A B M N = H _ _ _ _ _ (M _) (N _)
joined R f g H disj p F G A B M N = H _ _ _ _ _ (M _) (N _)
joined R f g H imp p F G A B M N = H _ _ _ _ _ (M _) (N _)
joined R f g H rev p F G A B M N = H _ _ _ _ _ (M _) (N _)
joined R f g H iff p F G A B M N = H _ _ _ _ _ (H _ _ _ _ _ (M _) (N _)) (H _ _ _ _ _ (M _) (N _))

pub join-law : {A B : Type 0} (j : Join) (p : Bool) → Dec A → Dec B → join_with Both j p (λ i. Signed i A) (λ i. Signed i B) ↔ Signed p (JoinTrue j A B)
unfolding JoinTrue join_with
join-law conj p c d = conj-law p c d
join-law disj p c d = disj-law p c d
join-law imp p c d = imp-law p c d
join-law rev p c d = rev-law p c d
join-law iff p c d = iff-trans (both-same p (imp-law p c d) (rev-law p c d)) (conj-law p (imp-dec c d) (imp-dec d c))

join-dec : {A B : Type 0} (j : Join) → Dec A → Dec B → Dec (JoinTrue j A B)
unfolding JoinTrue
join-dec conj (yes a) (yes b) = yes (a, b)
join-dec conj (yes a) (no g) = no (λ h. g h.1)
join-dec conj (no f) d = no (λ h. f h.0)
join-dec disj (yes a) d = yes (inl a)
join-dec disj (no f) (yes b) = yes (inr b)
join-dec disj (no f) (no g) = no (λ h. elim h [ inl a ↦ f a | inr b ↦ g b ])
join-dec imp c d = imp-dec c d
join-dec rev c d = imp-dec d c
join-dec iff (yes a) (yes b) = yes (λ x. b, λ x. a)
join-dec iff (yes a) (no g) = no (λ h. g (h.0 a))
join-dec iff (no f) (yes b) = no (λ h. f (h.1 b))
join-dec iff (no f) (no g) = yes (λ a. absurd (f a), λ b. absurd (g b))

-- one of the ports below u
some-dec : (u : ℕ) (A : ℕ → Type 0) → ((p : ℕ) → Dec (A p)) → Dec ((p : ℕ) × (p < u) × A p)
some-dec zero A D = no (λ h. let l = h.1 in omega arith)
some-dec (suc u) A D = go (D u) (some-dec u A D)
  where
    go : Dec (A u) → Dec ((p : ℕ) × (p < u) × A p) → Dec ((p : ℕ) × (p < suc u) × A p)
    go (yes a) d = yes (u, (omega arith), a)
    go (no f) (yes r) = yes (r.0, (let l = r.1 in omega arith), r.2)
    go (no f) (no g) = no (λ h. last h.0 h.1 h.2 (dec_lt h.0 u))
      where
        last : (p : ℕ) → p < suc u → A p → Dec (p < u) → ⊥
        last p l a (yes m) = g (p, m, a)
        last p l a (no m) = let e : p ≡ u = omega arith in f (subst A e a)

not-dec : {A : Type 0} → Dec A → Dec (A → ⊥)
not-dec (yes a) = no (λ f. f a)
not-dec (no f) = yes f

all-of-none : (u : ℕ) (A : ℕ → Type 0) → ((p : ℕ) → Dec (A p)) → (((p : ℕ) × (p < u) × (A p → ⊥)) → ⊥) → (p : ℕ) → p < u → A p
all-of-none u A D g p l = go (D p)
  where
    go : Dec (A p) → A p
    go (yes a) = a
    go (no f) = absurd (g (p, l, f))

bind-dec : (q : Quantifier) (u : ℕ) (A : ℕ → Type 0) → ((p : ℕ) → Dec (A p)) → Dec (BindTrue q u A)
unfolding BindTrue
bind-dec forall u A D = go (some-dec u (λ p. A p → ⊥) (λ p. not-dec (D p)))
  where
    go : Dec ((p : ℕ) × (p < u) × (A p → ⊥)) → Dec ((p : ℕ) → p < u → A p)
    go (yes r) = no (λ h. r.2 (h r.0 r.1))
    go (no g) = yes (all-of-none u A D g)
bind-dec exists u A D = some-dec u A D

-- a quantifier, or its opposite where the polarity is false
abbrev pub Ports : Bool → Quantifier → ℕ → (ℕ → Type 0) → Type 0
Ports true q u A = BindTrue q u A
Ports false forall u A = (p : ℕ) × (p < u) × A p
Ports false exists u A = (p : ℕ) → p < u → A p

pub bind-law : (q : Quantifier) (i : Bool) (u : ℕ) (A : ℕ → Type 0) → ((p : ℕ) → Dec (A p)) → Ports i q u (λ p. Signed i (A p)) ↔ Signed i (BindTrue q u A)
unfolding BindTrue
bind-law q true u A D = (λ h. h, λ h. h)
bind-law forall false u A D = (λ h f. h.2 (f h.0 h.1), λ h. go h (some-dec u (λ p. A p → ⊥) (λ p. not-dec (D p))))
  where
    go : (((p : ℕ) → p < u → A p) → ⊥) → Dec ((p : ℕ) × (p < u) × (A p → ⊥)) → (p : ℕ) × (p < u) × (A p → ⊥)
    go h (yes r) = r
    go h (no g) = absurd (h (all-of-none u A D g))
bind-law exists false u A D = (λ h r. h r.0 r.1 r.2, λ h p l a. h (p, l, a))

true-dec : (b : Bool) → Dec (b ≡ true)
true-dec true = yes refl
true-dec false = no false≢true

false-dec : (b : Bool) → Dec (b ≡ false)
false-dec true = no true≢false
false-dec false = yes refl

pub false-law : (b : Bool) → b ≡ false ↔ (b ≡ true → ⊥)
false-law true = (λ h. absurd (true≢false h), λ h. absurd (h refl))
false-law false = (λ h. false≢true, λ h. refl)

pub true-law : (b : Bool) → b ≡ true ↔ (b ≡ false → ⊥)
true-law true = (λ h. true≢false, λ h. refl)
true-law false = (λ h. absurd (false≢true h), λ h. absurd (h refl))

related-dec : (r : Relation) (a b : ℕ) → Dec (Related r a b)
related-dec r a b = go (true-dec (compare r a b))
  where
    go : Dec (compare r a b ≡ true) → Dec (Related r a b)
    go (yes h) = yes ((compare-true r a b).0 h)
    go (no f) = no (λ h. f ((compare-true r a b).1 h))

module _ (u : ℕ) (k : Configuration) (sets : List ℕ) where
  leaf-dec : (env : List Binding) (t : Test) → Dec (LeafTrue k sets env t)
  unfolding LeafTrue
  leaf-dec env (isin v S) = true-dec _
  leaf-dec env (notin v S) = false-dec _
  leaf-dec env (port r v w) = related-dec r _ _
  leaf-dec env (size r S c) = related-dec r _ c

  pub tree-dec : (env : List Binding) (a : Tree) → Dec (TreeTrue u k sets env a)
  unfolding TreeTrue
  tree-dec env (leaf l) = leaf-dec env l.test
  tree-dec env (neg a) = not-dec (tree-dec env a)
  tree-dec env (par a) = tree-dec env a
  tree-dec env (bind q v a) = bind-dec q u (λ p. TreeTrue u k sets ((v, p) ∷ env) a) (λ p. tree-dec ((v, p) ∷ env) a)
  tree-dec env (join j a b) = join-dec j (tree-dec env a) (tree-dec env b)
