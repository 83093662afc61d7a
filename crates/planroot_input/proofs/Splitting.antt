-- Lines and words, byte by byte. Assumes nothing.
use mathlib.Core.Path.{◌≡◌, refl, ap, ◌∙◌}
use mathlib.Core.Bool.{Bool, true, false}
use mathlib.Core.List.{List, [], ◌∷◌, ◌++◌}
use Prim.Native.Nat.{ℕ}
use native.Mathlib.Omega.{arith}
use lib.Dec.{eqb}
use borrow.Author.Tests.{ne_eqb}
use Rattle.logic.proofs.Lists.{or_left, or_right, or-false, or_true_right}
use Rattle.text_tokens.specs.Tokens.{pick}
use Rattle.planroot_input.specs.Lines.{line, behind, ends, before, words}

pub ends_snoc : (x : List ℕ) (b : ℕ) → ends x ≡ false → (b ≡ 10 → ⊥) → ends (x ++ (b ∷ [])) ≡ false
unfolding ends
ends_snoc [] b h f = or-false _ _ (ne_eqb b 10 f) refl
ends_snoc (c ∷ x) b h f = or-false _ _ (or_left (eqb c 10) _ h) (ends_snoc x b (or_right (eqb c 10) _ h) f)

-- a line and what stands behind it
module _ (y : List ℕ) where
  pub line-is : (x : List ℕ) → ends x ≡ false → line (x ++ (10 ∷ y)) ≡ x
  unfolding ends line
  line-is [] h = refl
  line-is (c ∷ x) h = rw (or_left (eqb c 10) _ h) (ap (λ (l : List ℕ). c ∷ l) (line-is x (or_right (eqb c 10) _ h)))

  pub behind-is : (x : List ℕ) → ends x ≡ false → behind (x ++ (10 ∷ y)) ≡ y
  unfolding ends behind
  behind-is [] h = refl
  behind-is (c ∷ x) h = rw (or_left (eqb c 10) _ h) (behind-is x (or_right (eqb c 10) _ h))

  pub ends_is : (x : List ℕ) → ends (x ++ (10 ∷ y)) ≡ true
  unfolding ends
  ends_is [] = refl
  ends_is (c ∷ x) = or_true_right (eqb c 10) _ (ends_is x)

pub line-all : (x : List ℕ) → ends x ≡ false → line x ≡ x
unfolding ends line
line-all [] h = refl
line-all (c ∷ x) h = rw (or_left (eqb c 10) _ h) (ap (λ (l : List ℕ). c ∷ l) (line-all x (or_right (eqb c 10) _ h)))

-- a line that has not ended goes on
pub line-open : (x y : List ℕ) → ends x ≡ false → line (x ++ y) ≡ x ++ line y
unfolding ends line
line-open [] y h = refl
line-open (c ∷ x) y h = rw (or_left (eqb c 10) _ h) (ap (λ (l : List ℕ). c ∷ l) (line-open x y (or_right (eqb c 10) _ h)))

pub behind-none : (x : List ℕ) → ends x ≡ false → behind x ≡ []
unfolding ends behind
behind-none [] h = refl
behind-none (c ∷ x) h = rw (or_left (eqb c 10) _ h) (behind-none x (or_right (eqb c 10) _ h))

-- a byte behind the last word
add_last : ℕ → List (List ℕ) → List (List ℕ)
add_last b [] = (b ∷ []) ∷ []
add_last b (w ∷ []) = (w ++ (b ∷ [])) ∷ []
add_last b (w ∷ x ∷ ws) = w ∷ add_last b (x ∷ ws)

add-before : (b c : ℕ) (ws : List (List ℕ)) → before c (add_last b ws) ≡ add_last b (before c ws)
unfolding add_last before
add-before b c [] = refl
add-before b c (w ∷ []) = refl
add-before b c (w ∷ x ∷ ws) = refl

some_words : (s : List ℕ) → ((ws : List (List ℕ)) → words s ≡ ws → ws ≡ [] → ⊥)
unfolding words before
some_words [] ws e z = let q : ◌≡◌ {A = ℕ} 0 1 = cc in omega arith
some_words (c ∷ s) ws e z = go (eqb c 32) (words s) (e ∙ z)
  where
    go : (t : Bool) (vs : List (List ℕ)) → pick t ([] ∷ vs) (before c vs) ≡ [] → ⊥
    go true vs h = let q : ◌≡◌ {A = ℕ} 0 1 = cc in omega arith
    go false [] h = let q : ◌≡◌ {A = ℕ} 0 1 = cc in omega arith
    go false (v ∷ vs) h = let q : ◌≡◌ {A = ℕ} 0 1 = cc in omega arith

add-empty : (b : ℕ) (ws : List (List ℕ)) → (ws ≡ [] → ⊥) → [] ∷ add_last b ws ≡ add_last b ([] ∷ ws)
unfolding add_last
add-empty b [] f = absurd (f refl)
add-empty b (w ∷ ws) f = refl

words-add : (s : List ℕ) (b : ℕ) → (b ≡ 32 → ⊥) → words (s ++ (b ∷ [])) ≡ add_last b (words s)
unfolding words before add_last
words-add [] b f = rw (ne_eqb b 32 f)
words-add (c ∷ s) b f = rw (words-add s b f) (go (eqb c 32) (words s) (λ z. some_words s (words s) refl z))
  where
    go : (t : Bool) (ws : List (List ℕ)) → (ws ≡ [] → ⊥) → pick t ([] ∷ add_last b ws) (before c (add_last b ws)) ≡ add_last b (pick t ([] ∷ ws) (before c ws))
    go true ws g = add-empty b ws g
    go false ws g = add-before b c ws

last-add : (b : ℕ) (ws : List (List ℕ)) (w : List ℕ) → add_last b (ws ++ (w ∷ [])) ≡ ws ++ ((w ++ (b ∷ [])) ∷ [])
unfolding add_last
last-add b [] w = refl
last-add b (x ∷ []) w = refl
last-add b (x ∷ y ∷ ws) w = ap (λ (l : List (List ℕ)). x ∷ l) (last-add b (y ∷ ws) w)

pub words_snoc : (s : List ℕ) (b : ℕ) (ws : List (List ℕ)) (w : List ℕ) → (b ≡ 32 → ⊥) → words s ≡ ws ++ (w ∷ []) → words (s ++ (b ∷ [])) ≡ ws ++ ((w ++ (b ∷ [])) ∷ [])
words_snoc s b ws w f e = words-add s b f ∙ ap (add_last b) e ∙ last-add b ws w

before_more : (c : ℕ) (ws vs : List (List ℕ)) → (ws ≡ [] → ⊥) → before c (ws ++ vs) ≡ before c ws ++ vs
unfolding before
before_more c [] vs f = absurd (f refl)
before_more c (w ∷ ws) vs f = refl

pub words-space : (s : List ℕ) → words (s ++ (32 ∷ [])) ≡ words s ++ ([] ∷ [])
unfolding words
words-space [] = refl
words-space (c ∷ s) = rw (words-space s) (go (eqb c 32) (words s) (λ z. some_words s (words s) refl z))
  where
    go : (t : Bool) (ws : List (List ℕ)) → (ws ≡ [] → ⊥) → pick t ([] ∷ (ws ++ ([] ∷ []))) (before c (ws ++ ([] ∷ []))) ≡ pick t ([] ∷ ws) (before c ws) ++ ([] ∷ [])
    go true ws g = refl
    go false ws g = before_more c ws ([] ∷ []) g
