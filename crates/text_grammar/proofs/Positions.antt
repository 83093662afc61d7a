-- The tokens between two positions of a text. Assumes nothing.
use mathlib.Core.Path.{◌≡◌, refl, ap, ◌∙◌}
use mathlib.Core.List.{List, [], ◌∷◌, ◌++◌}
use mathlib.Core.Bool.{Bool, true, false}
use Prim.Native.Nat.{ℕ, zero, suc, ◌+◌, ◌≤◌, ◌<◌}
use native.Mathlib.Omega.{arith}
use lib.Dec.{eqb}
use lib.ListN.{length}
use borrow.Author.Tests.{eqb-true, eqb-false, ne_eqb}
use Rattle.text_tokens.proofs.Laws.{token-moves}
use Rattle.text_grammar.specs.Grammar.{Symbol, kind_at, next_at, value_at, symbol_at, symbols_from}
use Rattle.text_grammar.proofs.Declaration.{end-kind}

-- the symbols xs stand from position i to position j, and none is the end of the text
unfoldable pub Tokens : List ℕ → ℕ → List Symbol → ℕ → Type 0
Tokens s i [] j = i ≡ j
Tokens s i (t ∷ xs) j = (symbol_at s i ≡ t) × (1 ≤ kind_at s i) × Tokens s (next_at s i) xs j

pub nil : (s : List ℕ) (i : ℕ) → Tokens s i [] i
unfolding Tokens
nil s i = refl

pub cons : (s : List ℕ) (i : ℕ) (xs : List Symbol) (j : ℕ) → 1 ≤ kind_at s i → Tokens s (next_at s i) xs j → Tokens s i (symbol_at s i ∷ xs) j
unfolding Tokens
cons s i xs j k t = (refl, k, t)

-- the first of them
pub record Head (s : List ℕ) (i : ℕ) (t : Symbol) (xs : List Symbol) (j : ℕ) : Type 0 where
  pub kind : kind_at s i ≡ t.kind
  pub value : value_at s i ≡ t.value
  pub token : 1 ≤ kind_at s i
  pub rest : Tokens s (next_at s i) xs j

pub first : (s : List ℕ) (i : ℕ) (t : Symbol) (xs : List Symbol) (j : ℕ) → Tokens s i (t ∷ xs) j → Head s i t xs j
unfolding Tokens
first s i t xs j h = record { kind = ap (λ (x : Symbol). x.kind) h.0; value = ap (λ (x : Symbol). x.value) h.0; token = h.1; rest = h.2 }

pub nothing_left : (s : List ℕ) (i j : ℕ) → Tokens s i [] j → i ≡ j
unfolding Tokens
nothing_left s i j h = h

pub record Span (s : List ℕ) (i j : ℕ) : Type 0 where
  pub on : i ≤ j
  pub within : j ≤ length s

-- one token
pub token-span : (s : List ℕ) (i : ℕ) → i ≤ length s → 1 ≤ kind_at s i → (i < next_at s i) × (next_at s i ≤ length s)
token-span s i h k = let M = token-moves s i h in (omega (arith, M.on), M.within)

pub span : (s : List ℕ) (i : ℕ) (xs : List Symbol) (j : ℕ) → i ≤ length s → Tokens s i xs j → Span s i j
unfolding Tokens
span s i [] j h t = record { on = omega arith; within = omega arith }
span s i (x ∷ xs) j h t =
    let w = token-span s i h t.1 in
    let r = span s (next_at s i) xs j w.1 t.2 in
    record { on = omega (arith, w.0, r.on); within = r.within }

pub record Split (s : List ℕ) (i : ℕ) (xs ys : List Symbol) (k : ℕ) : Type 0 where
  pub mid : ℕ
  pub left : Tokens s i xs mid
  pub right : Tokens s mid ys k

pub split : (s : List ℕ) (i : ℕ) (xs ys : List Symbol) (k : ℕ) → Tokens s i (xs ++ ys) k → Split s i xs ys k
unfolding Tokens
split s i [] ys k h = record { mid = i; left = refl; right = h }
split s i (t ∷ xs) ys k h =
    let w = split s (next_at s i) xs ys k h.2 in
    record { mid = w.mid; left = (h.0, h.1, w.left); right = w.right }

pub append : (s : List ℕ) (i j : ℕ) (xs ys : List Symbol) (k : ℕ) → Tokens s i xs j → Tokens s j ys k → Tokens s i (xs ++ ys) k
unfolding Tokens
append s i j [] ys k p q = rw p q
append s i j (t ∷ xs) ys k p q = (p.0, p.1, append s (next_at s i) j xs ys k p.2 q)

-- all symbols of a text, up to its end
pub record All (s : List ℕ) (i : ℕ) (xs : List Symbol) : Type 0 where
  pub last : ℕ
  pub are : Tokens s i xs last
  pub ends : kind_at s last ≡ 0

symbols-stop : (f : ℕ) (s : List ℕ) (i : ℕ) → kind_at s i ≡ 0 → symbols_from f s i ≡ []
unfolding symbols_from
symbols-stop zero s i e = refl
symbols-stop (suc f) s i e = rw e

symbols-step : (f : ℕ) (s : List ℕ) (i : ℕ) → 1 ≤ kind_at s i → symbols_from (suc f) s i ≡ symbol_at s i ∷ symbols_from f s (next_at s i)
unfolding symbols_from
symbols-step f s i h = let z : eqb (kind_at s i) 0 ≡ false = ne_eqb (kind_at s i) 0 (λ e. omega arith) in rw z

pub all-symbols : (f : ℕ) (s : List ℕ) (i : ℕ) → i ≤ length s → length s ≤ f + i → All s i (symbols_from f s i)
unfolding Tokens
all-symbols zero s i h p = rw (symbols-stop zero s i (end-kind s i h (omega arith))) (record { last = i; are = refl; ends = end-kind s i h (omega arith) })
all-symbols (suc f) s i h p =
    go (eqb (kind_at s i) 0) refl (λ k. let w = token-span s i h k in all-symbols f s (next_at s i) w.1 (omega (arith, w.0)))
  where
    go : (b : Bool) → eqb (kind_at s i) 0 ≡ b → (1 ≤ kind_at s i → All s (next_at s i) (symbols_from f s (next_at s i))) → All s i (symbols_from (suc f) s i)
    go true e r = let k = eqb-true _ _ e in rw (symbols-stop (suc f) s i k) (record { last = i; are = refl; ends = k })
    go false e r =
        let n = eqb-false (kind_at s i) 0 e in
        let k : 1 ≤ kind_at s i = omega arith in
        let w = r k in
        rw (symbols-step f s i k) (record { last = w.last; are = (refl, k, w.are); ends = w.ends })

-- no other symbols stand between a position and the end of the text
pub only-symbols : (f : ℕ) (s : List ℕ) (i : ℕ) (xs : List Symbol) (j : ℕ) → i ≤ length s → length s ≤ f + i → Tokens s i xs j → kind_at s j ≡ 0 → symbols_from f s i ≡ xs
unfolding Tokens
only-symbols f s i [] j h p t e = symbols-stop f s i (ap (kind_at s) t ∙ e)
only-symbols zero s i (x ∷ xs) j h p t e = absurd (omega (arith, t.1, end-kind s i h (omega arith)))
only-symbols (suc f) s i (x ∷ xs) j h p t e =
    let w = token-span s i h t.1 in
    let r : symbols_from f s (next_at s i) ≡ xs = only-symbols f s (next_at s i) xs j w.1 (omega (arith, w.0)) t.2 e in
    symbols-step f s i t.1 ∙ cc (t.0, r)
