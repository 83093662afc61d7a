-- The tree of a plan's text, before it becomes a core formula: paper 01, section Plan text.
use Rattle.std.specs.Prelude.{Bool, ◌||◌, List, map, ℕ, suc, ltb}
use Rattle.logic.specs.Formula.{Test, Literal, literal_of}

-- "`@v` unit (for all), `?v` unit (exists)"
pub data Quantifier : Type 0 where
  forall exists : Quantifier

-- `&`, `|`, `->`, `<-`, `<->`
pub data Join : Type 0 where
  conj disj imp rev iff : Join

-- Variables and sets are the bytes of their letters. A number above 64 stands as 65: every such constant is ground 6, and
-- nothing else depends on it. "A conjunction joins units by `&`": a & b & c is join conj a (join conj b c); `|` likewise.
pub data Tree : Type 0 where
  leaf : Literal → Tree
  neg par : Tree → Tree
  bind : Quantifier → ℕ → Tree → Tree
  join : Join → Tree → Tree → Tree

-- The literal of a test, as a tree.
abbrev pub leaf_of : Test → Tree
leaf_of t = leaf (literal_of t)

-- "one or more upper-case set letters": a set as it is declared, by its letter.
pub record Declared : Type 0 where
  pub letter : ℕ

-- The letters of a declaration, in order.
unfoldable pub letters_of : List Declared → List ℕ
letters_of sets = map (λ (d : Declared). d.letter) sets

-- Ground 4: "more than 64 of `(`, `~` and quantifiers around one token", with d of them around the whole.
unfoldable pub too_deep : ℕ → Tree → Bool
too_deep d (leaf l) = ltb 64 d
too_deep d (neg a) = too_deep (suc d) a
too_deep d (par a) = too_deep (suc d) a
too_deep d (bind q v a) = too_deep (suc d) a
too_deep d (join j a b) = too_deep d a || too_deep d b
