-- What the functions of this crate ask of one another, and what they give. Assumes nothing.
use mathlib.Core.Path.{◌≡◌, sym, ap, ap₂, ◌∙◌, subst}
use mathlib.Core.Logic.{◌≢◌}
use mathlib.Core.Bool.{Bool, true, false, cond, ◌&&◌}
use mathlib.Core.List.{List, ◌∷◌}
use Prim.Native.Nat.{ℕ, suc, ◌+◌, ◌≤◌, ◌<◌}
use native.Mathlib.Omega.{arith}
use lib.Bits.{bit_and, bit_or}
use lib.Dec.{eqb, ltb}
use lib.ListN.{length, get_or, set, drop}
use borrow.Author.Tests.{eq-eqb, ne_eqb, lt-ltb}
use Rattle.logic.specs.inner.Literals.{Every}
use Rattle.logic.specs.Change.{modulus}
use Rattle.logic.proofs.Lists.{and-true, and-false}
use Rattle.cells_row.specs.inner.Row.{row_gathered, row_taken}
use Rattle.cells_touch.specs.inner.Hits.{meets, level}
use Rattle.cells_walk.specs.inner.Nodes.{Fitting}
use Rattle.cells_flip.specs.inner.Flips.{FlipReady, FlipGives}
use Rattle.cells_flip.proofs.Flipping as flipping
use Rattle.cells_ports.specs.inner.Ports.{RowPortsReady}
use Rattle.cells_ports.specs.inner.Rows.{digit, level_if, port_levels, tests_outside, PortRowGives, OverReady, OwnGives, OuterGives}
use Rattle.cells_ports.proofs.Words.{not-below}
use Rattle.cells_ports.proofs.Adding.{port-row-both, port-row-alone, outer-adds, own-adds, own-none, digit_low, outer-done, outer-none}

-- The bit of a variable outside the row.
pub level-has : (d digits x v p r : ℕ) → v < d → p ≡ digit digits v → p ≡ x → r ≡ level v → r ≡ level_if d digits x v
unfolding level_if
level-has d digits x v p r l q h e = e ∙ sym (ap (λ (b : Bool). cond b (level v) 0) (and-true _ _ (lt-ltb v d l) (eq-eqb (digit digits v) x (sym q ∙ h))))

pub level-other : (d digits x v p : ℕ) → p ≡ digit digits v → p ≢ x → 0 ≡ level_if d digits x v
unfolding level_if
level-other d digits x v p q h = sym (ap (λ (b : Bool). cond b (level v) 0) (and-false (ltb v d) _ (λ t. ne_eqb (digit digits v) x (λ i. h (q ∙ i)))))

pub level-inside : (d digits x v : ℕ) → d ≤ v → 0 ≡ level_if d digits x v
unfolding level_if
level-inside d digits x v h = sym (ap (λ (b : Bool). cond (b && eqb (digit digits v) x) (level v) 0) (not-below v d h))

module _ (u : ℕ) (bytes firsts ends uses masks sizes cells : List ℕ) (i d row digits members resized : ℕ) where
  abbrev Under : ℕ → List ℕ → Type 0
  Under word out = FlipGives bytes firsts ends uses masks sizes cells i u d row digits word out

  -- What the row asks of the steps before it.
  module _ (out : List ℕ) (r : RowPortsReady u bytes firsts ends uses masks sizes cells i d row digits members resized out) where
    pub some-port : 1 ≤ u
    some-port = r.settled.masks-settled.ports1

    pub ports-low : u ≤ 64
    ports-low = r.settled.masks-settled.ports64

    pub depth_low : d ≤ 2
    unfolding Fitting Every
    depth_low = let f = r.visit.fitting.0.depth3 in omega arith

    pub flip-ready : (new : List ℕ) → u ≤ length new → FlipReady bytes firsts ends uses masks sizes cells i u d row digits new
    flip-ready new room = record {
      ports = u;
      sets = r.sets;
      node = r.node;
      children = r.children;
      siblings = r.siblings;
      first = r.first;
      depth = suc d;
      at = λ z. z ∷ r.tuple;
      settled = r.settled;
      visit = r.visit;
      room = room;
    }

    pub again : (new : List ℕ) → u ≤ length new → RowPortsReady u bytes firsts ends uses masks sizes cells i d row digits members resized new
    again new room = record {
      sets = r.sets;
      node = r.node;
      children = r.children;
      siblings = r.siblings;
      first = r.first;
      tuple = r.tuple;
      flips = r.flips;
      resizes = r.resizes;
      settled = r.settled;
      visit = r.visit;
      words = r.words;
      room = room;
    }

    pub node-low : i < 512
    node-low = flipping.node-low bytes firsts ends uses masks sizes cells i u d row digits out (flip-ready out r.room)

    pub place-ready : (i < 512) × (row ≤ 16777216)
    place-ready = flipping.place-low bytes firsts ends uses masks sizes cells i u d row digits out (flip-ready out r.room)

    pub from_low : (from : ℕ) → from ≡ get_or firsts i 0 + row → from ≤ length cells
    from_low = flipping.from_low bytes firsts ends uses masks sizes cells i u d row digits out (flip-ready out r.room)

    pub old-room : (from : ℕ) (old : List ℕ) → from ≡ get_or firsts i 0 + row → old ≡ drop from cells → u ≤ length old
    old-room = flipping.old-room bytes firsts ends uses masks sizes cells i u d row digits out (flip-ready out r.room)

    -- the port of a variable outside the row is one of the row's
    pub port-low : (v x : ℕ) → v < d → x ≡ digit digits v → x < u
    port-low v x l q =
        rw q (digit_low u bytes firsts ends uses masks sizes cells i d row digits members resized r.sets r.node r.children r.siblings r.first r.tuple some-port r.visit v l)

  -- The row of one port, in the words of the code.
  module _ (x levels own used : ℕ) (ls : levels ≡ port_levels d digits x) (os : own ≡ level d) (us : used ≡ get_or uses i 0) (below : x < u)
      (outer : List ℕ) (outer-are : Under (bit_or resized (bit_and members levels)) outer) where
    pub both-rows : (both out : List ℕ) → Under (bit_or resized (bit_and members (bit_or levels own))) both → u ≤ length outer → out ≡ set outer x (get_or both x 0)
        → PortRowGives u bytes firsts ends uses masks sizes cells i d row digits members resized x out
    both-rows both out both-are room is =
        port-row-both u bytes firsts ends uses masks sizes cells i d row digits members resized x below outer
        (subst (λ (y : ℕ). Under (bit_or resized (bit_and members y)) outer) ls outer-are) both out
        (subst (λ (y : ℕ). Under (bit_or resized (bit_and members y)) both) (ap₂ bit_or ls os) both-are) room is

    pub one-row : meets used (bit_and members own) ≡ false → PortRowGives u bytes firsts ends uses masks sizes cells i d row digits members resized x outer
    one-row m =
        port-row-alone u bytes firsts ends uses masks sizes cells i d row digits members resized x below outer
        (subst (λ (y : ℕ). Under (bit_or resized (bit_and members y)) outer) ls outer-are)
        (ap₂ (λ (a b : ℕ). meets a (bit_and members b)) (sym us) (sym os) ∙ m)

  module _ (base out : List ℕ) (r : OverReady u bytes firsts ends uses masks sizes cells i d row digits members resized base out) where
    pub over-again : (new : List ℕ) → u ≤ length new → OverReady u bytes firsts ends uses masks sizes cells i d row digits members resized base new
    over-again new room = record { ready = again out r.ready new room; base-room = r.base-room; base-are = r.base-are }

    -- The row's own variable.
    module _ (own used : ℕ) (os : own ≡ level d) (us : used ≡ get_or uses i 0) (low : (z : ℕ) → get_or base z 0 < modulus) where
      pub own-tested : (new after : List ℕ) → Under (bit_or resized (bit_and members own)) new → after ≡ row_taken true new base u out
          → OwnGives u bytes firsts ends uses masks sizes cells i d row digits members resized out after
      own-tested new after new-are is =
          own-adds u bytes firsts ends uses masks sizes cells i d row digits members resized base r.base-are low out after new
          (subst (λ (y : ℕ). Under (bit_or resized (bit_and members y)) new) os new-are) is

      pub own-untested : ((x : ℕ) → get_or out x 0 < modulus) → meets used (bit_and members own) ≡ false
          → OwnGives u bytes firsts ends uses masks sizes cells i d row digits members resized out out
      own-untested out-low m =
          own-none u bytes firsts ends uses masks sizes cells i d row digits members resized base r.base-are low out out-low
          (ap₂ (λ (a b : ℕ). meets a (bit_and members b)) (sym us) (sym os) ∙ m)

    -- A variable outside the row.
    module _ (v x levels used : ℕ) (xs : x ≡ digit digits v) (ls : levels ≡ port_levels d digits x) (us : used ≡ get_or uses i 0) where
      tested-is : tests_outside (get_or uses i 0) d digits members x ≡ meets used (bit_and members levels)
      unfolding tests_outside
      tested-is = ap₂ (λ (a b : ℕ). meets a (bit_and members b)) (sym us) (sym ls)

      pub outer-tested : (start value : ℕ) (new after : List ℕ) → v < d → meets used (bit_and members levels) ≡ true → start < modulus
          → PortRowGives u bytes firsts ends uses masks sizes cells i d row digits members resized x new → value ≡ row_gathered true start new base u → after ≡ set out x value
          → OuterGives u bytes firsts ends uses masks sizes cells i d row digits members resized v start out after
      outer-tested start value new after l met low new-are vs is =
          outer-done u bytes firsts ends uses masks sizes cells i d row digits members resized v x start value out after l xs (tested-is ∙ met)
          (omega (arith, port-low out r.ready v x l xs, r.ready.room))
          (rw vs (outer-adds u bytes firsts ends uses masks sizes cells i d row digits members resized base r.base-are x start new low new-are)) is

      pub outer-untested : (start : ℕ) → meets used (bit_and members levels) ≡ false
          → OuterGives u bytes firsts ends uses masks sizes cells i d row digits members resized v start out out
      outer-untested start m =
          outer-none u bytes firsts ends uses masks sizes cells i d row digits members resized v start out
          (λ l. ap (tests_outside (get_or uses i 0) d digits members) (sym xs) ∙ tested-is ∙ m)

    pub outer-inside : (v start : ℕ) → d ≤ v → OuterGives u bytes firsts ends uses masks sizes cells i d row digits members resized v start out out
    outer-inside v start h =
        outer-none u bytes firsts ends uses masks sizes cells i d row digits members resized v start out (λ l. absurd (omega arith))
