-- A literal's penalty at the t-th tuple, by its kind, from the digits of t alone. Assumes nothing.
use mathlib.Core.Path.{◌≡◌, refl}
use mathlib.Core.Logic.{◌≢◌}
use mathlib.Core.Bool.{Bool, true, false, ◌&&◌}
use mathlib.Core.List.{List, ◌++◌}
use Prim.Native.Nat.{ℕ, ◌≤◌, ◌<◌}
use native.Mathlib.Omega.{arith}
use native.Mathlib.Decide.{dec_le}
use lib.Dec.{eqb, leb, ltb}
use lib.ListN.{get_or, drop}
use borrow.Author.Tests.{eq-eqb, ne_eqb, le-leb, lt-leb, leb-true, ltb-true}
use Rattle.logic.specs.Formula.{isin, notin, port, size, literal_of, relation_of}
use Rattle.logic.specs.Configuration.{ports_in, out_of_test, in_mask, configured, in_masks}
use Rattle.logic.specs.Truth.{port_of}
use Rattle.logic.specs.Penalty.{literal_penalty}
use Rattle.logic.specs.Cells.{tuple_at, tabulate}
use Rattle.logic.proofs.Lists.{and_left, and_right}
use Rattle.logic.proofs.Masks.{ports-within}
use Rattle.table_format.specs.Bytes.{test_of}
use Rattle.table_format.specs.inner.Tests.{field_rule}
use Rattle.cells_literals.specs.inner.Literal.{LiteralPlaced}
use Rattle.cells_rule.specs.inner.Rule.{rule_penalty, Operands}
use Rattle.cells_rule.proofs.Rules.{rule-is}
use Rattle.cells_runs.specs.inner.Ports.{block_of, digit_at, RunsPlaced, NestedPlaced, BlocksPlaced}
use Rattle.cells_runs.proofs.Runs.{same-cells}
use Rattle.cells_runs.proofs.Digits.{port-digit, block-pos, block-whole, block-nested, block-once}

last-two : (x y z : Bool) → (x && y && z) ≡ true → (y ≡ true) × (z ≡ true)
last-two x y z h = (and_right x y (and_left (x && y) z h), and_right (x && y) z h)

module _ {sets kind r a b ports depth width : ℕ} {masks cells : List ℕ} (p : LiteralPlaced sets kind r a b ports depth width masks cells) where
  -- The literal's penalty at the t-th tuple.
  abbrev penalty_at : ℕ → ℕ
  penalty_at t = literal_penalty (configured ports sets (in_masks masks)) (literal_of (test_of kind r a b)) (tuple_at ports depth t)

  -- what a record's fields are, by its kind
  pub member-fields : kind ≢ 7 → kind ≢ 8 → (a < depth) × (b < sets)
  unfolding field_rule
  member-fields n o =
      let t = last-two (eqb r 0) (ltb a depth) (ltb b sets)
      (rw (ne_eqb kind 0 (λ e. omega (arith, p.kind5)), lt-leb kind 4 (omega (arith, p.kind5)), le-leb kind 6 (omega (arith, p.kind8))) at p.fields) in
      (ltb-true a depth t.0, ltb-true b sets t.1)

  pub port-fields : kind ≡ 7 → (a < depth) × (b < depth)
  unfolding field_rule
  port-fields h =
      let t = last-two (leb r 5) (ltb a depth) (ltb b depth)
      (rw (ne_eqb kind 0 (λ e. omega arith), lt-leb kind 4 (omega arith), lt-leb kind 6 (omega arith), eq-eqb kind 7 h) at p.fields) in
      (ltb-true a depth t.0, ltb-true b depth t.1)

  pub size-fields : kind ≡ 8 → (a < sets) × (b ≤ 64)
  unfolding field_rule
  size-fields h =
      let t = last-two (leb r 5) (ltb a sets) (leb b 64)
      (rw (ne_eqb kind 0 (λ e. omega arith), lt-leb kind 4 (omega arith), lt-leb kind 6 (omega arith), ne_eqb kind 7 (λ e. omega arith), eq-eqb kind 8 h) at p.fields) in
      (ltb-true a sets t.0, leb-true b 64 t.1)

  pub runs : (v block : ℕ) → v < depth → block ≡ block_of ports depth v → RunsPlaced ports block width cells
  runs v block h e = record {
    ports1 = p.ports1;
    ports64 = p.ports64;
    block1 = rw e (block-pos ports depth v p.ports1);
    whole = rw (e, p.width_is) (block-whole ports depth v h);
    room = p.room;
  }

  -- Of two variables that with the larger block is the outer.
  nested : (v w : ℕ) → v < depth → w < depth → block_of ports depth w < block_of ports depth v → NestedPlaced ports (block_of ports depth v) (block_of ports depth w) width cells
  nested v w h k l = record {
    ports1 = p.ports1;
    ports64 = p.ports64;
    block1 = block-pos ports depth v p.ports1;
    other1 = block-pos ports depth w p.ports1;
    nested = block-nested ports depth v w p.ports1 l;
    once = rw p.width_is (block-once ports depth v p.ports1 h);
    room = p.room;
  }

  pub blocks : (block other : ℕ) → a < depth → b < depth → block ≡ block_of ports depth a → other ≡ block_of ports depth b → BlocksPlaced ports block other width cells
  blocks block other h k e f = rw (e, f) (record { first-outer = nested a b h k; second-outer = nested b a k h; room = p.room })

  -- it, from the digits of t, by the rule
  member-at : kind ≢ 7 → kind ≢ 8 → (t : ℕ)
      → rule_penalty kind 0 (in_mask (get_or masks b 0) (digit_at ports (block_of ports depth a) t)) 0 0
      ≡ penalty_at t
  unfolding Operands literal_penalty literal_of test_of configured in_masks
  member-at n o t = rw (← port-digit ports depth a t (member-fields n o).0) (go (dec_le kind 5))
    where
      go : Dec (kind ≤ 5)
          → rule_penalty kind 0 (in_mask (get_or masks b 0) (port_of (tuple_at ports depth t) a)) 0 0
          ≡ penalty_at t
      go (yes l) =
          let e : kind ≡ 5 = omega (arith, p.kind5) in
          rw (eq-eqb kind 5 e) (rule-is (configured ports sets (in_masks masks)) (isin a b) (tuple_at ports depth t) kind 0 _ 0 0 (e, refl))
      go (no l) =
          let e : kind ≡ 6 = omega (arith, p.kind8) in
          rw (ne_eqb kind 5 (λ e. omega arith), eq-eqb kind 6 e) (rule-is (configured ports sets (in_masks masks)) (notin a b) (tuple_at ports depth t) kind 0 _ 0 0 (e, refl))

  port-at : kind ≡ 7 → (t : ℕ)
      → rule_penalty 7 r false (digit_at ports (block_of ports depth a) t) (digit_at ports (block_of ports depth b) t)
      ≡ penalty_at t
  unfolding Operands literal_penalty literal_of test_of
  port-at h t =
      rw (← port-digit ports depth a t (port-fields h).0, ← port-digit ports depth b t (port-fields h).1, ne_eqb kind 5 (λ e. omega arith), ne_eqb kind 6 (λ e. omega arith), eq-eqb kind 7 h)
      (rule-is (configured ports sets (in_masks masks)) (port (relation_of r) a b) (tuple_at ports depth t) 7 r false _ _ (refl, refl, refl, refl))

  size-at : kind ≡ 8 → (t : ℕ)
      → rule_penalty 8 r false (ports_in 64 (out_of_test (in_masks masks a) (in_masks masks sets))) b
      ≡ penalty_at t
  unfolding Operands literal_penalty literal_of test_of configured in_masks
  size-at h t =
      rw (ne_eqb kind 5 (λ e. omega arith), ne_eqb kind 6 (λ e. omega arith), ne_eqb kind 7 (λ e. omega arith))
      (rule-is (configured ports sets (in_masks masks)) (size (relation_of r) a b) (tuple_at ports depth t) 8 r false _ b
      (refl, refl, ports-within ports 64 (get_or masks a 0) (in_masks masks sets) p.ports64 (p.within a (size-fields h).0), refl))

  -- cells that the rule gives are the literal's
  pub member-cells : kind ≢ 7 → kind ≢ 8 → (mask block : ℕ) (after : List ℕ) → mask ≡ get_or masks b 0 → block ≡ block_of ports depth a
      → after ≡ tabulate width (λ t. rule_penalty kind 0 (in_mask mask (digit_at ports block t)) 0 0) ++ drop width cells
      → after ≡ tabulate width penalty_at ++ drop width cells
  member-cells n o mask block after m k e =
      same-cells (λ t. rule_penalty kind 0 (in_mask mask (digit_at ports block t)) 0 0) penalty_at width cells after e (λ t. rw (m, k) (member-at n o t))

  pub port-cells : kind ≡ 7 → (block other : ℕ) (after : List ℕ) → block ≡ block_of ports depth a → other ≡ block_of ports depth b
      → after ≡ tabulate width (λ t. rule_penalty 7 r false (digit_at ports block t) (digit_at ports other t)) ++ drop width cells
      → after ≡ tabulate width penalty_at ++ drop width cells
  port-cells h block other after k m e =
      same-cells (λ t. rule_penalty 7 r false (digit_at ports block t) (digit_at ports other t)) penalty_at width cells after e (λ t. rw (k, m) (port-at h t))

  pub size-cells : kind ≡ 8 → (s : ℕ) (after : List ℕ) → s ≡ ports_in 64 (out_of_test (in_masks masks a) (in_masks masks sets))
      → after ≡ tabulate width (λ _. rule_penalty 8 r false s b) ++ drop width cells
      → after ≡ tabulate width penalty_at ++ drop width cells
  size-cells h s after m e =
      same-cells (λ _. rule_penalty 8 r false s b) penalty_at width cells after e (λ t. rw m (size-at h t))
