-- The penalty of a literal that is hit, from the masks as they were and a list of sizes. Assumes nothing.
use mathlib.Core.Path.{◌≡◌, refl, sym, ap, ◌∙◌}
use mathlib.Core.Logic.{◌≢◌}
use mathlib.Core.Bool.{Bool, false, cond}
use mathlib.Core.List.{List, ◌++◌}
use Prim.Native.Nat.{ℕ, ◌-◌, ◌^◌, ◌/◌, ◌%◌, ◌≤◌, ◌<◌}
use native.Mathlib.Decide.{ℕ_discrete}
use native.Mathlib.Omega.{arith}
use lib.Dec.{eqb}
use lib.ListN.{length, get_or, drop}
use borrow.Author.Tests.{eq-eqb, ne_eqb}
use Rattle.logic.specs.Formula.{Test, isin, notin, port, size, test_kind, relation_of}
use Rattle.logic.specs.Configuration.{Configuration, indicator, in_mask, in_masks}
use Rattle.logic.specs.Truth.{Tuple, port_of}
use Rattle.logic.specs.Penalty.{test_penalty}
use Rattle.logic.proofs.Relations.{relation-of-number}
use Rattle.logic.proofs.Tables.{tabulate-cong}
use Rattle.table_format.specs.Bytes.{kind_field, relation_field, a_field, b_field, record_at, test_relation, test_a, test_b}
use Rattle.cells_rule.specs.inner.Rule.{rule_penalty, Operands}
use Rattle.cells_rule.proofs.Rules.{rule-is, not-not}
use Rattle.cells_row.specs.inner.Row.{row_of}
use Rattle.cells_row.proofs.Rows.{row_at}
use Rattle.cells_runs.specs.inner.Ports.{digit_at}
use Rattle.cells_runs.proofs.Rounds.{row-port}
use Rattle.cells_walk.specs.inner.Nodes.{TestFits}
use Rattle.cells_walk.proofs.Steps.{port-of-lt}
use Rattle.cells_flip.specs.inner.Flips.{Line}
use Rattle.cells_flip.specs.inner.Steps.{line_port, AsksSet, FlippedAt, RecordOf, LiteralReady, LiteralGives}

-- a row in which the literal's variable is the row's own, and one in which it is not
module _ (count : ℕ) (out : List ℕ) (own digits v : ℕ) (g : ℕ → ℕ) where
  pub own_row : (new : List ℕ) → v ≡ own → new ≡ row_of count (λ t. g (digit_at count 1 t)) out → new ≡ row_of count (λ x. g (line_port own digits v x)) out
  unfolding row_of line_port
  own_row new h q =
      q ∙ ap (λ (xs : List ℕ). xs ++ drop count out) (tabulate-cong count _ _ (λ x l. ap g (sym (row-port count x l) ∙ sym (ap (λ (b : Bool). cond b x (digits / 256 ^ v % 256)) (eq-eqb v own h)))))

  pub other_row : (new : List ℕ) → v ≢ own → new ≡ row_of count (λ _. g (digits / 256 ^ v % 256)) out → new ≡ row_of count (λ x. g (line_port own digits v x)) out
  unfolding row_of line_port
  other_row new h q =
      q ∙ ap (λ (xs : List ℕ). xs ++ drop count out) (tabulate-cong count _ _ (λ x l. ap g (sym (ap (λ (b : Bool). cond b x (digits / 256 ^ v % 256)) (ne_eqb v own h)))))

-- the ports of a line
module _ {u d count own row digits : ℕ} {at : ℕ → Tuple} (line : Line u d count own row digits at) where
  pub line-port : (x v : ℕ) → x < count → v < d → line_port own digits v x ≡ port_of (at x) v
  unfolding line_port
  line-port x v l h = go (ℕ_discrete v own)
    where
      go : Dec (v ≡ own) → cond (eqb v own) x (digits / 256 ^ v % 256) ≡ port_of (at x) v
      go (yes q) = rw (eq-eqb v own q) (sym (ap (port_of (at x)) q ∙ line.own-port x l (omega arith)))
      go (no n) = rw (ne_eqb v own n) (sym (line.same x v l h n))

  pub digit_low : (v : ℕ) → u ≤ 64 → v < d → v ≢ own → digits / 256 ^ v % 256 < 64
  digit_low v h l n = let p = port-of-lt v (line.tuples 0 line.some) l in omega (arith, line.same 0 v line.some l n)

-- which fields a literal has that asks a set
module _ (sets d : ℕ) (bytes : List ℕ) (i : ℕ) where
  pub member-fields : (t : Test) → RecordOf sets d bytes i t → AsksSet t → kind_field (record_at bytes i) ≢ 8
      → (kind_field (record_at bytes i) ≤ 6) × (a_field (record_at bytes i) < d) × (b_field (record_at bytes i) < sets)
  unfolding test_kind test_a test_b TestFits AsksSet
  member-fields (isin v S) r a n = (omega (arith, r.kind-is), omega (arith, r.a-is, r.fits.0), omega (arith, r.b-is, r.fits.1))
  member-fields (notin v S) r a n = (omega (arith, r.kind-is), omega (arith, r.a-is, r.fits.0), omega (arith, r.b-is, r.fits.1))
  member-fields (port w v z) r a n = absurd a
  member-fields (size w S c) r a n = absurd (n r.kind-is)

  pub size-fields : (t : Test) → RecordOf sets d bytes i t → kind_field (record_at bytes i) ≡ 8 → (a_field (record_at bytes i) < sets) × (b_field (record_at bytes i) ≤ 64)
  unfolding test_kind test_a test_b TestFits
  size-fields (isin v S) r h = absurd (omega (arith, r.kind-is))
  size-fields (notin v S) r h = absurd (omega (arith, r.kind-is))
  size-fields (port w v z) r h = absurd (omega (arith, r.kind-is))
  size-fields (size w S c) r h = (omega (arith, r.a-is, r.fits.0), omega (arith, r.b-is, r.fits.1))

-- what the row of a membership literal asks
pub member-ready : {bytes masks sizes : List ℕ} {i count own digits : ℕ} {out : List ℕ} → LiteralReady bytes masks sizes i count own digits out → (kind a : ℕ) → kind ≡ kind_field (record_at bytes i)
    → a ≡ a_field (record_at bytes i) → kind ≢ 8
    → (kind ≤ 11) × (a ≤ 2) × (1 ≤ count) × (count ≤ 64) × (a ≢ own → digits / 256 ^ a % 256 < 64) × (count ≤ length out)
member-ready {bytes = bytes} {i = i} r kind a kd aq n =
    let f = member-fields r.sets r.depth bytes i r.test r.is r.asks (λ z. n (kd ∙ z)) in
    let u64 = r.masks-settled.ports64 in
    let bound : a < r.depth = omega (arith, f.1, aq) in (
      omega (arith, f.0),
      omega (arith, r.is.depth3),
      r.line.some,
      omega (arith, r.line.few),
      λ o. digit_low r.line a u64 bound o,
      r.room,
    )

-- the rule's penalty is the test's
module _ (masks sizes : List ℕ) (k : Configuration) (e : Tuple) where
  member-turned : (t : Test) (kind b p : ℕ) → AsksSet t → FlippedAt masks sizes k t e → kind ≡ test_kind t → kind ≢ 8 → b ≡ test_b t → p ≡ port_of e (test_a t)
      → rule_penalty (11 - kind) 0 (in_mask (get_or masks b 0) p) 0 0 ≡ test_penalty k t e
  unfolding AsksSet FlippedAt test_kind test_a test_b rule_penalty test_penalty in_masks
  member-turned (isin v S) kind b p a f h n q r = rw (h, q, r, f) (ap indicator (sym (not-not _)))
  member-turned (notin v S) kind b p a f h n q r = rw (h, q, r, f) refl
  member-turned (port w v z) kind b p a f h n q r = absurd a
  member-turned (size w S c) kind b p a f h n q r = absurd (n h)

  size-turned : (t : Test) (kind relation a b : ℕ) → FlippedAt masks sizes k t e → kind ≡ test_kind t → kind ≡ 8 → relation ≡ test_relation t → a ≡ test_a t → b ≡ test_b t
      → rule_penalty kind relation false (get_or sizes a 0) b ≡ test_penalty k t e
  unfolding FlippedAt test_kind test_relation test_a test_b Operands
  size-turned (isin v S) kind relation a b f h z q r s = absurd (omega arith)
  size-turned (notin v S) kind relation a b f h z q r s = absurd (omega arith)
  size-turned (port w v x) kind relation a b f h z q r s = absurd (omega arith)
  size-turned (size w S c) kind relation a b f h z q r s =
      rule-is k (size w S c) e kind relation false (get_or sizes a 0) b (h, ap relation_of q ∙ relation-of-number w, ap (λ (y : ℕ). get_or sizes y 0) r ∙ sym f, s)

-- what the rows of a literal come to
module _ (bytes masks sizes : List ℕ) (i count own digits : ℕ) (out new : List ℕ) where
  pub gives_size : (kind relation a b s value : ℕ) → kind ≡ kind_field (record_at bytes i) → relation ≡ relation_field (record_at bytes i) → a ≡ a_field (record_at bytes i)
      → b ≡ b_field (record_at bytes i) → kind ≡ 8 → s ≡ get_or sizes a 0 → value ≡ rule_penalty kind relation false s b → new ≡ row_of count (λ _. value) out
      → LiteralGives bytes masks sizes i count own digits new
  unfolding LiteralGives
  gives_size kind relation a b s value kd re aq bq h sq vq nq u sets d row at t line is asks x l k f =
      ap (λ (ys : List ℕ). get_or ys x 0) nq ∙ row_at count (λ _. value) out x l ∙ vq ∙ ap (λ (y : ℕ). rule_penalty kind relation false y b) sq
      ∙ size-turned masks sizes k (at x) t kind relation a b f (kd ∙ is.kind-is) h (re ∙ is.relation-is) (aq ∙ is.a-is) (bq ∙ is.b-is)

  pub gives-member : (kind a b mask : ℕ) → kind ≡ kind_field (record_at bytes i) → a ≡ a_field (record_at bytes i) → b ≡ b_field (record_at bytes i) → kind ≢ 8
      → mask ≡ get_or masks b 0 → new ≡ row_of count (λ x. rule_penalty (11 - kind) 0 (in_mask mask (line_port own digits a x)) 0 0) out
      → LiteralGives bytes masks sizes i count own digits new
  unfolding LiteralGives
  gives-member kind a b mask kd aq bq n mq nq u sets d row at t line is asks x l k f =
      let fields = member-fields sets d bytes i t is asks (λ z. n (kd ∙ z)) in
      ap (λ (ys : List ℕ). get_or ys x 0) nq ∙ row_at count (λ y. rule_penalty (11 - kind) 0 (in_mask mask (line_port own digits a y)) 0 0) out x l
      ∙ ap (λ (y : ℕ). rule_penalty (11 - kind) 0 (in_mask y (line_port own digits a x)) 0 0) mq
      ∙ member-turned masks sizes k (at x) t kind b (line_port own digits a x) asks f (kd ∙ is.kind-is) n (bq ∙ is.b-is)
      (line-port line x a l (omega (arith, fields.1)) ∙ ap (port_of (at x)) (aq ∙ is.a-is))
