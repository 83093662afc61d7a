use Rattle.std.proofs.Common.{◌-◌, rules, arith, refl, ap, ◌∙◌, ◌≡◌, ◌≤◌, true, false}
use Rattle.text_tokens.specs.Tokens.{between}
use Rattle.text_tokens.proofs.Laws.{between-range}
use Rattle.text_grammar.specs.Parser.{arrow_of}
use Rattle.text_grammar.proofs.Signs.{stands, stands-not, arrow-operator}
use Rattle.text_grammar.proofs.Readers.{joins-formula, join-no, join_one, join-room, join-bad, join-push, join_more, prefix-yes, prefixed-room, first_on, first-within, unit-negation, unit-unbound, variable-on, variable-within, unit-quantified, bracket-room, bracket-no, bracket-open, bracket-yes, unit-variable-literal, unit-size-literal, no-unit, token-room}
use Rattle.text_grammar.proofs.Parts.{join_of, row, parts-start, parts-refused, joins-room, parts-end, parts-less, parts-on}
use Rattle.text_grammar.specs.inner.Contract.{level_of, part_of}
use Rattle.text_grammar.specs.Grammar as G
use Rattle.text_formula.proofs.+reading.Goals as goal

pub row-loop-a-init : goal.row-loop-a-init
row-loop-a-init t c =
    let R = row c.args.sign c.requires.1 in
    parts-start (level_of c.args.sign) (part_of c.args.sign) R.joins (join_of c.args.sign) _ _ _ _ _ c.requires.0

pub row-returns-in_err-a : goal.row-returns-in_err-a
row-returns-in_err-a t c =
    let R = row c.args.sign c.requires.1 in
    rw c.from_residual.ensures (parts-refused (level_of c.args.sign) (part_of c.args.sign) R.joins (join_of c.args.sign) _ _ _ _ _ c.requires.0 _ _ _ _ c.loop-a.invariant c.in_err-a.ensures)

pub row-push_joins-count-requires : goal.row-push_joins-count-requires
row-push_joins-count-requires t c =
    let R = row c.args.sign c.requires.1 in
    joins-room (level_of c.args.sign) (part_of c.args.sign) R.joins (join_of c.args.sign) _ _ _ _ _ c.requires.0 _ _ _ _ c.loop-a.invariant _ _ c.in_ok-a.ensures c.part.auto.out

pub row-returns-then-t-sign : goal.row-returns-then-t-sign
row-returns-then-t-sign t c =
    let R = row c.args.sign c.requires.1 in
    let operator = ap (λ k. k - 3) c.from-operator.ensures ∙ R.operator in
    parts-end (level_of c.args.sign) (part_of c.args.sign) R.joins (join_of c.args.sign) _ _ _ _ _ c.requires.0 _ _ _ _ c.loop-a.invariant _ _ c.in_ok-a.ensures c.part.auto.out _ refl _ c.token_at-t.ensures _ _ (rw operator at c.push_joins-count.ensures) (R.other _ c.if-t-sign.true)

pub row-loop-a-smaller : goal.row-loop-a-smaller
row-loop-a-smaller t c =
    let R = row c.args.sign c.requires.1 in
    parts-less (level_of c.args.sign) (part_of c.args.sign) R.joins (join_of c.args.sign) _ _ _ _ _ c.requires.0 _ _ _ _ c.loop-a.invariant _ _ c.in_ok-a.ensures c.part.auto.out _ refl _ c.token_at-t.ensures (R.sign _ c.if-t-sign.false)

pub row-loop-a-preserved : goal.row-loop-a-preserved
row-loop-a-preserved t c =
    let R = row c.args.sign c.requires.1 in
    parts-on (level_of c.args.sign) (part_of c.args.sign) R.joins (join_of c.args.sign) _ _ _ _ _ c.requires.0 _ _ _ _ c.loop-a.invariant _ _ c.in_ok-a.ensures c.part.auto.out _ refl _ c.token_at-t.ensures (R.sign _ c.if-t-sign.false) _ _ c.push.ensures

pub formula-returns-in_err-a : goal.formula-returns-in_err-a
formula-returns-in_err-a t c =
    rw c.from_residual.ensures (join-no G.formula G.disjunction G.disjunction joins-formula c.args.text.now c.args.out.now c.args.at c.args.n c.args.d c.in_err-a.ensures)

pub formula-returns-then-not-contains : goal.formula-returns-then-not-contains
formula-returns-then-not-contains t c =
    let other : between 10 c.token_at-t.result.kind 12 ≡ false = search rules in
    join_one G.formula G.disjunction G.disjunction joins-formula _ _ _ _ _ _ _ _ c.in_ok-a.ensures c.token_at-t.ensures (stands-not 10 12 arrow_of c.token_at-t.result.kind other)

pub formula-row-requires-2 : goal.formula-row-requires-2
formula-row-requires-2 t c =
    let arrow : between 10 c.token_at-t.result.kind 12 ≡ true = search rules in
    let w = join-room G.formula G.disjunction G.disjunction joins-formula _ _ _ _ _ _ _ _ c.in_ok-a.ensures c.token_at-t.ensures _ (stands 10 12 arrow_of c.token_at-t.result.kind arrow) c.requires c.row.auto.out in
    (omega (arith, w.0, c.decreases), (w.1, refl))

pub formula-returns-in_err-b : goal.formula-returns-in_err-b
formula-returns-in_err-b t c =
    let arrow : between 10 c.token_at-t.result.kind 12 ≡ true = search rules in
    rw c.from_residual-in_err-b.ensures (join-bad G.formula G.disjunction G.disjunction joins-formula _ _ _ _ _ _ _ _ c.in_ok-a.ensures c.token_at-t.ensures _ (stands 10 12 arrow_of c.token_at-t.result.kind arrow) c.in_err-b.ensures)

pub formula-push-requires : goal.formula-push-requires
formula-push-requires t c =
    let arrow : between 10 c.token_at-t.result.kind 12 ≡ true = search rules in
    omega (arith, c.requires, c.row.auto.out, c.row-2.auto.out, join-push G.formula G.disjunction G.disjunction joins-formula _ _ _ _ _ _ _ _ c.in_ok-a.ensures c.token_at-t.ensures _ (stands 10 12 arrow_of c.token_at-t.result.kind arrow) _ _ c.in_ok-b.ensures c.requires)

pub formula-overflow_add-result : goal.formula-overflow_add-result
formula-overflow_add-result t c =
    let arrow : between 10 c.token_at-t.result.kind 12 ≡ true = search rules in
    omega (arith, join-push G.formula G.disjunction G.disjunction joins-formula _ _ _ _ _ _ _ _ c.in_ok-a.ensures c.token_at-t.ensures _ (stands 10 12 arrow_of c.token_at-t.result.kind arrow) _ _ c.in_ok-b.ensures c.requires)

pub formula-returns : goal.formula-returns
formula-returns t c =
    let arrow : between 10 c.token_at-t.result.kind 12 ≡ true = search rules in
    join_more G.formula G.disjunction G.disjunction joins-formula _ _ _ _ _ _ _ _ c.in_ok-a.ensures c.token_at-t.ensures _ (stands 10 12 arrow_of c.token_at-t.result.kind arrow) _ _ c.in_ok-b.ensures c.requires c.row.auto.out c.row-2.auto.out _ (rw (c.from.ensures, arrow-operator c.token_at-t.result.kind arrow) at c.push.ensures) _ refl

pub prefixed-returns : goal.prefixed-returns
prefixed-returns t c =
    prefix-yes _ _ _ _ _ _ _ c.requires.0 c.requires.1 c.requires.2 _ _ c.in_ok-a.ensures c.unit.auto.out _ (rw (c.from.ensures, c.from-2.ensures) at c.push.ensures)

pub unit-formula-requires : goal.unit-formula-requires
unit-formula-requires t c =
    let w = bracket-room _ _ _ _ _ c.requires _ c.token_at-t.ensures c.in-3.is in
    (omega (arith, w.0, c.decreases), w.1)

pub unit-returns-in_err-a-in-3 : goal.unit-returns-in_err-a-in-3
unit-returns-in_err-a-in-3 t c =
    rw c.from_residual.ensures (bracket-no _ _ _ _ _ c.requires _ c.token_at-t.ensures c.in-3.is c.in_err-a-in-3.ensures)

pub unit-returns-then-e-ne-RIGHT_BRACKET : goal.unit-returns-then-e-ne-RIGHT_BRACKET
unit-returns-then-e-ne-RIGHT_BRACKET t c =
    bracket-open _ _ _ _ _ c.requires _ c.token_at-t.ensures c.in-3.is _ _ c.in_ok-a-in-3.ensures _ c.token_at-e.ensures c.if-e-ne-RIGHT_BRACKET.true

pub unit-returns-else-e-ne-RIGHT_BRACKET : goal.unit-returns-else-e-ne-RIGHT_BRACKET
unit-returns-else-e-ne-RIGHT_BRACKET t c =
    bracket-yes _ _ _ _ _ c.requires _ c.token_at-t.ensures c.in-3.is _ _ c.in_ok-a-in-3.ensures _ c.token_at-e.ensures c.if-e-ne-RIGHT_BRACKET.false

pub unit-prefixed-requires : goal.unit-prefixed-requires
unit-prefixed-requires t c =
    let sign : 1 ≤ c.token_at-t.result.kind = omega (arith, c.in-7.is) in
    let w = prefixed-room _ _ _ _ _ c.requires _ c.token_at-t.ensures _ (first_on _ _ _ _ _ c.requires _ c.token_at-t.ensures sign) (first-within _ _ _ _ _ c.requires _ c.token_at-t.ensures) in
    (omega (arith, w.0, c.decreases), w.1)

pub unit-returns-in-7 : goal.unit-returns-in-7
unit-returns-in-7 t c =
    unit-negation _ _ _ _ _ c.requires _ c.token_at-t.ensures c.in-7.is _ _ c.prefixed.ensures

pub unit-token_at-v-requires : goal.unit-token_at-v-requires
unit-token_at-v-requires t c =
    first-within _ _ _ _ _ c.requires _ c.token_at-t.ensures

pub unit-returns-then-v-ne-VARIABLE : goal.unit-returns-then-v-ne-VARIABLE
unit-returns-then-v-ne-VARIABLE t c =
    let quantifier : between 5 c.token_at-t.result.kind 6 ≡ true = search rules in
    let low = between-range 5 c.token_at-t.result.kind 6 quantifier in
    unit-unbound _ _ _ _ _ c.requires _ c.token_at-t.ensures quantifier _ c.token_at-v.ensures (λ e. omega (arith, e, low)) (λ e. omega (arith, e, low)) c.if-v-ne-VARIABLE.true

pub unit-prefixed-requires-in-5-to-6 : goal.unit-prefixed-requires-in-5-to-6
unit-prefixed-requires-in-5-to-6 t c =
    let quantifier : between 5 c.token_at-t.result.kind 6 ≡ true = search rules in
    let low = between-range 5 c.token_at-t.result.kind 6 quantifier in
    let w = prefixed-room _ _ _ _ _ c.requires _ c.token_at-t.ensures _ (variable-on _ _ _ _ _ c.requires _ c.token_at-t.ensures quantifier _ c.token_at-v.ensures) (variable-within _ _ _ _ _ c.requires _ c.token_at-t.ensures quantifier _ c.token_at-v.ensures) in
    (omega (arith, w.0, c.decreases), w.1)

pub unit-returns-else-v-ne-VARIABLE : goal.unit-returns-else-v-ne-VARIABLE
unit-returns-else-v-ne-VARIABLE t c =
    let quantifier : between 5 c.token_at-t.result.kind 6 ≡ true = search rules in
    let low = between-range 5 c.token_at-t.result.kind 6 quantifier in
    unit-quantified _ _ _ _ _ c.requires _ c.token_at-t.ensures quantifier _ c.token_at-v.ensures (λ e. omega (arith, e, low)) (λ e. omega (arith, e, low)) c.if-v-ne-VARIABLE.false _ _ c.prefixed-in-5-to-6.ensures

pub unit-variable_literal-requires : goal.unit-variable_literal-requires
unit-variable_literal-requires t c =
    token-room _ _ _ c.token_at-t.ensures _ _ _ c.requires

pub unit-returns-in-22 : goal.unit-returns-in-22
unit-returns-in-22 t c =
    unit-variable-literal _ _ _ _ _ c.requires _ c.token_at-t.ensures c.in-22.is _ _ c.variable_literal.ensures

pub unit-size_literal-requires : goal.unit-size_literal-requires
unit-size_literal-requires t c =
    token-room _ _ _ c.token_at-t.ensures _ _ _ c.requires

pub unit-returns-in-15 : goal.unit-returns-in-15
unit-returns-in-15 t c =
    unit-size-literal _ _ _ _ _ c.requires _ c.token_at-t.ensures c.in-15.is _ _ c.size_literal.ensures

pub unit-returns-in_default : goal.unit-returns-in_default
unit-returns-in_default t c =
    no-unit _ _ _ _ _ c.requires _ c.token_at-t.ensures (search rules) (search rules) (search rules) (search rules) (search rules)

pub unit-returns-in_default-2 : goal.unit-returns-in_default-2
unit-returns-in_default-2 t c =
    no-unit _ _ _ _ _ c.requires _ c.token_at-t.ensures (search rules) (search rules) (search rules) (search rules) (search rules)
