use Rattle.std.proofs.Common.{rules, arith, sym, ◌∙◌, ◌≡◌, ◌≤◌, ◌<◌, true, false, length, get_or}
use Rattle.std.proofs.lemmas.Grind.{common_steps}
use Rattle.text_tokens.specs.Tokens.{is_digit}
use Rattle.text_tokens.proofs.Laws.{run_stop, run_more}
use Rattle.text_tokens.proofs.run_at.Goals as goal

pub loop-b-preserved : goal.loop-b-preserved
loop-b-preserved c =
    let here : c.loop-b.run.end < length c.args.text.now = search rules in
    let byte : c.in-Some.field-0.now ≡ get_or c.args.text.now c.loop-b.run.end 0 = search rules in
    let digit : is_digit (get_or c.args.text.now c.loop-b.run.end 0) ≡ true = rw (← byte) (sym c.is_ascii_digit.ensures.value ∙ c.if-is_ascii_digit.true) in
    let more = run_more c.args.text.now c.loop-b.run.end c.loop-b.run.value here digit in
    (omega (arith, c.with_digit.ensures), rw (c.with_digit.ensures, byte) (more ∙ c.loop-b.invariant.1))

pub returns-in-loop-b : goal.returns-in-loop-b
returns-in-loop-b c =
    let past : length c.args.text.now ≤ c.loop-b.run.end = search rules in
    let none : is_digit (get_or c.args.text.now c.loop-b.run.end 0) ≡ false = grind (arith, common_steps) in
    sym (run_stop c.args.text.now c.loop-b.run.end c.loop-b.run.value none c.loop-b.invariant.0) ∙ c.loop-b.invariant.1

pub returns-else-is_ascii_digit : goal.returns-else-is_ascii_digit
returns-else-is_ascii_digit c =
    let byte : c.in-Some.field-0.now ≡ get_or c.args.text.now c.loop-b.run.end 0 = search rules in
    let none : is_digit (get_or c.args.text.now c.loop-b.run.end 0) ≡ false = rw (← byte) (sym c.is_ascii_digit.ensures.value ∙ c.if-is_ascii_digit.false) in
    sym (run_stop c.args.text.now c.loop-b.run.end c.loop-b.run.value none c.loop-b.invariant.0) ∙ c.loop-b.invariant.1
