use Rattle.std.proofs.Common.{◌≡◌, ◌+◌, ◌-◌, length, take, drop, arith, ap, ◌∙◌}
use Rattle.std.specs.Prelude.{take_while}
use Rattle.std.proofs.lemmas.Grind.{common_steps}
use Rattle.text_tokens.specs.Tokens.{blank, after_blanks}
use Rattle.text_tokens.proofs.Laws.{blanks_count}
use Rattle.text_tokens.proofs.after_blanks.Goals as goal

pub returns : goal.returns
unfolding after_blanks
returns c =
    let rest = drop c.args.at c.args.text.now in
    let whole : take (length c.args.text.now - c.args.at) rest ≡ rest = grind (arith, common_steps) in
    ap (λ n. c.args.at + n) (c.blanks.ensures ∙ ap (λ s. length (take_while blank s)) whole ∙ blanks_count rest)
