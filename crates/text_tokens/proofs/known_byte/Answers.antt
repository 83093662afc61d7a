use Rattle.text_tokens.specs.Tokens.{blanks_and_signs}
use Rattle.text_tokens.proofs.Laws.{known_test}
use Rattle.text_tokens.proofs.known_byte.Goals as goal

pub returns-then-is_ascii_alphanumeric : goal.returns-then-is_ascii_alphanumeric
returns-then-is_ascii_alphanumeric c =
    rw (known_test c.args.b, ← c.is_ascii_alphanumeric.ensures.value, c.if-is_ascii_alphanumeric.true)

pub returns-else-is_ascii_alphanumeric : goal.returns-else-is_ascii_alphanumeric
unfolding blanks_and_signs
returns-else-is_ascii_alphanumeric c =
    rw (known_test c.args.b, ← c.is_ascii_alphanumeric.ensures.value, c.if-is_ascii_alphanumeric.false) c.contains.ensures.value
