use Rattle.text_emit.specs.inner.Fields.{bound_letters}
use Rattle.text_emit.proofs.Bytes.{number-inner, number-middle, number-outer}
use Rattle.text_emit.proofs.variable_number.Goals as goal

pub returns-then-v-b : goal.returns-then-v-b
unfolding bound_letters
returns-then-v-b c =
    number-inner _ _ _ _ _ c.if-b-gt2.true c.if-v-b.true

pub returns-then-v-b-2 : goal.returns-then-v-b-2
unfolding bound_letters
returns-then-v-b-2 c =
    number-middle _ _ _ _ _ c.if-b-gt1.true c.if-v-b-2.true c.else-b-gt2.either

pub returns-else-b-gt1 : goal.returns-else-b-gt1
unfolding bound_letters
returns-else-b-gt1 c =
    number-outer _ _ _ _ _ c.else-b-gt1.either c.else-b-gt2.either
