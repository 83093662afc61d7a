use Rattle.std.proofs.Common.{refl}
use Rattle.table_format.specs.inner.Index.{blank_index}
use Rattle.table_format.proofs.Index.new.Goals as goal

pub returns : goal.returns
unfolding blank_index
returns c = refl
