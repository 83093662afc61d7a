use lib.ListN.{length}
use Rattle.text_names.proofs.+declared_twice.Given as goal

abbrev pub decreases-declared_twice : goal.decreases-declared_twice
decreases-declared_twice l = length l.sets.now
