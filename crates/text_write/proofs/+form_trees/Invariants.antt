use lib.ListN.{length}
use Rattle.text_write.proofs.+form_trees.Given as goal

abbrev pub decreases-form_trees : goal.decreases-form_trees
decreases-form_trees l = length l.part.now
