use Rattle.std.proofs.Common.{◌-◌, length}
use Rattle.text_grammar.proofs.Declaration.{Passed}
use Rattle.text_literal.proofs.set_letters.Given as goal

abbrev pub invariant-loop-t : goal.invariant-loop-t
invariant-loop-t l = Passed l.text l.at l.read.next l.letters l.read.count

abbrev pub decreases-loop-t : goal.decreases-loop-t
decreases-loop-t l = length l.text - l.read.next
