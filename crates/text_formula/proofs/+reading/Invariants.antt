use Rattle.std.proofs.Common.{◌+◌, ◌*◌, ◌-◌, length}
use Rattle.text_grammar.specs.inner.Contract.{level_of}
use Rattle.text_grammar.proofs.Parts.{Parts, join_of}
use Rattle.text_formula.proofs.+reading.Given as goal

abbrev pub decreases-unit : goal.decreases-unit
decreases-unit l = 8 * (length l.text.now - l.at) + 15

abbrev pub decreases-prefixed : goal.decreases-prefixed
decreases-prefixed l = 8 * (length l.text.now - l.at) + 16

-- 16 and 17 for `&`, 18 and 19 for `|`
abbrev pub decreases-part : goal.decreases-part
decreases-part l = 8 * (length l.text.now - l.at) + 2 * l.sign

abbrev pub decreases-row : goal.decreases-row
decreases-row l = 8 * (length l.text.now - l.at) + 2 * l.sign + 1

abbrev pub decreases-formula : goal.decreases-formula
decreases-formula l = 8 * (length l.text.now - l.at) + 20

abbrev pub invariant-row-loop-a : goal.invariant-row-loop-a
invariant-row-loop-a l = Parts (level_of l.sign) (join_of l.sign) l.text l.initial.out l.out l.at l.n l.d l.next l.link l.deep

abbrev pub decreases-row-loop-a : goal.decreases-row-loop-a
decreases-row-loop-a l = length l.text - l.next
