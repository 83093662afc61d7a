use Rattle.std.proofs.Common.{◌≡◌, arith, refl}
use Rattle.text_tree.specs.Tree.{letters_of}
use Rattle.text_form.specs.Form.{sets_from}
use Rattle.text_write.proofs.Texts.{puts-letter}
use Rattle.text_write.proofs.put_letters.Goals as goal

pub loop-s-init : goal.loop-s-init
unfolding letters_of sets_from
loop-s-init c =
    record { end_is = omega arith; out-is = refl }

pub loop-s-preserved : goal.loop-s-preserved
loop-s-preserved c =
    puts-letter _ _ _ _ _ _ c.loop-s.invariant c.put_byte.ensures

pub returns : goal.returns
returns c =
    let all : c.loop-s.s ≡ c.args.sets = omega arith in rw all at c.loop-s.invariant
