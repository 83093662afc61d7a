use Rattle.plantable_bytes.proofs.Passing.{word-none, word-more, word-all}
use Rattle.plantable_bytes.proofs.word_of.Goals as goal

pub loop-b-init : goal.loop-b-init
loop-b-init c =
    word-none c.args.line.now

pub loop-b-preserved : goal.loop-b-preserved
loop-b-preserved c =
    word-more c.args.line.now _ _ _ c.loop-b-test.true c.loop-b.invariant c.add_byte-w.ensures

pub returns : goal.returns
returns c =
    word-all c.args.line.now _ _ c.loop-b-test.false c.loop-b.invariant
