use mathlib.Core.Path.{refl}
use native.Mathlib.Omega.{arith}
use lib.ListN.{length-set}
use Rattle.table_format.specs.Bytes.{word_bytes}
use Rattle.table_format.proofs.Writing.{word-written}
use Rattle.table_format.proofs.put_word.Goals as goal

pub bounds-out-at-2 : goal.bounds-out-at-2
bounds-out-at-2 c =
    simp length-set (omega arith)

pub returns : goal.returns
unfolding word_bytes
returns c =
    word-written _ _ _ _ _ refl
