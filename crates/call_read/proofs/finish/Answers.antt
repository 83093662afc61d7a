use mathlib.Core.Path.{◌≡◌, refl}
use borrow.Author.Rules.{rules}
use Rattle.std.specs.Prelude.{Err}
use Rattle.call_read.proofs.Finishing.{finish-refused, finish-short, finish-few, finish-ready, finish-accepted, from_start}
use Rattle.call_read.proofs.finish.Goals as goal

pub returns-in_err-c : goal.returns-in_err-c
returns-in_err-c c =
    let e : c.from_residual.result ≡ Err c.in_err-c.field-0.0 = search rules in rw e (finish-refused _ _ _ _ _ _ (from_start c.args.n c.args.letters.now) _ c.in_err-c.ensures _)

pub table_bytes-requires : goal.table_bytes-requires
table_bytes-requires c =
    finish-few c.args.u _ _ _ _ _ (from_start c.args.n c.args.letters.now) c.in_ok-c.c c.in_ok-c.ensures c.args.table.now _ refl c.requires.sets c.requires.tree c.requires.kept

pub returns-then-table-table_bytes : goal.returns-then-table-table_bytes
returns-then-table-table_bytes c =
    finish-short _ _ _ _ _ _ (from_start c.args.n c.args.letters.now) c.in_ok-c.c c.in_ok-c.ensures c.args.table.now c.in_ok-c.c.nodes refl (rw c.table_bytes.ensures at c.if-table-table_bytes.true)

pub write_plan-requires : goal.write_plan-requires
write_plan-requires c =
    finish-ready c.args.u _ _ _ _ _ (from_start c.args.n c.args.letters.now) c.in_ok-c.c c.in_ok-c.ensures _ _ refl c.requires.sets c.requires.tree c.requires.kept (rw c.table_bytes.ensures at c.if-table-table_bytes.false)

pub returns : goal.returns
returns c =
    finish-accepted _ _ _ _ _ _ (from_start c.args.n c.args.letters.now) c.in_ok-c.c c.in_ok-c.ensures _ _ refl _ (rw c.table_bytes.ensures at c.if-table-table_bytes.false) c.write_plan.ensures
