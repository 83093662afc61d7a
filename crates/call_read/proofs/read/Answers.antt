use mathlib.Core.Path.{sym, ◌∙◌}
use native.Mathlib.Omega.{arith}
use borrow.Author.Tests.{not-true, not-false}
use Rattle.contracts.proofs.Grounds.{ports-low, ports-high, ports-in}
use Rattle.call_read.proofs.Answers.{read-10, read-1, read-2, read-3, read-4, some-text, read-last}
use Rattle.call_read.proofs.read.Goals as goal

pub returns-then-u-lt1 : goal.returns-then-u-lt1
returns-then-u-lt1 c =
    read-10 _ _ _ (ports-low _ c.if-u-lt1.true)

pub returns-then-u-gt64 : goal.returns-then-u-gt64
returns-then-u-gt64 c =
    read-10 _ _ _ (ports-high _ c.if-u-gt64.true)

pub returns-then-text-gt4096 : goal.returns-then-text-gt4096
returns-then-text-gt4096 c =
    read-1 _ c.args.text.now _ (ports-in _ c.if-u-lt1.false c.if-u-gt64.false) (omega (arith, c.if-text-gt4096.true))

pub returns-then-not-known_bytes : goal.returns-then-not-known_bytes
returns-then-not-known_bytes c =
    read-2 _ _ _ (ports-in _ c.if-u-lt1.false c.if-u-gt64.false) c.if-text-gt4096.false (sym c.known_bytes.ensures ∙ not-true _ c.if-not-known_bytes.true-raw)

pub returns-in_default : goal.returns-in_default
returns-in_default c =
    read-3 _ _ _ (ports-in _ c.if-u-lt1.false c.if-u-gt64.false) c.if-text-gt4096.false (sym c.known_bytes.ensures ∙ not-false _ c.if-not-known_bytes.false-raw) c.in_default.ensures

pub returns-then-s : goal.returns-then-s
returns-then-s c =
    read-4 _ _ _ (ports-in _ c.if-u-lt1.false c.if-u-gt64.false) c.if-text-gt4096.false (sym c.known_bytes.ensures ∙ not-false _ c.if-not-known_bytes.false-raw) _ _ c.in-Some.ensures.is (sym c.in-Some.ensures.deeper ∙ c.if-s.true)

pub finish-requires : goal.finish-requires
finish-requires c =
    some-text _ _ _ _ c.in-Some.ensures c.parse.auto.letters c.if-s.false _ c.if-u-lt1.false c.if-u-gt64.false

pub returns : goal.returns
returns c =
    read-last _ _ _ _ c.in-Some.ensures c.parse.auto.letters c.if-s.false _ _ _ _ c.if-u-lt1.false c.if-u-gt64.false c.if-text-gt4096.false (sym c.known_bytes.ensures ∙ not-false _ c.if-not-known_bytes.false-raw) c.finish.ensures
