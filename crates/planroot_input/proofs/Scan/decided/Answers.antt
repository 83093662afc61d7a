use Rattle.planroot_input.proofs.Settling.{decides-first, undecided-first, decides-second, wrong-second, undecided-second, decides-text, wrong-text}
use borrow.Author.Tests.{not-true}
use Rattle.planroot_input.proofs.Scan.decided.Goals as goal

pub returns-in-NoRun : goal.returns-in-NoRun
returns-in-NoRun c =
    decides-first _ c.in-FirstLine.is c.in-NoRun.is

pub returns-in_default : goal.returns-in_default
returns-in_default c =
    undecided-first _ c.in-FirstLine.is

pub returns-then-not-self : goal.returns-then-not-self
returns-then-not-self c =
    rw c.if-not-self.true (wrong-second _ c.in-SecondLine.is (not-true _ c.if-not-self.true))

pub returns-in-NoRun-matches : goal.returns-in-NoRun-matches
returns-in-NoRun-matches c =
    decides-second _ c.in-SecondLine.is c.in-NoRun-matches.is

pub returns-in_default-matches : goal.returns-in_default-matches
returns-in_default-matches c =
    undecided-second _ c.in-SecondLine.is

pub returns-then-not-self-2 : goal.returns-then-not-self-2
returns-then-not-self-2 c =
    rw c.if-not-self-2.true (wrong-text _ c.in-Text.is (not-true _ c.if-not-self-2.true))

pub returns-else-not-self-2 : goal.returns-else-not-self-2
returns-else-not-self-2 c =
    decides-text _ c.in-Text.is
