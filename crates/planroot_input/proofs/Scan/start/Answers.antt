use Rattle.planroot_input.specs.inner.Scans.{Starts}
use Rattle.planroot_input.proofs.Gathering.{start-scanned}
use Rattle.planroot_input.proofs.Scan.start.Goals as goal

pub returns : goal.returns
unfolding Starts
returns c =
    start-scanned _ _ _ _
