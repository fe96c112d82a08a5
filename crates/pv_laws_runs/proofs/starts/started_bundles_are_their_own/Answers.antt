use Rattle.pv_laws_runs.proofs.BundlePrograms.{started-accepted, started-own}
use Rattle.pv_laws_runs.proofs.starts.started_bundles_are_their_own.Goals as goal

pub returns : goal.returns
returns c = record { accepted = started-accepted; own = started-own }
