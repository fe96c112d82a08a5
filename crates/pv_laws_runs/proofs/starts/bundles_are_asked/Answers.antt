use Rattle.pv_laws_runs.proofs.RunChecks.{asks-bundle, bundle-asks}
use Rattle.pv_laws_runs.proofs.starts.bundles_are_asked.Goals as goal

pub returns : goal.returns
returns c bytes it = (bundle-asks bytes it, asks-bundle bytes it)
