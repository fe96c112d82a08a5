use Rattle.pv_image.proofs.MigratedRuns.{migrated-keep_traces}
use Rattle.pv_image.proofs.migrated_keep_traces.Goals as goal

pub returns : goal.returns
returns c = migrated-keep_traces
