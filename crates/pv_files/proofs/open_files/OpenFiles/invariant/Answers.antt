use Rattle.std.proofs.Common.{subst}
use Rattle.pv_files.specs.Counted.{IsCounted}
use Rattle.pv_files.proofs.RecordKeys.{counted}
use Rattle.pv_files.proofs.open_files.OpenFiles.invariant.Goals as goal

pub returns : goal.returns
returns c = subst IsCounted c.self.view_is (counted c.self.inside.records c.self.inside.keys c.self.invariant.are_keys.count)
