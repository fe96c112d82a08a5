use Rattle.std.proofs.Common.{◌≡◌}
use Rattle.pv_host_copy.proofs.DirectoryDescent.{GoesOn, steps_left}
use Rattle.pv_host_copy.proofs.walking.import_directory.Given as goal

abbrev pub invariant-loop-current : goal.invariant-loop-current
invariant-loop-current g l = record {
  version : l.importing.version ≡ l.fn.importing.version;
  goes : GoesOn g.D.HostDirectory.rest l.fn.importing.version (g.D.HostDirectory.rest l.fn.directory) l.reading.items l.fn.importing l.importing;
}

abbrev pub decreases-loop-current : goal.decreases-loop-current
decreases-loop-current g l = steps_left g.D.HostDirectory.left l.reading.items
