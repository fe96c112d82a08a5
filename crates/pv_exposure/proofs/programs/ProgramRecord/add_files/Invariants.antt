use Rattle.std.proofs.Common.{◌≡◌, Some, drop, map}
use Rattle.pv_model.specs.Machine.{Process, process_at}
use Rattle.pv_named_files.specs.FirstPaths.{first_tree}
use Rattle.pv_exposure.specs.Stored.{located_in_visit, exposed_with_files}
use Rattle.pv_exposure.proofs.FileDescriptions.{node_in}
use Rattle.pv_exposure.proofs.programs.ProgramRecord.add_files.Given as goal

abbrev pub invariant-loop-file : goal.invariant-loop-file
invariant-loop-file l = (p : Process) → process_at l.visit.parts.now l.visit.pid ≡ Some p
    → exposed_with_files (first_tree l.visit.paths.now) (located_in_visit l.visit p) l.self (map node_in (drop l.file-index l.files))
    ≡ exposed_with_files (first_tree l.visit.paths.now) (located_in_visit l.visit p) l.fn.self (map node_in l.files)
