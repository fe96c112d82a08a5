use Rattle.std.specs.Option.{option_copied}
use Rattle.pv_text.specs.Components.{left_in}
use Rattle.pv_host_copy.proofs.SourceEntries.{IsSoughtIn}
use Rattle.pv_host_copy.proofs.given.has_directory.Given as goal

abbrev pub invariant-loop-rest : goal.invariant-loop-rest
invariant-loop-rest l = IsSoughtIn l.tree.tree l.path l.directory (option_copied l.rest)

abbrev pub decreases-loop-rest : goal.decreases-loop-rest
decreases-loop-rest l = left_in (option_copied l.rest)
