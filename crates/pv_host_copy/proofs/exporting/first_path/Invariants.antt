use Rattle.std.proofs.Common.{◌≡◌, drop}
use Rattle.std.specs.Prelude.{map}
use Rattle.pv_host_copy.specs.Exported.{path_pair}
use Rattle.pv_host_copy.specs.Encoded.{first_path}
use Rattle.pv_host_copy.proofs.exporting.first_path.Given as goal

abbrev pub invariant-loop-first : goal.invariant-loop-first
invariant-loop-first l = first_path l.node (map path_pair (drop l.first-index l.firsts)) ≡ first_path l.node (map path_pair l.firsts)
