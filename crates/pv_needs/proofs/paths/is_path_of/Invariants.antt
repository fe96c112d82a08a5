use Rattle.std.proofs.Common.{◌≡◌, Some, length}
use Rattle.std.specs.Prelude.{IsTrue}
use Rattle.pv_model.specs.Machine.{node_path, is_directory_at}
use Rattle.pv_needs.proofs.paths.is_path_of.Given as goal

abbrev pub decreases-loop-before : goal.decreases-loop-before
decreases-loop-before l = length l.rest

-- if the rest is the path of the directory reached, the whole is the path of the directory
abbrev pub invariant-loop-before : goal.invariant-loop-before
invariant-loop-before l = record {
  directory : IsTrue (is_directory_at l.tree.tree l.reached);
  path : node_path l.tree.tree l.reached ≡ Some l.rest → node_path l.tree.tree l.fn.directory ≡ Some l.fn.path;
}
