use Rattle.std.proofs.Common.{◌≡◌, filter, take}
use Rattle.pv_model_questions.specs.AboutFiles.{keeps_node}
use Rattle.pv_named_files.specs.FirstPaths.{files_given, first_tree}
use Rattle.pv_named_files.proofs.first_paths.FirstPaths.kept.Given as goal

abbrev pub invariant-loop-node : goal.invariant-loop-node
invariant-loop-node l = l.kept.items ≡ filter (keeps_node (files_given l.self) (first_tree l.self) l.tree.tree) (take l.node-index l.nodes)
