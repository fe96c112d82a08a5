use Rattle.std.proofs.Common.{length, sym, ap, ◌∙◌}
use Rattle.pv_model.specs.Machine.{Tree}
use Rattle.pv_dirs.proofs.FileTrees.{inodes-tree_of_files, length-tree_of_files}
use Rattle.pv_dirs.proofs.directories.Directories.inodes.Goals as goal

pub returns-clause-value : goal.returns-clause-value
returns-clause-value c = sym (inodes-tree_of_files c.self.inside.inodes c.inodes.result c.inodes.ensures) ∙ ap (λ (t : Tree). t.inodes) c.self.view_is

pub returns-clause-numbers : goal.returns-clause-numbers
returns-clause-numbers c = ap (λ (t : Tree). length t.nodes) (sym c.self.view_is) ∙ length-tree_of_files c.self.inside.inodes ∙ c.inodes.ensures
