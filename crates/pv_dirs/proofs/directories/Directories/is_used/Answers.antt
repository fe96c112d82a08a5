use Rattle.std.proofs.Common.{◌≡◌, is_some, sym, ap, ◌∙◌}
use Rattle.pv_model.specs.Machine.{Tree, node_at}
use Rattle.pv_inodes.specs.Files.{held}
use Rattle.pv_dirs.proofs.FileTrees.{is_some-tree_of_files}
use Rattle.pv_dirs.proofs.directories.Directories.is_used.Goals as goal
use Rattle.pv_dirs.proofs.directories.Directories.is_used.Goals.{After-is_used}

same : (c : After-is_used) → is_some (node_at c.args.self.now c.args.inode) ≡ is_some (held c.self.inside.inodes c.args.inode)
same c = ap (λ (t : Tree). is_some (node_at t c.args.inode)) (sym c.self.view_is) ∙ is_some-tree_of_files c.self.inside.inodes c.args.inode

pub returns : goal.returns
returns c = (λ is. same c ∙ c.is_used.ensures.0 is, λ used. c.is_used.ensures.1 (sym (same c) ∙ used))
