use Rattle.std.proofs.Common.{subst, sym, ap, ◌∙◌}
use Rattle.std.specs.Prelude.{option_map, IsSome}
use Rattle.pv_model.specs.Machine.{Tree, node_at}
use Rattle.pv_dirs.specs.Trees.{kind_of_node}
use Rattle.pv_dirs.proofs.FileContents.{sort_at-tree_of_files}
use Rattle.pv_dirs.proofs.FileTrees.{used_in}
use Rattle.pv_dirs.proofs.directories.Directories.kind.Goals as goal

pub kind-requires : goal.kind-requires
kind-requires c = used_in c.self.inside.inodes c.args.inode (subst (λ (t : Tree). IsSome (node_at t c.args.inode)) (sym c.self.view_is) c.requires)

pub returns : goal.returns
returns c = ap (λ (t : Tree). option_map kind_of_node (node_at t c.args.inode)) (sym c.self.view_is) ∙ sort_at-tree_of_files c.self.inside.inodes c.args.inode ∙ c.kind.ensures
