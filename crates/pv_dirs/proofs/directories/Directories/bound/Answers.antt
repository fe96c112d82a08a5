use Rattle.std.proofs.Common.{sym, ap, ◌∙◌}
use Rattle.std.specs.Prelude.{Option, option_map}
use Rattle.pv_model.specs.Machine.{Tree, node_at}
use Rattle.pv_inodes.specs.Files.{Contained}
use Rattle.pv_dirs.specs.Trees.{node_of_contained}
use Rattle.pv_dirs.proofs.FileTrees.{node_at-tree_of_files}
use Rattle.pv_dirs.proofs.directories.Directories.bound.Goals as goal

pub returns : goal.returns
returns c = λ k past.
    let f = c.self.inside.inodes in
    ap (λ (t : Tree). node_at t k) (sym c.self.view_is)
    ∙ node_at-tree_of_files f k
    ∙ ap (λ (o : Option Contained). option_map (node_of_contained f.version) o) (c.bound.ensures k past)
