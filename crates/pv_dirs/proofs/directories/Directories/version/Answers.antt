use Rattle.std.proofs.Common.{sym, ◌∙◌}
use Rattle.pv_dirs.proofs.TreeViews.{viewed_version}
use Rattle.pv_dirs.proofs.directories.Directories.version.Goals as goal

pub returns : goal.returns
returns c = c.version.ensures ∙ sym (viewed_version c.self.inside.inodes c.args.self.now c.self.view_is)
