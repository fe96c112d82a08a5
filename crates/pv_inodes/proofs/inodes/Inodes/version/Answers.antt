use Rattle.std.proofs.Common.{sym, ap, ◌∙◌}
use Rattle.pv_inodes.specs.Files.{Files}
use Rattle.pv_inodes.proofs.ChangedInode.{version-files_of}
use Rattle.pv_inodes.proofs.inodes.Inodes.version.Goals as goal

pub returns : goal.returns
returns c = sym (version-files_of c.self.inside.version c.self.inside.blocks c.self.inside.inodes) ∙ ap (λ (f : Files). f.version) c.self.view_is
