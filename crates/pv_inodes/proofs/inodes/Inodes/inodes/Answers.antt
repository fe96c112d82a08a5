use Rattle.std.proofs.Common.{length, sym, ap, ◌∙◌}
use Rattle.pv_inodes.specs.Files.{Files}
use Rattle.pv_inodes.proofs.ReadResults.{length-files_of}
use Rattle.pv_inodes.proofs.inodes.Inodes.inodes.Goals as goal

pub returns : goal.returns
returns c = ap (λ (f : Files). length f.nodes) (sym c.self.view_is) ∙ length-files_of c.self.inside.version c.self.inside.blocks c.self.inside.inodes
