use Rattle.std.specs.Option.{option_copied}
use Rattle.pv_dirs.proofs.NamedInodes.{next-viewed}
use Rattle.pv_dirs.proofs.TreeViews.{viewed_directory_used}
use Rattle.pv_dirs.proofs.directories.Directories.next_name_of.Goals as goal

pub invariant_of-dir : goal.invariant_of-dir
invariant_of-dir c = record { used = viewed_directory_used c.self.inside.inodes c.args.self.now c.args.directory c.self.view_is c.requires }

pub returns : goal.returns
returns c =
    next-viewed c.self.inside.inodes c.self.inside.block_count c.args.self.now c.args.directory c.args.node c.self.view_is c.self.invariant.holding c.requires
    (option_copied c.args.last) c.next_with.result c.next_with.ensures
