use Rattle.std.proofs.Common.{◌≡◌, ◌-◌, ◌++◌, min, length, take, drop, sym, subst}
use Rattle.pv_model.specs.Machine.{Bytes}
use Rattle.pv_dirs.proofs.TreeViews.{viewed_used, viewed_bytes}
use Rattle.pv_dirs.proofs.directories.Directories.read_at.Goals as goal

pub read_at-requires : goal.read_at-requires
read_at-requires c = viewed_used c.self.inside.inodes c.args.self.now c.args.inode c.self.view_is c.requires.used

pub returns-clause-count : goal.returns-clause-count
returns-clause-count c =
    let same = viewed_bytes c.self.inside.inodes c.args.self.now c.args.inode c.self.view_is c.requires.used c.requires.other in
    subst (λ (old : Bytes). c.read_at.result ≡ min (length c.args.buffer.now) (length old - c.args.at)) (sym same) c.read_at.ensures.count

pub returns-clause-bytes : goal.returns-clause-bytes
returns-clause-bytes c =
    let same = viewed_bytes c.self.inside.inodes c.args.self.now c.args.inode c.self.view_is c.requires.used c.requires.other in
    subst (λ (old : Bytes). c.read_at.new.buffer ≡ take c.read_at.result (drop c.args.at old) ++ drop c.read_at.result c.args.buffer.now) (sym same) c.read_at.ensures.bytes
