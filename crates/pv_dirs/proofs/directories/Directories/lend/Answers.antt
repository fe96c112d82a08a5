use Rattle.std.proofs.Common.{◌≡◌, ◌-◌, ◌%◌, ◌<◌, length, take, drop, sym, subst}
use Rattle.pv_model.specs.Machine.{Bytes}
use Rattle.pv_dirs.proofs.TreeViews.{viewed_used, viewed_bytes}
use Rattle.pv_dirs.proofs.directories.Directories.lend.Goals as goal

pub lend-requires-clause-used : goal.lend-requires-clause-used
lend-requires-clause-used c = viewed_used c.self.inside.inodes c.args.self.now c.args.inode c.self.view_is c.requires.used

pub lend-requires-clause-within : goal.lend-requires-clause-within
lend-requires-clause-within c =
    let same = viewed_bytes c.self.inside.inodes c.args.self.now c.args.inode c.self.view_is c.requires.used c.requires.other in
    subst (λ (old : Bytes). c.args.at < length old) same c.requires.within

pub returns : goal.returns
returns c =
    let same = viewed_bytes c.self.inside.inodes c.args.self.now c.args.inode c.self.view_is c.requires.used c.requires.other in
    subst (λ (old : Bytes). c.lend.result.now ≡ take (512 - c.args.at % 512) (drop c.args.at old)) (sym same) c.lend.ensures
