use Rattle.std.proofs.Common.{Some, sym, ap, ◌∙◌}
use Rattle.std.proofs.lemmas.Bool.{false≢true}
use Rattle.pv_dirs.proofs.FileContents.{is_directory_by_sort, no_directory_by_sort, no_directory_unused}
use Rattle.pv_dirs.proofs.dir.is_directory.Goals as goal

pub returns-in-Directory : goal.returns-in-Directory
returns-in-Directory c = sym (is_directory_by_sort c.args.inodes.now c.args.inode (c.kind.ensures ∙ ap Some c.in-Directory.is))

pub returns-in_default : goal.returns-in_default
returns-in_default c = sym (no_directory_by_sort c.args.inodes.now c.args.inode c.kind.result c.kind.ensures c.in_default.not-Directory)

pub returns-else-is_used : goal.returns-else-is_used
returns-else-is_used c = c.if-is_used.false ∙ sym (no_directory_unused c.args.inodes.now c.args.inode (λ used. false≢true (sym c.if-is_used.false ∙ c.is_used.ensures.1 used)))
