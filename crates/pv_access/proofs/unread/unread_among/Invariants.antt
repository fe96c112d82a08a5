use Rattle.std.proofs.Common.{◌≡◌, ◌++◌, drop, filter}
use Rattle.pv_access.specs.Unread.{is_without_note}
use Rattle.pv_access.proofs.unread.unread_among.Given as goal

abbrev pub invariant-loop-file : goal.invariant-loop-file
invariant-loop-file l =
    l.files.items ++ filter (is_without_note l.tree.tree l.searched.texts) (drop l.file-index l.named) ≡ filter (is_without_note l.tree.tree l.searched.texts) l.named
