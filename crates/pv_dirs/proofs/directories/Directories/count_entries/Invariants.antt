use Rattle.pv_dirs.specs.Dirs.{directory_entries}
use Rattle.pv_dirs.proofs.EntryCounts.{IsCountedUpTo}
use Rattle.pv_dirs.proofs.directories.Directories.count_entries.Given as goal

-- the entries of the slots so far are counted
abbrev pub invariant-loop-k : goal.invariant-loop-k
invariant-loop-k l = IsCountedUpTo (directory_entries l.dir) l.directory l.k l.counts l.parents l.initial.counts l.initial.parents
