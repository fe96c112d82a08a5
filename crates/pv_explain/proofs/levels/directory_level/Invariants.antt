use Rattle.pv_model.specs.Machine.{entries_of_table}
use Rattle.pv_explain.proofs.EntryLevels.{IsClimbing}
use Rattle.pv_explain.proofs.levels.directory_level.Given as goal

abbrev pub invariant-loop-level : goal.invariant-loop-level
invariant-loop-level l = IsClimbing l.tree.tree (entries_of_table l.table.table) l.directory l._level l.reached
