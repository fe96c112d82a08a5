use Rattle.std.proofs.Common.{◌≡◌}
use Rattle.pv_model.specs.declared.target.Target.TheVariants.{Name}
use Rattle.pv_model.specs.Machine.{entry_for}
use Rattle.pv_unveil.proofs.EntryKeys.{found_from}
use Rattle.pv_unveil.proofs.entries.index_of_name.Given as goal

-- the entry is found from here on
abbrev pub invariant-loop-k : goal.invariant-loop-k
invariant-loop-k l = found_from l.entries (Name l.directory l.name) l.k ≡ entry_for l.entries (Name l.directory l.name)
