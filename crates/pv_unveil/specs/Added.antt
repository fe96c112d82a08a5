-- Adding an entry: unveil(2).
use Rattle.std.specs.Prelude.{Some}
use Rattle.pv_model.specs.declared.errno.Errno.TheVariants.{EPERM, E2BIG}
use Rattle.pv_model.specs.declared.outcome.Cause.TheVariants.{Unveil as ByUnveil, Locked as ByLock}
use Rattle.pv_model.specs.declared.perms.Perms.{Perms}
use Rattle.pv_model.specs.declared.target.Target.{Target}
use Rattle.pv_model.specs.Machine.{Attempt, refused, refuse, ◌>>◌, entries_of_table, refuse_if_locked, Table, entry_for}
use Rattle.pv_model.specs.Calls.Restraints.{add_table_entry}
use Rattle.pv_unveil.specs.declared.table.AddFault.{AddFault}
use Rattle.pv_unveil.specs.declared.table.AddFault.TheVariants.{Locked, Increase, Many}
use Rattle.pv_unveil.specs.Unveiled.{Unveiled}

-- the result of an error
abbrev pub refusal_of_addition : AddFault → Attempt Table
refusal_of_addition Locked = refused 0 EPERM ByLock
refusal_of_addition (Increase k) = refused 0 EPERM (ByUnveil (Some k))
refusal_of_addition Many = refuse E2BIG

-- an existing entry can only lose permissions; a new entry is appended
abbrev pub put_in : Table → Target → Perms → Attempt Table
put_in table target permissions = add_table_entry table target permissions (entry_for table target)

-- the same, but it fails if the table is locked
abbrev pub add_to : Unveiled → Target → Perms → Attempt Table
add_to unveiled target permissions = refuse_if_locked unveiled.locked >> put_in (entries_of_table unveiled.table) target permissions
