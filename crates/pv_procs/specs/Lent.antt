-- The effect of lending a record for writing.
use Rattle.std.specs.Prelude.{ℕ}
use Rattle.std.specs.Borrow.{Lends, MutBor, Fml}
use Rattle.pv_procs.specs.declared.record.ProcessRecord.{ProcessRecord}
use Rattle.pv_procs.specs.contracts.record.ProcessRecord.{the_row as record_row}
use Rattle.pv_procs.specs.contracts.record.Stored.{the_row as stored_row}
use Rattle.pv_procs.specs.contracts.processes.Processes.{the_row}
use Rattle.pv_procs.specs.Parts.{with_record}
use Rattle.pv_procs.specs.ProcessTable.{ProcessTable, updated_table}

-- the final value of the table has the final value of the borrow r as the record of process pid
abbrev pub LendsRecord : MutBor ProcessTable → ℕ → MutBor ProcessRecord → Fml
LendsRecord ps pid r = Lends the_row record_row ps r (λ w. updated_table ps.now pid (λ p. with_record p w))

-- the final value of a stored record is the final value of the borrow r
abbrev pub LendsStored : MutBor ProcessRecord → MutBor ProcessRecord → Fml
LendsStored stored r = Lends stored_row record_row stored r (λ w. w)
