-- The results of the parsers of programs and schedules.
use Rattle.std.specs.Prelude.{◌≡◌, Result, Ok, Err}
use Rattle.pv_model.specs.declared.fault.ParseFault.{ParseFault}
use Rattle.pv_model.specs.declared.fault.ParseFault.TheVariants.{Line as ParseLine, Memory as ParseMemory}
use Rattle.pv_model.specs.declared.fault.ScheduleFault.{ScheduleFault}
use Rattle.pv_model.specs.declared.fault.ScheduleFault.TheVariants.{Line as ScheduleLine, Memory as ScheduleMemory}
use Rattle.pv_model.specs.Machine.{Program, Schedule}

-- the error agrees with the grammar's result; out of memory agrees with every result
abbrev pub RefusesProgram : ParseFault → Result Program ParseFault → Type 0
RefusesProgram ParseMemory read = Unit {0}
RefusesProgram (ParseLine n what) read = read ≡ Err (ParseLine n what)

-- the result of the program parser agrees with the grammar's
abbrev pub GivesProgram : Result Program ParseFault → Result Program ParseFault → Type 0
GivesProgram (Ok program) read = read ≡ Ok program
GivesProgram (Err fault) read = RefusesProgram fault read

-- the error agrees with the grammar's result; out of memory agrees with every result
abbrev pub RefusesSchedule : ScheduleFault → Result Schedule ScheduleFault → Type 0
RefusesSchedule ScheduleMemory read = Unit {0}
RefusesSchedule (ScheduleLine n) read = read ≡ Err (ScheduleLine n)

-- the result of the schedule parser agrees with the grammar's
abbrev pub GivesSchedule : Result Schedule ScheduleFault → Result Schedule ScheduleFault → Type 0
GivesSchedule (Ok schedule) read = read ≡ Ok schedule
GivesSchedule (Err fault) read = RefusesSchedule fault read
