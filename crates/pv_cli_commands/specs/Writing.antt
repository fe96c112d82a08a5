-- The commands that write an image or the output for a source.
use Rattle.std.specs.Prelude.{◌≡◌, ◌⊎◌, ⊤, ℕ, Result, Ok, Err, IfErr, OnOk}
use Rattle.pv_image.specs.Written.{AppearsInOldBytes, IsMigratingStop, WritesMigrated}
use Rattle.pv_image.specs.declared.migrating.MigratingStop.{MigratingStop}
use Rattle.pv_image.specs.declared.migrating.MigratingStop.TheVariants.{Refused as NotMigrated, Write as Unwritten}
use Rattle.pv_model.specs.declared.run_fault.RunFault.{RunFault}
use Rattle.pv_model.specs.declared.store_fault.MigrateFault.TheVariants.{Image, Small, Memory as NoMigrateMemory}
use Rattle.pv_model.specs.declared.stream.Sink.{Ghosts as Writing}
use Rattle.pv_model.specs.Machine.{Bytes}
use Rattle.pv_questions.specs.Failures.{failure_of_image, failure_of_run}
use Rattle.pv_questions.specs.OfRun.Images.{RunsGivenImage}
use Rattle.pv_questions.specs.OfRun.Making.{MakesImage}
use Rattle.pv_questions.specs.OfRun.declared.turns.Summary.{Summary}
use Rattle.pv_questions.specs.declared.failure.Failure.{Failure}
use Rattle.pv_questions.specs.declared.failure.Failure.TheVariants.{Memory, Write, Refused}
use Rattle.pv_questions.specs.declared.failure.Refusal.TheVariants.{Lines, Small as TooSmall}
use Rattle.pv_questions.specs.declared.failure.Target.{Target}
use Rattle.pv_questions.specs.declared.failure.Target.TheVariants.{File, Output}
use Rattle.pv_questions.specs.declared.input.Input.{Input}
use Rattle.pv_source.specs.Given.{WritesOutput}
use Rattle.pv_source.specs.declared.source.Output.{Output as SourceOutput}
use Rattle.pv_source.specs.declared.source.SourceStop.{SourceStop}
use Rattle.pv_source.specs.declared.source.SourceStop.TheVariants as stop
use Rattle.pv_cli_commands.specs.Streams.{Disk, FailsToTake, IsCreatedOn}

-- a result becomes that of a command
abbrev pub Becomes : {T E : Type 0} → (E → Failure) → Result T E → Result (Unit {0}) Failure → Type 0
Becomes failed (Ok value) (Ok done) = ⊤
Becomes failed (Err error) (Err failure) = failure ≡ failed error
Becomes failed end result = ⊥

-- a file with this name was created, and then what the predicate says; or there was no memory for the name, and nothing
-- else changed
abbrev pub CreatesFile : {F R V : Type 0} → Disk F R V → Bytes → Result (Unit {0}) Failure → (Unchanged : Type 0) → (V → V → Type 0) → Type 0
CreatesFile {F} {R} {V} disk name result Unchanged writes = ((before after : V) × IsCreatedOn disk name before × writes before after) ⊎ ((result ≡ Err Memory) × Unchanged)

-- the image of a manifest was made in the file with a name
abbrev pub MakesImageFile : {F R V : Type 0} → Disk F R V → Input → Bytes → Result (Unit {0}) Failure → Type 0
MakesImageFile disk manifest image result =
    CreatesFile disk image result ⊤ (λ before after. (end : Result (Unit {0}) RunFault) × MakesImage disk.writing manifest.bytes.items before after end × Becomes failure_of_run end result)

-- a schedule was run on an image, and the image after the run was written to the file with a name
abbrev pub RunsFiles : {F R V W : Type 0} → Disk F R V → Writing W → Input → Input → Bytes → W → W → Result (Unit {0}) Failure → Type 0
RunsFiles disk tracing image schedule out trace trace_new result =
    CreatesFile disk out result (trace_new ≡ trace) (λ before after. (end : Result Summary RunFault)
    × RunsGivenImage tracing disk.writing (λ holds. holds image.bytes.items schedule.bytes.items) ⊥ trace trace_new before after end × Becomes failure_of_run end result)

abbrev pub of_migration : MigratingStop → Failure
of_migration Unwritten = Write File
of_migration (NotMigrated Small) = Refused TooSmall
of_migration (NotMigrated NoMigrateMemory) = Memory
of_migration (NotMigrated (Image fault)) = failure_of_image fault

-- an image of version 1 was migrated
pub record MigratesBytes {V : Type 0} (writing : Writing V) (bytes : Bytes) (blocks inodes : ℕ) (before after : V) (end : Result (Unit {0}) MigratingStop) : Type 0 where
  pub as_written : OnOk end (WritesMigrated bytes blocks inodes (writing.written before) (writing.written after))
  pub refused : IfErr end (AppearsInOldBytes bytes blocks inodes (writing.written before) (writing.written after))
  pub kind : IfErr end IsMigratingStop
  pub failed : end ≡ Err Unwritten → FailsToTake writing before after
  pub flushed : OnOk end (writing.buffered after ≡ 0)

-- the same, to the file with a name
abbrev pub MigratesFile : {F R V : Type 0} → Disk F R V → Input → Bytes → (blocks inodes : ℕ) → Result (Unit {0}) Failure → Type 0
MigratesFile disk image out blocks inodes result =
    CreatesFile disk out result ⊤ (λ before after. (end : Result (Unit {0}) MigratingStop) × MigratesBytes disk.writing image.bytes.items blocks inodes before after end
    × Becomes of_migration end result)

abbrev pub of_source : Target → SourceStop → Failure
of_source target stop.Memory = Memory
of_source target stop.Refused = Refused Lines
of_source target stop.Write = Write target

-- the output for a source was written, or its lines with errors were reported under a name
abbrev pub WritesSource : {W E : Type 0} → Writing W → Writing E → SourceOutput → Bytes → Input → W → W → E → E → Result (Unit {0}) Failure → Type 0
WritesSource writing reporting output name source before after unreported reported result =
    (end : Result (Unit {0}) SourceStop) × WritesOutput writing reporting output name source.bytes.items before after unreported reported end
    × Becomes (of_source Output) end result
