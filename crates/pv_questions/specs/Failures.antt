-- The one failure of a command: what each error becomes, its exit status, and what is already reported.
use Rattle.std.specs.Prelude.{◌≡◌, ⊤, ℕ, Bool, true, false, Result, Err}
use Rattle.pv_streams.specs.declared.stop.Stop.{Stop}
use Rattle.pv_model.specs.declared.fault.ImageFault.{ImageFault}
use Rattle.pv_model.specs.declared.fault.ImageFault.TheVariants as image
use Rattle.pv_model.specs.declared.fault.ManifestFault.{ManifestFault}
use Rattle.pv_model.specs.declared.fault.ManifestFault.TheVariants as manifest
use Rattle.pv_model.specs.declared.fault.ScheduleFault.{ScheduleFault}
use Rattle.pv_model.specs.declared.fault.ScheduleFault.TheVariants.{Line, Memory as NoScheduleMemory}
use Rattle.pv_model.specs.declared.kernel_fault.BootFault.{BootFault}
use Rattle.pv_model.specs.declared.kernel_fault.BootFault.TheVariants.{Init as BootInit, Memory as NoBootMemory}
use Rattle.pv_model.specs.declared.run_fault.RunFault.{RunFault}
use Rattle.pv_model.specs.declared.run_fault.RunFault.TheVariants as run
use Rattle.pv_streams.specs.declared.stop.Stop.TheVariants.{Memory as NoStepMemory, Write as Unwritten}
use Rattle.pv_questions.specs.declared.failure.Failure.{Failure}
use Rattle.pv_questions.specs.declared.failure.Failure.TheVariants.{Read, Memory, Write, Refused, Incomplete, Different}
use Rattle.pv_questions.specs.declared.failure.Origin.TheVariants.{File as InFile}
use Rattle.pv_questions.specs.declared.failure.Refusal.TheVariants as refusal
use Rattle.pv_questions.specs.declared.failure.Target.TheVariants.{Output, File as ToFile, Node}

abbrev pub failure_of_stop : Stop → Failure
failure_of_stop NoStepMemory = Memory
failure_of_stop Unwritten = Write Output

abbrev pub failure_of_image : ImageFault → Failure
failure_of_image image.Memory = Memory
failure_of_image image.Short = Refused refusal.Short
failure_of_image image.Magic = Refused refusal.Magic
failure_of_image image.Size = Refused refusal.Sizes
failure_of_image (image.Inode n) = Refused (refusal.Inode n)
failure_of_image (image.Block n) = Refused (refusal.Block n)
failure_of_image (image.Dir n) = Refused (refusal.Directory n)
failure_of_image (image.Tree n) = Refused (refusal.Tree n)

abbrev pub failure_of_manifest : ManifestFault → Failure
failure_of_manifest manifest.Memory = Memory
failure_of_manifest manifest.Size = Refused refusal.ManifestSizes
failure_of_manifest (manifest.Form n) = Refused (refusal.Form n)
failure_of_manifest (manifest.Parent n) = Refused (refusal.Parent n)
failure_of_manifest (manifest.Exists n) = Refused (refusal.Exists n)
failure_of_manifest (manifest.Source n) = Refused (refusal.Source n)
failure_of_manifest (manifest.Room n) = Refused (refusal.Room n)

abbrev pub failure_of_schedule : ScheduleFault → Failure
failure_of_schedule NoScheduleMemory = Memory
failure_of_schedule (Line n) = Refused (refusal.Schedule n)

abbrev pub failure_of_boot : BootFault → Failure
failure_of_boot NoBootMemory = Memory
failure_of_boot (BootInit n) = Refused (refusal.Init n)

abbrev pub failure_of_run : RunFault → Failure
failure_of_run run.Read = Read InFile
failure_of_run run.Memory = Memory
failure_of_run run.WriteTrace = Write Output
failure_of_run run.WriteImage = Write ToFile
failure_of_run (run.Image fault) = failure_of_image fault
failure_of_run (run.Manifest fault) = failure_of_manifest fault
failure_of_run (run.Schedule n) = Refused (refusal.Schedule n)
failure_of_run (run.Init n) = Refused (refusal.Init n)

-- the exit status of a failure; that of success is 0
abbrev pub failure_status : Failure → ℕ
failure_status (Refused refused) = 1
failure_status Memory = 3
failure_status (Read origin) = 4
failure_status (Write target) = 4
failure_status Incomplete = 5
failure_status Different = 6

-- the failure is already reported: the lines in error of a source, the entries that an image can't have, the node that
-- could not be made, and an answer whose text reports it
abbrev pub is_reported_by_command : Failure → Bool
is_reported_by_command (Refused refusal.Lines) = true
is_reported_by_command (Refused refusal.Entries) = true
is_reported_by_command (Write Node) = true
is_reported_by_command Incomplete = true
is_reported_by_command Different = true
is_reported_by_command failure = false

-- the failure is that of the checks, or there is no memory
abbrev pub IsFailureOf : {A : Type 0} → Result A Failure → Failure → Type 0
IsFailureOf asked Memory = ⊤
IsFailureOf asked failure = asked ≡ Err failure
