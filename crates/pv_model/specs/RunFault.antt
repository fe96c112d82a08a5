-- Conversions between errors: an error becomes the corresponding error of the caller, and out of memory stays out of
-- memory.
use Rattle.pv_model.specs.declared.fault.ImageFault.{ImageFault}
use Rattle.pv_model.specs.declared.fault.ImageFault.TheVariants.{Memory as ImageMemory}
use Rattle.pv_model.specs.declared.fault.ManifestFault.{ManifestFault}
use Rattle.pv_model.specs.declared.fault.ManifestFault.TheVariants.{Memory as ManifestMemory}
use Rattle.pv_model.specs.declared.fault.ParseFault.{ParseFault}
use Rattle.pv_model.specs.declared.fault.ParseFault.TheVariants.{Line, Memory as ProgramMemory}
use Rattle.pv_model.specs.declared.fault.ScheduleFault.{ScheduleFault}
use Rattle.pv_model.specs.declared.fault.ScheduleFault.TheVariants.{Line as ScheduleLine, Memory as ScheduleMemory}
use Rattle.pv_model.specs.declared.kernel_fault.BootFault.{BootFault}
use Rattle.pv_model.specs.declared.kernel_fault.BootFault.TheVariants.{Init as BootInit, Memory as BootMemory}
use Rattle.pv_model.specs.declared.run_fault.RunFault.{RunFault}
use Rattle.pv_model.specs.declared.run_fault.RunFault.TheVariants.{Image, Manifest, Schedule, Init, Memory}
use Rattle.pv_model.specs.declared.store_fault.ListFault.{ListFault}
use Rattle.pv_model.specs.declared.store_fault.ListFault.TheVariants.{Image as ListedImage, Memory as ListMemory}
use Rattle.pv_model.specs.declared.store_fault.MigrateFault.{MigrateFault}
use Rattle.pv_model.specs.declared.store_fault.MigrateFault.TheVariants.{Image as MigratedImage, Memory as MigrateMemory}

-- errors of a run

abbrev pub of_image : ImageFault → RunFault
of_image ImageMemory = Memory
of_image fault = Image fault

abbrev pub of_manifest : ManifestFault → RunFault
of_manifest ManifestMemory = Memory
of_manifest fault = Manifest fault

abbrev pub of_schedule : ScheduleFault → RunFault
of_schedule (ScheduleLine n) = Schedule n
of_schedule ScheduleMemory = Memory

abbrev pub of_program : ParseFault → RunFault
of_program (Line n what) = Init n
of_program ProgramMemory = Memory

abbrev pub of_boot : BootFault → RunFault
of_boot (BootInit n) = Init n
of_boot BootMemory = Memory

-- errors of a listing and of a migration

abbrev pub of_image_listed : ImageFault → ListFault
of_image_listed ImageMemory = ListMemory
of_image_listed fault = ListedImage fault

abbrev pub of_image_migrated : ImageFault → MigrateFault
of_image_migrated ImageMemory = MigrateMemory
of_image_migrated fault = MigratedImage fault

-- errors of starting a kernel: the first line of `init` that is not a valid instruction

abbrev pub of_init : ParseFault → BootFault
of_init (Line n what) = BootInit n
of_init ProgramMemory = BootMemory
