-- The checks of the inputs fail with a refusal or for lack of memory, and with no other failure.
use Rattle.std.proofs.Common.{List, Result, Ok, Err, IfErr}
use Rattle.pv_model.specs.declared.fault.ImageFault.{ImageFault}
use Rattle.pv_model.specs.declared.fault.ImageFault.TheVariants as image
use Rattle.pv_model.specs.declared.fault.ManifestFault.{ManifestFault}
use Rattle.pv_model.specs.declared.fault.ManifestFault.TheVariants as manifest
use Rattle.pv_model.specs.declared.fault.ScheduleFault.{ScheduleFault}
use Rattle.pv_model.specs.declared.fault.ScheduleFault.TheVariants as schedule
use Rattle.pv_model.specs.declared.kernel_fault.BootFault.{BootFault}
use Rattle.pv_model.specs.declared.kernel_fault.BootFault.TheVariants as boot
use Rattle.pv_model.specs.declared.run_fault.RunFault.{RunFault}
use Rattle.pv_model.specs.Answers.Turns.{schedule_text}
use Rattle.pv_model.specs.Grammar.Schedules.{schedule_of_lines}
use Rattle.pv_model.specs.Machine.{Bytes, Tree, and_then, booted, bundle_started, lines_of, mounted, program_of, read_bundle, started_on, tree_of, turns}
use Rattle.pv_model.specs.RunFault.{of_boot, of_manifest, of_schedule}
use Rattle.pv_questions.specs.Answers.{fair_text_of, run_started, started_under, whole_started}
use Rattle.pv_questions.specs.Failures.{failure_of_boot, failure_of_image, failure_of_manifest, failure_of_run}
use Rattle.pv_questions.specs.Schedules.{cut_after}
use Rattle.pv_questions.specs.Trees.{input_tree, machine_in, read_manifest_of}
use Rattle.pv_questions.specs.declared.failure.Failure.{Failure}
use Rattle.pv_questions.specs.declared.failure.Failure.TheVariants.{Memory, Refused}
use Rattle.pv_questions.specs.declared.failure.Refusal.TheVariants.{Unscheduled}
use Rattle.pv_questions.specs.declared.input.Format.{Format}
use Rattle.pv_questions.specs.declared.input.Format.TheVariants.{Image, Text as AsText}
use Rattle.pv_questions.specs.declared.input.Inputs.{Inputs}
use Rattle.pv_questions.specs.declared.input.Turns.{Turns}
use Rattle.pv_questions.specs.declared.input.Turns.TheVariants.{Own, Text, Fair}

-- a failure of a check
abbrev pub IsOfCheck : Failure → Type 0
IsOfCheck Memory = Unit {0}
IsOfCheck (Refused refused) = Unit {0}
IsOfCheck failure = ⊥

-- each error of a check, and of the next one
module _ {E F : Type 0} (fault_of : E → F) (IsKind : F → Type 0) where
  kind-next : {A B : Type 0} (asked : Result A E) (next : A → Result B F) → IfErr asked (λ fault. IsKind (fault_of fault)) → ((value : A) → IfErr (next value) IsKind)
      → IfErr (and_then fault_of asked next) IsKind
  kind-next (Ok value) next first rest = rest value
  kind-next (Err fault) next first rest = first

  kind-all : {A : Type 0} (asked : Result A E) → ((fault : E) → IsKind (fault_of fault)) → IfErr asked (λ fault. IsKind (fault_of fault))
  kind-all (Ok value) all = tt
  kind-all (Err fault) all = all fault

image-kind : (fault : ImageFault) → IsOfCheck (failure_of_image fault)
image-kind image.Memory = tt
image-kind image.Short = tt
image-kind image.Magic = tt
image-kind image.Size = tt
image-kind (image.Inode n) = tt
image-kind (image.Block n) = tt
image-kind (image.Dir n) = tt
image-kind (image.Tree n) = tt

manifest-kind : (fault : ManifestFault) → IsOfCheck (failure_of_manifest fault)
manifest-kind manifest.Memory = tt
manifest-kind manifest.Size = tt
manifest-kind (manifest.Form n) = tt
manifest-kind (manifest.Parent n) = tt
manifest-kind (manifest.Exists n) = tt
manifest-kind (manifest.Source n) = tt
manifest-kind (manifest.Room n) = tt

boot-kind : (fault : BootFault) → IsOfCheck (failure_of_boot fault)
boot-kind boot.Memory = tt
boot-kind (boot.Init n) = tt

-- ---- the tree of an input, and the machine on it

pub tree-kind : (format : Format) (bytes : Bytes) → IfErr (input_tree format bytes) IsOfCheck
unfolding input_tree
tree-kind Image bytes = kind-next failure_of_image IsOfCheck (mounted bytes) (λ t. Ok t) (kind-all failure_of_image IsOfCheck (mounted bytes) image-kind) (λ t. tt)
tree-kind AsText bytes =
    kind-next failure_of_manifest IsOfCheck (read_manifest_of bytes) (λ m. and_then failure_of_manifest (tree_of m) (λ t. Ok t))
    (kind-all failure_of_manifest IsOfCheck (read_manifest_of bytes) manifest-kind)
    (λ m. kind-next failure_of_manifest IsOfCheck (tree_of m) (λ t. Ok t) (kind-all failure_of_manifest IsOfCheck (tree_of m) manifest-kind) (λ t. tt))

pub machine-kind : (format : Format) (bytes : Bytes) → IfErr (machine_in format bytes) IsOfCheck
machine-kind format bytes =
    kind-next (λ f. f) IsOfCheck (input_tree format bytes) (λ t. and_then failure_of_boot (booted t) (λ s. Ok s)) (tree-kind format bytes)
    (λ t. kind-next failure_of_boot IsOfCheck (booted t) (λ s. Ok s) (kind-all failure_of_boot IsOfCheck (booted t) boot-kind) (λ s. tt))

-- ---- the start of a run

abbrev IsOfStart : RunFault → Type 0
IsOfStart fault = IsOfCheck (failure_of_run fault)

manifest-start : (fault : ManifestFault) → IsOfStart (of_manifest fault)
manifest-start manifest.Memory = tt
manifest-start manifest.Size = tt
manifest-start (manifest.Form n) = tt
manifest-start (manifest.Parent n) = tt
manifest-start (manifest.Exists n) = tt
manifest-start (manifest.Source n) = tt
manifest-start (manifest.Room n) = tt

schedule-start : (fault : ScheduleFault) → IsOfStart (of_schedule fault)
schedule-start schedule.Memory = tt
schedule-start (schedule.Line n) = tt

boot-start : (fault : BootFault) → IsOfStart (of_boot fault)
boot-start boot.Memory = tt
boot-start (boot.Init n) = tt

on_tree-kind : (t : Tree) (lines : List Bytes) → IfErr (started_on t lines) IsOfStart
unfolding started_on
on_tree-kind t lines =
    kind-next of_schedule IsOfStart (schedule_of_lines lines) (λ turns. and_then of_boot (booted t) (λ s. Ok (record { state = s; schedule = turns })))
    (kind-all of_schedule IsOfStart (schedule_of_lines lines) schedule-start)
    (λ turns. kind-next of_boot IsOfStart (booted t) (λ s. Ok (record { state = s; schedule = turns })) (kind-all of_boot IsOfStart (booted t) boot-start) (λ s. tt))

of_bundle-kind : (bytes : Bytes) → IfErr (bundle_started bytes) IsOfStart
unfolding bundle_started
of_bundle-kind bytes =
    kind-next of_manifest IsOfStart (read_bundle bytes) (λ m. and_then of_manifest (tree_of m) (λ t. started_on t m.listed.following))
    (kind-all of_manifest IsOfStart (read_bundle bytes) manifest-start)
    (λ m. kind-next of_manifest IsOfStart (tree_of m) (λ t. started_on t m.listed.following) (kind-all of_manifest IsOfStart (tree_of m) manifest-start)
    (λ t. on_tree-kind t m.listed.following))

under-kind : (format : Format) (bytes text : Bytes) → IfErr (started_under format bytes text) IsOfCheck
under-kind format bytes text =
    kind-next (λ f. f) IsOfCheck (input_tree format bytes) (λ t. and_then failure_of_run (started_on t (lines_of text)) (λ it. Ok it)) (tree-kind format bytes)
    (λ t. kind-next failure_of_run IsOfCheck (started_on t (lines_of text)) (λ it. Ok it) (on_tree-kind t (lines_of text)) (λ it. tt))

fair-kind : (format : Format) (bytes : Bytes) → IfErr (fair_text_of format bytes) IsOfCheck
fair-kind format bytes =
    kind-next (λ f. f) IsOfCheck (machine_in format bytes) (λ s. Ok (schedule_text (turns program_of 1 65536 s))) (machine-kind format bytes) (λ s. tt)

whole-kind : (format : Format) (bytes : Bytes) (turned : Turns) → IfErr (whole_started format bytes turned) IsOfCheck
whole-kind AsText bytes Own = kind-next failure_of_run IsOfCheck (bundle_started bytes) (λ it. Ok it) (of_bundle-kind bytes) (λ it. tt)
whole-kind Image bytes Own = kind-next (λ f. f) IsOfCheck (input_tree Image bytes) (λ t. Err (Refused Unscheduled)) (tree-kind Image bytes) (λ t. tt)
whole-kind Image bytes (Text text) = under-kind Image bytes text.items
whole-kind AsText bytes (Text text) = under-kind AsText bytes text.items
whole-kind Image bytes Fair = kind-next (λ f. f) IsOfCheck (fair_text_of Image bytes) (started_under Image bytes) (fair-kind Image bytes) (under-kind Image bytes)
whole-kind AsText bytes Fair = kind-next (λ f. f) IsOfCheck (fair_text_of AsText bytes) (started_under AsText bytes) (fair-kind AsText bytes) (under-kind AsText bytes)

pub start-kind : (inputs : Inputs) → IfErr (run_started inputs) IsOfCheck
start-kind inputs =
    let format = inputs.input.format in
    let bytes = inputs.input.bytes.items in
    kind-next (λ f. f) IsOfCheck (whole_started format bytes inputs.turns) (λ it. Ok (cut_after inputs.steps it)) (whole-kind format bytes inputs.turns) (λ it. tt)
