-- The input of a run, check by check.
use Rattle.std.proofs.Common.{◌≡◌, ◌∙◌, ap, sym, refl, ℕ, ◌-◌, take, drop, length, Result, Ok, Err, IfErr, List, ◌⊎◌, inl, inr}
use Rattle.pv_model.specs.declared.fault.ManifestFault.{ManifestFault}
use Rattle.pv_model.specs.declared.fault.ManifestFault.TheVariants.{Form, Size, Parent, Exists, Source, Room, Memory as ManifestMemory}
use Rattle.pv_model.specs.declared.fault.ImageFault.{ImageFault}
use Rattle.pv_model.specs.declared.fault.ImageFault.TheVariants.{Short, Magic, Size as ImageSize, Inode, Block, Dir, Tree as NoTree, Memory as ImageMemory}
use Rattle.pv_model.specs.declared.fault.ScheduleFault.{ScheduleFault}
use Rattle.pv_model.specs.declared.fault.ScheduleFault.TheVariants.{Line as ScheduleLine, Memory as ScheduleMemory}
use Rattle.pv_model.specs.declared.kernel_fault.BootFault.{BootFault}
use Rattle.pv_model.specs.declared.kernel_fault.BootFault.TheVariants.{Init as BootInit, Memory as BootMemory}
use Rattle.pv_model.specs.declared.run_fault.RunFault.{RunFault}
use Rattle.pv_model.specs.declared.run_fault.RunFault.TheVariants.{Read, Image as RunImage, Manifest as RunManifest, Schedule as RunSchedule, Init as RunInit, Memory as RunMemory, WriteTrace, WriteImage}
use Rattle.pv_model.specs.Machine.{Bytes, lines_of, Manifest, read_bundle, tree_of, schedule_of_lines, read_schedule, mounted, booted, bundle_started, image_started, started_on, Schedule, Tree}
use Rattle.pv_model.specs.RunFault.{of_boot, of_image, of_manifest, of_schedule}
use Rattle.pv_image_manifest.specs.Reading.{RefusesManifest, manifest_before}
use Rattle.pv_image_manifest.specs.declared.manifest.Manifest.{Manifest as ParsedManifest}
use Rattle.pv_laws_states.specs.States.{IsFirstTree}
use Rattle.pv_script.specs.Reading.{RefusesSchedule}
use Rattle.pv_tree.specs.Present.{IsAtRest}
use Rattle.pv_streams.proofs.SinkWrites.{rest_of_slice}
use Rattle.pv_run.specs.Images.{IsImageError}
use Rattle.pv_run.specs.Run.{RefusesStart, IsErrorOnTree, IsStartError}

-- ---- the checks of a run on a tree: its schedule, and then the first program

module _ (t : Tree) (lines : List Bytes) where
  module _ (s : Schedule) (turns : schedule_of_lines lines ≡ Ok s) where
    started-no_boot : (f : BootFault) → booted t ≡ Err f → started_on t lines ≡ Err (of_boot f)
    unfolding started_on
    started-no_boot f first = rw (turns, first) refl

    -- a first program that is refused
    pub refuses_boot : (f : BootFault) (e : RunFault) → e ≡ of_boot f → (f ≡ BootMemory) ⊎ (booted t ≡ Err f) → RefusesStart e (started_on t lines)
    refuses_boot (BootInit n) e is (inl invalid) = cc invalid
    refuses_boot (BootInit n) e is (inr refused) = rw is (started-no_boot (BootInit n) refused)
    refuses_boot BootMemory e is why = rw is tt

  started-no_schedule : (f : ScheduleFault) → schedule_of_lines lines ≡ Err f → started_on t lines ≡ Err (of_schedule f)
  unfolding started_on
  started-no_schedule f invalid = rw invalid refl

  -- a schedule that is refused
  pub refuses_schedule : (f : ScheduleFault) (e : RunFault) → e ≡ of_schedule f → RefusesSchedule f (schedule_of_lines lines) → RefusesStart e (started_on t lines)
  refuses_schedule (ScheduleLine n) e is refused = rw is (started-no_schedule (ScheduleLine n) refused)
  refuses_schedule ScheduleMemory e is refused = rw is tt

-- ---- the checks of a bundle: its manifest, and then the run on its tree

-- a check of a manifest that fails
pub refuses_checked : {X A : Type 0} (checked : Result X ManifestFault) (asked : Result A RunFault) → ((f : ManifestFault) → checked ≡ Err f → asked ≡ Err (of_manifest f))
    → (f : ManifestFault) (e : RunFault) → e ≡ of_manifest f → RefusesManifest f checked → RefusesStart e asked
refuses_checked checked asked none (Form n) e is refused = rw is (none (Form n) refused)
refuses_checked checked asked none Size e is refused = rw is (none Size refused)
refuses_checked checked asked none (Parent n) e is refused = rw is (none (Parent n) refused)
refuses_checked checked asked none (Exists n) e is refused = rw is (none (Exists n) refused)
refuses_checked checked asked none (Source n) e is refused = rw is (none (Source n) refused)
refuses_checked checked asked none (Room n) e is refused = rw is (none (Room n) refused)
refuses_checked checked asked none ManifestMemory e is refused = rw is tt

module _ (bytes : Bytes) (m : Manifest) (asked : read_bundle bytes ≡ Ok m) where
  pub on_tree : (t : Tree) → tree_of m ≡ Ok t → bundle_started bytes ≡ started_on t m.listed.following
  unfolding bundle_started
  on_tree t made = rw (asked, made) refl

  started-no_tree : (f : ManifestFault) → tree_of m ≡ Err f → bundle_started bytes ≡ Err (of_manifest f)
  unfolding bundle_started
  started-no_tree f invalid = rw (asked, invalid) refl

  -- an entry that is refused
  pub refuses_tree : (f : ManifestFault) (e : RunFault) → e ≡ of_manifest f → RefusesManifest f (tree_of m) → RefusesStart e (bundle_started bytes)
  refuses_tree = refuses_checked (tree_of m) (bundle_started bytes) started-no_tree

started-no_manifest : (bytes : Bytes) (f : ManifestFault) → read_bundle bytes ≡ Err f → bundle_started bytes ≡ Err (of_manifest f)
unfolding bundle_started
started-no_manifest bytes f invalid = rw invalid refl

-- a manifest that is refused
pub refuses_manifest : (bytes : Bytes) (f : ManifestFault) (e : RunFault) → e ≡ of_manifest f → RefusesManifest f (read_bundle bytes) → RefusesStart e (bundle_started bytes)
refuses_manifest bytes = refuses_checked (read_bundle bytes) (bundle_started bytes) (started-no_manifest bytes)

-- an error of a manifest or a schedule is an error of the start
pub manifest_error : (f : ManifestFault) (e : RunFault) → e ≡ of_manifest f → IsStartError e
manifest_error (Form n) e is = rw is tt
manifest_error Size e is = rw is tt
manifest_error (Parent n) e is = rw is tt
manifest_error (Exists n) e is = rw is tt
manifest_error (Source n) e is = rw is tt
manifest_error (Room n) e is = rw is tt
manifest_error ManifestMemory e is = rw is tt

pub schedule_error : (f : ScheduleFault) (e : RunFault) → e ≡ of_schedule f → IsStartError e
schedule_error (ScheduleLine n) e is = rw is tt
schedule_error ScheduleMemory e is = rw is tt

pub boot_error : (f : BootFault) (e : RunFault) → e ≡ of_boot f → IsStartError e
boot_error (BootInit n) e is = rw is tt
boot_error BootMemory e is = rw is tt

pub refuses_text : (f : ScheduleFault) (text : Bytes) → RefusesSchedule f (read_schedule text) → RefusesSchedule f (schedule_of_lines (lines_of text))
unfolding read_schedule
refuses_text f text refused = refused

-- ---- the trees and the texts

-- the tree of a store is one on which a machine can boot
pub first-tree : (t : Tree) → IsAtRest t → IsFirstTree t
first-tree t rest = record {
  tree = record { well_formed = rest.well_formed; bytes = rest.bytes };
  named = rest.named;
  fits = rest.fits;
  not_too_long = rest.short;
}

-- a schedule is that of its lines
pub schedule_of_text : (text : Bytes) → read_schedule text ≡ schedule_of_lines (lines_of text)
unfolding read_schedule
schedule_of_text text = refl

-- the text after an index is the rest of the text
-- the run of a bundle is the run on its manifest's tree under the schedule text in the bundle
pub bundle_on : (bytes : Bytes) (m : ParsedManifest) (at : ℕ) (t : Tree) → read_bundle bytes ≡ Ok (manifest_before m (lines_of (drop at bytes)))
    → tree_of (manifest_before m (lines_of (drop at bytes))) ≡ Ok t → started_on t (lines_of (take (length bytes - at) (drop at bytes))) ≡ bundle_started bytes
bundle_on bytes m at t asked made =
    ap (λ (text : Bytes). started_on t (lines_of text)) (rest_of_slice bytes at) ∙ sym (on_tree bytes (manifest_before m (lines_of (drop at bytes))) asked t made)

-- ---- the checks of an image: its tree, and then the run on it

module _ (image schedule : Bytes) where
  pub image_on : (t : Tree) → mounted image ≡ Ok t → started_on t (lines_of schedule) ≡ image_started image schedule
  unfolding image_started
  image_on t held = rw held refl

  started-no_image : (f : ImageFault) → mounted image ≡ Err f → image_started image schedule ≡ Err (of_image f)
  unfolding image_started
  started-no_image f invalid = rw invalid refl

  -- an image that is refused
  pub refuses_image : (f : ImageFault) (e : RunFault) → e ≡ of_image f → (f ≡ ImageMemory) ⊎ (mounted image ≡ Err f) → RefusesStart e (image_started image schedule)
  refuses_image f e is (inl invalid) = rw (is ∙ ap of_image invalid) tt
  refuses_image Short e is (inr refused) = rw is (started-no_image Short refused)
  refuses_image Magic e is (inr refused) = rw is (started-no_image Magic refused)
  refuses_image ImageSize e is (inr refused) = rw is (started-no_image ImageSize refused)
  refuses_image (Inode n) e is (inr refused) = rw is (started-no_image (Inode n) refused)
  refuses_image (Block n) e is (inr refused) = rw is (started-no_image (Block n) refused)
  refuses_image (Dir n) e is (inr refused) = rw is (started-no_image (Dir n) refused)
  refuses_image (NoTree n) e is (inr refused) = rw is (started-no_image (NoTree n) refused)
  refuses_image ImageMemory e is (inr refused) = rw is tt

-- an error of the start on a tree is one of more errors
more_errors : (IsFault : RunFault → Type 0) → ((n : ℕ) → IsFault (RunSchedule n)) → ((n : ℕ) → IsFault (RunInit n)) → IsFault RunMemory → {A : Type 0} (result : Result A RunFault)
    → IfErr result IsErrorOnTree → IfErr result IsFault
more_errors IsFault schedule init memory (Ok done) it = tt
more_errors IsFault schedule init memory (Err (RunSchedule n)) it = schedule n
more_errors IsFault schedule init memory (Err (RunInit n)) it = init n
more_errors IsFault schedule init memory (Err RunMemory) it = memory
more_errors IsFault schedule init memory (Err Read) it = elim it [ ]
more_errors IsFault schedule init memory (Err (RunImage f)) it = elim it [ ]
more_errors IsFault schedule init memory (Err (RunManifest f)) it = elim it [ ]
more_errors IsFault schedule init memory (Err WriteTrace) it = elim it [ ]
more_errors IsFault schedule init memory (Err WriteImage) it = elim it [ ]

pub start_errors : {A : Type 0} (result : Result A RunFault) → IfErr result IsErrorOnTree → IfErr result IsStartError
start_errors = more_errors IsStartError (λ n. tt) (λ n. tt) tt

pub image_errors : {A : Type 0} (result : Result A RunFault) → IfErr result IsErrorOnTree → IfErr result IsImageError
image_errors = more_errors IsImageError (λ n. tt) (λ n. tt) tt
