-- How runs start, and the order of their checks.
use Rattle.std.specs.Prelude.{◌≡◌, [], ◌∷◌, ◌++◌, drop, replicate, codes, Option, Some, option_map, Err, refl}
use Rattle.std.specs.Result.{result_ok}
use Rattle.pv_model.specs.declared.fault.ImageFault.TheVariants.{Dir}
use Rattle.pv_model.specs.declared.fault.ManifestFault.TheVariants.{Form, Size, Parent}
use Rattle.pv_model.specs.declared.run_fault.RunFault.TheVariants.{Image, Manifest, Schedule, Init}
use Rattle.pv_model.specs.Machine.{Bytes, read_bundle, bundle_started, image_started}
use Rattle.pv_model.specs.Start.{schedule_start}
use Rattle.pv_laws_worked.specs.Bundles.{text_of_lines}
use Rattle.pv_laws_worked.specs.Images.{images_on_literals, started_text, example, past_slot}
use Rattle.pv_laws_worked.specs.Mounts.{example_2}

-- the form of a manifest is checked before its sizes, its schedule and its programs
pub form_comes_first : bundle_started (text_of_lines (codes "image 1 1" ∷ codes "foo" ∷ codes "schedule" ∷ codes "0" ∷ [])) ≡ Err (Manifest (Form 2))
unfolding images_on_literals
form_comes_first = refl

-- the sizes are checked before the entries
pub sizes_come_before_entries : bundle_started (text_of_lines (codes "image 1 1" ∷ codes "dir \"/a/b\"" ∷ codes "schedule" ∷ codes "0" ∷ [])) ≡ Err (Manifest Size)
unfolding images_on_literals
sizes_come_before_entries = refl

-- the entries are checked before the schedule
pub entries_come_before_schedule : bundle_started (text_of_lines (codes "image 8 8" ∷ codes "dir \"/a/b\"" ∷ codes "schedule" ∷ codes "0" ∷ [])) ≡ Err (Manifest (Parent 2))
unfolding images_on_literals
entries_come_before_schedule = refl

-- the schedule is checked before the first program
pub schedule_comes_before_init : bundle_started (text_of_lines (codes "image 64 64" ∷ codes "exec \"/init\" 1" ∷ codes "frok" ∷ codes "schedule" ∷ codes "1" ∷ codes "0" ∷ [])) ≡ Err (Schedule 2)
unfolding images_on_literals
schedule_comes_before_init = refl

-- the first line of `init` that is not an instruction
pub line_of_init : bundle_started (text_of_lines (codes "image 64 64" ∷ codes "exec \"/init\" 3" ∷ codes "fork" ∷ codes "frok" ∷ codes "frok" ∷ codes "schedule" ∷ codes "1" ∷ [])) ≡ Err (Init 2)
unfolding images_on_literals
line_of_init = refl

-- an `init` that is a directory
pub bundles_with_init_as_directory : bundle_started (text_of_lines (codes "image 64 64" ∷ codes "dir \"/init\"" ∷ codes "schedule" ∷ codes "1" ∷ [])) ≡ Err (Init 0)
unfolding images_on_literals
bundles_with_init_as_directory = refl

-- an `init` that is a file but not executable
pub init_is_not_executable : bundle_started (text_of_lines (codes "image 64 64" ∷ codes "bytes \"/init\" \"exit 0\"" ∷ codes "schedule" ∷ codes "1" ∷ [])) ≡ Err (Init 0)
unfolding images_on_literals
init_is_not_executable = refl

-- a program has at most 256 lines
pub init_is_too_long : bundle_started (text_of_lines (codes "image 64 64" ∷ codes "exec \"/init\" 257" ∷ (replicate 257 (codes "wait") ++ codes "schedule" ∷ codes "1" ∷ []))) ≡ Err (Init 257)
unfolding images_on_literals
init_is_too_long = refl

-- an image is checked before the schedule
pub image_comes_first : image_started (past_slot 61) (codes "0") ≡ Err (Image (Dir 1))
unfolding images_on_literals
image_comes_first = refl

pub schedule_after_image : image_started example (codes "1\n0\n") ≡ Err (Schedule 2)
unfolding images_on_literals
schedule_after_image = refl

-- the trace of the run on its image
abbrev pub example_text : Bytes
example_text = text_of_lines (
    codes "    1 CALL  pledge(\"stdio rpath\", null)" ∷
    codes "    1 RET   pledge 0" ∷
    codes "    1 CALL  open(\"/etc/motd\", r)" ∷
    codes "    1 NAMI  \"/etc/motd\"" ∷
    codes "    1 RET   open 0" ∷
    codes "    1 CALL  read(0, 100)" ∷
    codes "    1 GIO   read 5 68656c6c6f" ∷
    codes "    1 RET   read 5" ∷
    codes "    1 CALL  close(0)" ∷
    codes "    1 RET   close 0" ∷
    codes "    1 CALL  exit(0)" ∷ [])

pub image_run : started_text (image_started example (codes "1 5\n")) ≡ Some example_text
unfolding images_on_literals
image_run = refl

-- the same trace on the image of version 2
pub image_run_2 : started_text (image_started example_2 (codes "1 5\n")) ≡ Some example_text
unfolding images_on_literals
image_run_2 = refl

-- the bytes of a bundle's schedule: those after its line `schedule`, possibly none

abbrev pub schedule_of : Bytes → Option Bytes
schedule_of bytes = option_map (λ m. drop (schedule_start bytes m) bytes) (result_ok (read_bundle bytes))

pub schedule_after_manifest : schedule_of (codes "image 2 1\nschedule\n1\n2\n") ≡ Some (codes "1\n2\n")
unfolding images_on_literals
schedule_after_manifest = refl

pub schedule_without_its_end : schedule_of (codes "image 2 1\nschedule\n1 5") ≡ Some (codes "1 5")
unfolding images_on_literals
schedule_without_its_end = refl

pub schedule_of_no_lines : schedule_of (codes "image 2 1\nschedule") ≡ Some []
unfolding images_on_literals
schedule_of_no_lines = refl
