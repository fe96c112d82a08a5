-- A source gives the same answers as the image that is made of it.
use Rattle.std.specs.Prelude.{◌≡◌, ◌≢◌, ℕ, ◌≤◌, take, true, false, List, [], ◌∷◌, ◌++◌, length, codes, Option, Ok}
use Rattle.std.specs.Global.{Vec}
use Rattle.std.specs.List.{AllByRecursion}
use Rattle.pv_model.specs.declared.limits.TheConstants.{SCHEDULE_LINES}
use Rattle.pv_model.specs.Machine.{witness_text, Bytes, Manifest, mounted, read_bundle, read_manifest, read_schedule, ended, IsImageOf, Schedule, steps_of, Tree}
use Rattle.pv_model.specs.Answers.Explore.{in_turns}
use Rattle.pv_model.specs.Grammar.Texts.{IsCount, IsLine}
use Rattle.pv_run.specs.Making.{tree_made}
use Rattle.pv_questions.specs.Answers.{answer_by}
use Rattle.pv_questions.specs.Formats.{is_source}
use Rattle.pv_questions.specs.Schedules.{first_steps, turns_text}
use Rattle.pv_questions.specs.Trees.{machine_in, read_manifest_of}
use Rattle.pv_questions.specs.declared.input.Format.TheVariants as format
use Rattle.pv_questions.specs.declared.input.Turns.{Turns}
use Rattle.pv_questions.specs.declared.input.Turns.TheVariants.{Own, Text}
use Rattle.pv_questions.specs.declared.question.Question.{Question}

abbrev pub ManifestsStandAlone : Type 0
ManifestsStandAlone = (bytes : Bytes) (m : Manifest) → read_manifest bytes ≡ Ok m → read_manifest_of bytes ≡ Ok m

-- the lines of a manifest, each with its newline, then the line `schedule`, and then a schedule
abbrev pub bundle_of : List Bytes → Bytes → Bytes
bundle_of lines turns = ended (lines ++ codes "schedule" ∷ []) ++ turns

-- an image gives the same answer as its manifest, alone or in a bundle, to each question, under each schedule that is
-- not the bundle's own
abbrev pub ImagesAnswerAsTheirManifests : Type 0
ImagesAnswerAsTheirManifests =
    (question : Question) (turns : Turns) (steps : Option ℕ) (manifest image : Bytes) (t : Tree) → turns ≢ Own → tree_made manifest ≡ Ok t → IsImageOf image t
    → answer_by format.Image image turns steps question ≡ answer_by format.Text manifest turns steps question

-- a bundle gives the same answer under its own schedule as its manifest under that schedule
abbrev pub BundlesAnswerUnderTheirSchedules : Type 0
BundlesAnswerUnderTheirSchedules =
    (question : Question) (steps : Option ℕ) (lines : List Bytes) (turns : Vec ℕ) (t : Tree) → AllByRecursion IsLine lines → tree_made (ended lines) ≡ Ok t
    → answer_by format.Text (bundle_of lines turns.items) Own steps question ≡ answer_by format.Text (ended lines) (Text turns) steps question

-- the machine of an image is that of its manifest, so their comparisons are equal
abbrev pub ImagesBootAsManifests : Type 0
ImagesBootAsManifests = (manifest image : Bytes) (t : Tree) → tree_made manifest ≡ Ok t → IsImageOf image t → machine_in format.Image image ≡ machine_in format.Text manifest

-- a file has one format: what mounts as an image is not a source, and what parses as a bundle or a manifest is one
abbrev pub ImagesAreNoSources : Type 0
ImagesAreNoSources = (bytes : Bytes) (t : Tree) → mounted bytes ≡ Ok t → is_source bytes ≡ false

abbrev pub ManifestsAreSources : Type 0
ManifestsAreSources = (bytes : Bytes) (m : Manifest) → read_manifest_of bytes ≡ Ok m → is_source bytes ≡ true

-- the steps of a schedule that is cut are the first steps of the schedule
abbrev pub CutsKeepFirstSteps : Type 0
CutsKeepFirstSteps = (n : ℕ) (schedule : Schedule) → steps_of (first_steps n schedule) ≡ take n (steps_of schedule)

-- turns within the limits of a schedule: at most 65,536, each with a process number and a count from 1 to 99,999
abbrev pub AreTurnsWithin : Schedule → Type 0
AreTurnsWithin turns = (length turns ≤ SCHEDULE_LINES) × AllByRecursion (λ turn. IsCount turn.0 × IsCount turn.1) turns

-- the text of a witness parses as its turns, whose steps are the witness
pub record IsReadBack (witness : List ℕ) : Type 0 where
  pub read : read_schedule (turns_text (witness_text witness)) ≡ Ok (in_turns witness)
  pub steps : steps_of (in_turns witness) ≡ witness

abbrev pub WitnessesAreReadBack : Type 0
WitnessesAreReadBack = (witness : List ℕ) → AreTurnsWithin (in_turns witness) → IsReadBack witness
