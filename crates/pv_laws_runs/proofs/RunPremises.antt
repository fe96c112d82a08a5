-- A run starts in a state that satisfies the premises of the laws of runs.
use Rattle.std.proofs.Common.{◌≡◌, true, inl, inr, [], List, Some, Result, Ok, Err, refl, ap, sym, ◌∙◌}
use Rattle.std.specs.Result.{result_ok}
use Rattle.pv_model.specs.declared.run_fault.RunFault.{RunFault}
use Rattle.pv_model.specs.Machine.{Bytes, lines_of, Manifest, read_bundle, tree_of, program_of, schedule_of_lines, mounted, and_then, booted, Started, started_on, bundle_started, image_started, State, Schedule, boot, Tree}
use Rattle.pv_model.specs.RunFault.{of_boot, of_image, of_manifest, of_schedule}
use Rattle.pv_model.specs.Start.{IsAccepted}
use Rattle.pv_laws_answers.specs.OfLawsStates.States.{are_bytes}
use Rattle.pv_laws_trees.proofs.MachineStarts.{starts}
use Rattle.pv_laws_trees.proofs.TreeImages.{mounted-image}
use Rattle.pv_laws_runs.specs.Runs.{IsReachedFrom}
use Rattle.pv_laws_runs.specs.Starts.{GivesTree}

-- the result after a step that succeeds
module _ {A B E F : Type 0} (fault_of : E → F) (next : A → Result B F) (b : B) where
  pub not_refused : (r : Result A E) → and_then fault_of r next ≡ Ok b → (a : A) × (r ≡ Ok a) × (next a ≡ Ok b)
  not_refused (Ok a) is = (a, refl, is)
  not_refused (Err fault) is = cc is

abbrev pub state_or : State → Result Started RunFault → State
state_or s (Ok started) = started.state
state_or s (Err fault) = s

started-boots : (t : Tree) (lines : List Bytes) (started : Started) → started_on t lines ≡ Ok started → boot program_of t ≡ Some started.state
unfolding started_on
started-boots t lines started is =
    let given = not_refused of_schedule (λ (schedule : Schedule). and_then of_boot (booted t) (λ (state : State). Ok (record { state = state; schedule = schedule }))) started (schedule_of_lines lines) is in
    let at = not_refused of_boot (λ (state : State). Ok (record { state = state; schedule = given.0 })) started (booted t) given.2 in
    let same : at.0 ≡ started.state = ap (state_or at.0) at.2 in
    sym (starts t) ∙ ap result_ok at.1 ∙ ap (λ (s : State). Some s) same

-- the first state is reached by no step
at_start : (bytes : Bytes) (t : Tree) (s : State) → GivesTree bytes t → boot program_of t ≡ Some s → IsReachedFrom bytes s
at_start bytes t s given boots = record { tree = t; given = given; first = s; boots = boots; pids = []; reaches = refl }

pub accepted-start : (image : Bytes) (accepted : IsAccepted image) → are_bytes image ≡ true → IsReachedFrom image accepted.state
accepted-start image accepted all = at_start image accepted.tree accepted.state (inr (record { are_bytes = all; is_image = accepted.is_image })) accepted.boots

pub image-start : (image schedule : Bytes) (started : Started) → are_bytes image ≡ true → image_started image schedule ≡ Ok started → IsReachedFrom image started.state
unfolding image_started
image-start image schedule started all is =
    let at = not_refused of_image (λ (t : Tree). started_on t (lines_of schedule)) started (mounted image) is in
    at_start image at.0 started.state (inr (record { are_bytes = all; is_image = mounted-image image at.0 at.1 })) (started-boots at.0 (lines_of schedule) started at.2)

pub bundle-start : (bytes : Bytes) (started : Started) → are_bytes bytes ≡ true → bundle_started bytes ≡ Ok started → IsReachedFrom bytes started.state
unfolding bundle_started
bundle-start bytes started all is =
    let read = not_refused of_manifest (λ (m : Manifest). and_then of_manifest (tree_of m) (λ (t : Tree). started_on t m.listed.following)) started (read_bundle bytes) is in
    let made = not_refused of_manifest (λ (t : Tree). started_on t read.0.listed.following) started (tree_of read.0) read.2 in
    at_start bytes made.0 started.state (inl (record { are_bytes = all; manifest = read.0; read = inr read.1; tree = made.1 })) (started-boots made.0 read.0.listed.following started made.2)
