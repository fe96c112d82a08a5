-- Laws of every run that an accepted input starts.
use Rattle.std.specs.Prelude.{◌≡◌, ◌≢◌, ℕ, IsTrue, List, length, Some, Ok}
use Rattle.pv_model.specs.Machine.{Bytes, program_of, Started, image_started, bundle_started, Process, State, process_at, boot, step, run, file_bytes, Tree}
use Rattle.pv_model.specs.Start.{IsAccepted}
use Rattle.pv_model.specs.Touch.{IsJustified}
use Rattle.pv_laws_answers.specs.OfLawsStates.States.{are_bytes, IsValid}
use Rattle.pv_laws_answers.specs.OfLawsAccess.Growth.{HasNoMoreRights, IsUnchangedExceptParent, StaysInImage}
use Rattle.pv_laws_answers.specs.OfLawsAccess.Sealing.{IsSealedFile, IsFrozenFile, StaysFrozen, WritesNothing}
use Rattle.pv_laws_runs.specs.Starts.{GivesTree}

-- a state that a run reaches, with steps of any processes, from the first state of the tree that the bytes give
pub record IsReachedFrom (bytes : Bytes) (s : State) : Type 0 where
  pub tree : Tree
  pub given : GivesTree bytes tree
  pub first : State
  pub boots : boot program_of tree ≡ Some first
  pub pids : List ℕ
  pub reaches : (run program_of pids first).final ≡ s

abbrev pub ReachedIsValid : Type 0
ReachedIsValid = (bytes : Bytes) (s : State) → IsReachedFrom bytes s → IsValid s

-- each touch of the next step of any process is justified
abbrev pub RunsAreJustified : Type 0
RunsAreJustified = (bytes : Bytes) (s : State) (pid : ℕ) → IsReachedFrom bytes s → IsJustified program_of s pid

-- from such a state on, a process that stays live in one program image loses no restraint, whatever steps other
-- processes make
abbrev pub RunsNeverAddRights : Type 0
RunsNeverAddRights =
    (bytes : Bytes) (s : State) (pid : ℕ) (pids : List ℕ) (p q : Process) → IsReachedFrom bytes s
    → process_at s pid ≡ Some p → StaysInImage program_of pid pids s → process_at (run program_of pids s).final pid ≡ Some q → HasNoMoreRights p q

-- a step of another process leaves a process live, and changes only its parent
abbrev pub RunsKeepOthers : Type 0
RunsKeepOthers =
    (bytes : Bytes) (s : State) (pid other : ℕ) (p : Process) → IsReachedFrom bytes s → other ≢ pid → process_at s other ≡ Some p
    → (q : Process) × (process_at (step program_of s pid).after other ≡ Some q) × IsUnchangedExceptParent p q

-- from such a state on, a sealed file stays sealed; other bytes of equal length in it change no line, and only
-- themselves in the final state
abbrev pub SealedReportsNothing : Type 0
SealedReportsNothing =
    (bytes : Bytes) (s : State) (pids : List ℕ) (f : ℕ) (hidden : Bytes) → IsReachedFrom bytes s → IsSealedFile s f → length hidden ≡ length (file_bytes s f)
    → WritesNothing program_of s pids f hidden

-- from such a state on, a frozen file stays frozen, with the same bytes
abbrev pub FrozenStaysUnchanged : Type 0
FrozenStaysUnchanged =
    (bytes : Bytes) (s : State) (pids : List ℕ) (f : ℕ) → IsReachedFrom bytes s → IsFrozenFile s f → StaysFrozen f s (run program_of pids s).final

-- an accepted image starts in such a state
abbrev pub AcceptedImagesStart : Type 0
AcceptedImagesStart = (image : Bytes) (accepted : IsAccepted image) → IsTrue (are_bytes image) → IsReachedFrom image accepted.state

-- a run on an image starts in such a state
abbrev pub ImagesStart : Type 0
ImagesStart = (image schedule : Bytes) (started : Started) → IsTrue (are_bytes image) → image_started image schedule ≡ Ok started → IsReachedFrom image started.state

-- a run of a bundle starts in such a state
abbrev pub BundlesStart : Type 0
BundlesStart = (bytes : Bytes) (started : Started) → IsTrue (are_bytes bytes) → bundle_started bytes ≡ Ok started → IsReachedFrom bytes started.state
