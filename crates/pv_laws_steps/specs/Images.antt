-- Runs on an image and on a larger one with the same nodes.
use Rattle.std.specs.Prelude.{◌≡◌, IsTrue, Ok}
use Rattle.pv_model.specs.Machine.{Bytes, program_of, mounted, Started, image_started, run, steps_of, Tree}
use Rattle.pv_laws_states.specs.States.{are_bytes}
use Rattle.pv_laws_steps.specs.Larger.{IsLarger, ReportsNoLimit, TracesAreEqual}

-- the schedule starts on the other image too, with the same turns; if the run reports no limit, the other run has the
-- same text and leaves a tree with equal nodes
pub record StartsOnLarger (started : Started) (image schedule : Bytes) : Type 0 where
  pub other : Started
  pub starts : image_started image schedule ≡ Ok other
  pub turns : other.schedule ≡ started.schedule
  pub traces : ReportsNoLimit (run program_of (steps_of started.schedule) started.state).lines → TracesAreEqual program_of (steps_of started.schedule) started.state other.state

-- a schedule that starts on an image starts on a larger one in this way
abbrev pub LargerImagesKeepTraces : Type 0
LargerImagesKeepTraces =
    (image larger schedule : Bytes) (old new : Tree) (started : Started) → IsTrue (are_bytes image) → mounted image ≡ Ok old → mounted larger ≡ Ok new → IsLarger old new
    → image_started image schedule ≡ Ok started → StartsOnLarger started larger schedule
