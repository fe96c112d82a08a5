-- A run that was made, completely or up to a point.
use Rattle.std.proofs.Common.{◌≡◌, length, refl, ℕ, Option, Some, Result, Ok, Err, IfOk, IfErr, OnOk, OnErr, inr}
use Rattle.pv_model.specs.declared.run_fault.RunFault.{RunFault}
use Rattle.pv_model.specs.declared.run_fault.RunFault.TheVariants.{Read, Image, Manifest, Schedule as ScheduleLine, Init, Memory, WriteTrace, WriteImage}
use Rattle.pv_model.specs.Machine.{Bytes, program_of, State, Schedule, boot, steps_of, Started, bundle_started}
use Rattle.pv_laws_runs.proofs.RunChecks.{bundle-asks}
use Rattle.pv_run.specs.Run.{HasBegun, HasRun, HasStopped, IsSummaryOf, AppearsIn, StopsBy, IsOutOfMemoryAtExecve, started_from, text_of}
use Rattle.pv_run.specs.declared.turns.Summary.{Summary}
use Rattle.pv_session.specs.Stopping.{StopsAtExecve}
use Rattle.pv_session.specs.Running.{BeginsLines, WrittenLines, run_of}

module _ (asked : Result Started RunFault) (s : State) (schedule : Schedule) (is : asked ≡ Ok (started_from s schedule)) (machine : boot program_of s.tree ≡ Some s)
    (before after : Option Bytes) where
  pub has_begun : BeginsLines (run_of s schedule).lines before after → HasBegun asked before after
  has_begun begun = record {
    text = text_of (started_from s schedule);
    summary = record { steps = length (steps_of schedule); lines = length (run_of s schedule).lines };
    is_run = record { it = started_from s schedule; is_asked = is; is_machine = machine; text_is = refl; counts = record { steps = refl; lines = refl } };
    written = begun;
  }

  module _ (left : State) where
    pub has_stopped : StopsAtExecve (steps_of schedule) s left before after → HasStopped asked before after
    has_stopped stop = record { it = started_from s schedule; now = left; is_asked = is; is_machine = machine; stops = stop }

    -- a run that stopped before its end
    stops : (fault : RunFault) (failures now : ℕ) → StopsBy fault failures now → BeginsLines (run_of s schedule).lines before after
        → IsOutOfMemoryAtExecve fault schedule s left before after → AppearsIn asked before after fault
    stops Memory failures now why begun stop = inr (has_stopped stop)
    stops WriteTrace failures now why begun stop = has_begun begun
    stops Read failures now why begun stop = elim why [ ]
    stops (Image f) failures now why begun stop = elim why [ ]
    stops (Manifest f) failures now why begun stop = elim why [ ]
    stops (ScheduleLine n) failures now why begun stop = elim why [ ]
    stops (Init n) failures now why begun stop = elim why [ ]
    stops WriteImage failures now why begun stop = elim why [ ]

    pub appears : (result : Result Summary RunFault) (failures now : ℕ) → OnErr result (BeginsLines (run_of s schedule).lines before after) → IfErr result (λ (fault : RunFault). StopsBy fault failures now)
        → IfErr result (λ (fault : RunFault). IsOutOfMemoryAtExecve fault schedule s left before after) → IfErr result (λ (fault : RunFault). AppearsIn asked before after fault)
    appears (Ok summary) failures now begun why stop = tt
    appears (Err fault) failures now begun why stop = stops fault failures now why begun stop

-- ---- a run of a bundle

module _ (bytes : Bytes) (s : State) (schedule : Schedule) (is : bundle_started bytes ≡ Ok (started_from s schedule)) (before after : Option Bytes) where
  pub has_run : (result : Result Summary RunFault) → IfOk result (IsSummaryOf (started_from s schedule)) → OnOk result (WrittenLines (run_of s schedule).lines before after)
      → IfOk result (HasRun bytes before after)
  has_run (Ok summary) counts written = record {
    it = started_from s schedule;
    asks = bundle-asks bytes (started_from s schedule) is;
    written = written;
    counts = counts;
    is_asked = is;
  }
  has_run (Err fault) counts written = tt
