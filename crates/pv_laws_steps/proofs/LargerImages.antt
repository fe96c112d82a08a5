-- Runs on an image and on a larger one with the same nodes.
use Rattle.std.proofs.Common.{◌≡◌, true, Result, Ok, Err, refl, ap, sym, subst, ◌∙◌}
use Rattle.pv_model.specs.declared.kernel_fault.BootFault.{BootFault}
use Rattle.pv_model.specs.declared.fault.ScheduleFault.{ScheduleFault}
use Rattle.pv_model.specs.declared.run_fault.RunFault.{RunFault}
use Rattle.pv_model.specs.Machine.{Bytes, lines_of, program_of, schedule_of_lines, mounted, and_then, booted, Started, started_on, image_started, Program, State, first_state, Schedule, steps_of, Tree}
use Rattle.pv_model.specs.RunFault.{of_boot, of_image, of_schedule}
use Rattle.pv_model.specs.Start.{program_in, init_of}
use Rattle.pv_laws_states.specs.States.{are_bytes, IsValid}
use Rattle.pv_laws_runs.proofs.ProgramRanges.{program_of-encodes}
use Rattle.pv_laws_runs.proofs.RunPremises.{image-start}
use Rattle.pv_laws_runs.proofs.StartingStates.{reached-valid}
use Rattle.pv_laws_steps.specs.Larger.{IsLarger, IsInLarger}
use Rattle.pv_laws_steps.specs.Images.{StartsOnLarger}
use Rattle.pv_laws_steps.proofs.LargerRuns.{init-alike, larger-keeps_traces}

module _ (old new : Tree) (larger : IsLarger old new) (started : Started) (whole : IsValid started.state) where
  -- the start on a tree, given the parsed schedule and first program
  abbrev from_parts : Tree → Result Schedule ScheduleFault → Result Program BootFault → Result Started RunFault
  from_parts t turns program =
      and_then of_schedule turns (λ (schedule : Schedule).
      and_then of_boot (and_then (λ (fault : BootFault). fault) program (λ (lines : Program). Ok (first_state t lines))) (λ (state : State). Ok (record { state = state; schedule = schedule })))

  -- the start on the larger tree is the same
  parts-alike : (image schedule : Bytes) (turns : Result Schedule ScheduleFault) (program : Result Program BootFault) → from_parts old turns program ≡ Ok started
      → image_started image schedule ≡ from_parts new turns program → StartsOnLarger started image schedule
  parts-alike image schedule (Err fault) program is starts = cc is
  parts-alike image schedule (Ok turns) (Err fault) is starts = cc is
  parts-alike image schedule (Ok turns) (Ok program) is starts =
      let first : Started = record { state = first_state old program; schedule = turns } in
      let other : Started = record { state = first_state new program; schedule = turns } in
      let same : first ≡ started = cc is in
      let beside : IsInLarger started.state other.state = subst (λ (x : Started). IsInLarger x.state other.state) same (record { tree = larger; rest = refl }) in
      record {
        other = other;
        starts = starts;
        turns = ap (λ (x : Started). x.schedule) same;
        traces = larger-keeps_traces program_of program_of-encodes started.state other.state (steps_of started.schedule) whole beside;
      }

  starts-alike : (image schedule : Bytes) → mounted image ≡ Ok new → started_on old (lines_of schedule) ≡ Ok started → StartsOnLarger started image schedule
  unfolding image_started started_on booted
  starts-alike image schedule at is =
      parts-alike image schedule (schedule_of_lines (lines_of schedule)) (program_in (init_of old)) is
      (ap (λ r. and_then of_image r (λ t. started_on t (lines_of schedule))) at
      ∙ ap (λ o. from_parts new (schedule_of_lines (lines_of schedule)) (program_in o)) (init-alike old new larger))

pub larger-images : (image larger schedule : Bytes) (old new : Tree) (started : Started) → are_bytes image ≡ true → mounted image ≡ Ok old → mounted larger ≡ Ok new → IsLarger old new
    → image_started image schedule ≡ Ok started → StartsOnLarger started larger schedule
unfolding image_started
larger-images image larger schedule old new started all held other is_larger is =
    starts-alike old new is_larger started (reached-valid image started.state (image-start image schedule started all is)) larger schedule other
    (sym (ap (λ r. and_then of_image r (λ t. started_on t (lines_of schedule))) held) ∙ is)
