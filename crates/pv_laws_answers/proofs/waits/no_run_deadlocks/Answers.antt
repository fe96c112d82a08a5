use Rattle.pv_model.specs.Machine.{first_state, run}
use Rattle.pv_laws_states.proofs.ValidBySteps.{first-valid, run-keeps_valid}
use Rattle.pv_laws_answers.proofs.ParentNumbers.{first-older}
use Rattle.pv_laws_answers.proofs.WaitingProcesses.{run-older, some-continues}
use Rattle.pv_laws_answers.proofs.waits.no_run_deadlocks.Goals as goal

pub returns : goal.returns
returns c =
    λ program_of t program pids pid p encodes tree good at.
    let start = first_state t program in
    let whole = first-valid t program tree good in
    some-continues program_of (run program_of pids start).final (run-keeps_valid program_of encodes pids start whole) (run-older program_of encodes pids start whole (first-older t program)) pid p at
