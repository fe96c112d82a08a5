use Rattle.pv_model.specs.Machine.{live_processes}
use Rattle.pv_laws_access.proofs.Verdicts.{first-leaks, leaks-first}
use Rattle.pv_laws_access.proofs.reasons.first_leak_is_of_first_process.Goals as goal

pub returns : goal.returns
returns c = λ s f pid why. (first-leaks s f (live_processes s.processes) pid why, leaks-first s f (live_processes s.processes) pid why)
