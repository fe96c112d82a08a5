use Rattle.pv_model.proofs.RunComposition.{run-append}
use Rattle.pv_laws_states.proofs.steps.runs_join.Goals as goal

pub returns : goal.returns
returns c = run-append
