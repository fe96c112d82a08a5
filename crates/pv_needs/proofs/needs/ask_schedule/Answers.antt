use Rattle.std.proofs.Common.{◌∙◌, [], subst, sym}
use Rattle.std.proofs.lemmas.Result.{err_from_is_err_and}
use Rattle.pv_model.specs.Machine.{steps_of}
use Rattle.pv_session.proofs.ObservedRuns.{state-after}
use Rattle.pv_needs.specs.ProcessImages.{RecordsCalls}
use Rattle.pv_needs.specs.Recording.{RecordsStep}
use Rattle.pv_needs.proofs.RunDemands.{keeps-none, recorded-run, recording-stopped}
use Rattle.pv_needs.proofs.needs.ask_schedule.Goals as goal

pub returns-in_err-run_with-clause-memory : goal.returns-in_err-run_with-clause-memory
returns-in_err-run_with-clause-memory c =
    let p = err_from_is_err_and c.from_residual.result c.from_residual.ensures.1 in
    rw p.1 (p.2 ∙ recording-stopped c.in_err-run_with.field-0.0 (steps_of c.args.schedule.now) _ _ c.in_err-run_with.ensures.stopped)

pub returns-clause-after : goal.returns-clause-after
returns-clause-after c = state-after RecordsStep (λ pid x y made. made.after) (steps_of c.args.schedule.now) _ _ c.in_ok-run_with.ensures.made

pub returns-clause-recorded : goal.returns-clause-recorded
returns-clause-recorded c =
    recorded-run (steps_of c.args.schedule.now) _ _ c.in_ok-run_with.ensures.made [] (subst (λ k. RecordsCalls k []) (sym c.new-recorded.ensures) keeps-none)
