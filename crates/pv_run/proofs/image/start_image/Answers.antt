use Rattle.std.proofs.Common.{◌≡◌, subst, Result, Ok, IfOk, IfErr}
use Rattle.std.proofs.lemmas.Result.{err_from_is_err_and}
use Rattle.pv_model.specs.declared.run_fault.RunFault.{RunFault}
use Rattle.pv_model.specs.Machine.{Started}
use Rattle.pv_run.specs.Run.{RefusesStart, started_from}
use Rattle.pv_run.proofs.InputChecks.{image_errors, image_on, refuses_image}
use Rattle.pv_run.proofs.image.start_image.Goals as goal

pub returns-in_err-store-clause-fault : goal.returns-in_err-store-clause-fault
returns-in_err-store-clause-fault c =
    let p = err_from_is_err_and c.from_residual.result c.from_residual.ensures.1 in
    rw p.1 (refuses_image c.args.image.items c.args.schedule.now c.in_err-store.field-0.0 p.0 p.2 c.in_err-store.ensures.refused)

pub returns-clause-asked : goal.returns-clause-asked
returns-clause-asked c =
    subst (λ (asked : Result Started RunFault). IfOk c.start_on.result (λ r. asked ≡ Ok (started_from r.session r.schedule)))
    (image_on c.args.image.items c.args.schedule.now c.in_ok-store.store c.in_ok-store.ensures.mounted) c.start_on.ensures.asked

pub returns-clause-fault : goal.returns-clause-fault
returns-clause-fault c =
    subst (λ (asked : Result Started RunFault). IfErr c.start_on.result (λ (f : RunFault). RefusesStart f asked))
    (image_on c.args.image.items c.args.schedule.now c.in_ok-store.store c.in_ok-store.ensures.mounted) c.start_on.ensures.fault

pub returns-clause-kind : goal.returns-clause-kind
returns-clause-kind c = image_errors c.start_on.result c.start_on.ensures.kind
