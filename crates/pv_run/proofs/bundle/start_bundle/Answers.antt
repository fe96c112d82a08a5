use Rattle.std.proofs.Common.{◌≡◌, drop, subst, Result, Ok, IfOk, IfErr}
use Rattle.std.proofs.lemmas.Result.{err_from_is_err_and}
use Rattle.pv_image_manifest.specs.Reading.{manifest_before}
use Rattle.pv_model.specs.Machine.{lines_of, Started}
use Rattle.pv_model.specs.declared.run_fault.RunFault.{RunFault}
use Rattle.pv_run.specs.Run.{RefusesStart, started_from}
use Rattle.pv_run.proofs.InputChecks.{bundle_on, refuses_manifest, refuses_tree, start_errors}
use Rattle.pv_run.proofs.bundle.start_bundle.Goals as goal

pub returns-in_err-bundle-clause-fault : goal.returns-in_err-bundle-clause-fault
returns-in_err-bundle-clause-fault c =
    let p = err_from_is_err_and c.from_residual.result c.from_residual.ensures.1 in
    rw p.1 (refuses_manifest c.args.bytes.now c.in_err-bundle.field-0.0 p.0 p.2 c.in_err-bundle.ensures.exact)

pub returns-in_err-store-clause-fault : goal.returns-in_err-store-clause-fault
returns-in_err-store-clause-fault c =
    let p = err_from_is_err_and c.from_residual-in_err-store.result c.from_residual-in_err-store.ensures.1 in
    rw p.1 (refuses_tree c.args.bytes.now (manifest_before c.in_ok-bundle.bundle.manifest (lines_of (drop c.in_ok-bundle.bundle.schedule_at c.args.bytes.now))) c.in_ok-bundle.ensures.exact
    c.in_err-store.field-0.0 p.0 p.2 c.in_err-store.ensures)

pub returns-clause-asked : goal.returns-clause-asked
returns-clause-asked c =
    subst (λ (asked : Result Started RunFault). IfOk c.start_on.result (λ r. asked ≡ Ok (started_from r.session r.schedule)))
    (bundle_on c.args.bytes.now c.in_ok-bundle.bundle.manifest c.in_ok-bundle.bundle.schedule_at c.in_ok-store.store c.in_ok-bundle.ensures.exact c.in_ok-store.ensures) c.start_on.ensures.asked

pub returns-clause-fault : goal.returns-clause-fault
returns-clause-fault c =
    subst (λ (asked : Result Started RunFault). IfErr c.start_on.result (λ (f : RunFault). RefusesStart f asked))
    (bundle_on c.args.bytes.now c.in_ok-bundle.bundle.manifest c.in_ok-bundle.bundle.schedule_at c.in_ok-store.store c.in_ok-bundle.ensures.exact c.in_ok-store.ensures) c.start_on.ensures.fault

pub returns-clause-kind : goal.returns-clause-kind
returns-clause-kind c = start_errors c.start_on.result c.start_on.ensures.kind
