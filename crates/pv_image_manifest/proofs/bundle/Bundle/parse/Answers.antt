use Rattle.std.proofs.Common.{◌∙◌, ap, sym, Ok}
use Rattle.std.proofs.lemmas.Result.{err_from_is_err_and}
use Rattle.pv_model.specs.Machine.{lines_of, read_bundle}
use Rattle.pv_image_manifest.specs.Reading.{manifest_before}
use Rattle.pv_image_manifest.proofs.TextEnds.{end_begins}
use Rattle.pv_image_manifest.proofs.WholeManifests.{refuses_along, bundle_is_read}
use Rattle.pv_image_manifest.proofs.bundle.Bundle.parse.Goals as goal

pub returns-in_err-manifest-clause-exact : goal.returns-in_err-manifest-clause-exact
returns-in_err-manifest-clause-exact c =
    let p = err_from_is_err_and c.from_residual.result c.from_residual.ensures.1 in
    rw (p.1, p.2) (refuses_along _ _ (read_bundle c.args.bytes.now) (λ fault is. bundle_is_read c.args.bytes.now ∙ is) c.in_err-manifest.ensures.exact)

pub returns-clause-exact : goal.returns-clause-exact
returns-clause-exact c =
    bundle_is_read c.args.bytes.now ∙ c.in_ok-manifest.ensures.exact
    ∙ ap (λ bs. Ok (manifest_before c.in_ok-manifest.manifest (lines_of bs))) (sym (end_begins c.in_ok-manifest.following.now c.args.bytes.now c.in_ok-manifest.ensures.end))
