use Rattle.std.proofs.Common.{◌∙◌, ap, refl, Ok}
use Rattle.std.proofs.lemmas.Result.{err_from_is_err_and}
use Rattle.pv_model.specs.Machine.{read_manifest}
use Rattle.pv_image_manifest.specs.Reading.{manifest_before}
use Rattle.pv_image_manifest.proofs.WholeManifests.{refuses_along, manifest_is_read}
use Rattle.pv_image_manifest.proofs.manifest.Manifest.parse.Goals as goal

pub returns-in_err-manifest : goal.returns-in_err-manifest
returns-in_err-manifest c =
    let p = err_from_is_err_and c.from_residual.result c.from_residual.ensures.1 in
    rw (p.1, p.2) (refuses_along _ _ (read_manifest c.args.bytes.now) (λ fault is. manifest_is_read c.args.bytes.now ∙ is) c.in_err-manifest.ensures.exact)

pub returns : goal.returns
returns c =
    manifest_is_read c.args.bytes.now ∙ c.in_ok-manifest.ensures.exact
    ∙ ap (λ lines. Ok (manifest_before c.in_ok-manifest.manifest lines)) (c.in_ok-manifest.ensures.alone refl)
