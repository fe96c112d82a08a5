use Rattle.std.proofs.Common.{true, false}
use Rattle.pv_model.specs.Machine.{read_manifest, read_bundle}
use Rattle.pv_laws_grammar.proofs.ManifestParsing.{HasOtherSizes-whole, whole-HasOtherSizes, form_or_size}
use Rattle.pv_laws_grammar.proofs.manifests.sizes_come_after_form.Goals as goal

pub returns : goal.returns
unfolding read_manifest read_bundle
returns c = record {
  alone = λ bytes. (HasOtherSizes-whole false bytes, whole-HasOtherSizes false bytes);
  bundle = λ bytes. (HasOtherSizes-whole true bytes, whole-HasOtherSizes true bytes);
  only_alone = form_or_size false;
  only_bundle = form_or_size true;
}
