use Rattle.std.proofs.Common.{true, false}
use Rattle.pv_model.specs.Machine.{read_manifest, read_bundle}
use Rattle.pv_laws_grammar.proofs.ManifestParsing.{EncodesManifest-whole, whole-EncodesManifest}
use Rattle.pv_laws_grammar.proofs.manifests.manifest_is_read_as_it_is_encoded.Goals as goal

pub returns : goal.returns
unfolding read_manifest read_bundle
returns c = record {
  alone = λ bytes m. (EncodesManifest-whole false bytes m, whole-EncodesManifest false bytes m);
  bundle = λ bytes m. (EncodesManifest-whole true bytes m, whole-EncodesManifest true bytes m);
}
