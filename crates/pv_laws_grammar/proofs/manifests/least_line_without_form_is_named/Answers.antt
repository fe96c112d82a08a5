use Rattle.std.proofs.Common.{true, false}
use Rattle.pv_model.specs.Machine.{read_manifest, read_bundle}
use Rattle.pv_laws_grammar.proofs.ManifestParsing.{IsFirstWithoutForm-whole, whole-IsFirstWithoutForm}
use Rattle.pv_laws_grammar.proofs.manifests.least_line_without_form_is_named.Goals as goal

pub returns : goal.returns
unfolding read_manifest read_bundle
returns c = record {
  alone = λ bytes n. (IsFirstWithoutForm-whole false bytes n, whole-IsFirstWithoutForm false bytes n);
  bundle = λ bytes n. (IsFirstWithoutForm-whole true bytes n, whole-IsFirstWithoutForm true bytes n);
}
