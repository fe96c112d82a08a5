use Rattle.std.proofs.Common.{◌∙◌, sym}
use Rattle.pv_questions.specs.declared.input.Format.TheVariants as format
use Rattle.pv_questions.proofs.EqualInputs.{input_tree-image, input_tree-manifest, machines}
use Rattle.pv_questions.proofs.laws.images_boot_as_manifests.Goals as goal

pub returns : goal.returns
returns c = λ manifest image t made holds.
    machines format.Image format.Text image manifest (input_tree-image image t holds ∙ sym (input_tree-manifest manifest t made))
