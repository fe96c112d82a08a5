use Rattle.std.proofs.Common.{◌∙◌, sym}
use Rattle.pv_questions.specs.declared.input.Format.TheVariants as format
use Rattle.pv_questions.proofs.EqualInputs.{answers_given, input_tree-image, input_tree-manifest}
use Rattle.pv_questions.proofs.laws.images_answer_as_their_manifests.Goals as goal

pub returns : goal.returns
returns c = λ question turns steps manifest image t given made holds.
    answers_given format.Image format.Text image manifest (input_tree-image image t holds ∙ sym (input_tree-manifest manifest t made)) question turns steps given
