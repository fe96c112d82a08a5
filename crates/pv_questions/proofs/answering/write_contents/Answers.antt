use Rattle.std.proofs.Common.{◌∙◌, ap}
use Rattle.pv_model.specs.Machine.{Bytes, Tree}
use Rattle.pv_questions.specs.Answers.{of_file}
use Rattle.pv_questions.specs.Files.{cat_of}
use Rattle.pv_questions.specs.Trees.{input_tree}
use Rattle.pv_questions.proofs.CheckKinds.{tree-kind}
use Rattle.pv_questions.proofs.WrittenAnswers.{answer-as, checked-written, next-written}
use Rattle.pv_questions.proofs.answering.write_contents.Goals as goal

pub returns-in_err-store : goal.returns-in_err-store
returns-in_err-store g c =
    checked-written (input_tree c.args.input.format c.args.input.bytes.items) (λ t. of_file (cat_of t c.args.path.now)) _ c.from_residual.ensures.1
    (tree-kind c.args.input.format c.args.input.bytes.items) c.in_err-store.ensures.refused

pub returns : goal.returns
returns g c =
    next-written (input_tree c.args.input.format c.args.input.bytes.items) (λ t. of_file (cat_of t c.args.path.now)) _ c.in_ok-store.ensures.held
    (answer-as (ap (λ (bs : Bytes). of_file (cat_of c.tree.result.now.tree bs)) c.as_bytes.ensures.value
    ∙ ap (λ (t : Tree). of_file (cat_of t c.args.path.now)) c.tree.ensures.tree) c.write_file_at.ensures)
