use Rattle.std.proofs.Common.{ap, refl}
use Rattle.pv_model.specs.Machine.{Tree, listing}
use Rattle.pv_questions.specs.Answers.{of_text}
use Rattle.pv_questions.specs.Trees.{input_tree}
use Rattle.pv_questions.proofs.CheckKinds.{tree-kind}
use Rattle.pv_questions.proofs.WrittenAnswers.{answer-as, checked-written, stopped-written, next-written, whole-written}
use Rattle.pv_questions.proofs.answering.write_names.Goals as goal

pub returns-in_err-store : goal.returns-in_err-store
returns-in_err-store g c =
    checked-written (input_tree c.args.input.format c.args.input.bytes.items) (λ t. of_text (listing t)) _ c.from_residual.ensures.1
    (tree-kind c.args.input.format c.args.input.bytes.items) c.in_err-store.ensures.refused

pub returns-in_err-write_listing : goal.returns-in_err-write_listing
returns-in_err-write_listing g c =
    next-written (input_tree c.args.input.format c.args.input.bytes.items) (λ t. of_text (listing t)) _ c.in_ok-store.ensures.held
    (answer-as (ap (λ (t : Tree). of_text (listing t)) c.tree.ensures.tree) (stopped-written c.from_residual-in_err-write_listing.ensures.1 c.in_err-write_listing.ensures))

pub returns : goal.returns
returns g c =
    next-written (input_tree c.args.input.format c.args.input.bytes.items) (λ t. of_text (listing t)) _ c.in_ok-store.ensures.held
    (answer-as (ap (λ (t : Tree). of_text (listing t)) c.tree.ensures.tree) (whole-written refl c.in_ok-write_listing.ensures))
