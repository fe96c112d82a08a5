use Rattle.std.proofs.Common.{Err, ap, subst, sym, ◌∙◌}
use Rattle.pv_questions.specs.Answered.{StopsSearch}
use Rattle.pv_questions.specs.Answers.{Answer, end_of_search, search_answer}
use Rattle.pv_questions.specs.Trees.{machine_in}
use Rattle.pv_questions.proofs.CheckKinds.{machine-kind}
use Rattle.pv_questions.proofs.QuestionAnswers.{of_first, of_machine, stop-is_memory, stops-nowhere}
use Rattle.pv_questions.proofs.WrittenAnswers.{answer-as, checked-written, stopped-written, whole-written}
use Rattle.pv_questions.proofs.answering.write_search.Goals as goal

pub returns-in_err-machine-clause-written : goal.returns-in_err-machine-clause-written
returns-in_err-machine-clause-written g c =
    answer-as (sym (of_machine c.args.input.format c.args.input.bytes.items c.args.question c.requires))
    (checked-written (machine_in c.args.input.format c.args.input.bytes.items) (search_answer c.args.question) _ c.from_residual.ensures.1
    (machine-kind c.args.input.format c.args.input.bytes.items) c.in_err-machine.ensures.refused)

pub returns-in_err-machine-clause-stopped : goal.returns-in_err-machine-clause-stopped
returns-in_err-machine-clause-stopped g c = λ e. stops-nowhere c.args.question _ _ c.requires

pub returns-in_err-is_complete-clause-written : goal.returns-in_err-is_complete-clause-written
returns-in_err-is_complete-clause-written g c =
    answer-as (sym (of_first c.args.input.format c.args.input.bytes.items c.args.question c.requires _ c.in_ok-machine.ensures.machine))
    (stopped-written c.from_residual-in_err-is_complete.ensures.1 c.in_err-is_complete.ensures.written)

pub returns-in_err-is_complete-clause-stopped : goal.returns-in_err-is_complete-clause-stopped
returns-in_err-is_complete-clause-stopped g c =
    λ e. subst (λ (a : Answer). StopsSearch c.args.question a (g.W.Sink.written c.args.out.now) (g.W.Sink.written c.write_found.new.out))
    (sym (of_first c.args.input.format c.args.input.bytes.items c.args.question c.requires _ c.in_ok-machine.ensures.machine))
    (c.in_err-is_complete.ensures.stopped (ap Err (stop-is_memory c.in_err-is_complete.field-0.0 _ c.from_residual-in_err-is_complete.ensures.1 e)))

pub returns-clause-written : goal.returns-clause-written
returns-clause-written g c =
    answer-as (sym (of_first c.args.input.format c.args.input.bytes.items c.args.question c.requires _ c.in_ok-machine.ensures.machine))
    (whole-written (sym (c.of_search.ensures ∙ ap end_of_search c.in_ok-is_complete.ensures.complete)) c.in_ok-is_complete.ensures.written)

pub returns-clause-stopped : goal.returns-clause-stopped
returns-clause-stopped g c = λ e. cc e
