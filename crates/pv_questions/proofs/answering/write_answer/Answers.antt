use Rattle.std.proofs.Common.{◌∙◌, ap, subst, sym, Ok}
use Rattle.pv_questions.specs.Answered.{StopsAnswer}
use Rattle.pv_questions.specs.Answers.{answer_to, notes_of_inputs}
use Rattle.pv_questions.specs.declared.question.Question.{Question}
use Rattle.pv_questions.proofs.QuestionAnswers.{always_ok, search-noted, search-stopped, search-written, search_from, state-stopped, state_from}
use Rattle.pv_questions.proofs.WrittenAnswers.{answer-as}
use Rattle.pv_questions.proofs.answering.write_answer.Goals as goal

pub returns-in-Trace-clause-written : goal.returns-in-Trace-clause-written
returns-in-Trace-clause-written g c = answer-as (sym (ap (λ (q : Question). answer_to q c.args.inputs) c.in-Trace.is)) c.write_trace.ensures.written

pub returns-in-Trace-clause-noted : goal.returns-in-Trace-clause-noted
returns-in-Trace-clause-noted g c = always_ok c.write_trace.result (ap (λ (q : Question). notes_of_inputs q c.args.inputs) c.in-Trace.is ∙ ap Ok (sym c.clear.ensures.items))

pub returns-in-Trace-clause-stopped : goal.returns-in-Trace-clause-stopped
returns-in-Trace-clause-stopped g c =
    λ e. subst (λ (q : Question). StopsAnswer q c.args.inputs (g.W.Sink.written c.args.out.now) (g.W.Sink.written c.write_trace.new.out)) (sym c.in-Trace.is)
    (c.write_trace.ensures.exact e)

pub returns-in-Explain-clause-written : goal.returns-in-Explain-clause-written
returns-in-Explain-clause-written g c = answer-as (sym (ap (λ (q : Question). answer_to q c.args.inputs) c.in-Explain.is)) c.write_steps.ensures

pub returns-in-Explain-clause-noted : goal.returns-in-Explain-clause-noted
returns-in-Explain-clause-noted g c = always_ok c.write_steps.result (ap (λ (q : Question). notes_of_inputs q c.args.inputs) c.in-Explain.is ∙ ap Ok (sym c.clear.ensures.items))

pub returns-in-Explain-clause-stopped : goal.returns-in-Explain-clause-stopped
returns-in-Explain-clause-stopped g c =
    λ e. subst (λ (q : Question). StopsAnswer q c.args.inputs (g.W.Sink.written c.args.out.now) (g.W.Sink.written c.write_steps.new.out)) (sym c.in-Explain.is) tt

pub returns-in-Needs-clause-written : goal.returns-in-Needs-clause-written
returns-in-Needs-clause-written g c = answer-as (sym (ap (λ (q : Question). answer_to q c.args.inputs) c.in-Needs.is)) c.write_needs.ensures

pub returns-in-Needs-clause-noted : goal.returns-in-Needs-clause-noted
returns-in-Needs-clause-noted g c = always_ok c.write_needs.result (ap (λ (q : Question). notes_of_inputs q c.args.inputs) c.in-Needs.is ∙ ap Ok (sym c.clear.ensures.items))

pub returns-in-Needs-clause-stopped : goal.returns-in-Needs-clause-stopped
returns-in-Needs-clause-stopped g c =
    λ e. subst (λ (q : Question). StopsAnswer q c.args.inputs (g.W.Sink.written c.args.out.now) (g.W.Sink.written c.write_needs.new.out)) (sym c.in-Needs.is) tt

pub returns-in-Listing-clause-written : goal.returns-in-Listing-clause-written
returns-in-Listing-clause-written g c = answer-as (sym (ap (λ (q : Question). answer_to q c.args.inputs) c.in-Listing.is)) c.write_names.ensures

pub returns-in-Listing-clause-noted : goal.returns-in-Listing-clause-noted
returns-in-Listing-clause-noted g c = always_ok c.write_names.result (ap (λ (q : Question). notes_of_inputs q c.args.inputs) c.in-Listing.is ∙ ap Ok (sym c.clear.ensures.items))

pub returns-in-Listing-clause-stopped : goal.returns-in-Listing-clause-stopped
returns-in-Listing-clause-stopped g c =
    λ e. subst (λ (q : Question). StopsAnswer q c.args.inputs (g.W.Sink.written c.args.out.now) (g.W.Sink.written c.write_names.new.out)) (sym c.in-Listing.is) tt

pub returns-in-File-clause-written : goal.returns-in-File-clause-written
returns-in-File-clause-written g c = answer-as (sym (ap (λ (q : Question). answer_to q c.args.inputs) c.in-File.is)) c.write_contents.ensures

pub returns-in-File-clause-noted : goal.returns-in-File-clause-noted
returns-in-File-clause-noted g c = always_ok c.write_contents.result (ap (λ (q : Question). notes_of_inputs q c.args.inputs) c.in-File.is ∙ ap Ok (sym c.clear.ensures.items))

pub returns-in-File-clause-stopped : goal.returns-in-File-clause-stopped
returns-in-File-clause-stopped g c =
    λ e. subst (λ (q : Question). StopsAnswer q c.args.inputs (g.W.Sink.written c.args.out.now) (g.W.Sink.written c.write_contents.new.out)) (sym c.in-File.is) tt

pub returns-in-Turns-clause-written : goal.returns-in-Turns-clause-written
returns-in-Turns-clause-written g c = answer-as (sym (ap (λ (q : Question). answer_to q c.args.inputs) c.in-Turns.is)) c.write_schedule.ensures

pub returns-in-Turns-clause-noted : goal.returns-in-Turns-clause-noted
returns-in-Turns-clause-noted g c = always_ok c.write_schedule.result (ap (λ (q : Question). notes_of_inputs q c.args.inputs) c.in-Turns.is ∙ ap Ok (sym c.clear.ensures.items))

pub returns-in-Turns-clause-stopped : goal.returns-in-Turns-clause-stopped
returns-in-Turns-clause-stopped g c =
    λ e. subst (λ (q : Question). StopsAnswer q c.args.inputs (g.W.Sink.written c.args.out.now) (g.W.Sink.written c.write_schedule.new.out)) (sym c.in-Turns.is) tt

pub write_after-requires : goal.write_after-requires
write_after-requires g c = state_from c.args.question c.in-State.is

pub write_search-requires : goal.write_search-requires
write_search-requires g c = search_from c.args.question c.in-Explore.is

pub returns-in-State-clause-written : goal.returns-in-State-clause-written
returns-in-State-clause-written g c = c.write_after.ensures.written

pub returns-in-State-clause-noted : goal.returns-in-State-clause-noted
returns-in-State-clause-noted g c = c.write_after.ensures.noted

pub returns-in-State-clause-stopped : goal.returns-in-State-clause-stopped
returns-in-State-clause-stopped g c =
    λ e. state-stopped c.args.inputs (g.W.Sink.written c.args.out.now) (g.W.Sink.written c.write_after.new.out) c.args.question (state_from c.args.question c.in-State.is)

pub returns-in-Explore-clause-written : goal.returns-in-Explore-clause-written
returns-in-Explore-clause-written g c = search-written c.args.inputs c.args.question (search_from c.args.question c.in-Explore.is) c.write_search.ensures.written

pub returns-in-Explore-clause-noted : goal.returns-in-Explore-clause-noted
returns-in-Explore-clause-noted g c =
    always_ok c.write_search.result (search-noted c.args.inputs c.args.question (search_from c.args.question c.in-Explore.is) ∙ ap Ok (sym c.clear.ensures.items))

pub returns-in-Explore-clause-stopped : goal.returns-in-Explore-clause-stopped
returns-in-Explore-clause-stopped g c =
    λ e. search-stopped c.args.inputs (g.W.Sink.written c.args.out.now) (g.W.Sink.written c.write_search.new.out) c.args.question
    (search_from c.args.question c.in-Explore.is) (c.write_search.ensures.stopped e)
