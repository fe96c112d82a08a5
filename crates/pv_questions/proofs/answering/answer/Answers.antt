use Rattle.std.proofs.Common.{◌≡◌, subst, sym, Ok}
use Rattle.pv_questions.specs.Answered.{StopsAnswer}
use Rattle.pv_questions.specs.Answers.{notes_of_inputs}
use Rattle.pv_questions.proofs.FlushedAnswers.{answered, done-ended, memory-ended}
use Rattle.pv_questions.proofs.answering.answer.Goals as goal

pub returns-clause-answered : goal.returns-clause-answered
returns-clause-answered g c = answered g.W.Sink _ _ _ _ _ _ c.write_answer-end.ensures.written c.flushed.ensures

pub returns-clause-noted : goal.returns-clause-noted
returns-clause-noted g c =
    done-ended g.W.Sink _ _ (notes_of_inputs c.args.question c.args.inputs ≡ Ok c.write_answer-end.new.notes.items) _ _ c.flushed.ensures c.write_answer-end.ensures.noted

pub returns-clause-stopped : goal.returns-clause-stopped
returns-clause-stopped g c =
    λ e. subst (λ w. StopsAnswer c.args.question c.args.inputs (g.W.Sink.written c.args.out.now) w) (sym c.flushed.ensures.preserved)
    (c.write_answer-end.ensures.stopped (memory-ended g.W.Sink _ _ _ _ c.flushed.ensures e))
