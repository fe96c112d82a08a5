use Rattle.std.proofs.Common.{◌∙◌}
use Rattle.pv_questions.proofs.FlushedAnswers.{answered, memory-ended}
use Rattle.pv_questions.proofs.comparing.compare.Goals as goal

pub returns-clause-answered : goal.returns-clause-answered
returns-clause-answered g c = answered g.W.Sink _ _ _ _ _ _ c.write_comparison-end.ensures.written c.flushed.ensures

pub returns-clause-late : goal.returns-clause-late
returns-clause-late g c = λ e. c.flushed.ensures.preserved ∙ c.write_comparison-end.ensures.late (memory-ended g.W.Sink _ _ _ _ c.flushed.ensures e)
