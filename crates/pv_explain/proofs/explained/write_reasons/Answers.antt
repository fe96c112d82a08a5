use Rattle.std.proofs.Common.{List, sym}
use Rattle.std.proofs.lemmas.Grind.{flat_map-append}
use Rattle.pv_model.specs.Machine.{AnswerLine, answer_line_bytes, call_of, process_at}
use Rattle.pv_model_questions.specs.ExplainMore.{execve_after}
use Rattle.pv_streams.proofs.WriterContracts.{writes_as, writes_both, writes_failed, writes_longer}
use Rattle.pv_explain.specs.Added.{restraints_in}
use Rattle.pv_explain.specs.Made.{error_after}
use Rattle.pv_explain.proofs.explained.write_reasons.Goals as goal

pub returns-in_err-write_error : goal.returns-in_err-write_error
returns-in_err-write_error g c =
    let made = c.args.made.now in
    let error : List AnswerLine = error_after c.args.pid c.args.parts.now (process_at c.args.parts.now c.args.pid) (call_of made.call) made.answer.outcome in
    let execve : List AnswerLine = execve_after c.args.pid (restraints_in c.args.prior.now.restraints) c.args.parts.now (call_of made.call) made.answer.outcome in
    writes_failed c.from_residual.ensures.0 (writes_as (sym (flat_map-append answer_line_bytes error execve)) (writes_longer _ c.in_err-write_error.ensures))

pub returns : goal.returns
returns g c =
    let made = c.args.made.now in
    let error : List AnswerLine = error_after c.args.pid c.args.parts.now (process_at c.args.parts.now c.args.pid) (call_of made.call) made.answer.outcome in
    let execve : List AnswerLine = execve_after c.args.pid (restraints_in c.args.prior.now.restraints) c.args.parts.now (call_of made.call) made.answer.outcome in
    writes_as (sym (flat_map-append answer_line_bytes error execve)) (writes_both c.in_ok-write_error.ensures c.write_execve.ensures)
