use Rattle.std.proofs.Common.{◌∙◌, ◌++◌, List, ap, sym}
use Rattle.std.proofs.lemmas.Grind.{flat_map-append}
use Rattle.pv_model.specs.Machine.{AnswerLine, answer_bytes, answer_line_bytes, State}
use Rattle.pv_streams.proofs.WriterContracts.{writes_as, writes_both, writes_failed, writes_longer}
use Rattle.pv_step_lines.specs.Origin.{settings_in}
use Rattle.pv_step_lines.specs.Made.{call_made_lines}
use Rattle.pv_explain.specs.Added.{added_made}
use Rattle.pv_explain.proofs.explained.write_call_and_added.Goals as goal

pub returns-in_err-write_call : goal.returns-in_err-write_call
returns-in_err-write_call g c =
    let s = c.args.session.now in
    let mine = settings_in c.args.origins.now in
    let lines : List AnswerLine = call_made_lines c.args.pid mine c.args.made.now s in
    let added : List AnswerLine = added_made c.args.errors c.args.pid mine c.args.prior.now c.args.made.now s in
    writes_failed c.from_residual.ensures.0 (writes_as (sym (flat_map-append answer_line_bytes lines added)) (writes_longer _ c.in_err-write_call.ensures))

pub returns : goal.returns
returns g c =
    let s = c.args.session.now in
    let mine = settings_in c.args.origins.now in
    let lines : List AnswerLine = call_made_lines c.args.pid mine c.args.made.now s in
    writes_as
    (ap (λ (t : State). answer_bytes lines ++ answer_bytes (added_made c.args.errors c.args.pid mine c.args.prior.now c.args.made.now t)) c.parts.ensures.value
    ∙ sym (flat_map-append answer_line_bytes lines (added_made c.args.errors c.args.pid mine c.args.prior.now c.args.made.now s)))
    (writes_both c.in_ok-write_call.ensures c.write_added.ensures)
