use Rattle.std.proofs.Common.{◌∙◌, ap, sym, subst, refl}
use Rattle.pv_session.proofs.OfCallsPath.CheckedWalks.{recorded}
use Rattle.pv_model.specs.Machine.{Answered, Asked, call_of, State, process_at, Stepped}
use Rattle.pv_procs.specs.declared.record.ProcessRecord.{ProcessRecord}
use Rattle.pv_session.proofs.MachineSteps.{step-called}
use Rattle.pv_needs.specs.Asking.{IsMoreBy, ends_before}
use Rattle.pv_needs.specs.ProcessImages.{first_walks, judged_in}
use Rattle.pv_needs.proofs.StepDemands.{asks-call, counts-call, counts-none}
use Rattle.pv_needs.proofs.needs.ask_call.Goals as goal

pub returns-in-Ok-keep-clause-after : goal.returns-in-Ok-keep-clause-after
returns-in-Ok-keep-clause-after c =
    let comes = c.requires in
    let a : Answered = record { after = c.call.new.self; outcome = c.in_ok-answer.answer.outcome; walks = c.in_ok-answer.answer.walks } in
    sym (ap (λ (x : Stepped). x.after) (step-called c.args.session.now c.args.pid comes.0 (call_of c.args.call) a comes.1 comes.2 c.in_ok-answer.ensures.answered))

pub returns-in-Ok-keep-clause-recorded : goal.returns-in-Ok-keep-clause-recorded
returns-in-Ok-keep-clause-recorded c =
    let s = c.args.session.now in
    let pid = c.args.pid in
    let call = call_of c.args.call in
    let comes = c.requires in
    let me = comes.0 in
    let same = c.parts-parts.ensures.value in
    let at = ap (λ (x : State). process_at x pid) same ∙ comes.1 in
    let a : Answered = record { after = c.call.new.self; outcome = c.in_ok-answer.answer.outcome; walks = c.in_ok-answer.answer.walks } in
    let now : Asked = record { line = c.line-line.result; promises = c.promises_needed.result.now; walks = judged_in c.first_ones.result; ends_process_image = c.begins_program.result } in
    subst (λ o. IsMoreBy c.args.recorded.now pid o c.keep.new.self)
    (sym (counts-call c.args.granted s pid a.outcome (ap (λ (x : Stepped). x.outcome) (step-called s pid me call a comes.1 comes.2 c.in_ok-answer.ensures.answered))
    c.is_left_out.result c.is_left_out.ensures c.if-is_left_out.false now
    (asks-call s pid me call comes.1 comes.2 a c.in_ok-answer.ensures.answered now
    (c.line-line.ensures ∙ sym (ap (λ (r : ProcessRecord). r.context.line) (recorded (process_at c.parts-parts.result.now pid) me c.record.result.now at c.record.ensures)))
    c.promises_needed.ensures
    (ap judged_in (c.first_ones.ensures ∙ ap (λ w. first_walks w a.walks) (c.in-Ok.ensures me at ∙ ap (λ (x : State). ends_before x pid me call) same)))
    c.begins_program.ensures)))
    c.in-Ok-keep.ensures

pub returns-then-is_left_out : goal.returns-then-is_left_out
returns-then-is_left_out c =
    let s = c.args.session.now in
    let pid = c.args.pid in
    let comes = c.requires in
    let a : Answered = record { after = c.call.new.self; outcome = c.in_ok-answer.answer.outcome; walks = c.in_ok-answer.answer.walks } in
    let made = step-called s pid comes.0 (call_of c.args.call) a comes.1 comes.2 c.in_ok-answer.ensures.answered in
    record {
      after = sym (ap (λ (x : Stepped). x.after) made);
      recorded =
          subst (λ o. IsMoreBy c.args.recorded.now pid o c.args.recorded.now)
          (sym (counts-none c.args.granted s pid a.outcome (ap (λ (x : Stepped). x.outcome) made) c.is_left_out.result c.is_left_out.ensures c.if-is_left_out.true)) refl;
      memory = tt;
    }
