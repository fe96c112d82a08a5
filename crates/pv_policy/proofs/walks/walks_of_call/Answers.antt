use Rattle.std.proofs.Common.{◌≡◌, ◌∙◌, ap, sym}
use Rattle.pv_model.specs.declared.call.Call.{Call}
use Rattle.pv_model.specs.Machine.{Answered, answer, call_of, program_of, process_at}
use Rattle.pv_policy.specs.Collecting.{walks_counted}
use Rattle.pv_policy.proofs.CollectedCalls.{counted, left-out}
use Rattle.pv_policy.proofs.NextCalls.{no-call, one-call}
use Rattle.pv_policy.proofs.walks.walks_of_call.Goals as goal

pub returns-then-is_left_out : goal.returns-then-is_left_out
returns-then-is_left_out c me call lives comes =
    let s = c.args.session.now in
    let pid = c.args.pid in
    let granted = c.args.granted in
    let fetched = c.in-Some.ensures in
    let same : call_of c.in-Some.call ≡ call = one-call (process_at s pid) (call_of c.in-Some.call) fetched.0 fetched.1 fetched.2 me call lives comes in
    let a : Answered = record { after = c.call.new.self; outcome = c.in_ok-answer-in-Some.answer.outcome; walks = c.in_ok-answer-in-Some.answer.walks } in
    sym (left-out granted a c.is_left_out.result c.is_left_out.ensures c.if-is_left_out.true)
    ∙ sym (ap (walks_counted granted) c.in_ok-answer-in-Some.ensures.answered) ∙ ap (λ (x : Call). walks_counted granted (answer program_of s pid x)) same

pub returns-else-is_left_out : goal.returns-else-is_left_out
returns-else-is_left_out c me call lives comes =
    let s = c.args.session.now in
    let pid = c.args.pid in
    let granted = c.args.granted in
    let fetched = c.in-Some.ensures in
    let same : call_of c.in-Some.call ≡ call = one-call (process_at s pid) (call_of c.in-Some.call) fetched.0 fetched.1 fetched.2 me call lives comes in
    let a : Answered = record { after = c.call.new.self; outcome = c.in_ok-answer-in-Some.answer.outcome; walks = c.in_ok-answer-in-Some.answer.walks } in
    sym (counted granted a c.is_left_out.result c.is_left_out.ensures c.if-is_left_out.false)
    ∙ sym (ap (walks_counted granted) c.in_ok-answer-in-Some.ensures.answered) ∙ ap (λ (x : Call). walks_counted granted (answer program_of s pid x)) same

pub returns-in-None : goal.returns-in-None
returns-in-None c me call lives comes = absurd (no-call (process_at c.args.session.now c.args.pid) c.in-None.ensures me call lives comes)
