use Rattle.std.proofs.Common.{◌∙◌, ap, refl}
use Rattle.pv_model.specs.Machine.{Bytes, State, buffer_of, call_of, process_at}
use Rattle.pv_trace.specs.Steps.{moved_by}
use Rattle.pv_streams.proofs.WriterContracts.{writes_as, writes_both, writes_failed, writes_longer}
use Rattle.pv_step_lines.specs.Origin.{settings_in}
use Rattle.pv_step_lines.proofs.CallLines.{call-bytes}
use Rattle.pv_step_lines.proofs.explained.write_call.Goals as goal

pub returns-in_err-write_first_lines : goal.returns-in_err-write_first_lines
returns-in_err-write_first_lines g c =
    let m = c.args.made.now in
    let gave = c.reported_bytes-moved.ensures.words ∙ ap (λ (front : Bytes). moved_by front (call_of m.call) m.answer.outcome) (c.buffer.ensures.value ∙ ap (λ (s : State). buffer_of (process_at s c.args.pid)) c.parts-parts.ensures.value) in
    writes_failed c.from_residual.ensures.0
    (writes_as (call-bytes c.args.pid (settings_in c.args.origins.now) m c.args.session.now _ _ refl gave c.parts-parts.result.now c.parts-parts.ensures.value)
    (writes_longer _ (writes_longer _ (writes_longer _ (writes_longer _ c.in_err-write_first_lines.ensures)))))

pub returns-in_err-write_promise_part : goal.returns-in_err-write_promise_part
returns-in_err-write_promise_part g c =
    let m = c.args.made.now in
    let gave = c.reported_bytes-moved.ensures.words ∙ ap (λ (front : Bytes). moved_by front (call_of m.call) m.answer.outcome) (c.buffer.ensures.value ∙ ap (λ (s : State). buffer_of (process_at s c.args.pid)) c.parts-parts.ensures.value) in
    let text = call-bytes c.args.pid (settings_in c.args.origins.now) m c.args.session.now _ _ (c.reported_promise.ensures (call_of m.call)) gave c.parts-parts.result.now c.parts-parts.ensures.value in
    writes_failed c.from_residual-in_err-write_promise_part.ensures.0
    (writes_as text (writes_longer _ (writes_longer _ (writes_longer _ (writes_both c.in_ok-write_first_lines.ensures c.in_err-write_promise_part.ensures)))))

pub returns-in_err-write_table_lines : goal.returns-in_err-write_table_lines
returns-in_err-write_table_lines g c =
    let m = c.args.made.now in
    let gave = c.reported_bytes-moved.ensures.words ∙ ap (λ (front : Bytes). moved_by front (call_of m.call) m.answer.outcome) (c.buffer.ensures.value ∙ ap (λ (s : State). buffer_of (process_at s c.args.pid)) c.parts-parts.ensures.value) in
    let text = call-bytes c.args.pid (settings_in c.args.origins.now) m c.args.session.now _ _ (c.reported_promise.ensures (call_of m.call)) gave c.parts-parts.result.now c.parts-parts.ensures.value in
    writes_failed c.from_residual-in_err-write_table_lines.ensures.0
    (writes_as text (writes_longer _ (writes_longer _ (writes_both (writes_both c.in_ok-write_first_lines.ensures c.in_ok-write_promise_part.ensures) c.in_err-write_table_lines.ensures))))

pub returns-in_err-write_moved_part : goal.returns-in_err-write_moved_part
returns-in_err-write_moved_part g c =
    let m = c.args.made.now in
    let gave = c.reported_bytes-moved.ensures.words ∙ ap (λ (front : Bytes). moved_by front (call_of m.call) m.answer.outcome) (c.buffer.ensures.value ∙ ap (λ (s : State). buffer_of (process_at s c.args.pid)) c.parts-parts.ensures.value) in
    let text = call-bytes c.args.pid (settings_in c.args.origins.now) m c.args.session.now _ _ (c.reported_promise.ensures (call_of m.call)) gave c.parts-parts.result.now c.parts-parts.ensures.value in
    writes_failed c.from_residual-in_err-write_moved_part.ensures.0
    (writes_as text
    (writes_longer _ (writes_both (writes_both (writes_both c.in_ok-write_first_lines.ensures c.in_ok-write_promise_part.ensures) c.in_ok-write_table_lines.ensures) c.in_err-write_moved_part.ensures)))

pub returns : goal.returns
returns g c =
    let m = c.args.made.now in
    let gave = c.reported_bytes-moved.ensures.words ∙ ap (λ (front : Bytes). moved_by front (call_of m.call) m.answer.outcome) (c.buffer.ensures.value ∙ ap (λ (s : State). buffer_of (process_at s c.args.pid)) c.parts-parts.ensures.value) in
    let text = call-bytes c.args.pid (settings_in c.args.origins.now) m c.args.session.now _ _ (c.reported_promise.ensures (call_of m.call)) gave c.parts-parts.result.now c.parts-parts.ensures.value in
    writes_as text
    (writes_both (writes_both (writes_both (writes_both c.in_ok-write_first_lines.ensures c.in_ok-write_promise_part.ensures) c.in_ok-write_table_lines.ensures) c.in_ok-write_moved_part.ensures)
    c.write_last_line.ensures)
