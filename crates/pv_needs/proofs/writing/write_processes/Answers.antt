use Rattle.std.proofs.Common.{◌≡◌, ◌∙◌, ◌<◌, ◌≤◌, length, sym, ap, subst, ℕ, List, rules}
use Rattle.pv_model.specs.Machine.{answer_bytes, counted_from}
use Rattle.pv_streams.proofs.OutputTexts.{on_err}
use Rattle.pv_streams.specs.Sinks.{WritesPrefix, and_all}
use Rattle.pv_needs.specs.RecordedLines.{recorded_process_lines}
use Rattle.pv_needs.specs.ProcessImages.{RecordedImage}
use Rattle.pv_needs.proofs.LineBytes.{begins-next, counted-length, counted-zero, whole-end, whole-next}
use Rattle.pv_needs.proofs.writing.write_processes.Goals as goal

pub returns-in_err-write_process : goal.returns-in_err-write_process
returns-in_err-write_process g c = record {
  whole = search rules;
  prefix =
      (let all = c.args.processes.now in
      let pid = c.loop-pid.pid in
      let process_images = c.index-processes-pid.result in
      let more : pid < length (counted_from 0 all) = rw (counted-length 0 all) c.loop-pid-test.true in
      on_err c.from_residual.result
      (begins-next (λ (e : ℕ × List RecordedImage). recorded_process_lines e.0 e.1) (counted_from 0 all) pid (0, process_images) more _ _ _ c.loop-pid.invariant.written
      (subst (λ (e : ℕ × List RecordedImage). WritesPrefix (answer_bytes (recorded_process_lines e.0 e.1)) (g.W.Sink.written c.loop-pid.out) (g.W.Sink.written c.write_process.new.out))
      (ap (λ xs. (pid, xs)) c.as_slice.ensures ∙ sym (counted-zero all pid process_images (0, process_images) c.loop-pid-test.true c.index-processes-pid.is)) c.in_err-write_process.ensures.prefix)));
  failed = search rules;
  quiet = search rules;
}

pub loop-pid-preserved : goal.loop-pid-preserved
loop-pid-preserved g c =
    let all = c.args.processes.now in
    let pid = c.loop-pid.pid in
    let process_images = c.index-processes-pid.result in
    let more : pid < length (counted_from 0 all) = rw (counted-length 0 all) c.loop-pid-test.true in
    record {
      written =
          whole-next (λ (e : ℕ × List RecordedImage). recorded_process_lines e.0 e.1) (counted_from 0 all) pid (0, process_images) more _ _ _ c.loop-pid.invariant.written
          (subst (λ (e : ℕ × List RecordedImage). g.W.Sink.written c.write_process.new.out ≡ and_all (g.W.Sink.written c.loop-pid.out) (answer_bytes (recorded_process_lines e.0 e.1)))
          (ap (λ xs. (pid, xs)) c.as_slice.ensures ∙ sym (counted-zero all pid process_images (0, process_images) c.loop-pid-test.true c.index-processes-pid.is)) c.in_ok-write_process.ensures.whole);
      quiet = c.in_ok-write_process.ensures.quiet ∙ c.loop-pid.invariant.quiet;
    }

pub returns : goal.returns
returns g c = record {
  whole =
      (let end : length (counted_from 0 c.args.processes.now) ≤ c.loop-pid.pid = rw (counted-length 0 c.args.processes.now) c.loop-pid-test.false in
      whole-end (λ (e : ℕ × List RecordedImage). recorded_process_lines e.0 e.1) (counted_from 0 c.args.processes.now) c.loop-pid.pid end _ _ c.loop-pid.invariant.written);
  prefix = search rules;
  failed = search rules;
  quiet = search rules;
}
