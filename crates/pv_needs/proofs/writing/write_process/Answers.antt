use Rattle.std.proofs.Common.{◌≡◌, ◌∙◌, ◌<◌, ◌≤◌, length, sym, subst, ℕ, rules}
use Rattle.pv_model.specs.Machine.{answer_bytes, counted_from}
use Rattle.pv_streams.proofs.OutputTexts.{on_err}
use Rattle.pv_streams.specs.Sinks.{WritesPrefix, and_all}
use Rattle.pv_needs.specs.RecordedLines.{recorded_image_lines}
use Rattle.pv_needs.specs.ProcessImages.{RecordedImage}
use Rattle.pv_needs.proofs.LineBytes.{begins-next, counted-length, counted-one, whole-end, whole-next}
use Rattle.pv_needs.proofs.writing.write_process.Goals as goal

pub returns-in_err-write_process_image : goal.returns-in_err-write_process_image
returns-in_err-write_process_image g c = record {
  whole = search rules;
  prefix =
      (let process_images = c.args.process_images.now in
      let k = c.loop-k.k in
      let process_image = c.index-process_images-k.result in
      let more : k < length (counted_from 1 process_images) = rw (counted-length 1 process_images) c.loop-k-test.true in
      on_err c.from_residual.result
      (begins-next (recorded_image_lines c.args.pid) (counted_from 1 process_images) k (0, process_image) more _ _ _ c.loop-k.invariant.written
      (subst (λ (e : ℕ × RecordedImage). WritesPrefix (answer_bytes (recorded_image_lines c.args.pid e)) (g.W.Sink.written c.loop-k.out) (g.W.Sink.written c.write_process_image.new.out))
      (sym (counted-one process_images k process_image (0, process_image) c.loop-k-test.true c.index-process_images-k.is)) c.in_err-write_process_image.ensures.prefix)));
  failed = search rules;
  quiet = search rules;
}

pub loop-k-preserved : goal.loop-k-preserved
loop-k-preserved g c =
    let process_images = c.args.process_images.now in
    let k = c.loop-k.k in
    let process_image = c.index-process_images-k.result in
    let more : k < length (counted_from 1 process_images) = rw (counted-length 1 process_images) c.loop-k-test.true in
    record {
      written =
          whole-next (recorded_image_lines c.args.pid) (counted_from 1 process_images) k (0, process_image) more _ _ _ c.loop-k.invariant.written
          (subst (λ (e : ℕ × RecordedImage). g.W.Sink.written c.write_process_image.new.out ≡ and_all (g.W.Sink.written c.loop-k.out) (answer_bytes (recorded_image_lines c.args.pid e)))
          (sym (counted-one process_images k process_image (0, process_image) c.loop-k-test.true c.index-process_images-k.is)) c.in_ok-write_process_image.ensures.whole);
      quiet = c.in_ok-write_process_image.ensures.quiet ∙ c.loop-k.invariant.quiet;
    }

pub returns : goal.returns
returns g c = record {
  whole =
      (let end : length (counted_from 1 c.args.process_images.now) ≤ c.loop-k.k = rw (counted-length 1 c.args.process_images.now) c.loop-k-test.false in
      whole-end (recorded_image_lines c.args.pid) (counted_from 1 c.args.process_images.now) c.loop-k.k end _ _ c.loop-k.invariant.written);
  prefix = search rules;
  failed = search rules;
  quiet = search rules;
}
