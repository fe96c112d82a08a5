use Rattle.std.proofs.Common.{◌≡◌, ◌∙◌, ◌<◌, ◌≤◌, length, sym, subst, rules}
use Rattle.std.specs.List.{zip}
use Rattle.pv_model.specs.declared.promise.Promise.{Promise}
use Rattle.pv_model.specs.declared.promise.Promise.TheVariants.{Stdio}
use Rattle.pv_model.specs.Machine.{answer_bytes}
use Rattle.pv_streams.proofs.OutputTexts.{on_err}
use Rattle.pv_streams.specs.Sinks.{WritesPrefix, and_all}
use Rattle.pv_needs.specs.declared.process_images.Times.{Times}
use Rattle.pv_needs.specs.RecordedLines.{recorded_promise_lines}
use Rattle.pv_needs.proofs.LineBytes.{begins-next, whole-end, whole-next, zip-at, zip-length}
use Rattle.pv_needs.proofs.writing.write_promises.Goals as goal

pub returns-in_err-write_promise : goal.returns-in_err-write_promise
returns-in_err-write_promise g c = record {
  whole = search rules;
  prefix =
      (let none : Times = record { count = 0; last = 0 } in
      let all = c.args.all.now in
      let counts = c.args.promises.now in
      let k = c.loop-k.k in
      let more : k < length (zip all counts) = rw (zip-length all counts c.requires) c.loop-k-test.true in
      on_err c.from_residual.result
      (begins-next (λ (e : Promise × Times). recorded_promise_lines c.args.pid e.0 e.1) (zip all counts) k (Stdio, none) more _ _ _ c.loop-k.invariant.written
      (subst (λ (e : Promise × Times). WritesPrefix (answer_bytes (recorded_promise_lines c.args.pid e.0 e.1)) (g.W.Sink.written c.loop-k.out) (g.W.Sink.written c.write_promise.new.out))
      (sym (zip-at all counts k Stdio none (Stdio, none) c.requires c.loop-k-test.true)) c.in_err-write_promise.ensures.prefix)));
  failed = search rules;
  quiet = search rules;
}

pub loop-k-preserved : goal.loop-k-preserved
loop-k-preserved g c =
    let none : Times = record { count = 0; last = 0 } in
    let all = c.args.all.now in
    let counts = c.args.promises.now in
    let k = c.loop-k.k in
    let more : k < length (zip all counts) = rw (zip-length all counts c.requires) c.loop-k-test.true in
    record {
      written =
          whole-next (λ (e : Promise × Times). recorded_promise_lines c.args.pid e.0 e.1) (zip all counts) k (Stdio, none) more _ _ _ c.loop-k.invariant.written
          (subst (λ (e : Promise × Times). g.W.Sink.written c.write_promise.new.out ≡ and_all (g.W.Sink.written c.loop-k.out) (answer_bytes (recorded_promise_lines c.args.pid e.0 e.1)))
          (sym (zip-at all counts k Stdio none (Stdio, none) c.requires c.loop-k-test.true)) c.in_ok-write_promise.ensures.whole);
      quiet = c.in_ok-write_promise.ensures.quiet ∙ c.loop-k.invariant.quiet;
    }

pub returns : goal.returns
returns g c = record {
  whole =
      (let all = c.args.all.now in
      let counts = c.args.promises.now in
      let end : length (zip all counts) ≤ c.loop-k.k = rw (zip-length all counts c.requires) c.loop-k-test.false in
      whole-end (λ (e : Promise × Times). recorded_promise_lines c.args.pid e.0 e.1) (zip all counts) c.loop-k.k end _ _ c.loop-k.invariant.written);
  prefix = search rules;
  failed = search rules;
  quiet = search rules;
}
