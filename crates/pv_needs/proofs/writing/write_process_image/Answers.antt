use Rattle.std.proofs.Common.{◌∙◌, ◌++◌, ◌∷◌, [], ap, codes, decimal, refl, subst, rules}
use Rattle.std.proofs.lemmas.Result.{on_err_weaker, on_ok_weaker}
use Rattle.std.specs.List.{flat_map}
use Rattle.pv_model.specs.Machine.{answer_bytes, Bytes, all_promises}
use Rattle.pv_streams.proofs.OutputTexts.{begins_first, begins_then, on_err, written_both}
use Rattle.pv_streams.specs.Sinks.{WritesPrefix, and_all}
use Rattle.pv_needs.specs.RecordedLines.{recorded_promises_lines, recorded_target_lines}
use Rattle.pv_answers.specs.Texts.{line_front}
use Rattle.pv_needs.proofs.LineBytes.{process_image-bytes}
use Rattle.pv_needs.proofs.writing.write_process_image.Goals as goal

pub returns-in_err-write : goal.returns-in_err-write
returns-in_err-write g c = record {
  whole = search rules;
  prefix =
      (let pid = c.args.pid in
      let process_image = c.args.process_image.now in
      let first = line_front pid (codes "STNT") ++ decimal c.args.number ++ 10 ∷ [] in
      let promises = answer_bytes (recorded_promises_lines pid all_promises process_image.promises) in
      let targets = answer_bytes (flat_map (recorded_target_lines pid) process_image.targets) in
      on_err c.from_residual.result
      (subst (λ (bs : Bytes). WritesPrefix bs (g.W.Sink.written c.args.out.now) (g.W.Sink.written c.write.new.out)) (process_image-bytes pid c.args.number process_image process_image.promises process_image.targets refl refl)
      (begins_first (first ++ promises) targets _ _ (begins_first first promises _ _ c.in_err-write.ensures.prefix))));
  failed = search rules;
  quiet = search rules;
}

pub returns-in_err-write_promises : goal.returns-in_err-write_promises
returns-in_err-write_promises g c = record {
  whole = search rules;
  prefix =
      (let pid = c.args.pid in
      let process_image = c.args.process_image.now in
      let counts = c.promises.result.now in
      let first = line_front pid (codes "STNT") ++ decimal c.args.number ++ 10 ∷ [] in
      let promises = answer_bytes (recorded_promises_lines pid all_promises counts) in
      let targets = answer_bytes (flat_map (recorded_target_lines pid) process_image.targets) in
      on_err c.from_residual-in_err-write_promises.result
      (subst (λ (bs : Bytes). WritesPrefix bs (g.W.Sink.written c.args.out.now) (g.W.Sink.written c.write_promises.new.out)) (process_image-bytes pid c.args.number process_image counts process_image.targets c.promises.ensures.value refl)
      (begins_first (first ++ promises) targets _ _ (begins_then first promises _ _ _ c.in_ok-write.ensures.whole c.in_err-write_promises.ensures.prefix))));
  failed = search rules;
  quiet = search rules;
}

pub returns : goal.returns
returns g c = record {
  whole =
      (let pid = c.args.pid in
      let process_image = c.args.process_image.now in
      let counts = c.promises.result.now in
      let first = line_front pid (codes "STNT") ++ decimal c.args.number ++ 10 ∷ [] in
      let promises = answer_bytes (recorded_promises_lines pid all_promises counts) in
      let targets = answer_bytes (flat_map (recorded_target_lines pid) c.targets.result.now) in
      on_ok_weaker c.write_targets.result
      (λ e. written_both (first ++ promises) targets _ _ _ (written_both first promises _ _ _ c.in_ok-write.ensures.whole c.in_ok-write_promises.ensures.whole) e
      ∙ ap (and_all (g.W.Sink.written c.args.out.now)) (process_image-bytes pid c.args.number process_image counts c.targets.result.now c.promises.ensures.value c.targets.ensures))
      c.write_targets.ensures.whole);
  prefix =
      (let pid = c.args.pid in
      let process_image = c.args.process_image.now in
      let counts = c.promises.result.now in
      let first = line_front pid (codes "STNT") ++ decimal c.args.number ++ 10 ∷ [] in
      let promises = answer_bytes (recorded_promises_lines pid all_promises counts) in
      let targets = answer_bytes (flat_map (recorded_target_lines pid) c.targets.result.now) in
      on_err_weaker c.write_targets.result
      (λ e. subst (λ (bs : Bytes). WritesPrefix bs (g.W.Sink.written c.args.out.now) (g.W.Sink.written c.write_targets.new.out))
      (process_image-bytes pid c.args.number process_image counts c.targets.result.now c.promises.ensures.value c.targets.ensures)
      (begins_then (first ++ promises) targets _ _ _ (written_both first promises _ _ _ c.in_ok-write.ensures.whole c.in_ok-write_promises.ensures.whole) e))
      c.write_targets.ensures.prefix);
  failed = search rules;
  quiet = search rules;
}
