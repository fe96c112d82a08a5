use Rattle.std.proofs.Common.{◌∙◌, ap, codes, ◌++◌, ◌∷◌, [], rules}
use Rattle.pv_needs.specs.RecordedLines.{recorded_times_text}
use Rattle.pv_answers.specs.Texts.{line_front}
use Rattle.pv_needs.proofs.LineBytes.{begins-as, promise-bytes, whole-as}
use Rattle.pv_needs.proofs.writing.write_promise.Goals as goal

pub returns : goal.returns
returns g c = record {
  whole =
      (whole-as c.write.result (g.W.Sink.written c.args.out.now) (g.W.Sink.written c.write.new.out) _ _
      (ap (λ name. line_front c.args.pid (codes "PLDG") ++ (name ++ recorded_times_text (codes "calls") c.args.times) ++ 10 ∷ []) (c.as_bytes.ensures.value ∙ c.name.ensures)
      ∙ promise-bytes c.args.pid c.args.promise c.args.times c.if-times-eq0.false) c.write.ensures.whole);
  prefix =
      (begins-as c.write.result (g.W.Sink.written c.args.out.now) (g.W.Sink.written c.write.new.out) _ _
      (ap (λ name. line_front c.args.pid (codes "PLDG") ++ (name ++ recorded_times_text (codes "calls") c.args.times) ++ 10 ∷ []) (c.as_bytes.ensures.value ∙ c.name.ensures)
      ∙ promise-bytes c.args.pid c.args.promise c.args.times c.if-times-eq0.false) c.write.ensures.prefix);
  failed = search rules;
  quiet = search rules;
}
