use Rattle.std.proofs.Common.{rules}
use Rattle.pv_needs.proofs.LineBytes.{begins-as, target-bytes, whole-as}
use Rattle.pv_needs.proofs.writing.write_target_line.Goals as goal

pub returns : goal.returns
returns g c = record {
  whole =
      (whole-as c.write.result (g.W.Sink.written c.args.out.now) (g.W.Sink.written c.write.new.out) _ _
      (target-bytes c.args.pid c.args.target.now c.permissions.result c.words.result.now c.permissions.ensures c.words.ensures) c.write.ensures.whole);
  prefix =
      (begins-as c.write.result (g.W.Sink.written c.args.out.now) (g.W.Sink.written c.write.new.out) _ _
      (target-bytes c.args.pid c.args.target.now c.permissions.result c.words.result.now c.permissions.ensures c.words.ensures) c.write.ensures.prefix);
  failed = search rules;
  quiet = search rules;
}
