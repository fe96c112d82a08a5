use Rattle.std.proofs.Common.{ap, codes, ◌≡◌, ◌++◌, decimal, rules}
use Rattle.pv_streams.proofs.EqualOutputs.{whole_as}
use Rattle.pv_needs.proofs.LineBytes.{begins-as}
use Rattle.pv_needs.proofs.writing.TimesWordsFragment.write.Goals as goal

pub returns : goal.returns
returns g c =
    let p = c.args.self.now in
    let same = ap (λ n. codes ", " ++ p.what.now ++ codes " " ++ decimal p.times.count ++ codes ", last line " ++ decimal n) c.from.ensures in
    record {
      whole = whole_as _ _ _ _ same c.write.result c.write.ensures.whole;
      prefix = begins-as c.write.result (g.W.Sink.written c.args.out.now) (g.W.Sink.written c.write.new.out) _ _ same c.write.ensures.prefix;
      failed = search rules;
      quiet = search rules;
    }
