use Rattle.std.proofs.Common.{◌∙◌, ap, rules}
use Rattle.pv_streams.specs.Sinks.{and_all}
use Rattle.pv_source.proofs.WrittenReports.{begins_warnings, warns}
use Rattle.pv_source.proofs.source.write_right.Goals as goal

pub returns-in_err-write_through-2 : goal.returns-in_err-write_through-2
returns-in_err-write_through-2 g c =
    let whole = c.in_ok-write_through.ensures.written.whole ∙ ap (and_all (g.W.Sink.written c.args.out.now)) (c.deref.ensures.value ∙ c.in_ok-text.ensures) in
    let begun = begins_warnings c.args.name.now c.args.source.now c.reported.result.now _ (c.deref-2.ensures.value ∙ c.in_ok-warned.ensures.text) c.in_ok-warned.ensures.lines
    _ _ (c.reported.ensures ∙ c.in_ok-warnings.ensures) c.in_err-write_through-2.ensures.written.prefix in
    search (rules, whole, begun)

pub returns : goal.returns
returns g c =
    let warned = warns c.args.name.now c.args.source.now c.reported.result.now _ (c.deref-2.ensures.value ∙ c.in_ok-warned.ensures.text) c.in_ok-warned.ensures.lines
    _ _ (c.reported.ensures ∙ c.in_ok-warnings.ensures) c.in_ok-write_through-2.ensures.written.whole in
    search (rules, warned)
