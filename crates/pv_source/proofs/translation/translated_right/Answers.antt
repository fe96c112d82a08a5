use Rattle.std.proofs.Common.{◌∙◌, rules}
use Rattle.pv_source.proofs.WrittenReports.{begins_warnings, warns}
use Rattle.pv_source.proofs.translation.translated_right.Goals as goal

pub returns-in_err-write_through : goal.returns-in_err-write_through
returns-in_err-write_through g c =
    let begun = begins_warnings c.args.name.now c.args.source.now c.reported.result.now _ (c.deref.ensures.value ∙ c.in_ok-warned.ensures.text) c.in_ok-warned.ensures.lines
    _ _ (c.reported.ensures ∙ c.in_ok-warnings.ensures) c.in_err-write_through.ensures.written.prefix in
    search (rules, begun)

pub returns : goal.returns
returns g c =
    let warned = warns c.args.name.now c.args.source.now c.reported.result.now _ (c.deref.ensures.value ∙ c.in_ok-warned.ensures.text) c.in_ok-warned.ensures.lines
    _ _ (c.reported.ensures ∙ c.in_ok-warnings.ensures) c.in_ok-write_through.ensures.written.whole in
    search (rules, warned)
