use Rattle.std.proofs.Common.{◌∙◌, inr, rules}
use Rattle.std.proofs.lemmas.Result.{IfOk-weaker}
use Rattle.pv_source.proofs.ReportedLines.{no_error, read_right}
use Rattle.pv_source.proofs.WrittenReports.{begins_errors, invalid_source, reports_errors}
use Rattle.pv_source.proofs.translation.translate.Goals as goal

pub returns-then-is_empty : goal.returns-then-is_empty
returns-then-is_empty g c =
    let right = c.translated_right.ensures in
    let none = no_error _ _ c.is_empty.ensures.value c.if-is_empty.true in
    record {
      text = IfOk-weaker c.translated_right.result _ _ (λ text is. read_right c.args.source.now _ _ c.in_ok-faults.ensures.reported none is) right.text;
      warned = right.warned;
      silent = right.silent;
      refused = search rules;
      stopped = right.stopped;
      write = right.write;
      begun = λ is. inr (right.begun is);
    }

pub returns-in_err-write_through : goal.returns-in_err-write_through
returns-in_err-write_through g c =
    let invalid = invalid_source c.args.source.now c.reported.result.now _ _ c.is_empty.ensures.value c.if-is_empty.false c.reported.ensures c.in_ok-faults.ensures.reported in
    let begun = begins_errors c.args.name.now c.args.source.now c.reported.result.now _ (c.deref.ensures.value ∙ c.in_ok-text.ensures.text) c.in_ok-text.ensures.lines
    _ _ invalid c.in_err-write_through.ensures.written.prefix in
    search (rules, begun)

pub returns : goal.returns
returns g c =
    let invalid = invalid_source c.args.source.now c.reported.result.now _ _ c.is_empty.ensures.value c.if-is_empty.false c.reported.ensures c.in_ok-faults.ensures.reported in
    let refused = reports_errors c.args.name.now c.args.source.now c.reported.result.now _ (c.deref.ensures.value ∙ c.in_ok-text.ensures.text) c.in_ok-text.ensures.lines
    _ _ invalid c.in_ok-write_through.ensures.written.whole in
    search (rules, refused)
