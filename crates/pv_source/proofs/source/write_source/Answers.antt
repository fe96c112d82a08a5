use Rattle.std.proofs.Common.{◌∙◌, inl, inr, refl, rules, ⊎_elim}
use Rattle.std.proofs.lemmas.Result.{on_ok_weaker}
use Rattle.pv_source.specs.Given.{text_of_source}
use Rattle.pv_source.proofs.ReportedLines.{no_error, read_right}
use Rattle.pv_source.proofs.WrittenReports.{begins_errors, invalid_source, reports_errors}
use Rattle.pv_source.proofs.source.write_source.Goals as goal

pub returns-then-is_empty : goal.returns-then-is_empty
returns-then-is_empty g c =
    let right = c.write_right.ensures in
    let text = text_of_source c.args.source.now in
    let none = no_error _ _ c.is_empty.ensures.value c.if-is_empty.true in
    let is = read_right c.args.source.now text _ c.in_ok-faults.ensures.reported none refl in
    record {
      written = on_ok_weaker c.write_right.result (λ whole. (text, is, whole)) right.written;
      warned = right.warned;
      silent = right.silent;
      empty = right.empty;
      refused = search rules;
      unwritten = search rules;
      stopped = right.stopped;
      write = λ stop. ⊎_elim (λ failed. inl failed) (λ failed. inr (failed.0, inr (text, is, failed.1))) (right.write stop);
      begun = λ stop. ⊎_elim (λ begun. inl ((text, is, begun.0), begun.1)) (λ begun. inr (inr (begun.0, (text, is, begun.1)))) (right.begun stop);
    }

pub returns-in_err-write_through : goal.returns-in_err-write_through
returns-in_err-write_through g c =
    let invalid = invalid_source c.args.source.now c.reported.result.now _ _ c.is_empty.ensures.value c.if-is_empty.false c.reported.ensures c.in_ok-faults.ensures.reported in
    let begun = begins_errors c.args.name.now c.args.source.now c.reported.result.now _ (c.deref.ensures.value ∙ c.in_ok-text.ensures.text) c.in_ok-text.ensures.lines
    _ _ invalid c.in_err-write_through.ensures.written.prefix in
    search (rules, begun)

pub returns : goal.returns
returns g c =
    let invalid = invalid_source c.args.source.now c.reported.result.now _ _ c.is_empty.ensures.value c.if-is_empty.false c.reported.ensures c.in_ok-faults.ensures.reported in
    let refused = reports_errors c.args.name.now c.args.source.now c.reported.result.now _ (c.deref.ensures.value ∙ c.in_ok-text.ensures.text) c.in_ok-text.ensures.lines
    _ _ invalid c.in_ok-write_through.ensures.written.whole in
    search (rules, refused)
