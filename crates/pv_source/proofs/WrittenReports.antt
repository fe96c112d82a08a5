-- Reports of errors and of warnings that were written.
use Rattle.std.proofs.Common.{◌≡◌, ◌∙◌, Err, ap, subst, ℕ, suc, Bool, false, List, [], length, take, sym}
use Rattle.std.specs.Prelude.{IsTrue, Option, map, ◌↔◌}
use Rattle.pv_model.specs.Machine.{Bytes, lines_of, blocks_of, errors_of_blocks, read_source}
use Rattle.pv_model.specs.Source.Judged.{REPORTED}
use Rattle.pv_streams.specs.Sinks.{WritesPrefix, and_all}
use Rattle.pv_source.specs.declared.faults.Fault.{Fault}
use Rattle.pv_source.specs.Outcome.{AreLines, BeginsErrors, ReportsErrors, message_lines, line_and_message}
use Rattle.pv_source.specs.Reporting.{line_of_error}
use Rattle.pv_source.specs.Warnings.{BeginsWarnings, Warns, warned_lines}
use Rattle.pv_source.proofs.ReportedLines.{read_invalid, reported_errors, some_error}

-- a source with errors is invalid at their lines
pub invalid_source : (source : Bytes) (faults : List Fault) (t : Bool) (reported : List ℕ) → (IsTrue t ↔ (reported ≡ [])) → t ≡ false → map line_of_error faults ≡ reported
    → reported ≡ take REPORTED (errors_of_blocks (suc (length (lines_of source))) (blocks_of source)) → read_source source ≡ Err (map (λ (t : ℕ × Bytes). t.0) (map line_and_message faults))
invalid_source source faults t reported reports is same all =
    read_invalid source _ (reported_errors faults ∙ same ∙ all) (some_error t faults reported reports is same)

module _ (name source : Bytes) (faults : List Fault) (text : Bytes) (is : text ≡ message_lines name (map line_and_message faults)) (lines : AreLines (map line_and_message faults)) (before after : Option Bytes) where
  -- the text of warnings, or a prefix of it, was written
  module _ (warned : map line_of_error faults ≡ warned_lines source) where
    pub warns : after ≡ and_all before text → Warns name source before after
    warns whole = (map line_and_message faults, sym (reported_errors faults ∙ warned), whole ∙ ap (and_all before) is, lines)

    pub begins_warnings : WritesPrefix text before after → BeginsWarnings name source before after
    begins_warnings prefix = (map line_and_message faults, sym (reported_errors faults ∙ warned), subst (λ bytes. WritesPrefix bytes before after) is prefix, lines)

  -- the text of errors, or a prefix of it, was written
  module _ (invalid : read_source source ≡ Err (map (λ (t : ℕ × Bytes). t.0) (map line_and_message faults))) where
    pub reports_errors : after ≡ and_all before text → ReportsErrors name source before after
    reports_errors whole = (map line_and_message faults, invalid, whole ∙ ap (and_all before) is, lines)

    pub begins_errors : WritesPrefix text before after → BeginsErrors name source before after
    begins_errors prefix = (map line_and_message faults, invalid, subst (λ bytes. WritesPrefix bytes before after) is prefix, lines)
