use Rattle.std.proofs.Common.{◌∙◌, ℕ, List, ap, map, rules}
use Rattle.std.proofs.lemmas.List.{drop_more}
use Rattle.pv_streams.proofs.TextRemainders.{rest_after, rest_begins}
use Rattle.pv_model.specs.Machine.{answer_bytes}
use Rattle.pv_streams.proofs.OutputTexts.{on_err}
use Rattle.pv_access.specs.Unread.{unread_file_line}
use Rattle.pv_access.proofs.unread.write_files.Goals as goal

pub returns-in_err-write_file : goal.returns-in_err-write_file
returns-in_err-write_file g c =
    let next = ap (λ (ns : List ℕ). answer_bytes (map (unread_file_line c.args.tree.now.tree) ns)) (drop_more c.args.files.now c.loop-file.file-index 0 c.loop-file-test.true) in
    record {
      whole = search rules;
      prefix = on_err c.from_residual.result (rest_begins _ _ _ _ _ _ _ c.loop-file.invariant.left next c.in_err-write_file.ensures.prefix);
      failed = on_err c.from_residual.result (rw (← c.loop-file.invariant.quiet) c.in_err-write_file.ensures.failed);
      quiet = search rules;
    }

pub loop-file-preserved : goal.loop-file-preserved
loop-file-preserved g c =
    let next = ap (λ (ns : List ℕ). answer_bytes (map (unread_file_line c.args.tree.now.tree) ns)) (drop_more c.args.files.now c.loop-file.file-index 0 c.loop-file-test.true) in
    record {
      left = rest_after _ _ _ _ _ _ _ c.loop-file.invariant.left next c.in_ok-write_file.ensures.whole;
      quiet = c.in_ok-write_file.ensures.quiet ∙ c.loop-file.invariant.quiet;
    }
