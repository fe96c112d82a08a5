use Rattle.std.proofs.Common.{◌∙◌, arith, rules}
use Rattle.pv_streams.proofs.TextRemainders.{rest_after, rest_begins}
use Rattle.pv_model.specs.Machine.{entries_of_table}
use Rattle.pv_streams.proofs.OutputTexts.{on_err}
use Rattle.pv_answers.proofs.HeldLines.{entry-next}
use Rattle.pv_answers.proofs.holding.write_entries.Goals as goal

pub returns-in_err-write_entry : goal.returns-in_err-write_entry
returns-in_err-write_entry g c = record {
  whole = search rules;
  prefix =
      (let is = entry-next c.args.parts.now c.args.pid (entries_of_table c.args.table.now.table) c.loop-number.number (omega (arith, c.loop-number-test.true, c.len-number-end.ensures.value)) in
      on_err c.from_residual.result (rest_begins _ _ _ _ _ _ _ c.loop-number.invariant.left is c.in_err-write_entry.ensures.prefix));
  failed = search rules;
  quiet = search rules;
}

pub loop-number-preserved : goal.loop-number-preserved
loop-number-preserved g c =
    let is = entry-next c.args.parts.now c.args.pid (entries_of_table c.args.table.now.table) c.loop-number.number (omega (arith, c.loop-number-test.true, c.len-number-end.ensures.value)) in
    record {
      left = rest_after _ _ _ _ _ _ _ c.loop-number.invariant.left is c.in_ok-write_entry.ensures.whole;
      quiet = c.in_ok-write_entry.ensures.quiet ∙ c.loop-number.invariant.quiet;
    }
