use Rattle.std.proofs.Common.{◌∙◌, ap, subst, [], refl, suc, ◌+◌, length, take, arith}
use Rattle.pv_model.specs.Machine.{lines_of, blocks_from, blocks_of, errors_of_blocks, reported_if}
use Rattle.pv_source.specs.LineCheck.{is_line_reported, so_far_of}
use Rattle.pv_source.specs.Reading.{numbered_lines}
use Rattle.pv_source.specs.ReadBlocks.{parsed_block}
use Rattle.pv_model.specs.Source.Judged.{REPORTED, errors_in, reported_of, checked_first, checked_block, errors_from}
use Rattle.pv_source.specs.Reporting.{ReportsLines}
use Rattle.pv_source.proofs.ReportedLines.{ReportedSoFar, ReportedSoFar-start, ReportedSoFar-block, ReportedSoFar-end, first_reported, none_reported, reported_complete}
use Rattle.pv_source.proofs.whole.faults_of.Goals as goal

pub returns-in_default-clause-reported : goal.returns-in_default-clause-reported
unfolding blocks_of
returns-in_default-clause-reported c =
    reported_complete _ _ _ c.new-faults.ensures c.is_empty.ensures.few c.in_ok-report.ensures
    ∙ ap (take REPORTED) (none_reported c.args.source.now (suc (length (lines_of c.args.source.now))) (c.line_count.result + 1) c.in_default.ensures.block (omega (arith, c.line_count.ensures.value)))

pub loop-block-init : goal.loop-block-init
unfolding blocks_of
loop-block-init c =
    let block = c.in-Some.first in
    let blocks = blocks_from (numbered_lines c.in-Some.following) 0 in
    let last = suc (length (lines_of c.args.source.now)) in
    record {
      reported =
          ReportedSoFar-block [] [] c.report_found.new.faults (errors_of_blocks last (blocks_of c.args.source.now)) block (checked_first (parsed_block block)) (is_line_reported c.in_ok-so_far.found) (so_far_of c.in_ok-so_far.so_far) (errors_from blocks)
          c.in_ok-so_far.ensures.found.0 c.in_ok-so_far.ensures.found.1 (subst (λ reported. ReportsLines reported c.report_found.new.faults (reported_if (is_line_reported c.in_ok-so_far.found) block.number (errors_in (parsed_block block)))) c.new-faults.ensures c.in_ok-report_found.ensures)
          (subst (λ all. ReportedSoFar [] [] (reported_of (parsed_block block) (checked_first (parsed_block block)) (errors_from blocks)) all) (first_reported c.args.source.now last block blocks c.in-Some.ensures.block)
          (ReportedSoFar-start [] (reported_of (parsed_block block) (checked_first (parsed_block block)) (errors_from blocks))));
      room = omega (arith, c.in-Some.ensures.inside.1);
    }

pub loop-block-preserved : goal.loop-block-preserved
loop-block-preserved c =
    let block = c.in-Some-next_block.block in
    let blocks = blocks_from (numbered_lines c.in-Some-next_block.following) 0 in
    let s = so_far_of c.loop-block.so_far in
    let all = errors_of_blocks (suc (length (lines_of c.args.source.now))) (blocks_of c.args.source.now) in
    record {
      reported =
          ReportedSoFar-block [] c.loop-block.faults _ all block (checked_block s (parsed_block block)) (is_line_reported c.in_ok-next.found) (so_far_of c.in_ok-next.next) (errors_from blocks) c.in_ok-next.ensures.found.0 c.in_ok-next.ensures.found.1
          c.in_ok-report_found-2.ensures (subst (λ bs. ReportedSoFar [] c.loop-block.faults (errors_from bs s) all) c.in-Some-next_block.ensures.block c.loop-block.invariant.reported);
      room = omega (arith, c.in-Some-next_block.ensures.inside.1);
    }

pub returns-clause-reported : goal.returns-clause-reported
returns-clause-reported c =
    let all = errors_of_blocks (suc (length (lines_of c.args.source.now))) (blocks_of c.args.source.now) in
    reported_complete [] c.loop-block.faults all refl c.is_empty-2.ensures.few
    (ReportedSoFar-end [] c.loop-block.faults all (subst (λ bs. ReportedSoFar [] c.loop-block.faults (errors_from bs (so_far_of c.loop-block.so_far)) all) c.in_default-next_block.ensures.block c.loop-block.invariant.reported))
