use Rattle.std.proofs.Common.{◌+◌, ◌∙◌, ap, drop, flat_map, refl, sym}
use Rattle.std.specs.Prelude.{map}
use Rattle.std.proofs.Math.ListN.{drop_of_length-le}
use Rattle.pv_streams.specs.Sinks.{and_all}
use Rattle.pv_streams.proofs.OutputTexts.{written_none}
use Rattle.pv_host_copy.specs.Firsts.{skipped_pair}
use Rattle.pv_host_copy.specs.Lines.{skipped_line}
use Rattle.pv_host_copy.proofs.FirstPaths.{next_first}
use Rattle.pv_host_copy.proofs.SkippedLines.{lines-step}
use Rattle.pv_host_copy.proofs.lines.write_skipped.Goals as goal

pub loop-one-init : goal.loop-one-init
loop-one-init g c = refl

pub loop-one-preserved : goal.loop-one-preserved
loop-one-preserved g c =
    let ts = c.args.reported.now in
    let i = c.loop-one.one-index in
    let now = g.W.Sink.written c.loop-one.out in
    let front = next_first ts i c.one-item.result c.loop-one-test.true c.one-item.is in
    lines-step now (g.W.Sink.written c.write_line.new.out) (skipped_line (skipped_pair c.one-item.result)) (flat_map skipped_line (map skipped_pair (drop (i + 1) ts))) c.in_ok-write_line.ensures
    ∙ ap (λ xs. and_all now (flat_map skipped_line (map skipped_pair xs))) (sym front) ∙ c.loop-one.invariant

pub returns : goal.returns
returns g c =
    let ts = c.args.reported.now in
    written_none (g.W.Sink.written c.loop-one.out)
    ∙ ap (λ xs. and_all (g.W.Sink.written c.loop-one.out) (flat_map skipped_line (map skipped_pair xs))) (sym (drop_of_length-le ts c.loop-one-test.false)) ∙ c.loop-one.invariant
