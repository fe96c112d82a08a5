use Rattle.std.proofs.Common.{List, [], flat_map, arith, subst, refl}
use Rattle.pv_model.specs.Machine.{Block, blocks_of}
use Rattle.pv_source.specs.Warnings.{warned_in, warned_lines}
use Rattle.pv_source.proofs.ReportedLines.{ReportedSoFar, ReportedSoFar-start, ReportedSoFar-end, reported_complete}
use Rattle.pv_source.proofs.warnings.warnings_of.Goals as goal

pub loop-block-init : goal.loop-block-init
unfolding blocks_of
loop-block-init c = record {
  reported = rw c.new-warnings.ensures (ReportedSoFar-start _ _);
  room = omega arith;
}

pub returns : goal.returns
unfolding warned_lines
returns c =
    let all = flat_map warned_in (blocks_of c.args.source.now) in
    reported_complete [] c.loop-block.warnings all refl c.is_empty.ensures.few
    (ReportedSoFar-end [] c.loop-block.warnings all
    (subst (λ (bs : List Block). ReportedSoFar [] c.loop-block.warnings (flat_map warned_in bs) all) c.in_default.ensures.block c.loop-block.invariant.reported))
