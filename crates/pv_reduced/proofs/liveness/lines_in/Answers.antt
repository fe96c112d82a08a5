use Rattle.std.proofs.Common.{◌≡◌, ◌∙◌, ap, arith}
use Rattle.pv_reduced.specs.Live.{bounds_of, live_line_in, lines_in, tables_of}
use Rattle.pv_reduced.proofs.LivenessComputation.{numbers-next}
use Rattle.pv_reduced.proofs.liveness.lines_in.Goals as goal

pub loop-line-preserved : goal.loop-line-preserved
loop-line-preserved c =
    numbers-next (live_line_in (tables_of c.args.tables.now) (bounds_of c.args.bounds.now)) c.loop-line.line c.loop-line.lines.items _ c.line_in.result c.in_ok-push.ensures.items c.line_in.ensures c.loop-line.invariant

pub returns : goal.returns
returns c =
    let all : c.loop-line.line ≡ c.args.count = omega arith in
    c.loop-line.invariant ∙ ap (lines_in (tables_of c.args.tables.now) (bounds_of c.args.bounds.now)) all
