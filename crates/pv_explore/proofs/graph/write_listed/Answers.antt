use Rattle.std.proofs.Common.{refl}
use Rattle.pv_streams.proofs.WriterContracts.{but_after, but_end, but_failed, but_from, writes_failed}
use Rattle.pv_explore.proofs.GraphLines.{listed-next, listed-none}
use Rattle.pv_model.specs.Machine.{lines_of}
use Rattle.pv_explore.proofs.graph.write_listed.Goals as goal

pub loop-line-init : goal.loop-line-init
loop-line-init g c = but_from refl

pub returns-in_err-write_listing_line : goal.returns-in_err-write_listing_line
returns-in_err-write_listing_line g c =
    let is = listed-next c.loop-line.rest.now c.in-Some.line.now (lines_of c.in-Some.following.now) c.in-Some.ensures.lines in
    writes_failed c.from_residual.ensures.0 (but_failed _ c.loop-line.invariant is c.in_err-write_listing_line.ensures)

pub loop-line-preserved : goal.loop-line-preserved
loop-line-preserved g c =
    let is = listed-next c.loop-line.rest.now c.in-Some.line.now (lines_of c.in-Some.following.now) c.in-Some.ensures.lines in
    but_after c.loop-line.invariant is c.in_ok-write_listing_line.ensures

pub returns : goal.returns
returns g c = but_end (listed-none c.loop-line.rest.now c.in_default.ensures.lines) c.loop-line.invariant
