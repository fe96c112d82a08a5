use Rattle.std.proofs.Common.{length}
use Rattle.pv_streams.proofs.WriterContracts.{WritesBut}
use Rattle.pv_explore.specs.Vertices.{listed_bytes}
use Rattle.pv_model.specs.Machine.{lines_of}
use Rattle.pv_explore.proofs.graph.write_listed.Given as goal

abbrev pub invariant-loop-line : goal.invariant-loop-line
invariant-loop-line g l = WritesBut g.W.Sink (listed_bytes (lines_of l.rest)) (listed_bytes (lines_of l.listing)) l.fn.out l.out

abbrev pub decreases-loop-line : goal.decreases-loop-line
decreases-loop-line g l = length l.rest
