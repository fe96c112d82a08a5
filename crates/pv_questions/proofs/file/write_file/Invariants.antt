use Rattle.std.proofs.Common.{◌≡◌, ◌≤◌, ◌-◌, length, take}
use Rattle.pv_dirs.specs.Trees.{node_bytes_at}
use Rattle.pv_streams.specs.Sinks.{and_all}
use Rattle.pv_questions.proofs.file.write_file.Given as goal

abbrev pub invariant-loop-at : goal.invariant-loop-at
invariant-loop-at g l = record {
  within : l.at ≤ length (node_bytes_at l.tree.tree l.node);
  written : g.W.Sink.written l.out ≡ and_all (g.W.Sink.written l.initial.out) (take l.at (node_bytes_at l.tree.tree l.node));
  quiet : g.W.Sink.failures l.out ≡ g.W.Sink.failures l.initial.out;
}

abbrev pub decreases-loop-at : goal.decreases-loop-at
decreases-loop-at g l = l.size - l.at
