use Rattle.std.proofs.Common.{◌∙◌, rules}
use Rattle.pv_dirs.specs.Trees.{node_bytes_at}
use Rattle.pv_streams.proofs.OutputTexts.{on_err}
use Rattle.pv_questions.proofs.RunTexts.{run_more, run_begun}
use Rattle.pv_questions.proofs.file.write_file.Goals as goal

pub returns-in_err-write_whole : goal.returns-in_err-write_whole
returns-in_err-write_whole g c = record {
  whole = search rules;
  prefix =
      (on_err c.from_residual.result
      (run_begun (node_bytes_at c.args.tree.now.tree c.args.node) c.lend-part.result.now c.loop-at.at (g.W.Sink.written c.args.out.now) (g.W.Sink.written c.loop-at.out) (g.W.Sink.written c.write_whole.new.sink)
      c.lend-part.ensures.run c.loop-at.invariant.written c.in_err-write_whole.ensures.prefix));
  failed = search rules;
  quiet = search rules;
}

pub loop-at-preserved : goal.loop-at-preserved
loop-at-preserved g c =
    let done = c.in_ok-write_whole.ensures in
    record {
      within = c.lend-part.ensures.within;
      written =
          run_more (node_bytes_at c.args.tree.now.tree c.args.node) c.lend-part.result.now c.loop-at.at (g.W.Sink.written c.args.out.now) (g.W.Sink.written c.loop-at.out) (g.W.Sink.written c.write_whole.new.sink)
          c.lend-part.ensures.run c.loop-at.invariant.written done.whole;
      quiet = done.quiet ∙ c.loop-at.invariant.quiet;
    }
