use Rattle.std.proofs.Common.{arith}
use Rattle.pv_script.specs.Context.{context_at_line}
use Rattle.pv_script.proofs.ContextEffects.{pass-more}
use Rattle.pv_script.proofs.context.Context.pass.Goals as goal

pub loop-made-preserved : goal.loop-made-preserved
loop-made-preserved c = record {
  few = omega (arith, c.loop-made-test.true);
  passed = pass-more c.args.program.now c.args.self.now (context_at_line c.loop-made.line c.loop-made.self) (context_at_line c.make-line.result c.make-line.new.self) c.loop-made.made c.loop-made.invariant.passed
      (λ p. rw c.in-Some.ensures.there (c.make-line.ensures p));
}

pub returns-clause-made : goal.returns-clause-made
returns-clause-made c = rw (← c.self-2.view_is) at c.loop-made.invariant.passed
