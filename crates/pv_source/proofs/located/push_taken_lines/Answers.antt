use Rattle.std.proofs.Common.{ap, refl, arith}
use Rattle.pv_model.specs.Machine.{counted_from, taken_lines}
use Rattle.pv_source.proofs.LocatedLines.{copied_step, located_end}
use Rattle.pv_source.proofs.located.push_taken_lines.Goals as goal

pub loop-text-preserved : goal.loop-text-preserved
loop-text-preserved c = record {
  put = copied_step c.args.path.now _ _ _ c.loop-text.number _ c.loop-text.rest.number _ c.loop-text.rest.text.now c.in-Some.text.now c.in-Some.following.now c.in-Some.ensures.lines refl refl c.in_ok-push_taken_line.ensures c.loop-text.invariant.put;
  room = omega (arith, c.in-Some.ensures.shorter);
  few = omega (arith, c.in-Some.ensures.shorter);
}

pub returns : goal.returns
returns c =
    located_end c.args.path.now c.loop-text.out.items _ c.loop-text.number _ (ap (λ ls. taken_lines (counted_from c.loop-text.rest.number ls)) c.in_default.ensures.lines) c.loop-text.invariant.put
