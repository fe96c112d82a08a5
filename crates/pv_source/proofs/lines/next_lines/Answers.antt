use Rattle.std.proofs.Common.{◌≡◌, subst, refl, arith}
use Rattle.pv_source.proofs.SourceLines.{IsBodySoFar, IsBodySoFar-step, takes}
use Rattle.pv_source.proofs.lines.next_lines.Goals as goal

pub loop-preserved : goal.loop-preserved
loop-preserved c = record {
  body = IsBodySoFar-step c.args.lines.text.now c.loop.rest.now _ c.in-Some.following.now c.loop.counter c.in-Some.ensures.lines c.loop.invariant.body c.in-Some.ensures.bytes;
  number = omega arith;
  room = omega (arith, c.in-Some.ensures.shorter);
  shorter = omega (arith, c.in-Some.ensures.shorter);
}

pub returns-clause-found : goal.returns-clause-found
returns-clause-found c =
    let same : c.loop.counter ≡ c.args.count = omega arith in
    let body = subst (λ k. IsBodySoFar c.args.lines.text.now c.loop.rest.now k) same c.loop.invariant.body in
    takes c.args.lines.text.now c.loop.rest.now c.args.lines.number c.args.count body c.args.lines _ _ refl refl refl refl (omega arith)
