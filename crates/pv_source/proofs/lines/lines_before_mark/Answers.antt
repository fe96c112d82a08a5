use Rattle.std.proofs.Common.{◌∙◌, ap, sym, refl, arith}
use Rattle.pv_model.specs.Source.Words.{is_alone}
use Rattle.pv_source.proofs.SourceLines.{IsUnmarkedSoFar-start, IsUnmarkedSoFar-step, ends}
use Rattle.pv_source.proofs.lines.lines_before_mark.Goals as goal

pub loop-line-init : goal.loop-line-init
loop-line-init c = record { unmarked = IsUnmarkedSoFar-start _ _ _; room = omega arith; shorter = omega arith }

pub returns-then-is_alone-clause-found : goal.returns-then-is_alone-clause-found
returns-then-is_alone-clause-found c =
    ends c.args.mark.now c.args.lines.text.now c.loop-line.rest.now c.in-Some.line.now c.in-Some.following.now c.args.lines.number c.loop-line.number c.in-Some.ensures.lines
    c.loop-line.invariant.unmarked c.args.lines _ _ (sym c.if-is_alone.true ∙ c.is_alone.ensures ∙ ap (is_alone c.args.mark.now) c.content.ensures) refl refl refl refl refl

pub loop-line-preserved : goal.loop-line-preserved
loop-line-preserved c = record {
  unmarked =
      IsUnmarkedSoFar-step c.args.mark.now c.args.lines.text.now c.loop-line.rest.now c.in-Some.line.now c.in-Some.following.now c.args.lines.number c.loop-line.number c.in-Some.ensures.lines
      c.loop-line.invariant.unmarked (sym c.if-is_alone.false ∙ c.is_alone.ensures ∙ ap (is_alone c.args.mark.now) c.content.ensures) c.in-Some.ensures.bytes;
  room = omega (arith, c.in-Some.ensures.shorter);
  shorter = omega (arith, c.in-Some.ensures.shorter);
}
