use Rattle.std.proofs.Common.{◌∙◌, sym, ap, arith}
use Rattle.std.specs.List.{list_all}
use Rattle.pv_model.specs.Machine.{is_plain}
use Rattle.pv_streams.proofs.UnescapedFronts.{component_same, after_component}
use Rattle.pv_streams.proofs.plain.plain_count.Goals as goal

-- a part is removed from the rest
pub loop-component-preserved : goal.loop-component-preserved
loop-component-preserved c =
    let preserved = c.loop-component.invariant in
    let cut = c.in-Some.ensures.cases in
    let plain = ap (list_all is_plain) (sym cut.0) ∙ sym c.are_plain.ensures ∙ c.if-not-are_plain.false in
    record {
      within = omega (arith, preserved.within, cut.2);
      split = after_component c.args.text.now c.loop-component.rest.now preserved.split 8 c.in-Some.following.now preserved.within cut.2 cut.1;
      same = component_same c.args.text.now c.loop-component.rest.now preserved.split 8 c.in-Some.following.now preserved.within cut.2 preserved.same plain;
    }
