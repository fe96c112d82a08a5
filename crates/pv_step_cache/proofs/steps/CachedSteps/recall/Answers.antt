use Rattle.std.proofs.Common.{◌∙◌, ap, map, List, ℕ}
use Rattle.std.specs.Global.{Vec}
use Rattle.pv_step_cache.specs.declared.cells.Edit.{Edit}
use Rattle.pv_step_cache.specs.Edits.{edited}
use Rattle.pv_step_cache.specs.Steps.{texts_in}
use Rattle.pv_step_cache.proofs.steps.CachedSteps.recall.Goals as goal

pub returns : goal.returns
returns c = record {
  step = c.in-Some.step.now;
  found = record { number = c.in-Some.ensures.number; at = c.in-Some.ensures.at; key_is = c.in-Some.ensures.key_is ∙ c.deref.ensures.value ∙ c.in_ok-key.ensures };
  texts_are = ap (λ (ts : Vec (Vec ℕ)). texts_in ts.items) c.in_ok-texts.ensures.cases;
  after_is = c.in_ok-cells.ensures ∙ ap (λ (es : List Edit). map (edited c.args.cells.now) es) c.deref-2.ensures.value;
}
