use Rattle.std.proofs.Common.{◌∙◌, ap, subst, sym, List, Option, IfSome}
use Rattle.pv_explore.proofs.VisitedStates.{cells-found, cells-there}
use Rattle.pv_step_cache.specs.declared.cells.Cell.{Cell}
use Rattle.pv_step_cache.specs.declared.steps.Recalled.{Recalled}
use Rattle.pv_step_cache.specs.Edits.{is_owned, step_key}
use Rattle.pv_step_cache.proofs.CellLists.{owners-some}
use Rattle.std.specs.List.{list_any}
use Rattle.pv_step_cache.specs.Steps.{WasCached, texts_in}
use Rattle.pv_explore.proofs.states.recalled.Goals as goal

pub returns-then-has_owner : goal.returns-then-has_owner
returns-then-has_owner c =
    let before = c.in-Some.before.now in
    let lookup = c.in-Some.ensures.lookup in
    let made = subst (λ (o : Option Recalled). IfSome o (λ r. WasCached c.args.steps.now.steps.items (step_key c.args.pid c.deref.result.now) c.deref.result.now (texts_in r.texts.value.items) r.cells.items)) c.in-Some-2.is c.in_ok-made.ensures in
    record {
      before = before;
      at = cells-found c.args.cells.now c.args.number before lookup.0 lookup.1;
      there = cells-there before c.is_empty.result c.is_empty.ensures c.if-is_empty.false;
      was = subst (λ (cs : List Cell). WasCached c.args.steps.now.steps.items (step_key c.args.pid cs) cs (texts_in c.in-Some-2.made.texts.value.items) c.in-Some-2.made.cells.items) c.deref.ensures.value made;
      live = owners-some c.in-Some-2.made.cells.items (ap (list_any is_owned) (sym c.deref-2.ensures.value) ∙ sym c.has_owner.ensures ∙ c.if-has_owner.true);
    }
