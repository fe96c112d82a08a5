use Rattle.std.proofs.Common.{inl, inr, subst, List}
use Rattle.pv_explore.proofs.VisitedStates.{cells-found, cells-there, either}
use Rattle.pv_step_cache.specs.declared.cells.Cell.{Cell}
use Rattle.pv_step_cache.specs.Steps.{Adds, texts_in}
use Rattle.pv_explore.proofs.states.keep_made.Goals as goal

pub returns : goal.returns
returns c =
    let before = c.in-Some.before.now in
    let lookup = c.in-Some.ensures.lookup in
    either c.keep.result c.keep.ensures.cached c.keep.ensures.unchanged
    (λ adds. inr (record {
      before = before;
      at = cells-found c.args.cells.now c.args.number before lookup.0 lookup.1;
      there = cells-there before c.is_empty.result c.is_empty.ensures c.if-is_empty.false;
      adds = subst (λ (cs : List Cell). Adds c.args.steps.now.steps.items c.keep.new.self.steps.items c.args.pid cs c.args.after.now (texts_in c.args.texts.items)) c.deref.ensures.value adds;
    }))
    (λ same. inl same)
