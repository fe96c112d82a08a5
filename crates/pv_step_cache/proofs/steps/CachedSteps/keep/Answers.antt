use Rattle.std.proofs.Common.{ap, inr, subst, IfSome, Option, ℕ}
use Rattle.std.specs.Global.{Vec}
use Rattle.std.proofs.lemmas.Result.{on_ok_weaker}
use Rattle.pv_step_cache.specs.declared.cells.Edit.{Edit}
use Rattle.pv_step_cache.specs.Edits.{AreCellEdits}
use Rattle.pv_step_cache.specs.Steps.{texts_in}
use Rattle.pv_step_cache.proofs.steps.CachedSteps.keep.Goals as goal

pub returns-clause-cached : goal.returns-clause-cached
returns-clause-cached c =
    let edits = subst (λ (o : Option (Vec Edit)). IfSome o (λ es. AreCellEdits c.args.pid c.args.before.now c.args.after.now es.items)) c.in-Some.is c.in_ok-edits.ensures in
    on_ok_weaker c.add.result
    (λ added. inr (record { key = c.in_ok-key.key; texts = c.in_ok-texts.texts; edits = c.in-Some.edits }, added, record { key_is = c.in_ok-key.ensures; texts_are = ap (λ (ts : Vec (Vec ℕ)). texts_in ts.items) c.in_ok-texts.ensures.ok; edits_are = edits }))
    c.add.ensures.added
