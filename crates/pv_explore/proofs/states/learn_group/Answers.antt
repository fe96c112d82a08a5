use Rattle.std.proofs.Common.{◌∙◌, subst}
use Rattle.std.proofs.lemmas.Result.{on_ok_weaker}
use Rattle.pv_explore.specs.Rows.{IsAmong}
use Rattle.pv_explore.proofs.StateRows.{learnt-among}
use Rattle.pv_explore.proofs.states.learn_group.Goals as goal

pub returns-clause-visited : goal.returns-clause-visited
returns-clause-visited c =
    on_ok_weaker c.number.result
    (λ added. (c.in_ok-row.ensures.visited, subst (IsAmong c.number.new.self) (c.deref.ensures.value ∙ c.in_ok-row.ensures.row) (learnt-among c.args.groups.now c.number.new.self c.deref.result.now added))) c.number.ensures.added
