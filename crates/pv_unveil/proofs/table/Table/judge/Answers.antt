use Rattle.std.proofs.Common.{sym, ap, subst, ◌∙◌}
use Rattle.pv_model.specs.declared.judgement.Judgement.{Judgement}
use Rattle.pv_model.specs.Machine.{judgement}
use Rattle.pv_unveil.specs.Judged.{IsJudged}
use Rattle.pv_unveil.specs.Unveiled.{Unveiled}
use Rattle.pv_unveil.proofs.ComputedJudgement.{IsJudged-judgement}
use Rattle.pv_unveil.proofs.table.Table.judge.Goals as goal

pub returns-clause-by_entry : goal.returns-clause-by_entry
returns-clause-by_entry c =
    let t = c.args.tree.now.tree in
    let table = c.args.self.now.table in
    let place = c.args.place.now in
    let needed = c.args.needed in
    let computed = c.judge_in.ensures ∙ ap (λ (u : Unveiled). judgement t u.table place needed) c.self.view_is in
    subst (λ (j : Judgement). IsJudged t table place needed j) (sym computed) (IsJudged-judgement t table place needed)
