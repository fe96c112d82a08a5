use Rattle.std.proofs.Common.{◌≡◌, ◌∙◌, ap, slice_get}
use Rattle.std.proofs.lemmas.Result.{IfOk-weaker}
use Rattle.pv_model.specs.Machine.{answer, Found, program_of, process_at}
use Rattle.pv_policy.specs.Collecting.{walks_counted}
use Rattle.pv_policy.proofs.CollectedCalls.{none-found, same-found}
use Rattle.pv_policy.proofs.policy.walks_at.Goals as goal

pub returns-in-Some-clause-walks : goal.returns-in-Some-clause-walks
returns-in-Some-clause-walks c =
    let slot = slice_get c.args.visits.now.found c.args.number in
    IfOk-weaker c.walks_from.result _ _
    (λ walks e f me call there lives comes.
    let same = same-found c.in_ok-visited.field-0 c.in-Some.visited slot f c.in_ok-visited.ensures.at c.in-Some.is there in
    e me call (ap (λ (x : Found). process_at x.state c.args.pid) same ∙ lives) comes ∙ ap (λ (x : Found). walks_counted c.args.granted (answer program_of x.state c.args.pid call)) same)
    c.walks_from.ensures.walks

pub returns-in-None-clause-walks : goal.returns-in-None-clause-walks
returns-in-None-clause-walks c f me call there lives comes =
    absurd (none-found c.in_ok-visited.field-0 (slice_get c.args.visits.now.found c.args.number) f c.in_ok-visited.ensures.at c.in-None.is there)
