use Rattle.std.proofs.Common.{◌≡◌, ◌∙◌, ap, option_map, slice_get, sym}
use Rattle.std.proofs.lemmas.Result.{on_ok_weaker}
use Rattle.pv_reduced.specs.OfExplore.Visiting.{Visits, found_of}
use Rattle.pv_policy.specs.Collecting.{calls_at}
use Rattle.pv_policy.specs.Usage.{and_calls}
use Rattle.pv_policy.proofs.policy.collect_state.Goals as goal

pub collect_visited-requires : goal.collect_visited-requires
collect_visited-requires c =
    ap (λ (v : Visits). slice_get v.found c.args.number) c.at.ensures.unchanged ∙ sym c.in_ok-visited.ensures.at ∙ ap (option_map found_of) c.in-Some.is

pub returns-in-Some-clause-collected : goal.returns-in-Some-clause-collected
returns-in-Some-clause-collected c =
    on_ok_weaker c.collect_visited.result
    (λ e. e ∙ ap (λ o. and_calls c.args.programs.now.items (calls_at c.args.granted o)) (sym (ap (option_map found_of) c.in-Some.is) ∙ c.in_ok-visited.ensures.at))
    c.collect_visited.ensures.collected

pub returns-in-None-clause-collected : goal.returns-in-None-clause-collected
returns-in-None-clause-collected c =
    ap (λ o. and_calls c.args.programs.now.items (calls_at c.args.granted o)) (sym (ap (option_map found_of) c.in-None.is) ∙ c.in_ok-visited.ensures.at)
