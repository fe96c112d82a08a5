use Rattle.std.proofs.Common.{◌∙◌}
use Rattle.pv_explore.specs.Visiting.{visits_of}
use Rattle.pv_reduced.specs.Searches.{reduced_visited_of}
use Rattle.pv_reduced.proofs.ReportedBytes.{states-are}
use Rattle.pv_reduced.proofs.searched.reduced_states.Goals as goal

pub returns-in-Ok : goal.returns-in-Ok
returns-in-Ok g c =
    let s = c.args.first_machine.now in
    c.new-in-Ok.ensures ∙ (λ i. visits_of s (c.into_witnesses-witnesses.ensures.witnesses i) (c.into_witnesses-witnesses.ensures.complete i))
    ∙ states-are c.args.states s (reduced_visited_of c.search_all.new.search) c.requires c.in-Ok.ensures.visited
