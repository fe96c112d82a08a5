use Rattle.std.proofs.Common.{◌∙◌}
use Rattle.std.proofs.lemmas.Result.{on_ok_weaker}
use Rattle.pv_explore.specs.Searches.{visited_of}
use Rattle.pv_explore.specs.Witnesses.{longer}
use Rattle.pv_explore.proofs.CachedFollowing.{visited-found}
use Rattle.pv_explore.proofs.search.Search.visit.Goals as goal

pub returns : goal.returns
returns g c =
    let t = c.args.position.now in
    let old = visited_of c.args.self.now in
    on_ok_weaker c.keep_witness.result
    (λ last. last ∙ visited-found c.args.limit old (longer old.witnesses c.args.number c.args.pid) t c.arrive.new.self c.add_found_ending.new.endings c.in_ok-found.found c.in_ok-found.ensures c.in_ok-add_found_ending.ensures)
    c.keep_witness.ensures
