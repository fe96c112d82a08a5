use Rattle.std.proofs.Common.{ap, refl, subst, sym}
use Rattle.pv_streams.proofs.WriterContracts.{or_as}
use Rattle.pv_model.specs.Machine.{program_of}
use Rattle.pv_reduced.specs.Plan.{ReducedVisited, reduced_reported_from}
use Rattle.pv_reduced.specs.Searches.{HaveWitnesses}
use Rattle.pv_reduced.proofs.searched.search_all.Goals as goal

pub search-end-requires : goal.search-end-requires
search-end-requires g c = subst HaveWitnesses (sym c.requires) (record { witnesses = refl; bounds = refl })

pub returns-clause-written : goal.returns-clause-written
returns-clause-written g c =
    let limit = c.args.states in
    or_as (ap (λ (visited : ReducedVisited). reduced_reported_from g.O.Observer.observe limit program_of c.args.first_machine.now limit 0 visited) c.requires) c.search-end.ensures.written
