use Rattle.std.proofs.Common.{◌∙◌, refl, subst, sym}
use Rattle.pv_streams.proofs.WriterContracts.{or_as}
use Rattle.pv_streams.proofs.StoppedWriters.{no_memory, still_ok, stopped}
use Rattle.pv_explore.specs.Searches.{visited_of, witness_at}
use Rattle.pv_explore.specs.VisitedStates.{HasNumber}
use Rattle.pv_explore.specs.Witnesses.{longer}
use Rattle.pv_explore.proofs.SearchSteps.{bytes-is, visited-at-is}
use Rattle.pv_model.specs.Machine.{State}
use Rattle.pv_explore.proofs.search.Search.make_uncached_move.Goals as goal

pub make_new_move-requires-clause-there : goal.make_new_move-requires-clause-there
make_new_move-requires-clause-there g c = subst (λ (t : State). HasNumber c.args.self.now.states c.args.number t) (sym c.in_ok-from.ensures.at) c.requires.there

pub returns-in_err-from-clause-written : goal.returns-in_err-from-clause-written
returns-in_err-from-clause-written g c = no_memory c.from_residual.ensures.1

pub returns-in_err-machine-clause-written : goal.returns-in_err-machine-clause-written
returns-in_err-machine-clause-written g c =
    let old = visited_of c.args.self.now in
    let is = bytes-is g.O.Observer.observe c.args.limit c.args.checkpoints.now c.in_ok-from.from (witness_at old c.args.number) (longer old.witnesses c.args.number c.args.pid) c.args.pid refl c.in_ok-from.ensures.at old in
    stopped c.from_residual-in_err-machine.ensures.1 (or_as is c.in_err-machine.ensures.written)

pub returns-clause-visited : goal.returns-clause-visited
returns-clause-visited g c =
    let old = visited_of c.args.self.now in
    c.in_ok-machine.ensures.visited
    ∙ visited-at-is g.O.Observer.observe c.args.limit c.args.checkpoints.now c.in_ok-from.from (witness_at old c.args.number) (longer old.witnesses c.args.number c.args.pid) c.args.pid refl c.in_ok-from.ensures.at old

pub returns-clause-written : goal.returns-clause-written
returns-clause-written g c =
    let old = visited_of c.args.self.now in
    let is = bytes-is g.O.Observer.observe c.args.limit c.args.checkpoints.now c.in_ok-from.from (witness_at old c.args.number) (longer old.witnesses c.args.number c.args.pid) c.args.pid refl c.in_ok-from.ensures.at old in
    still_ok (or_as is c.in_ok-machine.ensures.written)
