use Rattle.std.proofs.Common.{◌∙◌}
use Rattle.pv_streams.proofs.WriterContracts.{or_as}
use Rattle.pv_streams.proofs.StoppedWriters.{no_memory, still_ok, stopped}
use Rattle.pv_explore.specs.Plan.{first_visited, reported_from}
use Rattle.pv_explore.specs.Searches.{visited_of}
use Rattle.pv_explore.proofs.PlannedSearch.{plan-found, plan-finds}
use Rattle.pv_explore.proofs.ReportedBytes.{bytes-observed, is-searched}
use Rattle.pv_model.specs.Machine.{program_of}
use Rattle.pv_explore.proofs.searched.search_observed.Goals as goal

pub returns-in_err-search-clause-written : goal.returns-in_err-search-clause-written
returns-in_err-search-clause-written g c = no_memory c.from_residual.ensures.1

pub returns-in_err-search_all-clause-written : goal.returns-in_err-search_all-clause-written
returns-in_err-search_all-clause-written g c =
    let is = (plan-finds g.O.Observer.observe program_of c.args.states c.args.first_machine.now c.requires).bytes_are ∙ bytes-observed c.args.states c.args.first_machine.now g.O.Observer.observe in
    stopped c.from_residual-in_err-search_all.ensures.1 (or_as is c.in_err-search_all.ensures.written)

pub returns-clause-written : goal.returns-clause-written
returns-clause-written g c =
    let is = (plan-finds g.O.Observer.observe program_of c.args.states c.args.first_machine.now c.requires).bytes_are ∙ bytes-observed c.args.states c.args.first_machine.now g.O.Observer.observe in
    still_ok (or_as is c.in_ok-search_all.ensures.written)

pub returns-clause-found : goal.returns-clause-found
returns-clause-found g c =
    let observe = g.O.Observer.observe in
    let limit = c.args.states in
    let s = c.args.first_machine.now in
    let visited = visited_of c.search_all.new.search in
    let it = plan-found observe program_of limit s c.requires visited c.in_ok-search_all.ensures.visited in
    is-searched limit s observe (reported_from observe limit program_of s limit 0 (first_visited s)) visited it c.end.result.states c.end.result.complete c.end.result.endings c.end.result.texts
    c.end.ensures.states c.end.ensures.complete c.end.ensures.endings c.end.ensures.texts
