use Rattle.std.proofs.Common.{refl}
use Rattle.pv_streams.proofs.WriterContracts.{or_as}
use Rattle.pv_streams.proofs.StoppedWriters.{no_memory, still_ok, stopped}
use Rattle.pv_reduced.specs.Searches.{reduced_visited_of}
use Rattle.pv_reduced.proofs.ReportedBytes.{is-searched, reported-bytes}
use Rattle.pv_reduced.proofs.searched.search_reduced.Goals as goal

pub returns-in_err-search-clause-written : goal.returns-in_err-search-clause-written
returns-in_err-search-clause-written g c = no_memory c.from_residual.ensures.1

pub returns-in_err-search_all-clause-written : goal.returns-in_err-search_all-clause-written
returns-in_err-search_all-clause-written g c =
    stopped c.from_residual-in_err-search_all.ensures.1 (or_as (reported-bytes c.args.states c.args.first_machine.now g.O.Observer.observe c.requires) c.in_err-search_all.ensures.written)

pub returns-clause-written : goal.returns-clause-written
returns-clause-written g c = still_ok (or_as (reported-bytes c.args.states c.args.first_machine.now g.O.Observer.observe c.requires) c.in_ok-search_all.ensures.written)

pub returns-clause-found : goal.returns-clause-found
returns-clause-found g c =
    let r = c.end.result in
    is-searched c.args.states c.args.first_machine.now g.O.Observer.observe (reduced_visited_of c.search_all.new.search) c.requires c.in_ok-search_all.ensures.visited r.states r.complete r.endings r.texts
    c.end.ensures.states c.end.ensures.complete c.end.ensures.endings c.end.ensures.texts
