use Rattle.pv_streams.proofs.WriterContracts.{or_as}
use Rattle.pv_streams.proofs.StoppedWriters.{no_memory, still_ok, stopped}
use Rattle.pv_explore.specs.Observing.{no_text}
use Rattle.pv_explore.specs.Searches.{visited_of}
use Rattle.pv_explore.proofs.GraphLines.{graph-bytes, graph-complete, graph-long, graph-many}
use Rattle.pv_streams.proofs.ProperPrefixes.{inside_nothing, inside_stopped}
use Rattle.pv_explore.proofs.graph.write_graph.Goals as goal

pub returns-in_err-search-clause-written : goal.returns-in_err-search-clause-written
returns-in_err-search-clause-written g c = no_memory c.from_residual.ensures.1

pub write_found-requires : goal.write_found-requires
write_found-requires g c = graph-many no_text c.args.states c.args.first_machine.now c.args.tree (visited_of c.in_ok-search.search) c.requires c.in_ok-search.ensures

pub returns-in_err-write_found-clause-written : goal.returns-in_err-write_found-clause-written
returns-in_err-write_found-clause-written g c =
    let is = graph-bytes no_text c.args.states c.args.first_machine.now c.args.tree (visited_of c.in_ok-search.search) c.requires c.in_ok-search.ensures in
    stopped c.from_residual-in_err-write_found.ensures.1 (or_as is c.in_err-write_found.ensures.written)

pub returns-clause-written : goal.returns-clause-written
returns-clause-written g c =
    let is = graph-bytes no_text c.args.states c.args.first_machine.now c.args.tree (visited_of c.in_ok-search.search) c.requires c.in_ok-search.ensures in
    still_ok (or_as is c.in_ok-write_found.ensures.written)

pub returns-clause-complete : goal.returns-clause-complete
returns-clause-complete g c = graph-complete no_text c.args.states c.args.first_machine.now c.args.tree (visited_of c.in_ok-search.search) c.requires c.in_ok-search.ensures

pub returns-in_err-search-clause-part : goal.returns-in_err-search-clause-part
returns-in_err-search-clause-part g c = inside_nothing g.W.Sink c.args.out.now _ (graph-long c.args.states c.args.first_machine.now c.args.tree)

pub returns-in_err-write_found-clause-part : goal.returns-in_err-write_found-clause-part
returns-in_err-write_found-clause-part g c =
    let is = graph-bytes no_text c.args.states c.args.first_machine.now c.args.tree (visited_of c.in_ok-search.search) c.requires c.in_ok-search.ensures in
    inside_stopped g.W.Sink c.args.out.now c.write_found.new.out c.from_residual-in_err-write_found.ensures.1 is c.in_err-write_found.ensures.part
