use Rattle.std.proofs.lemmas.Result.{err_from_is_err_and}
use Rattle.pv_laws_states.proofs.ValidByTree.{place-there}
use Rattle.pv_model.specs.Machine.{walk_of}
use Rattle.pv_calls_path.proofs.NodeCalls.{found_there}
use Rattle.pv_calls_path.proofs.reach.reach_node.Goals as goal

pub returns-in_err-found-clause-missed : goal.returns-in_err-found-clause-missed
returns-in_err-found-clause-missed g c =
    let p = err_from_is_err_and c.from_residual.result c.from_residual.ensures.1 in
    rw (p.1, p.2) c.in_err-found.ensures.missed

pub returns-clause-finds : goal.returns-clause-finds
returns-clause-finds g c = record {
  found = λ me at. found_there c.args.parts.now me me.directory (walk_of c.args.walk) c.in_ok-found.found.place c.in_ok-found.found.node
      (c.in_ok-found.ensures.reaches.reached me at) c.in_ok-found.ensures.reaches.there;
  there =
      place-there c.args.parts.now.tree c.requires.caller.whole.tree c.in_ok-found.found.place c.in_ok-found.found.node c.in_ok-found.ensures.reaches.fine c.in_ok-found.ensures.reaches.there;
}
