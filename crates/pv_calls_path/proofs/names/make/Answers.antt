use Rattle.std.proofs.Common.{◌≡◌, ◌∙◌, ap, sym, true, false, is_some, refl}
use Rattle.std.proofs.lemmas.Result.{err_from_is_err_and}
use Rattle.pv_calls_plain.specs.OfCallsState.Attempts.{collected_attempt}
use Rattle.pv_model.specs.Machine.{walk_of, node_of, find_entry, fits}
use Rattle.pv_calls_path.proofs.NameCalls.{make_crowded, names_made}
use Rattle.pv_laws_trees.proofs.NewNodes.{new-entries}
use Rattle.pv_namei.specs.OfTree.Changes.{new_node}
use Rattle.pv_calls_path.proofs.names.make.Goals as goal

pub returns-in_err-place-clause-performed : goal.returns-in_err-place-clause-performed
returns-in_err-place-clause-performed g c =
    let p = err_from_is_err_and c.from_residual.result c.from_residual.ensures.1 in
    record {
      as_defined = λ me at. rw (p.1, p.2, c.requires.here) (ap collected_attempt (c.in_err-place.ensures.stops.stopped me at _));
      unchanged = rw p.1 refl;
      small = rw p.1 tt;
    }

pub returns-in-Err-clause-performed : goal.returns-in-Err-clause-performed
returns-in-Err-clause-performed g c =
    let free : is_some (node_of c.in_ok-place.place) ≡ false = ap is_some c.in_ok-directory.ensures.free in
    record {
      as_defined = λ me at. rw (c.refusal.ensures, c.space_errno.ensures)
          (ap collected_attempt (make_crowded c.args.system.now.parts c.args.pid me (walk_of c.args.walk) c.requires.here (new_node c.args.kind) c.in_ok-place.place (c.in_ok-place.ensures.reaches.reached me at) free
          c.in_ok-directory.directory c.in_ok-directory.name.now c.in_ok-directory.ensures.name c.in-Err.space c.in-Err.ensures.refused));
      unchanged = c.in-Err.ensures.err;
      small = tt;
    }

pub returns-clause-agrees : goal.returns-clause-agrees
returns-clause-agrees g c =
    let s = c.args.system.now.parts in
    let free : is_some (node_of c.in_ok-place.place) ≡ false = ap is_some c.in_ok-directory.ensures.free in
    let fit : fits c.make.new.self.tree ≡ true = ap fits (sym c.tree.ensures) ∙ c.invariant.ensures.fits in
    c.changed.ensures (find_entry s.tree) (find_entry c.make.new.self.tree) c.reach.ensures.agrees
    (names_made s c.requires.caller.whole c.in_ok-place.place c.in_ok-place.ensures.reaches.fine c.in_ok-directory.directory c.in_ok-directory.name.now c.in_ok-directory.ensures.name free
    (new_node c.args.kind) c.requires.node (new-entries c.args.kind) c.make.new.self c.in_default.ensures.ok fit)
