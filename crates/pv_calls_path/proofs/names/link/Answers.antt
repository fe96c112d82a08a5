use Rattle.std.proofs.Common.{◌≡◌, ◌∙◌, ap, refl}
use Rattle.std.proofs.lemmas.Result.{err_from_is_err_and}
use Rattle.pv_calls_plain.specs.OfCallsState.Attempts.{collected_attempt}
use Rattle.pv_calls_path.proofs.NameCalls.{link_reached}
use Rattle.pv_laws_states.proofs.ValidByTree.{place-there}
use Rattle.pv_calls_path.proofs.CheckedWalks.{both-missed-as, reached-as}
use Rattle.pv_calls_path.proofs.names.link.Goals as goal

pub returns-in_err-both-clause-performed : goal.returns-in_err-both-clause-performed
returns-in_err-both-clause-performed g c =
    let p = err_from_is_err_and c.from_residual.result c.from_residual.ensures.1 in
    record {
      as_defined = λ me at. rw (p.1, p.2) (ap collected_attempt (both-missed-as c.args.system.now.parts me c.linked-first.ensures c.new_link-second.ensures _ (c.in_err-both.ensures.missed me at) _));
      unchanged = rw p.1 refl;
      small = rw p.1 tt;
    }

pub link_at-requires-clause-node : goal.link_at-requires-clause-node
link_at-requires-clause-node g c =
    let s = c.args.system.now.parts in
    place-there s.tree c.requires.caller.whole.tree c.in_ok-both.both.first c.in_ok-both.both.node c.in_ok-both.ensures.first.fine c.in_ok-both.ensures.first.there

pub returns-clause-performed : goal.returns-clause-performed
returns-clause-performed g c =
    let s = c.args.system.now.parts in
    let linked = c.link_at.ensures.performed c.args.pid in
    record {
      as_defined = λ me at. ap collected_attempt (link_reached s c.args.pid me c.args.path.now c.args.new.now c.in_ok-both.both.first c.in_ok-both.both.second
          (reached-as s me me.directory c.linked-first.ensures c.in_ok-both.both.first (c.in_ok-both.ensures.first.reached me at)) (reached-as s me me.directory c.new_link-second.ensures c.in_ok-both.both.second (c.in_ok-both.ensures.second.reached me at))
          c.in_ok-both.both.node c.in_ok-both.ensures.first.there) ∙ linked.as_defined me at;
      unchanged = linked.unchanged;
      small = linked.small;
    }
