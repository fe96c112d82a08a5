use Rattle.std.proofs.Common.{◌≡◌, ◌∙◌, ap, sym, false, refl}
use Rattle.std.proofs.lemmas.Result.{err_from_is_err_and}
use Rattle.pv_calls_plain.specs.OfCallsState.Attempts.{collected_attempt}
use Rattle.pv_model.specs.Machine.{find_entry, is_directory_at, node_at}
use Rattle.pv_calls_path.proofs.NameCalls.{names_left}
use Rattle.pv_calls_path.proofs.CheckedWalks.{missed-as}
use Rattle.pv_calls_path.proofs.names.unlink.Goals as goal
use Rattle.pv_laws_states.proofs.ValidByTree.{plain_entries}

pub returns-in_err-found-clause-performed : goal.returns-in_err-found-clause-performed
returns-in_err-found-clause-performed g c =
    let p = err_from_is_err_and c.from_residual.result c.from_residual.ensures.1 in
    record {
      as_defined = λ me at. rw (p.1, p.2) (ap collected_attempt (missed-as c.args.system.now.parts me me.directory c.unlink-walk.ensures _ (c.in_err-found.ensures.missed me at) _));
      unchanged = rw p.1 refl;
      small = rw p.1 tt;
    }

pub returns-clause-agrees : goal.returns-clause-agrees
returns-clause-agrees g c =
    let s = c.args.system.now.parts in
    let plain : is_directory_at s.tree c.in_ok-found.found.node ≡ false = ap (λ t. is_directory_at t c.in_ok-found.found.node) (sym c.tree.ensures) ∙ sym c.is_directory.ensures ∙ c.if-is_directory.false in
    c.changed.ensures (find_entry s.tree) (find_entry c.unlink.new.self.tree) c.reach_found.ensures.agrees
    (names_left s c.requires.caller.whole c.in_ok-found.found.place c.in_ok-found.ensures.reaches.fine c.in-Some.directory c.in-Some.name.now c.in-Some.ensures
    c.in_ok-found.found.node c.in_ok-found.ensures.reaches.there (plain_entries (node_at s.tree c.in_ok-found.found.node) plain) c.unlink.new.self c.unlink.ensures)
