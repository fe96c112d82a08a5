use Rattle.std.proofs.Common.{◌≡◌, ◌∙◌, ap, sym, true, false, arith, refl}
use Rattle.std.proofs.lemmas.Result.{err_from_is_err_and}
use Rattle.pv_calls_plain.specs.OfCallsState.Attempts.{collected_attempt}
use Rattle.pv_calls_plain.specs.OfCallsState.Changes.{with_directory}
use Rattle.pv_model.specs.Machine.{update_live, collect, with_process, find_entry, is_directory_at}
use Rattle.pv_calls_path.proofs.DirectoryNames.{alike_update}
use Rattle.pv_calls_path.proofs.NodeCalls.{chdir_refused, chdir_goes}
use Rattle.pv_calls_path.proofs.CheckedWalks.{found-as, missed-as}
use Rattle.pv_calls_path.proofs.UnveilCalls.{leaves}
use Rattle.pv_calls_path.proofs.chdir.chdir.Goals as goal

pub returns-in_err-node-clause-performed : goal.returns-in_err-node-clause-performed
returns-in_err-node-clause-performed g c =
    let p = err_from_is_err_and c.from_residual.result c.from_residual.ensures.1 in
    record {
      as_defined = λ me at. rw (p.1, p.2) (ap collected_attempt (missed-as c.args.system.now.parts me me.directory c.chdir-walk.ensures _ (c.in_err-node.ensures.missed me at) _));
      unchanged = rw p.1 refl;
      small = rw p.1 tt;
    }

pub returns-then-not-is_directory-clause-performed : goal.returns-then-not-is_directory-clause-performed
returns-then-not-is_directory-clause-performed g c =
    let s = c.args.system.now.parts in
    let n = c.in_ok-node.node in
    let other : is_directory_at s.tree n ≡ false = ap (λ t. is_directory_at t n) (sym c.tree.ensures) ∙ sym c.is_directory.ensures ∙ c.if-not-is_directory.true in
    record {
      as_defined = λ me at. rw c.refusal.ensures (ap collected_attempt (chdir_refused s c.args.pid me c.args.path.now n (found-as s me me.directory c.chdir-walk.ensures n (c.in_ok-node.ensures.finds.found me at)) other));
      unchanged = refl;
      small = tt;
    }

pub returns-clause-performed : goal.returns-clause-performed
returns-clause-performed g c =
    let s = c.args.system.now.parts in
    let n = c.in_ok-node.node in
    let directory : is_directory_at s.tree n ≡ true = ap (λ t. is_directory_at t n) (sym c.tree.ensures) ∙ sym c.is_directory.ensures ∙ c.if-not-is_directory.false in
    record {
      as_defined = λ me at. rw c.answer_of.ensures
          (leaves _ (collect (with_process s c.args.pid (with_directory n me))) c.set_directory.new.self
          (ap collected_attempt (chdir_goes s c.args.pid me c.args.path.now n (found-as s me me.directory c.chdir-walk.ensures n (c.in_ok-node.ensures.finds.found me at)) directory))
          (ap (λ o. collect (update_live s c.args.pid (with_directory n) o)) (sym at) ∙ sym c.set_directory.ensures));
      unchanged = rw c.answer_of.ensures tt;
      small = rw c.answer_of.ensures (omega arith);
    }

pub returns-clause-agrees : goal.returns-clause-agrees
returns-clause-agrees g c =
    let s = c.args.system.now.parts in
    g.met.L.Lookup.same_answers c.reach_node.new.lookup (find_entry s.tree) (find_entry c.set_directory.new.self.tree) c.reach_node.ensures.agrees
    (alike_update s c.requires.caller.whole c.args.pid (with_directory c.in_ok-node.node) c.set_directory.new.self c.set_directory.ensures)
