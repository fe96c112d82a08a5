use Rattle.std.proofs.Common.{◌≡◌, ◌∙◌, ap, sym, true, false, refl}
use Rattle.std.proofs.lemmas.Result.{err_from_is_err_and}
use Rattle.pv_calls_plain.specs.OfCallsState.Attempts.{collected_attempt}
use Rattle.pv_model.specs.Machine.{is_empty, ends_in_dot, find_entry, is_directory_at, entries_at}
use Rattle.pv_calls_path.proofs.NameCalls.{names_left, some_left, rmdir_missed, rmdir_full}
use Rattle.pv_calls_path.proofs.CheckedWalks.{missed-as, reached-as}
use Rattle.pv_calls_path.proofs.names.rmdir.Goals as goal

pub returns-in_err-found-clause-performed : goal.returns-in_err-found-clause-performed
returns-in_err-found-clause-performed g c =
    let p = err_from_is_err_and c.from_residual.result c.from_residual.ensures.1 in
    let fine : ends_in_dot c.args.path.now ≡ false = sym c.ends_in_dot.ensures ∙ c.if-ends_in_dot.false in
    record {
      as_defined = λ me at. rw (p.1, p.2) (ap collected_attempt (rmdir_missed c.args.system.now.parts c.args.pid me c.args.path.now fine _ (missed-as c.args.system.now.parts me me.directory c.rmdir-walk.ensures _ (c.in_err-found.ensures.missed me at))));
      unchanged = rw p.1 refl;
      small = rw p.1 tt;
    }

pub returns-then-not-is_empty-clause-performed : goal.returns-then-not-is_empty-clause-performed
returns-then-not-is_empty-clause-performed g c =
    let s = c.args.system.now.parts in
    let n = c.in_ok-found.found.node in
    let fine : ends_in_dot c.args.path.now ≡ false = sym c.ends_in_dot.ensures ∙ c.if-ends_in_dot.false in
    let directory : is_directory_at s.tree n ≡ true = ap (λ t. is_directory_at t n) (sym c.tree.ensures) ∙ sym c.is_directory.ensures ∙ c.if-not-is_directory.false in
    let full : is_empty (entries_at s.tree n) ≡ false =
    ap (λ t. is_empty (entries_at t n)) (sym c.tree-2.ensures) ∙ some_left (entries_at c.tree-2.result.now.tree n) c.is_empty.result c.is_empty.ensures.1 c.if-not-is_empty.true in
    record {
      as_defined = λ me at. rw c.refusal-then-not-is_empty.ensures
          (ap collected_attempt (rmdir_full s c.args.pid me c.args.path.now fine c.in_ok-found.found.place (reached-as s me me.directory c.rmdir-walk.ensures c.in_ok-found.found.place (c.in_ok-found.ensures.reaches.reached me at)) n c.in_ok-found.ensures.reaches.there directory
          c.in-Some.directory c.in-Some.name.now c.in-Some.ensures full));
      unchanged = refl;
      small = tt;
    }

pub returns-clause-agrees : goal.returns-clause-agrees
returns-clause-agrees g c =
    let s = c.args.system.now.parts in
    let bare = ap (λ t. entries_at t c.in_ok-found.found.node) (sym c.tree-2.ensures) ∙ c.is_empty.ensures.0 c.if-not-is_empty.false in
    c.changed.ensures (find_entry s.tree) (find_entry c.unlink.new.self.tree) c.reach_found.ensures.agrees
    (names_left s c.requires.caller.whole c.in_ok-found.found.place c.in_ok-found.ensures.reaches.fine c.in-Some.directory c.in-Some.name.now c.in-Some.ensures
    c.in_ok-found.found.node c.in_ok-found.ensures.reaches.there bare c.unlink.new.self c.unlink.ensures)
