use Rattle.std.proofs.Common.{◌≡◌, ◌∙◌, ap, sym, true}
use Rattle.pv_calls_plain.specs.OfCallsState.Attempts.{collected_attempt}
use Rattle.pv_model.specs.Machine.{fits, process_at, find_entry}
use Rattle.pv_calls_plain.proofs.OfCallsState.UncountedChanges.{some-at}
use Rattle.pv_calls_path.proofs.OpenCalls.{names_opened, create_crowded}
use Rattle.pv_calls_path.proofs.opening.create_there.Goals as goal

pub returns-in-Ok-clause-agrees : goal.returns-in-Ok-clause-agrees
returns-in-Ok-clause-agrees g c =
    let s = c.args.parts.now in
    let me = some-at (process_at s c.args.pid) c.requires.caller.live in
    let fit : fits c.create.new.self.tree ≡ true = ap fits (sym c.tree.ensures) ∙ c.invariant.ensures.fits in
    c.changed.ensures (find_entry s.tree) (find_entry c.create.new.self.tree) c.requires.caller.agrees
    (names_opened s c.requires.caller.whole c.args.place.now c.requires.fine c.in-Some.directory c.in-Some.name.now c.in-Some.ensures c.requires.absent
    c.args.pid me.0 me.1 c.args.flags (c.requires.room.descriptor me.0 me.1) c.requires.room.file c.create.new.self (c.in-Ok.ensures.made.opened me.0 me.1) fit)

pub returns-in-Err-clause-performed : goal.returns-in-Err-clause-performed
returns-in-Err-clause-performed g c =
    let s = c.args.parts.now in
    record {
      as_defined = λ me at. rw (c.refusal-in-Err.ensures, c.space_errno.ensures)
          (ap collected_attempt (create_crowded s c.args.pid me c.args.flags c.requires.flags c.if-not-flags.false c.args.place.now c.requires.absent
          c.in-Some.directory c.in-Some.name.now c.in-Some.ensures c.in-Err.space (c.in-Err.ensures.lacks_room.refused me at)));
      unchanged = c.in-Err.ensures.lacks_room.unchanged;
      small = tt;
    }
