-- The open file of each descriptor gets another user.
use Rattle.std.proofs.Common.{drop, ◌+◌, sym, subst, ◌∙◌}
use Rattle.pv_calls_state.specs.Releasing.{files_on, Shares}
use Rattle.pv_files.specs.Counted.{Counted}
use Rattle.pv_calls_state.proofs.AddedUsers.{share-opened, share-room, shares-next, shares-nothing}
use Rattle.pv_calls_state.proofs.parts.ending.share.Goals as goal
use Rattle.pv_calls_state.proofs.parts.ending.share.Goals.{in-Some, in_default}

pub dup-requires-clause-opened : goal.dup-requires-clause-opened
dup-requires-clause-opened c =
    share-opened c.args.descriptors.now c.loop-d.d c.in-Some.file c.args.files.now c.loop-d.files (sym c.file_at.ensures ∙ c.in-Some.is) c.loop-d.invariant c.requires.opened

pub dup-requires-clause-room : goal.dup-requires-clause-room
dup-requires-clause-room c =
    share-room c.args.descriptors.now c.loop-d.d c.in-Some.file c.args.files.now c.loop-d.files (sym c.file_at.ensures ∙ c.in-Some.is) c.loop-d.invariant c.requires.opened c.requires.room

pub loop-d-preserved : goal.loop-d-preserved
loop-d-preserved c =
    let P : Counted → Type 0 = λ x. Shares (files_on c.args.descriptors.now) (files_on (drop (c.loop-d.d + 1) c.args.descriptors.now)) c.args.files.now x in
    elim c.match-file_at.branch [
      | in-Some w ↦ subst P (sym w.files-is)
          (shares-next c.args.descriptors.now c.loop-d.d w.in-Some.file c.args.files.now c.loop-d.files (sym c.file_at.ensures ∙ w.in-Some.is) c.loop-d.invariant c.requires.opened
          w.dup.new.self c.invariant-in-loop-d.ensures w.dup.ensures)
      | in_default w ↦ subst P (sym w.files-is)
          (shares-nothing c.args.descriptors.now c.loop-d.d c.args.files.now c.loop-d.files (sym c.file_at.ensures ∙ w.in_default.is) c.loop-d.invariant)
    ]
