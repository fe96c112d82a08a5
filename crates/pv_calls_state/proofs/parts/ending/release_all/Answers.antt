-- The open file of each descriptor has a user, which is removed.
use Rattle.std.proofs.Common.{◌+◌, drop, sym, ◌∙◌}
use Rattle.pv_calls_state.specs.Releasing.{files_on}
use Rattle.pv_calls_state.proofs.RemovedUsers.{still-used, releases-next, releases-nothing, releases-as}
use Rattle.pv_calls_state.proofs.parts.ending.release_all.Goals as goal
use Rattle.pv_calls_state.proofs.parts.ending.release_all.Goals.{in-Some, in_default}

pub release-requires-clause-opened : goal.release-requires-clause-opened
release-requires-clause-opened c =
    still-used (files_on c.args.descriptors.now) c.args.descriptors.now c.loop-d.d c.in-Some.file c.args.tree.now c.args.files.now c.loop-d.tree c.loop-d.files
    (sym c.file_at.ensures ∙ c.in-Some.is) c.loop-d.invariant c.requires.used c.invariant-in-loop-d.ensures

pub loop-d-preserved : goal.loop-d-preserved
loop-d-preserved c =
    let all = files_on c.args.descriptors.now in
    let left = files_on (drop (c.loop-d.d + 1) c.args.descriptors.now) in
    elim c.match-file_at.branch [
      | in-Some w ↦ releases-as all left c.args.tree.now c.args.files.now w.release.new.tree c.match-file_at.tree w.release.new.files c.match-file_at.files w.tree-is w.files-is
          (releases-next all c.args.descriptors.now c.loop-d.d w.in-Some.file c.args.tree.now c.args.files.now c.loop-d.tree c.loop-d.files
          (sym c.file_at.ensures ∙ w.in-Some.is) c.loop-d.invariant w.release.new.tree w.release.new.files c.invariant.ensures w.release.ensures)
      | in_default w ↦ releases-as all left c.args.tree.now c.args.files.now c.loop-d.tree c.match-file_at.tree c.loop-d.files c.match-file_at.files w.tree-is w.files-is
          (releases-nothing all c.args.descriptors.now c.loop-d.d c.args.tree.now c.args.files.now c.loop-d.tree c.loop-d.files
          (sym c.file_at.ensures ∙ w.in_default.is) c.loop-d.invariant)
    ]
