-- The open file of each marked descriptor has a user, which is removed.
use Rattle.std.proofs.Common.{◌+◌, drop, ap, sym, ◌∙◌}
use Rattle.std.specs.Prelude.{option_map}
use Rattle.pv_calls_state.specs.Releasing.{files_on, marked_of}
use Rattle.pv_calls_state.proofs.RemovedUsers.{of_file, marked-at, still-used, releases-next, releases-nothing, releases-as}
use Rattle.pv_calls_state.proofs.parts.ending.release_marked.Goals as goal
use Rattle.pv_calls_state.proofs.parts.ending.release_marked.Goals.{in-Some, in_default}

pub release-requires-clause-opened : goal.release-requires-clause-opened
release-requires-clause-opened c =
    still-used (files_on (marked_of c.args.descriptors.now)) (marked_of c.args.descriptors.now) c.loop-d.d c.in-Some.file c.args.tree.now c.args.files.now c.loop-d.tree c.loop-d.files
    (ap (option_map of_file) (marked-at c.args.descriptors.now c.loop-d.d) ∙ sym c.marked_file_at.ensures ∙ c.in-Some.is) c.loop-d.invariant c.requires.used c.invariant-in-loop-d.ensures

pub loop-d-preserved : goal.loop-d-preserved
loop-d-preserved c =
    let all = files_on (marked_of c.args.descriptors.now) in
    let left = files_on (drop (c.loop-d.d + 1) (marked_of c.args.descriptors.now)) in
    elim c.match-marked_file_at.branch [
      | in-Some w ↦ releases-as all left c.args.tree.now c.args.files.now w.release.new.tree c.match-marked_file_at.tree w.release.new.files c.match-marked_file_at.files w.tree-is w.files-is
          (releases-next all (marked_of c.args.descriptors.now) c.loop-d.d w.in-Some.file c.args.tree.now c.args.files.now c.loop-d.tree c.loop-d.files
          (ap (option_map of_file) (marked-at c.args.descriptors.now c.loop-d.d) ∙ sym c.marked_file_at.ensures ∙ w.in-Some.is) c.loop-d.invariant w.release.new.tree w.release.new.files c.invariant.ensures w.release.ensures)
      | in_default w ↦ releases-as all left c.args.tree.now c.args.files.now c.loop-d.tree c.match-marked_file_at.tree c.loop-d.files c.match-marked_file_at.files w.tree-is w.files-is
          (releases-nothing all (marked_of c.args.descriptors.now) c.loop-d.d c.args.tree.now c.args.files.now c.loop-d.tree c.loop-d.files
          (ap (option_map of_file) (marked-at c.args.descriptors.now c.loop-d.d) ∙ sym c.marked_file_at.ensures ∙ w.in_default.is) c.loop-d.invariant)
    ]
