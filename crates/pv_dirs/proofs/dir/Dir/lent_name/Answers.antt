use Rattle.std.proofs.Common.{◌≡◌, ◌≤◌, length, ap, take, ◌∙◌}
use Rattle.pv_model.specs.Machine.{entry_length}
use Rattle.pv_dirs.specs.Dirs.{directory_bytes}
use Rattle.pv_dirs.specs.Slots.{slot_at, name_in_slot}
use Rattle.pv_dirs.proofs.CallResults.{if_some_both}
use Rattle.pv_dirs.proofs.SlotRuns.{run_name}
use Rattle.pv_dirs.proofs.dir.Dir.lent_name.Goals as goal

pub returns-clause-value : goal.returns-clause-value
returns-clause-value c =
    let v = c.args.self.now.inodes.now.version in
    let bytes = directory_bytes c.args.self.now in
    let run = c.run_from.result.now in
    let whole = c.layout-length.ensures.slot_length ∙ ap entry_length c.version.ensures in
    if_some_both c.name_in_run.result (λ name. name.now ≡ name_in_slot (take c.layout-length.result.slot_length run)) (λ name. c.layout-length.result.slot_length ≤ length run)
    (λ name. name.now ≡ name_in_slot (slot_at v bytes c.args.k)) c.name_in_run.ensures.value c.name_in_run.ensures.whole
    (λ name is fits. is ∙ run_name v bytes run c.args.k c.layout-length.result.slot_length whole c.run_from.ensures fits)
