use Rattle.std.proofs.Common.{ap, sym, ◌∙◌, option_map, slice_index}
use Rattle.std.specs.Option.{option_copied}
use Rattle.pv_model.specs.Machine.{at_number}
use Rattle.pv_files.specs.Counted.{Counted}
use Rattle.pv_files.specs.Slots.{file_of}
use Rattle.pv_files.proofs.RecordKeys.{slot_under, nothing_past}
use Rattle.pv_files.proofs.open_files.OpenFiles.lookup.Goals as goal

pub returns-in_err-get-clause-file : goal.returns-in_err-get-clause-file
returns-in_err-get-clause-file c =
    ap (λ result. option_map file_of (option_copied result)) c.from_residual.ensures
    ∙ sym (nothing_past c.self.inside.records c.self.inside.keys c.args.file c.in_err-get.ensures.lookup.0)
    ∙ ap (λ (v : Counted). at_number v.files c.args.file) c.self.view_is

pub returns-clause-file : goal.returns-clause-file
returns-clause-file c =
    let found = c.in_ok-get.ensures.lookup in
    let slot = slot_under c.self.inside.records c.self.inside.keys c.args.file c.in_ok-get.field-0.now (option_copied c.opened_at.result) found.0 found.1 c.opened_at.ensures in
    sym slot.file ∙ ap (λ (v : Counted). at_number v.files c.args.file) c.self.view_is

pub returns-clause-users : goal.returns-clause-users
returns-clause-users c =
    let found = c.in_ok-get.ensures.lookup in
    let slot = slot_under c.self.inside.records c.self.inside.keys c.args.file c.in_ok-get.field-0.now (option_copied c.opened_at.result) found.0 found.1 c.opened_at.ensures in
    sym slot.users ∙ ap (λ (v : Counted). slice_index v.users c.args.file) c.self.view_is
