use Rattle.std.proofs.Common.{◌∙◌}
use Rattle.std.proofs.Math.ListN.{length-map}
use Rattle.pv_files.specs.Slots.{record_at, slots_under}
use Rattle.pv_files.proofs.ViewedMaps.{least_free_found}
use Rattle.pv_files.proofs.RecordKeys.{position_under}
use Rattle.pv_files.proofs.open_files.first_free_number.Goals as goal

pub returns : goal.returns
returns c =
    let found = c.first_free_index.ensures ∙ position_under c.args.records.now c.args.keys.now in
    rw (length-map c.args.keys.now (record_at c.args.records.now)) at (least_free_found (slots_under c.args.records.now c.args.keys.now) c.first_free_index.result found)
