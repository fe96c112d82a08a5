use Rattle.std.proofs.Common.{◌<◌, ◌∙◌, length, slice_set, Option, ap, arith}
use Rattle.pv_files.specs.declared.opened.Opened.{Opened}
use Rattle.pv_files.specs.Slots.{slots_under}
use Rattle.pv_files.proofs.RecordKeys.{slots_after}
use Rattle.pv_files.proofs.open_files.copy_record.Goals as goal

pub returns-clause-copied : goal.returns-clause-copied
returns-clause-copied c =
    let within : c.args.number < length c.args.keys.now = omega (arith, c.requires.in_range, c.requires.are_keys.count) in
    slots_after c.args.records.now c.args.keys.now c.requires.are_keys c.args.number within c.copy_from.new.self
    ∙ ap (λ (o : Option Opened). slice_set (slots_under c.args.records.now c.args.keys.now) c.args.number o) c.copy_from.ensures
