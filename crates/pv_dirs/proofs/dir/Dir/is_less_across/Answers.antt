use Rattle.std.proofs.Common.{is_lt, ap, ◌∙◌}
use Rattle.pv_model.specs.Machine.{Bytes}
use Rattle.pv_dirs.specs.Slots.{name_in_slot}
use Rattle.pv_dirs.proofs.SortedEntries.{by_name}
use Rattle.pv_dirs.proofs.NextNames.{bytes_less}
use Rattle.pv_dirs.proofs.dir.Dir.is_less_across.Goals as goal

pub returns : goal.returns
returns c = c.lt.ensures ∙ bytes_less c.name.result.now c.args.name.now ∙ ap (λ (q : Bytes). is_lt (by_name q c.args.name.now)) (c.name.ensures.value ∙ ap name_in_slot c.slot.ensures)
