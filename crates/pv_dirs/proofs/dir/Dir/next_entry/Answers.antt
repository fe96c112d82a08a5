use Rattle.std.proofs.Common.{◌≡◌, Some, sym, ap, ◌∙◌}
use Rattle.std.specs.FinMap.Entries.{find}
use Rattle.std.specs.Option.{option_copied}
use Rattle.pv_model.specs.Machine.{Bytes}
use Rattle.pv_dirs.specs.Dirs.{directory_bytes}
use Rattle.pv_dirs.specs.Slots.{slot_at, name_in_slot, slot_entries}
use Rattle.pv_dirs.proofs.AscendingNames.{name_within}
use Rattle.pv_dirs.proofs.SortedEntries.{by_name}
use Rattle.pv_dirs.proofs.NextNames.{next_found}
use Rattle.pv_dirs.proofs.SlotBytes.{find-slot_entries}
use Rattle.pv_dirs.proofs.dir.Dir.next_entry.Goals as goal

pub unreachable-requires : goal.unreachable-requires
unreachable-requires c =
    let entries = slot_entries c.args.self.now.inodes.now.version (directory_bytes c.args.self.now) in
    next_found (option_copied c.args.last) entries c.in_ok-name-in-Err.name c.in_ok-name-in-Err.ensures
    (ap (λ (q : Bytes). find by_name q entries) (sym c.as_slice.ensures.value) ∙ c.in_default.ensures.absent)

pub returns-in_ok-name-in-Ok-clause-node : goal.returns-in_ok-name-in-Ok-clause-node
returns-in_ok-name-in-Ok-clause-node c =
    let v = c.args.self.now.inodes.now.version in
    let bytes = directory_bytes c.args.self.now in
    let name = c.in_ok-name-in-Ok.name in
    let same : Some name ≡ Some (name_in_slot (slot_at v bytes c.in-Ok.slot)) = c.in_ok-name-in-Ok.ensures.value ∙ name_within v bytes c.in-Ok.slot c.in_ok-name-in-Ok.ensures.within in
    find-slot_entries v bytes c.in-Ok.slot name c.requires.distinct c.in_ok-name-in-Ok.ensures.within (cc) ∙ ap Some (sym c.number.ensures)

pub returns-in-Some-clause-node : goal.returns-in-Some-clause-node
returns-in-Some-clause-node c =
    find-slot_entries c.args.self.now.inodes.now.version (directory_bytes c.args.self.now) c.in-Some.slot c.in_ok-name-in-Err.name c.requires.distinct c.in-Some.ensures.within
    (c.in-Some.ensures.named ∙ c.as_slice.ensures.value)
    ∙ ap Some (sym c.number-in-Err.ensures)
