use Rattle.std.proofs.Common.{◌∙◌}
use Rattle.std.proofs.Math.ListN.{length-map}
use Rattle.pv_files.specs.Slots.{file_of, record_at, slots_under}
use Rattle.pv_files.proofs.ViewedMaps.{room_found}
use Rattle.pv_files.proofs.RecordKeys.{first_within}
use Rattle.pv_files.proofs.open_files.OpenFiles.has_room.Goals as goal

pub first_free_from-requires-clause-within : goal.first_free_from-requires-clause-within
first_free_from-requires-clause-within c = first_within c.self.inside.records c.self.inside.keys c.self.inside.first c.self.inside.most c.self.invariant

pub returns : goal.returns
returns c =
    let all = length-map c.self.inside.keys (record_at c.self.inside.records) in
    rw (c.is_some.ensures, ← c.self.view_is) (room_found file_of (slots_under c.self.inside.records c.self.inside.keys) 128 c.first_free_from.result (all ∙ c.self.invariant.are_keys.count) (rw (← all) at c.first_free_from.ensures))
