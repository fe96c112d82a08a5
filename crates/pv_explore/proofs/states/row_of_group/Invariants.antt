use Rattle.std.proofs.Common.{◌≡◌, map, take}
use Rattle.pv_explore.specs.Rows.{number_in, parts_in}
use Rattle.pv_step_cache.specs.OfStateEncoding.Packed.{packed_all}
use Rattle.pv_explore.proofs.states.row_of_group.Given as goal

abbrev pub invariant-loop-part : goal.invariant-loop-part
invariant-loop-part l = l.row.items ≡ packed_all (map (number_in l.parts) (take l.part-index (parts_in l.group)))
