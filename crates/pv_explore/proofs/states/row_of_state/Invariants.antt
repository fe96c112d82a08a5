use Rattle.std.proofs.Common.{◌≡◌, map, take}
use Rattle.pv_explore.specs.Rows.{group_row, number_in}
use Rattle.pv_step_cache.specs.OfStateEncoding.Groups.{groups_of}
use Rattle.pv_step_cache.specs.OfStateEncoding.Packed.{packed_all}
use Rattle.pv_explore.proofs.states.row_of_state.Given as goal

abbrev pub invariant-loop-group : goal.invariant-loop-group
invariant-loop-group l = l.row.items ≡ packed_all (map (λ g. number_in l.groups (group_row l.parts g)) (take l.group-index (groups_of l.encoded)))
