use Rattle.std.proofs.Common.{◌≡◌, map, take}
use Rattle.std.specs.List.{AllByRecursion}
use Rattle.pv_explore.specs.Rows.{Grew, IsAmong, number_in, parts_in}
use Rattle.pv_step_cache.specs.OfStateEncoding.Packed.{packed_all}
use Rattle.pv_explore.proofs.states.learn_row.Given as goal

abbrev pub invariant-loop-part : goal.invariant-loop-part
invariant-loop-part l = record {
  grew : Grew l.fn.parts l.parts;
  visited : AllByRecursion (IsAmong l.parts) (take l.part-index (parts_in l.group));
  row : l.row.items ≡ packed_all (map (number_in l.parts) (take l.part-index (parts_in l.group)));
}
