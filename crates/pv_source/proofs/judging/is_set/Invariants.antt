use Rattle.std.proofs.Common.{◌≡◌, drop}
use Rattle.std.specs.Prelude.{map, bytes_eq}
use Rattle.std.specs.List.{list_any}
use Rattle.pv_source.specs.ReadPrograms.{borrowed_bytes}
use Rattle.pv_source.proofs.judging.is_set.Given as goal

abbrev pub invariant-loop-name : goal.invariant-loop-name
invariant-loop-name l = list_any (bytes_eq l.own) (map borrowed_bytes (drop l.name-index l.names)) ≡ list_any (bytes_eq l.own) (map borrowed_bytes l.names)
