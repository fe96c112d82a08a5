use Rattle.std.proofs.Common.{◌≡◌, drop}
use Rattle.std.specs.Prelude.{map}
use Rattle.pv_source.specs.ReadPrograms.{label_value}
use Rattle.pv_model.specs.Source.Programs.{number_of_label}
use Rattle.pv_source.proofs.programs.number_of.Given as goal

abbrev pub invariant-loop-label : goal.invariant-loop-label
invariant-loop-label l = number_of_label l.name (map label_value (drop l.label-index l.labels)) ≡ number_of_label l.name (map label_value l.labels)
