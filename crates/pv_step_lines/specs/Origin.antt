-- The origins of table entries in the code, as settings of the definitions.
use Rattle.std.specs.Prelude.{List, map}
use Rattle.pv_model.specs.Machine.{Setting}
use Rattle.pv_step_lines.specs.declared.origin.Origin.{Origin}

abbrev pub setting_of : Origin → Setting
setting_of o = record { line = o.line; earlier = o.earlier }

abbrev pub settings_in : List Origin → List Setting
settings_in os = map setting_of os
