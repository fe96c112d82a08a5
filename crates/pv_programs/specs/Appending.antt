-- Lists of numbers, appended to.
use Rattle.std.specs.Prelude.{◌≡◌, ◌++◌}
use Rattle.pv_model.specs.Machine.{Numbers}

-- numbers are appended
pub record AppendsNumbers (ns old new : Numbers) : Type 0 where
  pub is : new ≡ old ++ ns
