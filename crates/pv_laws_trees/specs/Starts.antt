-- The start of a machine.
use Rattle.std.specs.Prelude.{◌≡◌}
use Rattle.std.specs.Result.{result_ok}
use Rattle.pv_model.specs.Machine.{program_of, booted, boot, Tree}

-- `booted` and `boot` give the same first state
abbrev pub StartsIfInitParses : Type 0
StartsIfInitParses = (t : Tree) → result_ok (booted t) ≡ boot program_of t
