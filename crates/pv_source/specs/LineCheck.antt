-- The result of checking a line of a manifest.
use Rattle.std.specs.Prelude.{◌≡◌, Bool, true, false}
use Rattle.pv_source.specs.declared.so_far.LineCheck.{LineCheck}
use Rattle.pv_source.specs.declared.so_far.LineCheck.TheVariants.{Right, RoomAgain}
use Rattle.pv_source.specs.declared.so_far.TreeSoFar.{TreeSoFar as HeldTree}
use Rattle.pv_model.specs.Source.Judged.{TreeSoFar, Judgement}

-- whether the result is reported
abbrev pub is_line_reported : LineCheck → Bool
is_line_reported Right = false
is_line_reported RoomAgain = false
is_line_reported _ = true

abbrev pub so_far_of : HeldTree → TreeSoFar
so_far_of s = record { tree = s.tree; lacked_room = s.lacked_room }

-- the result and the state after a line agree with the specification
abbrev pub AgreesWithJudgement : Judgement → HeldTree × LineCheck → Type 0
AgreesWithJudgement judgement found = (is_line_reported found.1 ≡ judgement.0) × (so_far_of found.0 ≡ judgement.1)
