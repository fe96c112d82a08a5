use Rattle.pv_step_lines.proofs.AncestorLines.{IsClimbing}
use Rattle.pv_step_lines.proofs.levels.write_directory_levels.Given as goal

abbrev pub invariant-loop-level : goal.invariant-loop-level
invariant-loop-level g l = IsClimbing l.basis l.asked l.directory g.W.Sink l._level l.reached l.initial.out l.out
