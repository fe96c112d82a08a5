use Rattle.std.specs.Prelude.{Ok}
use Rattle.pv_cli_line.specs.Messages.{WritesText}
use Rattle.pv_cli_line.proofs.message.write_parts.Given as goal

-- the text so far
abbrev pub invariant-loop-number : goal.invariant-loop-number
invariant-loop-number g l = WritesText g.W.Sink l.initial.sink l.sink (Ok l.is_ended)
