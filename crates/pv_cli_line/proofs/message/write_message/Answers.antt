use Rattle.std.proofs.Common.{rules}
use Rattle.pv_cli_line.proofs.MessageParts.{message_refused, newline_refused}
use Rattle.pv_cli_line.proofs.message.write_message.Goals as goal

pub returns-in_err-is_ended : goal.returns-in_err-is_ended
returns-in_err-is_ended g c = message_refused g.W.Sink _ _ _ c.from_residual.result c.in_err-is_ended.ensures (search rules)

pub returns-in_err-write_whole : goal.returns-in_err-write_whole
returns-in_err-write_whole g c =
    newline_refused g.W.Sink _ _ _ _ c.from_residual-in_err-write_whole.result c.in_ok-is_ended.ensures c.in_err-write_whole.ensures.prefix c.in_err-write_whole.ensures.failed (search rules)
