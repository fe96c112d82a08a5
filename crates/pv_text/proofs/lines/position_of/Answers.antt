use Rattle.pv_text.proofs.TextLines.{first_is_position}
use Rattle.pv_text.proofs.lines.position_of.Goals as goal

pub returns : goal.returns
returns c = first_is_position _ c.args.bytes.now c.memchr.result c.memchr.ensures
