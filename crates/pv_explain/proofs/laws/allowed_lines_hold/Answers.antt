use Rattle.pv_explain.proofs.TrueLines.{allowed-lines}
use Rattle.pv_explain.proofs.laws.allowed_lines_hold.Goals as goal

pub returns : goal.returns
returns c = allowed-lines
