use Rattle.pv_explain.proofs.TrueLines.{execve-lines}
use Rattle.pv_explain.proofs.laws.execve_lines_hold.Goals as goal

pub returns : goal.returns
returns c = execve-lines
