use Rattle.pv_laws_access.proofs.ProgramImages.{execve-leaves}
use Rattle.pv_laws_access.proofs.growth.execve_leaves.Goals as goal

pub returns : goal.returns
returns c = execve-leaves
