use Rattle.pv_laws_access.proofs.ProgramImages.{runs-without}
use Rattle.pv_laws_access.proofs.growth.runs_without_growth.Goals as goal

pub returns : goal.returns
returns c = runs-without
