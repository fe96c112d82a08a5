use Rattle.pv_laws_access.proofs.ProgramImages.{grows-never}
use Rattle.pv_laws_access.proofs.growth.grows_never.Goals as goal

pub returns : goal.returns
returns c = grows-never
