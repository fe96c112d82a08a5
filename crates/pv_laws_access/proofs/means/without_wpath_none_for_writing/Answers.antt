use Rattle.pv_laws_access.proofs.PromiseLimits.{without-wpath}
use Rattle.pv_laws_access.proofs.means.without_wpath_none_for_writing.Goals as goal

pub returns : goal.returns
returns c = λ program_of s pid p n mode whole at none writing. without-wpath program_of s pid p n mode whole at none writing
