use Rattle.pv_laws_access.proofs.PromiseLimits.{without-rpath}
use Rattle.pv_laws_access.proofs.means.without_rpath_none_for_reading.Goals as goal

pub returns : goal.returns
returns c = λ program_of s pid p n mode whole at none reading. without-rpath program_of s pid p n mode whole at none reading
