use Rattle.pv_laws_access.proofs.MovedPermissions.{permissions-come}
use Rattle.pv_laws_access.proofs.moves.permissions_come_by_moves.Goals as goal

pub returns : goal.returns
returns c = λ program_of encodes s pid f table d name k whole there found governs. permissions-come program_of encodes s pid whole table f d name k there found governs
