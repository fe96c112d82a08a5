use Rattle.pv_laws_access.proofs.MovedPermissions.{left-without}
use Rattle.pv_laws_access.proofs.moves.own_steps_give_nothing.Goals as goal

pub returns : goal.returns
returns c = λ program_of encodes s pid f p q table whole at in_force locked file nothing there how. left-without program_of encodes s pid f p table whole at in_force locked file nothing q there how
