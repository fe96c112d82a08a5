use Rattle.pv_laws_access.proofs.NamingCalls.{names-given}
use Rattle.pv_laws_access.proofs.moves.names_come_by_calls.Goals as goal

pub returns : goal.returns
returns c = λ program_of encodes s pid n d name whole there has new. names-given program_of encodes s pid n d name whole there has new
