use Rattle.pv_laws_access.proofs.AscendingListings.{names-ascend}
use Rattle.pv_laws_access.proofs.order.names_reported_ascend.Goals as goal

pub returns : goal.returns
returns c = λ program_of encodes s pid k name pids last other whole reports stays later. names-ascend program_of encodes s pid k name pids last other whole reports stays later
