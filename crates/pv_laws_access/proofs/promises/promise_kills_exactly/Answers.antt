use Rattle.pv_laws_access.proofs.PromiseRefusals.{promise-kills}
use Rattle.pv_laws_access.proofs.promises.promise_kills_exactly.Goals as goal

pub returns : goal.returns
returns c = λ program_of s pid me call a at. promise-kills program_of s pid me call at a
