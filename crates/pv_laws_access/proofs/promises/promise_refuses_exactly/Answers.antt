use Rattle.pv_laws_access.proofs.PromiseRefusals.{promise-refuses}
use Rattle.pv_laws_access.proofs.promises.promise_refuses_exactly.Goals as goal

pub returns : goal.returns
returns c = λ program_of s pid me call errno a at. promise-refuses program_of s pid me call at errno a
