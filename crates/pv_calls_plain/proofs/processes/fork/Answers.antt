use Rattle.pv_laws_states.proofs.ValidByTable.{good-fork}
use Rattle.pv_model.specs.Machine.{fork}
use Rattle.pv_calls_plain.proofs.NumberAnswers.{plainly-performed}
use Rattle.pv_calls_plain.proofs.processes.fork.Goals as goal

pub returns : goal.returns
returns c = record {
  performed = plainly-performed (λ s me. fork s c.args.pid me) c.args.parts.now c.fork.new.self c.args.pid c.fork.result c.plain.result c.plain.ensures
      c.fork.ensures.performed c.fork.ensures.unchanged c.requires.live (λ me at. good-fork c.args.parts.now c.args.pid me c.requires.whole at);
}
