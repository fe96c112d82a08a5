use Rattle.std.proofs.Common.{◌∙◌, ap, sym, w32}
use Rattle.std.proofs.lemmas.Int.{to_z-of_z}
use Rattle.pv_calls_state.specs.Attempts.{collected_attempt}
use Rattle.pv_model.specs.Machine.{close}
use Rattle.pv_laws_states.proofs.ValidByProcess.{good-close}
use Rattle.pv_calls_plain.proofs.NumberAnswers.{plainly-performed}
use Rattle.pv_calls_plain.proofs.descriptors.close.Goals as goal

pub returns : goal.returns
returns c = record {
  performed = plainly-performed (λ s me. close s c.args.pid me c.args.d) c.args.parts.now c.close.new.self c.args.pid c.close.result c.plain.result c.plain.ensures
      (λ me at. ap (λ d. collected_attempt (close c.args.parts.now c.args.pid me d)) (sym (to_z-of_z w32 c.args.d c.ranges.d))
      ∙ c.close.ensures.performed me at)
      c.close.ensures.unchanged c.requires.live (λ me at. good-close c.args.parts.now c.args.pid me c.requires.whole at c.args.d);
}
