use Rattle.std.proofs.Common.{◌∙◌, ap₂, sym, w32}
use Rattle.std.proofs.lemmas.Int.{to_z-of_z}
use Rattle.pv_calls_state.specs.Attempts.{collected_attempt}
use Rattle.pv_model.specs.Machine.{dup2}
use Rattle.pv_laws_states.proofs.ValidByProcess.{good-dup2}
use Rattle.pv_calls_plain.proofs.NumberAnswers.{plainly-performed}
use Rattle.pv_calls_plain.proofs.descriptors.dup2.Goals as goal

pub returns : goal.returns
returns c = record {
  performed = plainly-performed (λ s me. dup2 s c.args.pid me c.args.d c.args.e) c.args.parts.now c.dup2.new.self c.args.pid c.dup2.result c.plain.result c.plain.ensures
      (λ me at. ap₂ (λ d e. collected_attempt (dup2 c.args.parts.now c.args.pid me d e)) (sym (to_z-of_z w32 c.args.d c.ranges.d)) (sym (to_z-of_z w32 c.args.e c.ranges.e))
      ∙ c.dup2.ensures.performed me at)
      c.dup2.ensures.unchanged c.requires.live (λ me at. good-dup2 c.args.parts.now c.args.pid me c.requires.whole at c.args.d c.args.e);
}
