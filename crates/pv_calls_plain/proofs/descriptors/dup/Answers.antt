use Rattle.std.proofs.Common.{◌∙◌, ap, sym, w32}
use Rattle.std.proofs.lemmas.Int.{to_z-of_z}
use Rattle.pv_calls_state.specs.Attempts.{collected_attempt}
use Rattle.pv_model.specs.Machine.{dup}
use Rattle.pv_laws_states.proofs.ValidByProcess.{good-dup}
use Rattle.pv_calls_plain.proofs.NumberAnswers.{plainly-performed}
use Rattle.pv_calls_plain.proofs.descriptors.dup.Goals as goal

pub returns : goal.returns
returns c = record {
  performed = plainly-performed (λ s me. dup s c.args.pid me c.args.d) c.args.parts.now c.dup.new.self c.args.pid c.dup.result c.plain.result c.plain.ensures
      (λ me at. ap (λ d. collected_attempt (dup c.args.parts.now c.args.pid me d)) (sym (to_z-of_z w32 c.args.d c.ranges.d))
      ∙ c.dup.ensures.performed me at)
      c.dup.ensures.unchanged c.requires.live (λ me at. good-dup c.args.parts.now c.args.pid me c.requires.whole at c.args.d);
}
