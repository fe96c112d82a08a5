use Rattle.std.proofs.Common.{◌∙◌, Err, ap, ap₂, sym, w32}
use Rattle.std.proofs.lemmas.Int.{to_z-of_z}
use Rattle.pv_model.specs.declared.outcome.Cause.TheVariants.{Plain}
use Rattle.pv_model.specs.Machine.{answer_by_attempt, refused, read, collect}
use Rattle.pv_calls_plain.specs.Performed.{attempt_of}
use Rattle.pv_calls_plain.proofs.files.read.Goals as goal

pub report_front-requires-clause-live : goal.report_front-requires-clause-live
report_front-requires-clause-live c = c.read_front.ensures.live

pub returns-in-Ok : goal.returns-in-Ok
returns-in-Ok c = record {
  performed = λ before me at.
      let s = c.args.parts.now in
      let given = c.in-Ok.ensures.performed me at in
      ap (answer_by_attempt before s c.args.pid me)
      (ap₂ (λ d n. read s c.args.pid me d n) (sym (to_z-of_z w32 c.args.d c.ranges.d)) (sym (to_z-of_z w32 c.args.n c.ranges.n)) ∙ given.gives)
      ∙ c.report_front.ensures before s given.after me given.bytes given.long (ap collect (sym given.front) ∙ c.invariant.ensures.collected);
}

pub returns-in-Err : goal.returns-in-Err
returns-in-Err c = record {
  performed = λ before me at.
      let s = c.args.parts.now in
      ap (answer_by_attempt before s c.args.pid me)
      (ap₂ (λ d n. read s c.args.pid me d n) (sym (to_z-of_z w32 c.args.d c.ranges.d)) (sym (to_z-of_z w32 c.args.n c.ranges.n)) ∙ c.in-Err.ensures.performed me at)
      ∙ c.report.ensures.reported before s me (refused 0 c.in-Err.errno Plain) (ap (λ r. attempt_of c.read_front.new.parts (Err r)) (sym c.refusal.ensures)) c.in-Err.ensures.unchanged;
}
