use Rattle.std.proofs.Common.{◌≡◌, ◌∙◌, ap, sym, Some, option_map}
use Rattle.pv_model.specs.Machine.{process_at}
use Rattle.pv_answers.specs.OfProcs.declared.record.ProcessRecord.{ProcessRecord}
use Rattle.pv_answers.specs.OfProcs.Parts.{record_of}
use Rattle.pv_step_lines.proofs.making.make_register.Goals as goal

pub returns : goal.returns
returns c =
    let made = c.register.ensures in
    let there : Some (record_of made.me) ≡ Some c.record.result.now =
    sym (ap (option_map record_of) made.lives) ∙ ap (λ s. option_map record_of (process_at s c.args.pid)) (sym c.parts.ensures.value) ∙ c.record.ensures in
    let same : record_of made.me ≡ c.record.result.now = cc there in
    record {
      me = made.me;
      lives = made.lives;
      appeared = c.line-line.ensures ∙ sym (ap (λ (r : ProcessRecord). r.context.line) same);
      then_is = made.after;
      comes = made.step;
      left = made.only;
    }
