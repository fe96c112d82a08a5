use Rattle.std.proofs.Common.{◌∙◌, ap, arith, refl, sym}
use Rattle.std.specs.Prelude.{option_copied}
use Rattle.pv_calls_state.specs.Attempts.{collected_attempt}
use Rattle.pv_calls_plain.specs.Performed.{attempt_of}
use Rattle.pv_model.specs.Machine.{done, returns, collect, process_at}
use Rattle.pv_calls_state.specs.OfProcs.declared.record.ProcessRecord.{ProcessRecord}
use Rattle.pv_promises.specs.Pledge.{bits_of, narrow_both}
use Rattle.pv_laws_states.proofs.Processes.{update-is}
use Rattle.pv_calls_state.proofs.UncountedChanges.{lent-is}
use Rattle.pv_calls_plain.proofs.PledgeResults.{pledge-preserved, pledge-refused, with_pledged}
use Rattle.pv_calls_plain.proofs.pledge.pledge.Goals as goal

pub returns-in-Err-narrow : goal.returns-in-Err-narrow
returns-in-Err-narrow c = record {
  performed = record {
    as_defined = λ me at.
        let s = c.args.parts.now in
        let now = bits_of c.in-Ok.set in
        let later = bits_of c.in-Ok-asked.set in
        let lent = lent-is (process_at s c.args.pid) me c.record.result.now c.record.ensures at in
        ap collected_attempt
        (pledge-refused s c.args.pid me (option_copied c.args.promises) (option_copied c.args.execpromises) now later c.in-Ok.ensures c.in-Ok-asked.ensures c.in-Err-narrow.promise
        (ap (λ (r : ProcessRecord). narrow_both r.pledge now later) (sym lent) ∙ c.in-Err-narrow.ensures.refused));
    unchanged = refl;
    small = tt;
  };
}

pub returns-in-Ok-narrow : goal.returns-in-Ok-narrow
returns-in-Ok-narrow c = record {
  performed = record {
    as_defined = λ me at.
        let s = c.args.parts.now in
        let now = bits_of c.in-Ok.set in
        let later = bits_of c.in-Ok-asked.set in
        let preserved = c.narrow.new.self in
        let lent = lent-is (process_at s c.args.pid) me c.record.result.now c.record.ensures at in
        ap collected_attempt
        (pledge-preserved s c.args.pid me (option_copied c.args.promises) (option_copied c.args.execpromises) now later c.in-Ok.ensures c.in-Ok-asked.ensures preserved
        (ap (λ (r : ProcessRecord). narrow_both r.pledge now later) (sym lent) ∙ c.in-Ok-narrow.ensures.narrowed))
        ∙ ap (λ x. done 0 (x, returns 0)) (ap collect (sym (c.set_pledge.ensures ∙ update-is s c.args.pid (with_pledged preserved) me at)) ∙ c.invariant.ensures.collected)
        ∙ sym (ap (attempt_of c.set_pledge.new.self) c.answer_of.ensures);
    unchanged = rw c.answer_of.ensures tt;
    small = rw c.answer_of.ensures (omega arith);
  };
}
