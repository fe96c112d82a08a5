use Rattle.std.proofs.Common.{ap, refl, arith}
use Rattle.std.proofs.lemmas.Result.{err_from_is_err_and}
use Rattle.pv_model.specs.Machine.{◌>>◌, walk_of, judge_for, judgement_or_refusal}
use Rattle.pv_model.specs.declared.errno.Errno.TheVariants.{ENOENT, EACCES}
use Rattle.pv_model.specs.declared.judgement.Judgement.TheVariants.{Allowed, Hidden, Denied}
use Rattle.pv_model.specs.declared.outcome.Cause.TheVariants.{Unveil as ByUnveil}
use Rattle.std.specs.Prelude.{None, Some}
use Rattle.pv_calls_path.proofs.CheckedWalks.{fine_directory, judged_stop, judged_as}
use Rattle.pv_calls_path.proofs.reach.reach_from.Goals as goal

pub returns-in_err-place-clause-stops : goal.returns-in_err-place-clause-stops
returns-in_err-place-clause-stops g c =
    let p = err_from_is_err_and c.from_residual.result c.from_residual.ensures.1 in
    let lost = rw c.as_slice.ensures.value at c.in_err-place.ensures.nowhere.lost in
    rw (p.1, p.2) (record {
      stopped = λ me at rest. lost (λ place. judge_for c.args.parts.now me place c.args.walk.needed >> rest place);
      few = c.in_err-place.ensures.nowhere.few;
    })

pub judge-requires : goal.judge-requires
judge-requires g c = rw c.tree.ensures (fine_directory c.args.parts.now.tree c.in_ok-place.place c.in_ok-place.ensures.leads.fine)

pub returns-in-Allowed-clause-reaches : goal.returns-in-Allowed-clause-reaches
returns-in-Allowed-clause-reaches g c = record {
  reached = λ me at. record {
    walked = rw c.as_slice.ensures.value at c.in_ok-place.ensures.leads.walked;
    judged = ap judgement_or_refusal
        (judged_as c.args.parts.now c.args.pid me at c.record.result.now c.record.ensures c.tree.result.now.tree c.tree.ensures c.in_ok-place.place c.args.walk.needed Allowed c.in-Allowed.ensures.value);
    fine = c.in_ok-place.ensures.leads.fine;
  };
  fine = c.in_ok-place.ensures.leads.fine;
}

pub returns-in-Hidden-clause-stops : goal.returns-in-Hidden-clause-stops
returns-in-Hidden-clause-stops g c = record {
  stopped = λ me at.
      let s = c.args.parts.now in
      judged_stop s me c.args.start (walk_of c.args.walk) c.in_ok-place.place Hidden ENOENT (ByUnveil None) (rw c.as_slice.ensures.value at c.in_ok-place.ensures.leads.walked)
      (judged_as s c.args.pid me at c.record.result.now c.record.ensures c.tree.result.now.tree c.tree.ensures c.in_ok-place.place c.args.walk.needed Hidden c.in-Hidden.ensures.value) refl;
  few = omega arith;
}

pub returns-in-Denied-clause-stops : goal.returns-in-Denied-clause-stops
returns-in-Denied-clause-stops g c = record {
  stopped = λ me at.
      let s = c.args.parts.now in
      judged_stop s me c.args.start (walk_of c.args.walk) c.in_ok-place.place (Denied c.in-Denied.entry) EACCES (ByUnveil (Some c.in-Denied.entry)) (rw c.as_slice.ensures.value at c.in_ok-place.ensures.leads.walked)
      (judged_as s c.args.pid me at c.record.result.now c.record.ensures c.tree.result.now.tree c.tree.ensures c.in_ok-place.place c.args.walk.needed (Denied c.in-Denied.entry) c.in-Denied.ensures.value) refl;
  few = omega arith;
}
