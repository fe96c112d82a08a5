use Rattle.std.proofs.Common.{◌≡◌, ◌∙◌, ap, sym, subst, true, is_some, arith, refl}
use Rattle.std.proofs.lemmas.Result.{err_from_is_err_and}
use Rattle.pv_calls_plain.specs.OfCallsState.Attempts.{collected_attempt}
use Rattle.pv_calls_plain.specs.OfCallsState.Changes.{unveiled_of, with_table}
use Rattle.pv_model.specs.declared.target.Target.{Target}
use Rattle.pv_model.specs.Machine.{refused, collect, State, process_at, with_process, Tree, find_entry, node_at, target_of, target_directory}
use Rattle.pv_calls_plain.specs.OfUnveil.Added.{add_to}
use Rattle.pv_calls_plain.proofs.OfCallsState.UncountedChanges.{some-at}
use Rattle.pv_calls_path.proofs.UnveilCalls.{walked_by, lost_by, place_target, is_unlocked, unveil_lost, unveil_refused, unveil_added, leaves}
use Rattle.pv_calls_path.proofs.unveil.unveil_path.Goals as goal

pub unveil-requires-clause-there : goal.unveil-requires-clause-there
unveil-requires-clause-there g c =
    let s = c.args.system.now.parts in
    let target = c.target_of-target.ensures ∙ ap (λ (t : Tree). target_of t c.to_place.result) c.tree.ensures ∙ ap (target_of s.tree) c.to_place.ensures in
    subst (λ (x : Target). is_some (node_at s.tree (target_directory x)) ≡ true) (sym target)
    (place_target s.tree c.in_ok-place.place c.in_ok-place.ensures.leads.fine)

pub returns-in-Ok-clause-performed : goal.returns-in-Ok-clause-performed
returns-in-Ok-clause-performed g c =
    let s = c.args.system.now.parts in
    let target = c.target_of-target.ensures ∙ ap (λ (t : Tree). target_of t c.to_place.result) c.tree.ensures ∙ ap (target_of s.tree) c.to_place.ensures in
    record {
      as_defined = λ me at.
          let walked = walked_by s c.args.pid me at c.record-record.result.now c.record-record.ensures c.args.path.now c.in_ok-place.place c.in_ok-place.ensures.leads.walked in
          let unlocked = is_unlocked s c.args.pid me at c.record-record.result.now c.record-record.ensures (sym c.is_locked.ensures ∙ c.if-is_locked.false) in
          let added = c.in-Ok.ensures.added me at in
          rw c.answer_of.ensures
          (leaves _ (collect (with_process s c.args.pid (with_table added.table me))) c.unveil.new.self
          (ap collected_attempt (unveil_added s c.args.pid me c.args.path.now c.args.permissions.now c.in-Some.permissions (sym c.in-Some.ensures) unlocked c.in_ok-place.place walked added.table (ap (λ (x : Target). add_to (unveiled_of me) x c.in-Some.permissions) (sym target) ∙ added.added)))
          (ap collect (sym added.only) ∙ c.invariant.ensures.collected));
      unchanged = rw c.answer_of.ensures tt;
      small = rw c.answer_of.ensures (omega arith);
    }

pub returns-in-Ok-clause-agrees : goal.returns-in-Ok-clause-agrees
returns-in-Ok-clause-agrees g c =
    let s = c.args.system.now.parts in
    let me = some-at (process_at s c.args.pid) c.requires.caller.live in
    g.met.L.Lookup.same_answers c.walk_to.new.lookup (find_entry s.tree) (find_entry c.unveil.new.self.tree)
    c.walk_to.ensures.agrees
    (λ d n. ap (λ (x : State). find_entry x.tree d n) (c.in-Ok.ensures.added me.0 me.1).only)

pub returns-in-Err-clause-performed : goal.returns-in-Err-clause-performed
returns-in-Err-clause-performed g c =
    let s = c.args.system.now.parts in
    let target = c.target_of-target.ensures ∙ ap (λ (t : Tree). target_of t c.to_place.result) c.tree.ensures ∙ ap (target_of s.tree) c.to_place.ensures in
    let reported = c.answer_to-in-Err in
    record {
      as_defined = λ me at.
          let walked = walked_by s c.args.pid me at c.record-record.result.now c.record-record.ensures c.args.path.now c.in_ok-place.place c.in_ok-place.ensures.leads.walked in
          let unlocked = is_unlocked s c.args.pid me at c.record-record.result.now c.record-record.ensures (sym c.is_locked.ensures ∙ c.if-is_locked.false) in
          ap collected_attempt (unveil_refused s c.args.pid me c.args.path.now c.args.permissions.now c.in-Some.permissions (sym c.in-Some.ensures) unlocked c.in_ok-place.place walked reported.result.errno reported.result.cause
          (ap (λ (x : Target). add_to (unveiled_of me) x c.in-Some.permissions) (sym target) ∙ c.in-Err.ensures.refused me at ∙ reported.ensures.fault))
          ∙ ap (λ w. refused w reported.result.errno reported.result.cause) (sym reported.ensures.walks);
      unchanged = c.in-Err.ensures.unchanged;
      small = tt;
    }

pub returns-in_err-place-clause-performed : goal.returns-in_err-place-clause-performed
returns-in_err-place-clause-performed g c =
    let s = c.args.system.now.parts in
    let p = err_from_is_err_and c.from_residual.result c.from_residual.ensures.1 in
    record {
      as_defined = λ me at.
          let unlocked = is_unlocked s c.args.pid me at c.record-record.result.now c.record-record.ensures (sym c.is_locked.ensures ∙ c.if-is_locked.false) in
          let lost = lost_by s c.args.pid me at c.record-record.result.now c.record-record.ensures c.args.path.now _ c.in_err-place.ensures.nowhere.lost in
          rw (p.1, p.2) (ap collected_attempt (unveil_lost s c.args.pid me c.args.path.now c.args.permissions.now c.in-Some.permissions (sym c.in-Some.ensures) unlocked _ lost));
      unchanged = rw p.1 refl;
      small = rw p.1 tt;
    }
