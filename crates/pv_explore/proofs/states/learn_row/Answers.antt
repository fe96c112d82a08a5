use Rattle.std.proofs.Common.{◌∙◌, ap, subst, take, ℕ}
use Rattle.std.specs.Global.{Vec}
use Rattle.pv_explore.specs.Rows.{IsAmong, number_in, parts_in}
use Rattle.pv_explore.proofs.StateRows.{all-grew, all-next, grew-then, learnt-among, learnt-grew, row-learnt}
use Rattle.pv_explore.proofs.states.learn_row.Goals as goal

pub loop-part-preserved : goal.loop-part-preserved
loop-part-preserved c =
    let old = c.loop-part.parts in
    let new = c.number.new.self in
    let part = c.deref.result.now in
    let i = c.loop-part.part-index in
    let group = c.args.group.now in
    let is = c.deref.ensures.value ∙ ap (λ (p : Vec ℕ). p.items) c.part-item.is in
    let grew = learnt-grew old new part c.in_ok-number.ensures.added in
    record {
      grew = grew-then c.args.parts.now old new c.loop-part.invariant.grew grew;
      visited =
          all-next (λ (p : Vec ℕ). p.items) group i c.part-item.result (IsAmong new) c.loop-part-test.true (all-grew old new (take i (parts_in group)) grew c.loop-part.invariant.visited)
          (subst (IsAmong c.number.new.self) is (learnt-among old new part c.in_ok-number.ensures.added));
      row =
          row-learnt (λ (p : Vec ℕ). p.items) group i c.part-item.result old new c.in_ok-number.number _ _ grew c.loop-part-test.true c.loop-part.invariant.visited
          (c.in_ok-number.ensures.number ∙ ap (number_in c.number.new.self) is) c.loop-part.invariant.row c.in_ok-push_number.ensures;
    }

pub returns-in_err-push_number-clause-grew : goal.returns-in_err-push_number-clause-grew
returns-in_err-push_number-clause-grew c = grew-then c.args.parts.now c.loop-part.parts c.number.new.self c.loop-part.invariant.grew (learnt-grew c.loop-part.parts c.number.new.self c.deref.result.now c.in_ok-number.ensures.added)
