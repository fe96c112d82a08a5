use Rattle.std.proofs.Common.{◌≡◌, ◌∙◌, ◌+◌, ◌++◌, ap, flat_map, sym, take}
use Rattle.pv_model.specs.Machine.{counted_from}
use Rattle.pv_policy.specs.Usage.{usage_bytes}
use Rattle.pv_policy.proofs.ListSteps.{counted-next}
use Rattle.pv_policy.proofs.writing.push_programs.Goals as goal

pub loop-k-preserved : goal.loop-k-preserved
loop-k-preserved c =
    let f = usage_bytes c.args.tree.now.tree c.args.complete in
    let first = c.args.out.now.bytes.items in
    let programs = c.args.programs.now in
    let k = c.loop-k.k in
    let x = c.index-programs-k.result in
    c.in_ok-push_program.ensures
    ∙ ap (λ bs. bs ++ f (k + 1, x)) c.loop-k.invariant
    ∙ ap (λ u. (first ++ flat_map f (counted_from 1 (take k programs))) ++ f (k + 1, u)) c.index-programs-k.is
    ∙ sym (counted-next f first programs k x c.loop-k-test.true)
