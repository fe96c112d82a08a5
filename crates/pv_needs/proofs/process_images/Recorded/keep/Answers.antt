use Rattle.std.proofs.Common.{◌∙◌, ap, slice_set, subst}
use Rattle.std.proofs.lemmas.Result.{on_ok_weaker}
use Rattle.pv_needs.specs.ProcessImages.{IsProcessMore, process_more}
use Rattle.pv_needs.proofs.RecordLists.{process-set}
use Rattle.pv_needs.proofs.process_images.Recorded.keep.Goals as goal

pub returns : goal.returns
returns c =
    let grown = c.reach_to.new.processes.items in
    on_ok_weaker c.keep.result
    (λ e. subst (λ old. IsProcessMore old c.args.pid c.args.asked (slice_set grown c.args.pid c.keep.new.self)) c.self.view_is
    (process-set c.self.inside.processes.items grown c.args.pid c.args.asked c.keep.new.self c.index_mut.result.now c.in_ok-reach_to.ensures.same c.in_ok-reach_to.ensures.reached
    (e ∙ ap (λ x. process_more x c.args.asked) c.index_mut.ensures.value)))
    c.keep.ensures
