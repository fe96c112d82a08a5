use Rattle.std.proofs.Common.{◌+◌, Option, ap, sym, subst, ◌∙◌}
use Rattle.std.specs.Option.{option_copied}
use Rattle.pv_model.specs.Machine.{entry_length, Bytes}
use Rattle.pv_dirs.specs.Dirs.{directory_bytes}
use Rattle.pv_dirs.specs.Listing.{IsNextOf}
use Rattle.pv_dirs.specs.Slots.{IsInSlots}
use Rattle.pv_dirs.proofs.NamedInodes.{next-skipped, next-taken}
use Rattle.pv_dirs.proofs.SlotRuns.{run_after}
use Rattle.pv_dirs.proofs.dir.Dir.next_with.Goals as goal
use Rattle.pv_dirs.proofs.dir.Dir.next_with.Goals.{then-number_in-node, else-number_in-node}

pub loop-k-preserved : goal.loop-k-preserved
loop-k-preserved c =
    let v = c.args.self.now.inodes.now.version in
    let bytes = directory_bytes c.args.self.now in
    let last = option_copied c.args.last in
    let whole = c.layout-length.ensures.slot_length ∙ ap entry_length c.version.ensures in
    let is_next = λ (best : Option Bytes). IsNextOf (IsInSlots v bytes (c.loop-k.k + 1) c.args.node) last best in
    record {
      best = elim c.if-number_in-node.branch [
        | then-number_in-node w ↦
            subst is_next (sym (w.best-is ∙ w.improve_by_copy.ensures.best))
            (next-taken v bytes c.args.node last c.loop-k.k c.loop-k.best c.loop-k.invariant.best (sym c.number_in.ensures ∙ w.if-number_in-node.true))
        | else-number_in-node w ↦
            subst is_next (sym w.best-is)
            (next-skipped v bytes c.args.node last c.loop-k.k c.loop-k.best c.loop-k.invariant.best (λ same. w.if-number_in-node.false (c.number_in.ensures ∙ same)))
      ];
      run = rw c.rest_of-left.ensures (run_after v bytes c.run_at-run.result.now c.loop-k.k c.layout-length.result.slot_length whole c.run_at-run.ensures);
    }
