use Rattle.std.proofs.Common.{◌+◌, ap, ◌∙◌, sym, subst}
use Rattle.pv_calls_state.specs.Counts.{IsCountedUp}
use Rattle.pv_files.specs.Counted.{no_files}
use Rattle.pv_model.specs.Machine.{root}
use Rattle.pv_procs.specs.OfTree.Holding.{HeldTree, IsUnheld}
use Rattle.pv_calls_state.proofs.FirstCounts.{first-counted}
use Rattle.pv_calls_state.proofs.parts.Parts.new.Goals as goal

pub invariant_of-result : goal.invariant_of-result
invariant_of-result c =
    let unheld = subst (λ (t : HeldTree). IsUnheld t.holds) (sym c.into_inner-tree.ensures) c.into_tree.ensures.unheld in
    subst (λ files. IsCountedUp c.hold.new.self files c.in_ok-processes.processes) (sym c.in_ok-files.ensures)
    (subst (λ processes. IsCountedUp c.hold.new.self no_files processes) (sym c.in_ok-processes.ensures)
    (first-counted c.hold.new.self c.args.program (c.hold.ensures.more ∙ ap (λ n. n + 1) (unheld root)) (λ n other. c.hold.ensures.others n other ∙ unheld n)))
