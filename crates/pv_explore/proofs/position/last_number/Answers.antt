use Rattle.std.proofs.Common.{◌∙◌, ◌+◌, ap, is_some, sym}
use Rattle.pv_explore.proofs.LastProcessNumbers.{number-next}
use Rattle.pv_step_lines.specs.OfProcs.ProcessTable.{ProcessTable, process_in}
use Rattle.pv_explore.proofs.position.last_number.Goals as goal

pub returns-then-live : goal.returns-then-live
returns-then-live c =
    number-next c.args.parts.now c.args.known c.requires.whole c.requires.gave
    (ap (λ (t : ProcessTable). is_some (process_in t (c.args.known + 1))) (sym c.processes.ensures) ∙ sym c.live.ensures ∙ c.if-live.true)
