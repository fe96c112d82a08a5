use Rattle.std.proofs.Common.{◌∙◌, ap}
use Rattle.std.specs.FinMap.Entries.{find}
use Rattle.std.specs.Option.{unwrap_or}
use Rattle.std.specs.Ordering.{nat_cmp}
use Rattle.pv_answers.proofs.LocationLines.{live-words-are}
use Rattle.pv_streams.proofs.WriterContracts.{writes_as}
use Rattle.pv_answers.proofs.location.write_live.Goals as goal

pub returns : goal.returns
returns g c =
    let seen = c.processes-processes.ensures in
    let parent = c.unwrap_or.ensures ∙ ap (λ o. unwrap_or o 0) (rw seen at c.parent_of.ensures) in
    writes_as
    (live-words-are (find nat_cmp c.args.pid c.args.parts.now.processes) c.record.result.now c.program.result.now _ _ _ c.record.ensures (rw seen at c.program.ensures)
    parent (c.from.ensures ∙ c.line.ensures) c.len.ensures.value)
    c.write.ensures
