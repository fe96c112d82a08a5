use Rattle.std.proofs.Common.{◌∙◌}
use Rattle.pv_reduced.proofs.LivenessComputation.{last-table, table-added, tables-left}
use Rattle.pv_reduced.proofs.live_tables.add_program.Goals as goal

pub returns-in-Ok-clause-tables : goal.returns-in-Ok-clause-tables
returns-in-Ok-clause-tables c =
    table-added c.args.programs.now c.args.lines.now.items c.args.part.now c.args.program.now c.requires.encoded c.requires.tables _ _ _ c.requires.other c.in_ok-live.ensures c.in_ok-push.ensures.items c.in-Ok.ensures.added

pub returns-in-Ok-clause-there : goal.returns-in-Ok-clause-there
returns-in-Ok-clause-there c =
    last-table c.args.lines.now.items _ _ c.args.program.now _ c.in_ok-push.ensures.items c.in_ok-live.ensures (c.len-number.ensures ∙ c.args.lines.now.ok.0)

pub returns-in-Err-clause-tables : goal.returns-in-Err-clause-tables
returns-in-Err-clause-tables c =
    tables-left c.args.programs.now c.args.lines.now.items c.args.part.now c.args.program.now c.requires.encoded c.requires.tables _ _ _ _ _ c.in-Err.ensures.unchanged c.in_ok-push.ensures.items c.truncate.ensures.items
    (c.len-number.ensures ∙ c.args.lines.now.ok.0)
