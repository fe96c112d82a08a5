use Rattle.std.proofs.Common.{sym}
use Rattle.pv_streams.proofs.WriterContracts.{writes_as, writes_none}
use Rattle.pv_step_lines.proofs.EntryOrigins.{no-source, source-earlier, source-now}
use Rattle.pv_step_lines.proofs.levels.OriginTextFragment.write.Goals as goal

pub returns-in_default : goal.returns-in_default
returns-in_default g c = writes_as (sym (no-source c.args.self.now.origins.now c.args.self.now.entry c.in_default.ensures.lookup.0)) writes_none

pub returns-then-origin : goal.returns-then-origin
returns-then-origin g c =
    let at = c.in-Some.ensures.lookup in
    writes_as (source-earlier c.args.self.now.origins.now c.args.self.now.entry c.in-Some.origin.now at.0 at.1 c.from.result c.from.ensures c.if-origin.true) c.write.ensures

pub returns-else-origin : goal.returns-else-origin
returns-else-origin g c =
    let at = c.in-Some.ensures.lookup in
    writes_as (source-now c.args.self.now.origins.now c.args.self.now.entry c.in-Some.origin.now at.0 at.1 c.from.result c.from.ensures c.if-origin.false) c.write-else-origin.ensures
