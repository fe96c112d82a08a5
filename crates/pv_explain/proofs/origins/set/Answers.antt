use Rattle.std.proofs.Common.{◌∙◌, ap, length, arith}
use Rattle.pv_step_lines.specs.Origin.{settings_in}
use Rattle.pv_explain.proofs.ProcessOrigins.{set-there, set-next}
use Rattle.pv_explain.proofs.origins.set.Goals as goal

pub returns-then-entry-as_slice : goal.returns-then-entry-as_slice
returns-then-entry-as_slice c =
    ap settings_in c.replace.ensures ∙ set-there c.args.origins.now.items c.args.entry c.args.origin (omega (arith, ap length c.as_slice.ensures.value, c.if-entry-as_slice.true))

pub returns-else-entry-as_slice : goal.returns-else-entry-as_slice
returns-else-entry-as_slice c =
    ap settings_in c.push.ensures.items ∙ set-next c.args.origins.now.items c.args.entry c.args.origin (omega (arith, ap length c.as_slice.ensures.value, c.if-entry-as_slice.false))
