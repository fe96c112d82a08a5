use Rattle.std.proofs.Common.{arith, rules}
use Rattle.std.proofs.lemmas.Bool.Decides.{nat_tests}
use Rattle.pv_cli_line.proofs.MessageParts.{text_begun, text_grown, text_refused}
use Rattle.pv_cli_line.proofs.message.write_parts.Goals as goal

pub loop-number-init : goal.loop-number-init
loop-number-init g c = text_begun g.W.Sink c.args.sink.now

pub returns-in_err-write_whole : goal.returns-in_err-write_whole
returns-in_err-write_whole g c =
    text_refused g.W.Sink _ _ _ _ _ c.from_residual.result c.loop-number.invariant c.in_err-write_whole.ensures.prefix c.in_err-write_whole.ensures.failed (search rules)

pub loop-number-preserved : goal.loop-number-preserved
loop-number-preserved g c =
    let wrote = c.in_ok-write_whole.ensures in
    text_grown g.W.Sink _ _ _ _ _ _ c.in-Some.field-0-1.now c.in-Some.last.now c.loop-number.invariant wrote.whole wrote.quiet c.in-Some.ensures.cases.0
    (λ newline. grind (arith, nat_tests))
