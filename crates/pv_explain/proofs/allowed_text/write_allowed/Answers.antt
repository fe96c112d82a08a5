use Rattle.std.proofs.Common.{sym}
use Rattle.pv_streams.proofs.WriterContracts.{writes_as, writes_both, writes_failed, writes_longer}
use Rattle.pv_explain.specs.Added.{allowed_line_of}
use Rattle.pv_explain.proofs.AllowedLines.{lines-append}
use Rattle.pv_explain.proofs.allowed_text.write_allowed.Goals as goal

pub returns-in_err-write_begun : goal.returns-in_err-write_begun
returns-in_err-write_begun g c =
    writes_failed c.from_residual.ensures.0 (writes_as (sym (lines-append (allowed_line_of c.args.context.now) _ _)) (writes_longer _ c.in_err-write_begun.ensures))

pub returns : goal.returns
returns g c = writes_as (sym (lines-append (allowed_line_of c.args.context.now) _ _)) (writes_both c.in_ok-write_begun.ensures c.write_begun-second.ensures)
