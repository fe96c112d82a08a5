use Rattle.std.proofs.Common.{◌∙◌, ap, sym}
use Rattle.pv_model.specs.Machine.{answer_bytes, call_of, process_at}
use Rattle.pv_streams.proofs.WriterContracts.{writes_as, writes_none}
use Rattle.pv_explain.proofs.ErrorLines.{no-lines}
use Rattle.pv_explain.proofs.error_text.write_error.Goals as goal

pub returns-in_default : goal.returns-in_default
returns-in_default g c =
    writes_as (ap answer_bytes (sym (no-lines c.args.pid c.args.parts.now (process_at c.args.parts.now c.args.pid) (call_of c.args.call) c.args.outcome (sym c.plain_error.ensures ∙ c.in_default.is))))
    writes_none
