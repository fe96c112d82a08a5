use Rattle.std.proofs.Common.{w32, arith}
use Rattle.std.proofs.lemmas.Int.{to_z_pos}
use Rattle.pv_calls_plain.proofs.ReportedCollections.{reported_front}
use Rattle.pv_calls_plain.proofs.answer.report_front.Goals as goal

pub returns : goal.returns
returns c = λ before s after me bytes long left.
    reported_front before s c.args.parts.now c.args.pid me c.invariant.ensures.processes.ascending c.args.reported bytes after _ c.report.new.self c.args.len left
    (to_z_pos w32 c.args.reported.value (omega (arith, c.requires.small))) long c.report.ensures
