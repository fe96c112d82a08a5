use Rattle.std.proofs.Common.{◌∙◌, ap}
use Rattle.std.specs.Prelude.{option_copied}
use Rattle.pv_answers.specs.declared.reach.reacher.Reacher.{Reacher}
use Rattle.pv_answers.proofs.PermissionLines.{record-is}
use Rattle.pv_streams.proofs.WriterContracts.{writes_as}
use Rattle.pv_answers.proofs.reach.write_reach_of.Goals as goal

pub returns-in-Some : goal.returns-in-Some
returns-in-Some g c =
    let x : Reacher = record { parts = c.args.parts; owned = c.in-Some.owned; pid = c.args.pid } in
    let is = record-is x (c.live_record.ensures ∙ ap option_copied c.in-Some.is) in
    writes_as is c.write_process.ensures
