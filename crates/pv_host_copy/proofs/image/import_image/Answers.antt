use Rattle.std.proofs.Common.{refl}
use Rattle.pv_host_copy.proofs.WholeImport.{imports-stop}
use Rattle.pv_host_copy.proofs.image.import_image.Goals as goal

pub returns-in-Err-clause-imports : goal.returns-in-Err-clause-imports
returns-in-Err-clause-imports g c =
    imports-stop c.args.version _ c.args.skips _ _ _ _ (g.D.HostDirectory.rest c.args.directory) c.in-Err.stop c.report_stop.result c.in-Err.ensures.stopped c.report_stop.ensures.reports refl
