use Rattle.std.proofs.Common.{[], refl}
use Rattle.pv_host_copy.proofs.WholeImport.{imported-reported}
use Rattle.pv_host_copy.proofs.import.import_tree.Goals as goal

pub returns-clause-reported : goal.returns-clause-reported
returns-clause-reported g c =
    imported-reported c.args.version _ [] _ _ c.in_ok-importing.ensures.version refl c.in_ok-importing.ensures.holds (g.D.HostDirectory.rest c.args.directory)
    c.in_ok-import_directory.ensures.goes
