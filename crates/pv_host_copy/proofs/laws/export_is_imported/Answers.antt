use Rattle.pv_host_copy.proofs.ImportOfExport.{export-is_imported}
use Rattle.pv_host_copy.proofs.laws.export_is_imported.Goals as goal

pub returns : goal.returns
returns c = export-is_imported
