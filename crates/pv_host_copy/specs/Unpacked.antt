-- The report of an export.
use Rattle.std.specs.Prelude.{◌≡◌, List, Option, Result, Ok, Err}
use Rattle.pv_model.specs.Machine.{Bytes, Entry}
use Rattle.pv_streams.specs.Sinks.{and_all, WritesPrefix}
use Rattle.pv_host_copy.specs.declared.unpacking.ExportFault.{ExportFault}
use Rattle.pv_host_copy.specs.declared.unpacking.ExportFault.TheVariants.{Memory, Make, WriteLine}
use Rattle.pv_host_copy.specs.Exported.{MakesPrefix, MakesUpTo}
use Rattle.pv_host_copy.specs.Lines.{line_of_missing_node}
use Rattle.pv_host_copy.specs.Encoded.{and_all_made}

-- it was reported that a node was not created at a path
abbrev pub ReportsUnmade : Bytes → (unreported : Option Bytes) → ExportFault → (reported : Option Bytes) → Type 0
ReportsUnmade path unreported Make reported = reported ≡ and_all unreported (line_of_missing_node path)
ReportsUnmade path unreported WriteLine reported = WritesPrefix (line_of_missing_node path) unreported reported
ReportsUnmade path unreported Memory reported = reported ≡ unreported

-- all of these entries were created, and nothing was reported; or the export stopped, and its path was reported
abbrev pub WritesExport : List Entry → (before after : Option (List Entry)) → (unreported : Option Bytes) → Result (Unit {0}) ExportFault → (reported : Option Bytes) → Type 0
WritesExport entries before after unreported (Ok done) reported = (after ≡ and_all_made before entries) × (reported ≡ unreported)
WritesExport entries before after unreported (Err Memory) reported = MakesPrefix entries before after × (reported ≡ unreported)
WritesExport entries before after unreported (Err Make) reported = (path : Bytes) × MakesUpTo path entries before after × (reported ≡ and_all unreported (line_of_missing_node path))
WritesExport entries before after unreported (Err WriteLine) reported = (path : Bytes) × MakesUpTo path entries before after × WritesPrefix (line_of_missing_node path) unreported reported
