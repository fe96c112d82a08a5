-- The lines that report skipped entries, entries that could not be added, and nodes that were not created.
use Rattle.std.specs.Prelude.{◌++◌, codes}
use Rattle.pv_model.specs.Machine.{Bytes, listed_path, quote}
use Rattle.pv_image_manifest.specs.declared.fault.EntryFault.{EntryFault}
use Rattle.pv_image_manifest.specs.declared.fault.EntryFault.TheVariants.{Parent, Exists, Source, Room}
use Rattle.pv_host_copy.specs.declared.fault.SkipReason.{SkipReason}
use Rattle.pv_host_copy.specs.declared.fault.SkipReason.TheVariants.{Name, Size, Text, Kind}

-- the end of a line: the reason for skipping a path, in a word
abbrev pub ending : SkipReason → Bytes
ending Name = codes ": name\n"
ending Size = codes ": size\n"
ending Text = codes ": text\n"
ending Kind = codes ": kind\n"

-- the end of a line: why a path could not be added
abbrev pub refused_ending : EntryFault → Bytes
refused_ending Parent = codes ": parent\n"
refused_ending Exists = codes ": exists\n"
refused_ending Source = codes ": source\n"
refused_ending Room = codes ": room\n"

-- the line of a path with this end
abbrev pub import_path_line : Bytes → Bytes → Bytes
import_path_line path end = codes "pvsim: import: " ++ quote (listed_path path) ++ end

-- the line of a skipped path
abbrev pub skipped_line : Bytes × SkipReason → Bytes
skipped_line (path, why) = import_path_line path (ending why)

-- the line of a path that could not be added
abbrev pub refused_line : Bytes × EntryFault → Bytes
refused_line (path, fault) = import_path_line path (refused_ending fault)

-- the line of a path whose node was not created
abbrev pub line_of_missing_node : Bytes → Bytes
line_of_missing_node path = codes "pvsim: export: " ++ quote (listed_path path) ++ codes ": write\n"
