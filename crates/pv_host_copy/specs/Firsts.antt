-- The first paths of files and symbolic links.
use Rattle.std.specs.Prelude.{Bool}
use Rattle.pv_model.specs.declared.version.Version.{Version}
use Rattle.pv_model.specs.Machine.{Bytes}
use Rattle.pv_host_copy.specs.declared.entry.Identity.{Identity}
use Rattle.pv_host_copy.specs.declared.first.First.{First}
use Rattle.pv_host_copy.specs.declared.skipped.Skipped.{Skipped}
use Rattle.pv_host_copy.specs.declared.fault.SkipReason.{SkipReason}
use Rattle.pv_image_manifest.specs.Paths.{is_path}

abbrev pub identity_and_path : First → Identity × Bytes
identity_and_path first = (first.identity, first.path.items)

-- its path is one of an entry
abbrev pub has_path : Version → First → Bool
has_path v first = is_path v first.path.items

abbrev pub skipped_pair : Skipped → Bytes × SkipReason
skipped_pair reported = (reported.path.items, reported.why)
