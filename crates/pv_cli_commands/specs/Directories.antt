-- Import of directories as images, and export of trees to directories.
use Rattle.std.specs.Prelude.{◌≡◌, ◌⊎◌, ℕ, List, [], map, Option, None, Some, Result, Ok, Err, IfErr, OnOk}
use Rattle.std.specs.Borrow.{Bor}
use Rattle.pv_host_copy.specs.Encoded.{encoded_entries}
use Rattle.pv_host_copy.specs.Hosts.{HostEntries}
use Rattle.pv_host_copy.specs.Unpacked.{WritesExport}
use Rattle.pv_host_copy.specs.Written.{Imports}
use Rattle.pv_host_copy.specs.declared.image.ImportStop.{ImportStop}
use Rattle.pv_host_copy.specs.declared.image.ImportStop.TheVariants as import
use Rattle.pv_host_copy.specs.declared.unpacking.ExportFault.{ExportFault}
use Rattle.pv_host_copy.specs.declared.unpacking.ExportFault.TheVariants as export
use Rattle.pv_image_manifest.specs.Entries.{entry_of_line}
use Rattle.pv_image_manifest.specs.declared.manifest.Manifest.{Manifest}
use Rattle.pv_model.specs.declared.stream.Sink.{Ghosts as Writing}
use Rattle.pv_model.specs.Machine.{Bytes, Entry, Tree}
use Rattle.pv_questions.specs.Failures.{IsFailureOf}
use Rattle.pv_questions.specs.Trees.{GivesManifestOf, manifest_in, read_manifest_of, input_tree}
use Rattle.pv_questions.specs.declared.failure.Failure.{Failure}
use Rattle.pv_questions.specs.declared.failure.Failure.TheVariants.{Read, Memory, Write, Refused}
use Rattle.pv_questions.specs.declared.failure.Origin.TheVariants.{Directory as FromDirectory}
use Rattle.pv_questions.specs.declared.failure.Refusal.TheVariants.{Entries}
use Rattle.pv_questions.specs.declared.failure.Target.TheVariants.{Directory, Errors, File, Node}
use Rattle.pv_questions.specs.declared.input.Input.{Input}
use Rattle.pv_cli_commands.specs.declared.command.Import.{Import}
use Rattle.pv_cli_commands.specs.Streams.{Disk, FailsToTake, Host, IsCreatedOn, IsEmptiedOn}
use Rattle.pv_cli_commands.specs.Writing.{Becomes, CreatesFile}

abbrev pub of_import : ImportStop → Failure
of_import import.Read = Read FromDirectory
of_import import.Memory = Memory
of_import import.Refused = Refused Entries
of_import import.WriteLines = Write Errors
of_import import.WriteImage = Write File

-- the image of a directory and of some entries was written, and the skipped entries were reported
pub record ImportsEntries {V E : Type 0} (writing : Writing V) (reporting : Writing E) (asked : Import) (given : List (ℕ × Entry)) (known : Option HostEntries)
    (before after : V) (unreported reported : E) (end : Result (Unit {0}) ImportStop) : Type 0 where
  pub imports : Imports asked.version given asked.skips known end (writing.written before) (writing.written after) (reporting.written unreported) (reporting.written reported)
  pub flushed : OnOk end (writing.buffered after ≡ 0)
  -- a failed write was counted
  pub write_lines : end ≡ Err import.WriteLines → FailsToTake reporting unreported reported
  pub write_image : end ≡ Err import.WriteImage → FailsToTake writing before after

module _ {F R V E : Type 0} (disk : Disk F R V) (reporting : Writing E) (entries : Bytes → Option HostEntries) (asked : Import) where
  -- the same, to the file with a name; or the directory, whose entries are not known, could not be opened
  abbrev pub ImportsGiven : List (ℕ × Entry) → E → E → Result (Unit {0}) Failure → Type 0
  ImportsGiven given unreported reported result =
      CreatesFile disk asked.image.now result (reported ≡ unreported) (λ before after. (end : Result (Unit {0}) ImportStop)
      × ImportsEntries disk.writing reporting asked given (entries asked.directory.now) before after unreported reported end × Becomes of_import end result)
      ⊎ ((entries asked.directory.now ≡ None) × (result ≡ Err (Read FromDirectory)) × (reported ≡ unreported))

  -- the same with the entries of a manifest or bundle; or it is refused
  abbrev pub ImportsSource : Input → E → E → Result (Unit {0}) Failure → Type 0
  ImportsSource source unreported reported result =
      ((manifest : Manifest) × GivesManifestOf (Ok manifest) (read_manifest_of source.bytes.items)
      × ImportsGiven (map entry_of_line manifest.entries.items) unreported reported result)
      ⊎ (IfErr result (IsFailureOf (manifest_in source.bytes.items)) × (reported ≡ unreported))

  -- the same if a source is named; otherwise no entry is added
  abbrev pub ImportsNamed : Option (Bor Bytes) → Input → E → E → Result (Unit {0}) Failure → Type 0
  ImportsNamed None source unreported reported result = ImportsGiven [] unreported reported result
  ImportsNamed (Some name) source unreported reported result = ImportsSource source unreported reported result

  abbrev pub ImportsDirectory : Input → E → E → Result (Unit {0}) Failure → Type 0
  ImportsDirectory source unreported reported result = ImportsNamed asked.source source unreported reported result

abbrev pub of_export : ExportFault → Failure
of_export export.Memory = Memory
of_export export.Make = Write Node
of_export export.WriteLine = Write Errors

-- a tree was made in a directory, or a prefix of its entries and the failure was reported
pub record ExportsTree {T E : Type 0} (made : T → Option (List Entry)) (reporting : Writing E) (t : Tree) (before after : T) (unreported reported : E) (end : Result (Unit {0}) ExportFault)
    : Type 0 where
  pub exports : WritesExport (encoded_entries t) (made before) (made after) (reporting.written unreported) end (reporting.written reported)
  pub write_line : end ≡ Err export.WriteLine → FailsToTake reporting unreported reported

-- the same for the tree of an input, in the empty directory with a name; or the input is refused, or the directory could
-- not be created, and nothing was reported
abbrev pub ExportsInput : {F T E : Type 0} → Host F T → Writing E → Bytes → Input → E → E → Result (Unit {0}) Failure → Type 0
ExportsInput {F} {T} host reporting directory input unreported reported result =
    ((t : Tree) × (input_tree input.format input.bytes.items ≡ Ok t) × (before after : T) × IsEmptiedOn host directory before
    × (end : Result (Unit {0}) ExportFault) × ExportsTree host.made reporting t before after unreported reported end × Becomes of_export end result)
    ⊎ ((IfErr result (IsFailureOf (input_tree input.format input.bytes.items)) ⊎ (result ≡ Err (Write Directory))) × (reported ≡ unreported))
