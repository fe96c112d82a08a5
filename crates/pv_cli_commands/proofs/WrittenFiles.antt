-- Files that were written by a run and by an import.
use Rattle.std.proofs.Common.{◌≡◌, subst, inl, inr, ℕ, Bool, List, Option, Some, Result, Ok, Err}
use Rattle.std.specs.Prelude.{map, IsErrAnd, OnOk}
use Rattle.pv_host_copy.specs.Hosts.{HostEntries}
use Rattle.pv_host_copy.specs.Written.{Imports}
use Rattle.pv_host_copy.specs.declared.image.ImportStop.{ImportStop}
use Rattle.pv_host_copy.specs.declared.image.ImportStop.TheVariants as import
use Rattle.pv_image_manifest.specs.Entries.{entry_of_line}
use Rattle.pv_image_manifest.specs.declared.entry.Entry.{Entry as GivenEntry}
use Rattle.pv_image_manifest.specs.declared.manifest.Manifest.{Manifest}
use Rattle.pv_model.specs.declared.run_fault.RunFault.{RunFault}
use Rattle.pv_model.specs.declared.stream.Sink.{Ghosts as Writing}
use Rattle.pv_model.specs.Machine.{Bytes, Entry}
use Rattle.pv_questions.specs.Failures.{failure_of_run}
use Rattle.pv_questions.specs.OfRun.Images.{RunsGivenImage}
use Rattle.pv_questions.specs.OfRun.declared.turns.Summary.{Summary}
use Rattle.pv_questions.specs.Trees.{GivesManifestOf, read_manifest_of}
use Rattle.pv_questions.specs.declared.failure.Failure.{Failure}
use Rattle.pv_questions.specs.declared.input.Input.{Input}
use Rattle.pv_cli_commands.specs.Directories.{ImportsGiven, ImportsSource, of_import}
use Rattle.pv_cli_commands.specs.Streams.{Disk, FailsToTake, IsCreatedOn}
use Rattle.pv_cli_commands.specs.Writing.{Becomes, RunsFiles}
use Rattle.pv_cli_commands.specs.declared.command.Import.{Import}

run-failed : (fault : RunFault) (result : Result (Unit {0}) Failure) → IsErrAnd result (λ failure. failure ≡ failure_of_run fault)
    → Becomes {T = Summary} failure_of_run (Err fault) result
run-failed fault (Ok done) is = absurd is
run-failed fault (Err failure) is = is

-- a run failed, whose schedule is that of the input
pub run-stopped : {F R V W : Type 0} (disk : Disk F R V) (tracing : Writing W) (image schedule : Input) (out : Bytes) (trace trace_new : W) (before after : V) (read : Bytes)
    (fault : RunFault) (result : Result (Unit {0}) Failure) → read ≡ schedule.bytes.items → IsCreatedOn disk out before
    → RunsGivenImage tracing disk.writing (λ holds. holds image.bytes.items read) ⊥ trace trace_new before after (Err fault)
    → IsErrAnd result (λ failure. failure ≡ failure_of_run fault) → RunsFiles disk tracing image schedule out trace trace_new result
run-stopped disk tracing image schedule out trace trace_new before after read fault result same created runs is =
    inl (
      before,
      after,
      created,
      (
        Err fault,
        subst (λ (bytes : Bytes). RunsGivenImage tracing disk.writing (λ holds. holds image.bytes.items bytes) ⊥ trace trace_new before after (Err fault)) same runs,
        run-failed fault result is,
      ),
    )

module _ {F R V E : Type 0} (disk : Disk F R V) (reporting : Writing E) (entries : Bytes → Option HostEntries) (asked : Import) (unreported reported : E)
    (result : Result (Unit {0}) Failure) where
  -- a directory was imported, whose entries are those of its name
  pub directory-imported : (given : List (ℕ × Entry)) (known : Option HostEntries) (before after : V) (end : Result (Unit {0}) ImportStop)
      → known ≡ entries asked.directory.now → IsCreatedOn disk asked.image.now before
      → Imports asked.version given asked.skips known end (disk.writing.written before) (disk.writing.written after) (reporting.written unreported) (reporting.written reported)
      → OnOk end (disk.writing.buffered after ≡ 0) → (end ≡ Err import.WriteLines → FailsToTake reporting unreported reported)
      → (end ≡ Err import.WriteImage → FailsToTake disk.writing before after) → Becomes of_import end result
      → ImportsGiven disk reporting entries asked given unreported reported result
  directory-imported given known before after end same created imports flushed write_lines write_image becomes =
      let known_imports =
      subst (λ (k : Option HostEntries). Imports asked.version given asked.skips k end (disk.writing.written before) (disk.writing.written after)
      (reporting.written unreported) (reporting.written reported)) same imports in
      inl (inl (before, after, created, (end, record { imports = known_imports; flushed = flushed; write_lines = write_lines; write_image = write_image }, becomes)))

  -- the entries of the manifest of a source were imported
  pub source-imported : (source : Input) (bytes : Bytes) (manifest : Manifest) (given : List GivenEntry) → bytes ≡ source.bytes.items → given ≡ manifest.entries.items
      → GivesManifestOf (Ok manifest) (read_manifest_of bytes) → ImportsGiven disk reporting entries asked (map entry_of_line given) unreported reported result
      → ImportsSource disk reporting entries asked source unreported reported result
  source-imported source bytes manifest given same same_entries gives imported =
      inl (
        manifest,
        subst (λ (read : Bytes). GivesManifestOf (Ok manifest) (read_manifest_of read)) same gives,
        subst (λ (es : List GivenEntry). ImportsGiven disk reporting entries asked (map entry_of_line es) unreported reported result) same_entries imported,
      )
