-- The results of the parsers of manifests and bundles.
use Rattle.std.specs.Prelude.{◌≡◌, ℕ, ◌≤◌, List, [], ◌++◌, length, drop, map, Option, None, Some, Result, Ok, Err}
use Rattle.std.specs.Borrow.{Bor}
use Rattle.std.specs.Global.{Vec}
use Rattle.pv_model.specs.declared.fault.ManifestFault.{ManifestFault}
use Rattle.pv_model.specs.declared.fault.ManifestFault.TheVariants.{Memory}
use Rattle.pv_model.specs.Machine.{Bytes, lines_of, Listed, Manifest as ManifestAndLines}
use Rattle.pv_model.specs.Grammar.Manifests.{Taking}
use Rattle.pv_image_manifest.specs.declared.bundle.Bundle.{Bundle}
use Rattle.pv_image_manifest.specs.declared.entry.Entry.{Entry}
use Rattle.pv_image_manifest.specs.declared.manifest.Manifest.{Manifest}
use Rattle.pv_image_manifest.specs.declared.read_entry.ReadEntry.{ReadEntry}
use Rattle.pv_image_manifest.specs.Contents.{entry_of_content}
use Rattle.pv_image_manifest.specs.Entries.{entry_of_line}
use Rattle.pv_text.specs.Reading.{up_to_greatest}

-- bytes are the end of a text
pub record IsEnd (rest text : Bytes) : Type 0 where
  pub front : Bytes
  pub is : text ≡ front ++ rest

-- sizes, each saturated to 32 bits
abbrev pub held_sizes : ℕ × ℕ → ℕ × ℕ
held_sizes p = (up_to_greatest p.0, up_to_greatest p.1)

-- the entry of a line, and the number of lines after it that belong to it
abbrev pub taking_of : ReadEntry → Taking
taking_of t = (entry_of_content t.path.items t.content, t.lines)

-- the parser returns the grammar's entry, whose lines are present, or fails if the grammar does
abbrev pub ParsesEntry : Option ReadEntry → Option Taking → List Bytes → Type 0
ParsesEntry None taking following = taking ≡ None
ParsesEntry (Some t) taking following = (taking ≡ Some (taking_of t)) × (t.lines ≤ length following)

-- the error agrees with the grammar's result; out of memory agrees with every result
abbrev pub RefusesManifest : {X : Type 0} → ManifestFault → Result X ManifestFault → Type 0
RefusesManifest Memory read = Unit {0}
RefusesManifest fault read = read ≡ Err fault

-- the entries and the lines after them, or the error, agree with the grammar's result
abbrev pub GivesListed : Result (Vec Entry × Bor Bytes) ManifestFault → Result Listed ManifestFault → Type 0
GivesListed (Ok p) read = read ≡ Ok (record { entries = map entry_of_line p.0.items; following = lines_of p.1.now })
GivesListed (Err fault) read = RefusesManifest fault read

-- a manifest of the specification, with the lines after it
abbrev pub manifest_before : Manifest → List Bytes → ManifestAndLines
manifest_before m lines = record { blocks = m.blocks; inodes = m.inodes; listed = record { entries = map entry_of_line m.entries.items; following = lines } }

-- the manifest and the lines after it, or the error, agree with the grammar's result
abbrev pub GivesManifestAndRest : Result (Manifest × Bor Bytes) ManifestFault → Result ManifestAndLines ManifestFault → Type 0
GivesManifestAndRest (Ok p) read = read ≡ Ok (manifest_before p.0 (lines_of p.1.now))
GivesManifestAndRest (Err fault) read = RefusesManifest fault read

-- the manifest, with no lines after it, or the error, agrees with the grammar's result
abbrev pub GivesManifest : Result Manifest ManifestFault → Result ManifestAndLines ManifestFault → Type 0
GivesManifest (Ok m) read = read ≡ Ok (manifest_before m [])
GivesManifest (Err fault) read = RefusesManifest fault read

-- the bundle or the error agrees with the grammar's result: the lines after its manifest are those from the offset of
-- its schedule on
abbrev pub GivesBundle : Result Bundle ManifestFault → Bytes → Result ManifestAndLines ManifestFault → Type 0
GivesBundle (Ok b) bytes read = read ≡ Ok (manifest_before b.manifest (lines_of (drop b.schedule_at bytes)))
GivesBundle (Err fault) bytes read = RefusesManifest fault read
