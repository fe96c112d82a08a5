-- The entries of a manifest with their lines.
use Rattle.std.specs.Prelude.{ℕ}
use Rattle.pv_model.specs.Machine.{Entry as ManifestEntry}
use Rattle.pv_image_manifest.specs.declared.entry.Entry.{Entry}
use Rattle.pv_image_manifest.specs.Contents.{entry_of_content}

-- an entry with the number of its line
abbrev pub entry_of_line : Entry → ℕ × ManifestEntry
entry_of_line e = (e.line, entry_of_content e.path.items e.content)
