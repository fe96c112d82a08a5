-- The entries of a manifest, as in the specification.
use Rattle.std.specs.Prelude.{ℕ, Bool, true, not, [], ◌==◌}
use Rattle.pv_model.specs.Machine.{Bytes, is_manifest_path, make, further_name, Entry as ManifestEntry, directory_node, file_node, link_node, is_link_text}
use Rattle.pv_image_manifest.specs.declared.entry.Content.{Content}
use Rattle.pv_image_manifest.specs.declared.entry.Content.TheVariants.{Directory, File, Link, Name}

-- a byte that the target of a symbolic link can contain
abbrev pub is_link_byte : ℕ → Bool
is_link_byte b = not (b == 0)

-- the target of a symbolic link is valid, and the source of another name is a path
abbrev pub has_paths : (Bytes → Bool) → Content → Bool
has_paths is_path Directory = true
has_paths is_path (File executable bytes) = true
has_paths is_path (Link text) = is_link_text text.items
has_paths is_path (Name source) = is_path source.items

-- the source of another name is the path of an entry of a manifest
abbrev pub is_content : Content → Bool
is_content = has_paths is_manifest_path

-- the entry of a path and its contents
abbrev pub entry_of_content : Bytes → Content → ManifestEntry
entry_of_content path Directory = make path (directory_node [])
entry_of_content path (File executable bytes) = make path (file_node executable bytes.items)
entry_of_content path (Link text) = make path (link_node text.items)
entry_of_content path (Name source) = further_name path source.items
