-- A node of a host directory merged with the entries of a source.
use Rattle.std.specs.Prelude.{ℕ, Bool, true, false, List, if◌then◌else◌}
use Rattle.std.specs.Borrow.{Bor}
use Rattle.std.specs.Global.{Vec}
use Rattle.std.specs.List.{list_any}
use Rattle.pv_image_manifest.specs.declared.entry.Entry.{Entry}
use Rattle.pv_image_manifest.specs.Entries.{entry_of_line}
use Rattle.pv_host_copy.specs.declared.beside.Beside.{Beside}
use Rattle.pv_host_copy.specs.declared.entry.HostNode.{HostNode}
use Rattle.pv_host_copy.specs.declared.entry.HostNode.TheVariants.{Directory, File, Link, Other, Replaced}
use Rattle.pv_host_copy.specs.Given.{takes_place}

-- whether an entry of the source replaces the host's node at a path
abbrev pub is_taken_at : Bor (List Entry) → Vec ℕ → Bool → Bool
is_taken_at given path is_directory = list_any (λ e. takes_place is_directory path.items (entry_of_line e).1) given.now

-- the node at a path, or the mark that an entry of the source replaces it
abbrev pub merged_node : {D R : Type 0} → Bor (List Entry) → Vec ℕ → HostNode D R → HostNode (Beside D) R
merged_node given path (Directory d) = if is_taken_at given path true then Replaced else Directory (record { directory = d; path = path; given = given })
merged_node given path (File identity executable r) = if is_taken_at given path false then Replaced else File identity executable r
merged_node given path (Link identity text) = if is_taken_at given path false then Replaced else Link identity text
merged_node given path (Other why) = if is_taken_at given path false then Replaced else Other why
merged_node given path Replaced = Replaced
