-- The manifest that lines parse as, alone or in a bundle, and the tree that it makes.
use Rattle.std.specs.Prelude.{ℕ, zero, suc, ◌+◌, ◌-◌, Bool, true, false, not, ◌&&◌, ◌||◌, if◌then◌else◌, ◌==◌, nat_le, List, [], ◌∷◌, ◌++◌, length, take, flat_map, codes, bytes_eq, Option, None, Some, is_some, Result, Ok, Err}
use Rattle.std.specs.List.{list_all}
use Rattle.pv_model.specs.declared.fault.ManifestFault.{ManifestFault}
use Rattle.pv_model.specs.declared.fault.ManifestFault.TheVariants.{Form, Size, Parent, Exists, Source, Room}
use Rattle.pv_model.specs.declared.limits.TheConstants.{PROGRAM_LINES, INODES, BLOCKS_V1}
use Rattle.pv_model.specs.declared.version.Version.TheVariants.{V1}
use Rattle.pv_model.specs.Bytes.{Bytes}
use Rattle.pv_model.specs.Grammar.Arguments.{word_at, text_at, one_argument, two_arguments}
use Rattle.pv_model.specs.Grammar.Lines.{lines_of, word_of, after_word, decimal_of}
use Rattle.pv_model.specs.Manifest.{Entry, make, further_name, empty_tree}
use Rattle.pv_model.specs.Room.{rounded_up, is_too_long, fits}
use Rattle.pv_model.specs.Tree.{directory_node, file_node, link_node, Tree, root, is_name, is_link_text, is_directory_at, find_entry, with_entry, with_new_node}
use Rattle.pv_model.specs.Walk.{components, split_slashes}

-- whether a path has the form of a manifest's: a slash, and names joined by single slashes
abbrev pub is_manifest_path : Bytes → Bool
is_manifest_path [] = false
is_manifest_path (b ∷ bs) = (b == 47) && list_all (is_name V1) (split_slashes bs)

abbrev pub if_path : Option Bytes → Option Bytes
if_path None = None
if_path (Some path) = if is_manifest_path path then Some path else None

-- an entry of a manifest, and the number of following lines that belong to it
abbrev pub Taking : Type 0
Taking = Entry × ℕ

abbrev pub directory_line : Option Bytes → Option Taking
directory_line None = None
directory_line (Some path) = if is_manifest_path path then Some (make path (directory_node []), 0) else None

abbrev pub file_line : Option (Bytes × Bytes) → Option Taking
file_line None = None
file_line (Some p) = if is_manifest_path p.0 then Some (make p.0 (file_node false p.1), 0) else None

abbrev pub with_line_end : Bytes → Bytes
with_line_end line = line ++ 10 ∷ []

-- an executable file has the next lines as its bytes, each with its LF
abbrev pub executable_line : List Bytes → Option (Bytes × ℕ) → Option Taking
executable_line lines None = None
executable_line lines (Some p) =
    if is_manifest_path p.0 && nat_le p.1 PROGRAM_LINES && nat_le p.1 (length lines)
    then Some (make p.0 (file_node true (flat_map with_line_end (take p.1 lines))), p.1)
    else None

abbrev pub link_line : Option (Bytes × Bytes) → Option Taking
link_line None = None
link_line (Some p) = if is_manifest_path p.0 && is_link_text p.1 then Some (make p.0 (link_node p.1), 0) else None

abbrev pub name_line : Option (Bytes × Bytes) → Option Taking
name_line None = None
name_line (Some p) = if is_manifest_path p.0 && is_manifest_path p.1 then Some (further_name p.0 p.1, 0) else None

-- the entry that a word and the bytes after it parse as, given the following lines
unfoldable pub entry_by : Bytes → Bytes → List Bytes → Option Taking
entry_by word rest lines =
    if bytes_eq word (codes "dir") then directory_line (one_argument text_at rest)
    else if bytes_eq word (codes "bytes") then file_line (two_arguments text_at text_at rest)
    else if bytes_eq word (codes "exec") then executable_line lines (two_arguments text_at (word_at decimal_of) rest)
    else if bytes_eq word (codes "link") then link_line (two_arguments text_at text_at rest)
    else if bytes_eq word (codes "name") then name_line (two_arguments text_at text_at rest)
    else None

-- the entry that a line parses as, given the following lines
abbrev pub entry_of : Bytes → List Bytes → Option Taking
entry_of line lines = entry_by (word_of line) (after_word line) lines

-- the entries of a manifest, each with its line number, and the lines after the manifest
pub record Listed : Type 0 where
  pub entries : List (ℕ × Entry)
  pub following : List Bytes

abbrev pub onto_listed : ℕ → Entry → Result Listed ManifestFault → Result Listed ManifestFault
onto_listed n entry (Ok rest) = Ok (record rest { entries = (n, entry) ∷ rest.entries })
onto_listed n entry (Err fault) = Err fault

-- the parse after an entry, which skips the lines that belong to it
abbrev pub or_form : ℕ → Option Taking → (ℕ → Result Listed ManifestFault) → Result Listed ManifestFault
or_form n None onward = Err (Form n)
or_form n (Some p) onward = onto_listed n p.0 (onward p.1)

abbrev pub is_schedule_line : Bytes → Bool
is_schedule_line line = bytes_eq line (codes "schedule")

-- the end of the lines: it ends a manifest that is alone, but a bundle must have a line `schedule`
abbrev pub at_end : Bool → ℕ → Result Listed ManifestFault
at_end true n = Err (Form n)
at_end false n = Ok (record { entries = []; following = [] })

module _ (in_bundle : Bool) (read : Bytes → List Bytes → Option Taking) where
  abbrev pub listed_at_line : Bytes → List Bytes → ℕ → (ℕ → ℕ → Result Listed ManifestFault) → Result Listed ManifestFault
  listed_at_line line lines n onward =
      if in_bundle && is_schedule_line line then Ok (record { entries = []; following = lines })
      else or_form n (read line lines) (onward (suc n))

  -- the entries of the lines from line n on, where the first `skipped` lines belong to the previous entry
  abbrev pub entries_from : List Bytes → ℕ → ℕ → Result Listed ManifestFault
  entries_from [] n skipped = at_end in_bundle n
  entries_from (line ∷ lines) n (suc skipped) = entries_from lines (suc n) skipped
  entries_from (line ∷ lines) n zero = listed_at_line line lines n (entries_from lines)

-- a manifest: the image's numbers of blocks and inodes, its entries, and the lines after it
pub record Manifest : Type 0 where
  pub blocks : ℕ
  pub inodes : ℕ
  pub listed : Listed

abbrev pub sizes_by : Bytes → Bytes → Option (ℕ × ℕ)
sizes_by word rest = if bytes_eq word (codes "image") then two_arguments (word_at decimal_of) (word_at decimal_of) rest else None

-- the image's numbers of blocks and inodes, from the first line
abbrev pub sizes_of : Bytes → Option (ℕ × ℕ)
sizes_of line = sizes_by (word_of line) (after_word line)

-- the number of blocks that contain the inodes
abbrev pub inode_table_blocks : ℕ → ℕ
inode_table_blocks inodes = rounded_up inodes 16

-- whether an image may have these sizes
abbrev pub are_sizes : ℕ → ℕ → Bool
are_sizes blocks inodes =
    nat_le 1 inodes && nat_le inodes INODES && nat_le (inode_table_blocks inodes + 1) blocks && nat_le blocks BLOCKS_V1

abbrev pub if_sizes : ℕ → ℕ → Listed → Result Manifest ManifestFault
if_sizes blocks inodes listed = if are_sizes blocks inodes then Ok (record { blocks = blocks; inodes = inodes; listed = listed }) else Err Size

abbrev pub with_entries : (ℕ × ℕ) → Result Listed ManifestFault → Result Manifest ManifestFault
with_entries sizes (Err fault) = Err fault
with_entries sizes (Ok listed) = if_sizes sizes.0 sizes.1 listed

abbrev pub after_sizes : Option (ℕ × ℕ) → Result Listed ManifestFault → Result Manifest ManifestFault
after_sizes None entries = Err (Form 1)
after_sizes (Some sizes) entries = with_entries sizes entries

-- the manifest that lines parse as, given a parser of entries; form errors come before size errors
abbrev pub manifest_by : Bool → (Bytes → List Bytes → Option Taking) → List Bytes → Result Manifest ManifestFault
manifest_by in_bundle read [] = Err (Form 1)
manifest_by in_bundle read (line ∷ lines) = after_sizes (sizes_of line) (entries_from in_bundle read lines 2 0)

-- the manifest that bytes parse as, or the first error
unfoldable pub read_manifest : Bytes → Result Manifest ManifestFault
read_manifest bytes = manifest_by false entry_of (lines_of bytes)

-- the manifest of a bundle, which the lines of a schedule follow
unfoldable pub read_bundle : Bytes → Result Manifest ManifestFault
read_bundle bytes = manifest_by true entry_of (lines_of bytes)

-- ---- the tree of a manifest

-- the container of a path: the directory that is to contain the last name, with that name
abbrev pub enter_directory : Tree → (ℕ → Option (ℕ × Bytes)) → Option ℕ → Option (ℕ × Bytes)
enter_directory t onward None = None
enter_directory t onward (Some n) = if is_directory_at t n then onward n else None

abbrev pub container : Tree → List Bytes → ℕ → Option (ℕ × Bytes)
container t [] d = None
container t (name ∷ []) d = Some (d, name)
container t (name ∷ next ∷ rest) d = enter_directory t (container t (next ∷ rest)) (find_entry t d name)

abbrev pub if_not_directory : Tree → Option ℕ → Option ℕ
if_not_directory t None = None
if_not_directory t (Some n) = if is_directory_at t n then None else Some n

abbrev pub under_container : Tree → Option (ℕ × Bytes) → Option ℕ
under_container t None = None
under_container t (Some p) = if_not_directory t (find_entry t p.0 p.1)

-- the file or link that a path of a manifest names
abbrev pub source_of : Tree → Bytes → Option ℕ
source_of t path = under_container t (container t (components path) root)

abbrev pub if_room : ℕ → Tree → Result Tree ManifestFault
if_room line t = if is_too_long t || not (fits t) then Err (Room line) else Ok t

abbrev pub with_source : ℕ → Tree → ℕ → Bytes → Option ℕ → Result Tree ManifestFault
with_source line t d name None = Err (Source line)
with_source line t d name (Some n) = if_room line (with_entry t d name n)

abbrev pub entry_in : ℕ → Tree → Entry → ℕ → Bytes → Result Tree ManifestFault
entry_in line t (make path node) d name = if_room line (with_new_node t d name node)
entry_in line t (further_name path source) d name = with_source line t d name (source_of t source)

abbrev pub path_of : Entry → Bytes
path_of (make path node) = path
path_of (further_name path source) = path

abbrev pub entry_at : ℕ → Tree → Entry → Option (ℕ × Bytes) → Result Tree ManifestFault
entry_at line t entry None = Err (Parent line)
entry_at line t entry (Some p) = if is_some (find_entry t p.0 p.1) then Err (Exists line) else entry_in line t entry p.0 p.1

-- the tree with the entry of a line added, or the error
unfoldable pub add_entry : ℕ → Tree → Entry → Result Tree ManifestFault
add_entry line t entry = entry_at line t entry (container t (components (path_of entry)) root)

abbrev pub and_entries : Result Tree ManifestFault → (Tree → Result Tree ManifestFault) → Result Tree ManifestFault
and_entries (Err fault) onward = Err fault
and_entries (Ok t) onward = onward t

-- the tree with entries added in order, or the first error
abbrev pub add_entries : List (ℕ × Entry) → Tree → Result Tree ManifestFault
add_entries [] t = Ok t
add_entries (e ∷ es) t = and_entries (add_entry e.0 t e.1) (add_entries es)

-- the number of data blocks of an image
abbrev pub data_blocks : ℕ → ℕ → ℕ
data_blocks blocks inodes = blocks - 1 - inode_table_blocks inodes

-- the tree that a manifest makes, or the first error
abbrev pub tree_of : Manifest → Result Tree ManifestFault
tree_of m = add_entries m.listed.entries (empty_tree (data_blocks m.blocks m.inodes) m.inodes)
