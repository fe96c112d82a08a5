-- Manifests and bundles as relations: the lines of entries, the entries of a text, and the first line that does not
-- have the form of an entry.
use Rattle.std.specs.Prelude.{◌≡◌, ◌≢◌, ◌⊎◌, ℕ, ◌+◌, ◌≤◌, Bool, true, false, IsTrue, List, [], ◌∷◌, ◌++◌, length, flat_map, codes}
use Rattle.std.specs.List.{AllByRecursion}
use Rattle.std.specs.Fmt.{decimal}
use Rattle.pv_model.specs.declared.limits.TheConstants.{LINK_TEXT, INODES, BLOCKS_V1, PROGRAM_LINES}
use Rattle.pv_model.specs.declared.version.Version.TheVariants.{V1}
use Rattle.pv_model.specs.Bytes.{Bytes}
use Rattle.pv_model.specs.Grammar.Manifests.{Listed, Manifest, inode_table_blocks}
use Rattle.pv_model.specs.Grammar.Encoding.{Decimal, EncodesText}
use Rattle.pv_model.specs.Grammar.Texts.{HasLines, ended}
use Rattle.pv_model.specs.Manifest.{Entry, make, further_name}
use Rattle.pv_model.specs.Tree.{directory_node, file_node, link_node, is_name}

-- one or more names, with a slash before each
abbrev pub path_of_names : List Bytes → Bytes
path_of_names names = flat_map (λ name. codes "/" ++ name) names

abbrev pub IsEntryPath : Bytes → Type 0
IsEntryPath path = (names : List Bytes) × (names ≢ []) × AllByRecursion (λ name. IsTrue (is_name V1 name)) names × (path ≡ path_of_names names)

-- a path of an entry, and its encoding
abbrev pub EncodesPath : Bytes → Bytes → Type 0
EncodesPath path word = IsEntryPath path × EncodesText path word

-- a line encodes an entry, together with the lines of `body` that follow it
pub data EncodesEntry : Bytes → List Bytes → Entry → Type 0 where
  of_directory : (path word : Bytes) → EncodesPath path word → EncodesEntry (codes "dir " ++ word) [] (make path (directory_node []))
  of_file : (path word contents other : Bytes) → EncodesPath path word → EncodesText contents other
      → EncodesEntry (codes "bytes " ++ word ++ codes " " ++ other) [] (make path (file_node false contents))
  of_program : (path word : Bytes) (body : List Bytes) → EncodesPath path word → length body ≤ PROGRAM_LINES
      → EncodesEntry (codes "exec " ++ word ++ codes " " ++ decimal (length body)) body (make path (file_node true (ended body)))
  of_link : (path word text other : Bytes) → EncodesPath path word → EncodesText text other → 1 ≤ length text → length text ≤ LINK_TEXT
      → EncodesEntry (codes "link " ++ word ++ codes " " ++ other) [] (make path (link_node text))
  of_name : (path word source other : Bytes) → EncodesPath path word → EncodesPath source other
      → EncodesEntry (codes "name " ++ word ++ codes " " ++ other) [] (further_name path source)

-- the lines from line n on encode entries, each with its line number: up to the end, or in a bundle up to the first
-- line `schedule` that belongs to no entry
pub data Lists (in_bundle : Bool) : ℕ → List Bytes → Listed → Type 0 where
  at_end : (n : ℕ) → in_bundle ≡ false → Lists in_bundle n [] (record { entries = []; following = [] })
  at_schedule : (n : ℕ) (rest : List Bytes) → in_bundle ≡ true → Lists in_bundle n (codes "schedule" ∷ rest) (record { entries = []; following = rest })
  entry : (n : ℕ) (line : Bytes) (body rest : List Bytes) (e : Entry) (others : Listed) → EncodesEntry line body e → Lists in_bundle (n + 1 + length body) rest others
      → Lists in_bundle n (line ∷ body ++ rest) (record { entries = (n, e) ∷ others.entries; following = others.following })

-- the first line: the image's numbers of blocks and inodes
abbrev pub EncodesSizes : Bytes → ℕ → ℕ → Type 0
EncodesSizes line blocks inodes = (word other : Bytes) × Decimal blocks word × Decimal inodes other × (line ≡ codes "image " ++ word ++ codes " " ++ other)

-- the sizes that an image may have
abbrev pub AreSizes : ℕ → ℕ → Type 0
AreSizes blocks inodes = (1 ≤ inodes) × (inodes ≤ INODES) × (inode_table_blocks inodes + 1 ≤ blocks) × (blocks ≤ BLOCKS_V1)

-- a text has the form of a manifest, alone or in a bundle; its sizes may be invalid
abbrev pub HasForm : Bool → Bytes → Manifest → Type 0
HasForm in_bundle bytes m = (first : Bytes) × (rest : List Bytes) × HasLines bytes (first ∷ rest) × EncodesSizes first m.blocks m.inodes × Lists in_bundle 2 rest m.listed

abbrev pub EncodesManifest : Bool → Bytes → Manifest → Type 0
EncodesManifest in_bundle bytes m = HasForm in_bundle bytes m × AreSizes m.blocks m.inodes

-- the first of the lines from line n on that has no form: it is not an entry, whatever lines follow it, and not a
-- bundle's line `schedule`; if that line is missing, it is the line after the last
pub data HasNoForm (in_bundle : Bool) : ℕ → List Bytes → ℕ → Type 0 where
  no_schedule : (n : ℕ) → in_bundle ≡ true → HasNoForm in_bundle n [] n
  not_an_entry : (n : ℕ) (line : Bytes) (rest : List Bytes) → (in_bundle ≡ true → line ≢ codes "schedule")
      → ((body following : List Bytes) (e : Entry) → rest ≡ body ++ following → EncodesEntry line body e → ⊥) → HasNoForm in_bundle n (line ∷ rest) n
  further : (n m : ℕ) (line : Bytes) (body rest : List Bytes) (e : Entry) → EncodesEntry line body e → HasNoForm in_bundle (n + 1 + length body) rest m
      → HasNoForm in_bundle n (line ∷ body ++ rest) m

-- the first line of a text does not give sizes
abbrev pub HasNoSizes : Bytes → Type 0
HasNoSizes bytes = (first : Bytes) (rest : List Bytes) (blocks inodes : ℕ) → HasLines bytes (first ∷ rest) → EncodesSizes first blocks inodes → ⊥

-- the first line of a text that does not have its form
abbrev pub IsFirstWithoutForm : Bool → Bytes → ℕ → Type 0
IsFirstWithoutForm in_bundle bytes n =
    ((n ≡ 1) × HasNoSizes bytes)
    ⊎ ((first : Bytes) × (rest : List Bytes) × (blocks inodes : ℕ) × HasLines bytes (first ∷ rest) × EncodesSizes first blocks inodes × HasNoForm in_bundle 2 rest n)

-- all lines have their form, but no image has these sizes
abbrev pub HasOtherSizes : Bool → Bytes → Type 0
HasOtherSizes in_bundle bytes = (m : Manifest) × HasForm in_bundle bytes m × ¬ (AreSizes m.blocks m.inodes)
