-- The entries of a host directory, and the creation of one.
use Rattle.std.specs.Prelude.{◌≡◌, ◌≢◌, ◌⊎◌, not, Bool, bytes_eq, List, [], ◌∷◌, ◌++◌, Option, Result, Ok, Err, IsTrue, IfSome}
use Rattle.std.specs.List.{list_all}
use Rattle.pv_model.specs.Machine.{Bytes, path_of, Entry, make, file_node}
use Rattle.pv_host_copy.specs.declared.target.TargetFault.{TargetFault}
use Rattle.pv_host_copy.specs.Encoded.{and_made}

-- whether a directory with these entries has no node at a path
abbrev pub has_no_entry : Bytes → List Entry → Bool
has_no_entry path entries = list_all (λ e. not (bytes_eq (path_of e) path)) entries

-- a directory without a node at the path of an entry has this entry too, and nothing else changed
abbrev pub HasCreated : Entry → (before after : Option (List Entry)) → Type 0
HasCreated entry before after = IfSome before (λ entries. IsTrue (has_no_entry (path_of entry) entries)) × (after ≡ and_made before entry)

-- an entry is a file with only a proper prefix of the bytes of another
abbrev pub IsPartialFileOf : Entry → Entry → Type 0
IsPartialFileOf (make path (file_node executable bytes)) half =
    (written missing : Bytes) × (bytes ≡ written ++ missing) × (missing ≢ []) × (half ≡ make path (file_node executable written))
IsPartialFileOf entry half = ⊥

-- a directory did not change; or it had no node at the path of a file, and contains a partial file
abbrev pub LeavesPartialFile : Entry → (before after : Option (List Entry)) → Type 0
LeavesPartialFile entry before after = (after ≡ before) ⊎ ((half : Entry) × IsPartialFileOf entry half × HasCreated half before after)

-- an entry was created, or at most a prefix of it
abbrev pub Creates : Entry → (before : Option (List Entry)) → Result (Unit {0}) TargetFault → (after : Option (List Entry)) → Type 0
Creates entry before (Ok done) after = HasCreated entry before after
Creates entry before (Err fault) after = LeavesPartialFile entry before after

-- at most a prefix of the next entry was created
abbrev pub LeavesNext : (later : List Entry) → (before after : Option (List Entry)) → Type 0
LeavesNext [] before after = after ≡ before
LeavesNext (entry ∷ later) before after = LeavesPartialFile entry before after
