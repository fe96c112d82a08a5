-- Files: the contents of inodes by their numbers.
use Rattle.std.specs.Prelude.{ℕ, zero, suc, ◌<◌, ◌≤◌, [], ◌∷◌, length, drop, sum_by, Option, None, Some, IsSome, option_map}
use Rattle.pv_model.specs.declared.kind.Kind.{Kind}
use Rattle.pv_model.specs.declared.kind.Kind.TheVariants.{Directory, File, Executable, Symlink}
use Rattle.pv_model.specs.declared.version.Version.{Version}
use Rattle.pv_model.specs.Machine.{Bytes, overwrite, resize, Numbered, at_number, with_number, without_number, least_free, present, need}

-- the kind and the contents of an inode
pub record Contained : Type 0 where
  pub sort : Kind
  pub bytes : Bytes

-- the version of an image, its inodes by number from 1 on, and the number of data blocks
pub record Files : Type 0 where
  pub version : Version
  pub nodes : Numbered Contained
  pub blocks : ℕ

-- the kind field of an inode
abbrev pub kind_number : Kind → ℕ
kind_number Directory = 1
kind_number File = 2
kind_number Executable = 3
kind_number Symlink = 4

abbrev pub kind_of_number : ℕ → Kind
kind_of_number (suc zero) = Directory
kind_of_number (suc (suc zero)) = File
kind_of_number (suc (suc (suc zero))) = Executable
kind_of_number _ = Symlink

abbrev pub held : Files → ℕ → Option Contained
held f n = at_number f.nodes n

abbrev pub IsUsed : Files → ℕ → Type 0
IsUsed f n = IsSome (held f n)

abbrev pub contained_bytes : Option Contained → Bytes
contained_bytes None = []
contained_bytes (Some c) = c.bytes

-- the contents of an inode, which are empty if it is free
abbrev pub inode_bytes_at : Files → ℕ → Bytes
inode_bytes_at f n = contained_bytes (held f n)

-- the kind of an inode, if it is in use
abbrev pub sort_at : Files → ℕ → Option Kind
sort_at f n = option_map (λ c. c.sort) (held f n)

-- the number of data blocks that an inode needs
abbrev pub room_of : Version → Contained → ℕ
room_of version c = need version (length c.bytes)

-- the number of data blocks that all inodes need
abbrev pub total_room : Files → ℕ
total_room f = sum_by (room_of f.version) (present f.nodes)

abbrev pub HasRoomForFiles : Files → Type 0
HasRoomForFiles f = total_room f ≤ f.blocks

abbrev pub LacksRoomForFiles : Files → Type 0
LacksRoomForFiles f = f.blocks < total_room f

abbrev pub with_contents_replaced : Files → ℕ → Option Contained → Bytes → Files
with_contents_replaced f n None bytes = f
with_contents_replaced f n (Some c) bytes = record f { nodes = with_number f.nodes n (record c { bytes = bytes }) }

-- the files with other contents of an inode that is in use
abbrev pub files_with_bytes : Files → ℕ → Bytes → Files
files_with_bytes f n bytes = with_contents_replaced f n (held f n) bytes

-- the files after a write at an offset; a write of zero bytes changes nothing
abbrev pub written_files : Files → ℕ → ℕ → Bytes → Files
written_files f n at [] = f
written_files f n at (b ∷ bytes) = files_with_bytes f n (overwrite (inode_bytes_at f n) at (b ∷ bytes))

-- the files after a truncation or an extension with zeros
abbrev pub truncated_files : Files → ℕ → ℕ → Files
truncated_files f n size = files_with_bytes f n (resize (inode_bytes_at f n) size)

-- the files with a new inode without contents
abbrev pub with_new : Files → ℕ → Kind → Files
with_new f n sort = record f { nodes = with_number f.nodes n (record { sort = sort; bytes = [] }) }

-- the files with inode n free
abbrev pub without : Files → ℕ → Files
without f n = record f { nodes = without_number f.nodes n }

-- the least free inode, or the number of inodes plus one if none is free
abbrev pub new_inode : Files → ℕ
new_inode f = suc (least_free (drop 1 f.nodes))
