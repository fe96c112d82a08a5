-- The files, directories, sources and sinks of a command, as contracts see them.
use Rattle.std.specs.Prelude.{◌≡◌, List, Option, None}
use Rattle.pv_host_copy.specs.Hosts.{HostEntries}
use Rattle.pv_model.specs.declared.stream.Sink.{Ghosts as Writing}
use Rattle.pv_model.specs.declared.stream.Source.{Ghosts as Reading}
use Rattle.pv_model.specs.Machine.{Bytes, Entry, Rose}
use Rattle.pv_cli_commands.specs.declared.system.Files.{Ghosts as Filing}
use Rattle.pv_cli_commands.specs.Created.{IsCreated, IsEmptied}

-- a sink failed
abbrev pub FailsToTake : {W : Type 0} → Writing W → W → W → Type 0
FailsToTake writing before after = Rose (writing.failures before) (writing.failures after)

-- all files, a file that is read, and a file that is written
pub record Disk (F R V : Type 0) : Type 1 where
  pub files : Filing F R V
  pub reading : Reading R
  pub writing : Writing V

abbrev pub disk_of : {F R V : Type 0} → Filing F R V → Reading R → Writing V → Disk F R V
disk_of files reading writing = record { files = files; reading = reading; writing = writing }

-- an opened file gives the bytes of its name
abbrev pub IsOpened : {F R V : Type 0} → Disk F R V → F → Bytes → R → Type 0
IsOpened disk files name first = disk.reading.remaining first ≡ disk.files.bytes files name

-- the bytes of the file with a name are not known
abbrev pub IsUnknown : {F R V : Type 0} → Disk F R V → F → Bytes → Type 0
IsUnknown disk files name = disk.files.bytes files name ≡ None

-- the bytes and entries that are known, and the names of the directories for trees, are unchanged
abbrev pub KeepsKnown : {F R V : Type 0} → Filing F R V → F → F → Type 0
KeepsKnown files before after = (files.bytes after ≡ files.bytes before) × (files.entries after ≡ files.entries before) × (files.targets after ≡ files.targets before)

-- a file to be written has this name, and nothing was written to it
abbrev pub IsCreatedOn : {F R V : Type 0} → Disk F R V → Bytes → V → Type 0
IsCreatedOn disk name writer = IsCreated disk.files.file_of disk.writing.written name writer

-- the entries of each directory with a name, the names of the directories that were returned for trees, and the name and
-- the made entries of such a directory
pub record Host (F T : Type 0) : Type 0 where
  pub entries : F → Bytes → Option HostEntries
  pub targets : F → List Bytes
  pub target_of : T → Bytes
  pub made : T → Option (List Entry)

abbrev pub host_of : {F T : Type 0} → (F → Bytes → Option HostEntries) → (F → List Bytes) → (T → Bytes) → (T → Option (List Entry)) → Host F T
host_of entries targets target_of made = record { entries = entries; targets = targets; target_of = target_of; made = made }

-- a directory for a tree has this name, and nothing was made in it
abbrev pub IsEmptiedOn : {F T : Type 0} → Host F T → Bytes → T → Type 0
IsEmptiedOn host name target = IsEmptied host.target_of host.made name target
