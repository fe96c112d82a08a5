-- Files to be written, and directories in which a tree is made.
use Rattle.std.specs.Prelude.{◌≡◌, ◌⊎◌, List, [], ◌∷◌, ◌++◌, Option, None, Some, IfSome}
use Rattle.pv_model.specs.Machine.{Bytes, Entry}
use Rattle.pv_cli_commands.specs.declared.command.Command.{Command}
use Rattle.pv_cli_commands.specs.declared.command.Command.TheVariants.{MakeImage, RunImage, MigrateImage, ImportDirectory, ExportImage}

-- a file to be written has this name, and nothing was written to it
pub record IsCreated {V : Type 0} (file_of : V → Bytes) (written : V → Option Bytes) (name : Bytes) (writer : V) : Type 0 where
  pub is_of : file_of writer ≡ name
  pub unwritten : IfSome (written writer) (λ had. had ≡ [])

-- a directory for a tree has this name, and nothing was made in it
pub record IsEmptied {T : Type 0} (target_of : T → Bytes) (made : T → Option (List Entry)) (name : Bytes) (target : T) : Type 0 where
  pub is_of : target_of target ≡ name
  pub unmade : IfSome (made target) (λ had. had ≡ [])

-- the file that a command writes, and the directory that it makes
abbrev pub file_written : Command → Option Bytes
file_written (MakeImage manifest image) = Some image.now
file_written (RunImage image schedule out) = Some out.now
file_written (MigrateImage image out blocks inodes) = Some out.now
file_written (ImportDirectory import) = Some import.image.now
file_written command = None

abbrev pub directory_made : Command → Option Bytes
directory_made (ExportImage file directory) = Some directory.now
directory_made command = None

-- nothing was created but what has this name, and that at most once
abbrev pub CreatesOnly : Option Bytes → (before after : List Bytes) → Type 0
CreatesOnly None before after = after ≡ before
CreatesOnly (Some name) before after = (after ≡ before) ⊎ (after ≡ before ++ name ∷ [])
