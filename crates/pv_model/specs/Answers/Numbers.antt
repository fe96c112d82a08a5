-- The canonical encoding of a state as a list of numbers, by which a search compares states.
use Rattle.std.specs.Prelude.{ℕ, ℤ, pos, negsuc, Bool, true, false, List, [], ◌∷◌, ◌++◌, length, flat_map, bytes_eq, Option, None, Some}
use Rattle.pv_model.specs.declared.call.Whence.{Whence}
use Rattle.pv_model.specs.declared.call.Whence.TheVariants.{Set as FromStart, Current as FromHere, End as FromEnd}
use Rattle.pv_model.specs.declared.instruction.Instruction.{Instruction}
use Rattle.pv_model.specs.declared.instruction.Instruction.TheVariants.{Set, Add, Put, Peek, Jump, JumpIfZero, JumpIfNotZero, JumpIfNegative, Exit, GetPid, GetPpid, Fork, Wait, Pledge, Unveil, Execve, Open, OpenAt, Close, Dup, Dup2, Read, Write, Lseek, Fstat, Ftruncate, Getdents, Fchdir, Chdir, Stat, Lstat, Readlink, Mkdir, Symlink, Link, Unlink, Rmdir, Rename}
use Rattle.pv_model.specs.declared.instruction.Operand.{Operand}
use Rattle.pv_model.specs.declared.instruction.Operand.TheVariants.{Number, Register}
use Rattle.pv_model.specs.declared.instruction.Origin.{Origin}
use Rattle.pv_model.specs.declared.instruction.Origin.TheVariants.{WorkingDirectory, Descriptor as AtDescriptor}
use Rattle.pv_model.specs.declared.open_flags.Mode.{Mode}
use Rattle.pv_model.specs.declared.open_flags.Mode.TheVariants.{Read as ForReading, Write as ForWriting, ReadWrite}
use Rattle.pv_model.specs.declared.open_flags.OpenFlags.{OpenFlags}
use Rattle.pv_model.specs.declared.perms.Perms.{Perms}
use Rattle.pv_model.specs.declared.target.Target.{Target}
use Rattle.pv_model.specs.declared.target.Target.TheVariants.{Directory, Name}
use Rattle.pv_model.specs.declared.version.Version.{Version}
use Rattle.pv_model.specs.declared.version.Version.TheVariants.{V1, V2}
use Rattle.pv_model.specs.Bytes.{Bytes}
use Rattle.pv_model.specs.State.{OpenFile, Descriptor, Process, ProcessRecord, live, ended_record, State}
use Rattle.pv_model.specs.Tree.{Node, directory_node, file_node, link_node, Tree}

abbrev pub Numbers : Type 0
Numbers = List ℕ

-- ---- common types

abbrev pub bool_numbers : Bool → Numbers
bool_numbers false = 0 ∷ []
bool_numbers true = 1 ∷ []

abbrev pub number_numbers : ℕ → Numbers
number_numbers n = n ∷ []

-- the sign, then the magnitude
abbrev pub integer_numbers : ℤ → Numbers
integer_numbers (pos n) = 0 ∷ n ∷ []
integer_numbers (negsuc n) = 1 ∷ n ∷ []

abbrev pub option_numbers : {X : Type 0} → (X → Numbers) → Option X → Numbers
option_numbers numbers None = 0 ∷ []
option_numbers numbers (Some x) = 1 ∷ numbers x

-- the length, then the elements
abbrev pub list_numbers : {X : Type 0} → (X → Numbers) → List X → Numbers
list_numbers numbers xs = length xs ∷ flat_map numbers xs

abbrev pub bytes_numbers : Bytes → Numbers
bytes_numbers bytes = length bytes ∷ bytes

-- ---- instructions

abbrev pub mode_numbers : Mode → Numbers
mode_numbers ForReading = 0 ∷ []
mode_numbers ForWriting = 1 ∷ []
mode_numbers ReadWrite = 2 ∷ []

abbrev pub whence_numbers : Whence → Numbers
whence_numbers FromStart = 0 ∷ []
whence_numbers FromHere = 1 ∷ []
whence_numbers FromEnd = 2 ∷ []

abbrev pub flags_numbers : OpenFlags → Numbers
flags_numbers f =
    mode_numbers f.mode ++ bool_numbers f.append ++ bool_numbers f.create ++ bool_numbers f.truncate ++ bool_numbers f.exclusive
    ++ bool_numbers f.no_follow ++ bool_numbers f.directory ++ bool_numbers f.close_on_exec

abbrev pub operand_numbers : Operand → Numbers
operand_numbers (Number n) = 0 ∷ integer_numbers n
operand_numbers (Register r) = 1 ∷ number_numbers r

abbrev pub origin_numbers : Origin → Numbers
origin_numbers WorkingDirectory = 0 ∷ []
origin_numbers (AtDescriptor d) = 1 ∷ operand_numbers d

abbrev pub text_numbers : Option Bytes → Numbers
text_numbers text = option_numbers bytes_numbers text

-- the number of the instruction, then its arguments
unfoldable pub instruction_numbers : Instruction → Numbers
instruction_numbers (Set r n) = 0 ∷ number_numbers r ++ integer_numbers n
instruction_numbers (Add r n) = 1 ∷ number_numbers r ++ integer_numbers n
instruction_numbers (Put bytes) = 2 ∷ bytes_numbers bytes
instruction_numbers (Peek r k) = 3 ∷ number_numbers r ++ number_numbers k
instruction_numbers (Jump line) = 4 ∷ number_numbers line
instruction_numbers (JumpIfZero r line) = 5 ∷ number_numbers r ++ number_numbers line
instruction_numbers (JumpIfNotZero r line) = 6 ∷ number_numbers r ++ number_numbers line
instruction_numbers (JumpIfNegative r line) = 7 ∷ number_numbers r ++ number_numbers line
instruction_numbers Fork = 8 ∷ []
instruction_numbers Wait = 9 ∷ []
instruction_numbers GetPid = 10 ∷ []
instruction_numbers GetPpid = 11 ∷ []
instruction_numbers (Exit code) = 12 ∷ operand_numbers code
instruction_numbers (Close d) = 13 ∷ operand_numbers d
instruction_numbers (Dup d) = 14 ∷ operand_numbers d
instruction_numbers (Fstat d) = 15 ∷ operand_numbers d
instruction_numbers (Getdents d) = 16 ∷ operand_numbers d
instruction_numbers (Fchdir d) = 17 ∷ operand_numbers d
instruction_numbers (Dup2 d e) = 18 ∷ operand_numbers d ++ operand_numbers e
instruction_numbers (Read d n) = 19 ∷ operand_numbers d ++ operand_numbers n
instruction_numbers (Write d n) = 20 ∷ operand_numbers d ++ operand_numbers n
instruction_numbers (Ftruncate d n) = 21 ∷ operand_numbers d ++ operand_numbers n
instruction_numbers (Lseek d by whence) = 22 ∷ operand_numbers d ++ operand_numbers by ++ whence_numbers whence
instruction_numbers (Pledge promises execpromises) = 23 ∷ text_numbers promises ++ text_numbers execpromises
instruction_numbers (Unveil path permissions) = 24 ∷ text_numbers path ++ text_numbers permissions
instruction_numbers (Execve path) = 25 ∷ bytes_numbers path
instruction_numbers (Chdir path) = 26 ∷ bytes_numbers path
instruction_numbers (Stat path) = 27 ∷ bytes_numbers path
instruction_numbers (Lstat path) = 28 ∷ bytes_numbers path
instruction_numbers (Readlink path) = 29 ∷ bytes_numbers path
instruction_numbers (Unlink path) = 30 ∷ bytes_numbers path
instruction_numbers (Mkdir path) = 31 ∷ bytes_numbers path
instruction_numbers (Rmdir path) = 32 ∷ bytes_numbers path
instruction_numbers (Open path flags) = 33 ∷ bytes_numbers path ++ flags_numbers flags
instruction_numbers (OpenAt origin path flags) = 34 ∷ origin_numbers origin ++ bytes_numbers path ++ flags_numbers flags
instruction_numbers (Rename path new) = 35 ∷ bytes_numbers path ++ bytes_numbers new
instruction_numbers (Link path new) = 36 ∷ bytes_numbers path ++ bytes_numbers new
instruction_numbers (Symlink text path) = 37 ∷ bytes_numbers text ++ bytes_numbers path

-- ---- processes

abbrev pub descriptor_numbers : Descriptor → Numbers
descriptor_numbers d = number_numbers d.file ++ bool_numbers d.close_on_exec

abbrev pub target_numbers : Target → Numbers
target_numbers (Directory n) = 0 ∷ number_numbers n
target_numbers (Name d name) = 1 ∷ number_numbers d ++ bytes_numbers name

abbrev pub permissions_numbers : Perms → Numbers
permissions_numbers p = bool_numbers p.r ++ bool_numbers p.w ++ bool_numbers p.x ++ bool_numbers p.c

abbrev pub entry_numbers : Target × Perms → Numbers
entry_numbers e = target_numbers e.0 ++ permissions_numbers e.1

unfoldable pub process_numbers : Process → Numbers
process_numbers p =
    number_numbers p.line ++ list_numbers integer_numbers p.registers ++ number_numbers p.parent ++ number_numbers p.directory
    ++ bool_numbers p.locked ++ option_numbers number_numbers p.promises ++ option_numbers number_numbers p.execpromises
    ++ list_numbers (option_numbers descriptor_numbers) p.descriptors ++ option_numbers (list_numbers entry_numbers) p.table
    ++ list_numbers instruction_numbers p.program ++ bytes_numbers p.buffer

abbrev pub record_numbers : ℕ × ProcessRecord → Numbers
record_numbers (pid, live p) = number_numbers pid ++ 0 ∷ process_numbers p
record_numbers (pid, ended_record parent status) = number_numbers pid ++ 1 ∷ number_numbers parent ++ number_numbers status

-- ---- the tree and open files

abbrev pub name_numbers : Bytes × ℕ → Numbers
name_numbers e = bytes_numbers e.0 ++ number_numbers e.1

abbrev pub node_numbers : Node → Numbers
node_numbers (directory_node es) = 0 ∷ list_numbers name_numbers es
node_numbers (file_node executable bytes) = 1 ∷ bool_numbers executable ++ bytes_numbers bytes
node_numbers (link_node text) = 2 ∷ bytes_numbers text

abbrev pub version_numbers : Version → Numbers
version_numbers V1 = 0 ∷ []
version_numbers V2 = 1 ∷ []

unfoldable pub tree_numbers : Tree → Numbers
tree_numbers t =
    version_numbers t.version ++ number_numbers t.blocks ++ number_numbers t.inodes ++ list_numbers (option_numbers node_numbers) t.nodes

abbrev pub file_numbers : OpenFile → Numbers
file_numbers f =
    number_numbers f.node ++ mode_numbers f.mode ++ bool_numbers f.append ++ number_numbers f.offset ++ option_numbers bytes_numbers f.listed

-- ---- states

unfoldable pub state_numbers : State → Numbers
state_numbers s =
    number_numbers s.last_process ++ list_numbers record_numbers s.processes ++ list_numbers (option_numbers file_numbers) s.files
    ++ tree_numbers s.tree

abbrev pub same_state : State → State → Bool
same_state s other = bytes_eq (state_numbers s) (state_numbers other)
