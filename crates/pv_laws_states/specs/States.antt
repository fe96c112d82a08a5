-- The invariant of all states of a run.
use Rattle.std.specs.Prelude.{◌≡◌, ◌≢◌, ℕ, suc, ◌≤◌, ℤ, pos, negsuc, Bool, true, false, not, ◌&&◌, ◌||◌, ◌==◌, IsTrue, IsFalse, nat_le, nat_lt, List, length, Option, None, Some, is_some}
use Rattle.std.specs.FinMap.Entries.{find, is_sorted}
use Rattle.std.specs.List.{list_all}
use Rattle.std.specs.Ordering.{nat_cmp}
use Rattle.pv_model.specs.declared.limits.TheConstants.{BUFFER, DESCRIPTORS, LAST_PROCESS, LINES, NUMBER, OFFSET, OPEN_FILES, PROCESSES, REGISTERS, TEXT, UNVEILS}
use Rattle.pv_model.specs.declared.call.Call.{Call}
use Rattle.pv_model.specs.declared.call.Call.TheVariants.{Exit, GetPid, GetPpid, Fork, Wait, Pledge, Unveil, Execve, Open, OpenAt, Close, Dup, Dup2, Read, Write, Lseek, Fstat, Ftruncate, Getdents, Fchdir, Chdir, Stat, Lstat, Readlink, Mkdir, Symlink, Link, Unlink, Rmdir, Rename}
use Rattle.pv_model.specs.declared.call.Start.{Start}
use Rattle.pv_model.specs.declared.call.Start.TheVariants.{WorkingDirectory, Descriptor as AtDescriptor}
use Rattle.pv_model.specs.declared.instruction.Instruction.{Instruction}
use Rattle.pv_model.specs.declared.instruction.Instruction.TheVariants as Line
use Rattle.pv_model.specs.declared.instruction.Operand.{Operand}
use Rattle.pv_model.specs.declared.instruction.Operand.TheVariants.{Number, Register}
use Rattle.pv_model.specs.declared.instruction.Origin.{Origin}
use Rattle.pv_model.specs.declared.instruction.Origin.TheVariants.{WorkingDirectory as HereOrigin, Descriptor as OfDescriptor}
use Rattle.pv_model.specs.declared.place.Place.{Place}
use Rattle.pv_model.specs.declared.place.Place.TheVariants.{At, Node as Unnamed}
use Rattle.pv_model.specs.declared.version.Version.{Version}
use Rattle.pv_model.specs.Machine.{answer, Bytes, parent_of, collect, Numbered, at_number, fits, is_too_long, is_file, OpenFile, Descriptor, Program, Process, ProcessRecord, ended_record, State, writes, first_state, process_at, step, run, Tree, node_at, is_directory_at, is_name, is_removed, find_entry, IsWellFormed, Table}
use Rattle.pv_model.specs.declared.target.Target.{Target}
use Rattle.pv_model.specs.declared.target.Target.TheVariants.{Directory as of_directory, Name as of_name}
use Rattle.pv_laws_trees.specs.Preserved.{EachIsNamed}
pub use Rattle.pv_laws_trees.specs.Encoded.{is_byte, are_bytes, has_bytes, AllBytes}

-- ---- numbers, bytes and texts

-- a signed number of 32 bits
abbrev pub is_word : ℤ → Bool
is_word (pos n) = nat_le n NUMBER
is_word (negsuc n) = nat_le n NUMBER

-- a byte of a text in a program, which is not 0
abbrev pub is_text_byte : ℕ → Bool
is_text_byte b = not (b == 0) && is_byte b

abbrev pub is_text : Bytes → Bool
is_text bs = nat_le (length bs) TEXT && list_all is_text_byte bs

abbrev pub is_text_or_none : Option Bytes → Bool
is_text_or_none None = true
is_text_or_none (Some bs) = is_text bs

-- ---- programs and calls

abbrev pub is_operand : Operand → Bool
is_operand (Number n) = is_word n
is_operand (Register r) = nat_lt r REGISTERS

abbrev pub is_origin : Origin → Bool
is_origin HereOrigin = true
is_origin (OfDescriptor d) = is_operand d

abbrev pub is_target_line : ℕ → ℕ → Bool
is_target_line lines line = nat_le 1 line && nat_le line lines

-- a valid instruction in a program with a number of lines
abbrev pub is_instruction : ℕ → Instruction → Bool
is_instruction lines (Line.Set r n) = nat_lt r REGISTERS && is_word n
is_instruction lines (Line.Add r n) = nat_lt r REGISTERS && is_word n
is_instruction lines (Line.Put bytes) = is_text bytes
is_instruction lines (Line.Peek r k) = nat_lt r REGISTERS && nat_lt k BUFFER
is_instruction lines (Line.Jump line) = is_target_line lines line
is_instruction lines (Line.JumpIfZero r line) = nat_lt r REGISTERS && is_target_line lines line
is_instruction lines (Line.JumpIfNotZero r line) = nat_lt r REGISTERS && is_target_line lines line
is_instruction lines (Line.JumpIfNegative r line) = nat_lt r REGISTERS && is_target_line lines line
is_instruction lines Line.Fork = true
is_instruction lines Line.Wait = true
is_instruction lines Line.GetPid = true
is_instruction lines Line.GetPpid = true
is_instruction lines (Line.Exit code) = is_operand code
is_instruction lines (Line.Close d) = is_operand d
is_instruction lines (Line.Dup d) = is_operand d
is_instruction lines (Line.Fstat d) = is_operand d
is_instruction lines (Line.Getdents d) = is_operand d
is_instruction lines (Line.Fchdir d) = is_operand d
is_instruction lines (Line.Dup2 d e) = is_operand d && is_operand e
is_instruction lines (Line.Read d n) = is_operand d && is_operand n
is_instruction lines (Line.Write d n) = is_operand d && is_operand n
is_instruction lines (Line.Ftruncate d n) = is_operand d && is_operand n
is_instruction lines (Line.Lseek d by whence) = is_operand d && is_operand by
is_instruction lines (Line.Pledge promises execpromises) = is_text_or_none promises && is_text_or_none execpromises
is_instruction lines (Line.Unveil path permissions) = is_text_or_none path && is_text_or_none permissions
is_instruction lines (Line.Execve path) = is_text path
is_instruction lines (Line.Chdir path) = is_text path
is_instruction lines (Line.Stat path) = is_text path
is_instruction lines (Line.Lstat path) = is_text path
is_instruction lines (Line.Readlink path) = is_text path
is_instruction lines (Line.Unlink path) = is_text path
is_instruction lines (Line.Mkdir path) = is_text path
is_instruction lines (Line.Rmdir path) = is_text path
is_instruction lines (Line.Open path flags) = is_text path
is_instruction lines (Line.OpenAt origin path flags) = is_origin origin && is_text path
is_instruction lines (Line.Rename path new) = is_text path && is_text new
is_instruction lines (Line.Link path new) = is_text path && is_text new
is_instruction lines (Line.Symlink text path) = is_text text && is_text path

-- a valid program: at most 256 valid instructions
abbrev pub is_program_in_bounds : Program → Bool
is_program_in_bounds lines = nat_le (length lines) LINES && list_all (is_instruction (length lines)) lines

-- every program that `program_of` returns is valid
pub record EncodesPrograms (program_of : Bytes → Option Program) : Type 0 where
  pub encodes : (bytes : Bytes) (program : Program) → program_of bytes ≡ Some program → IsTrue (is_program_in_bounds program)

abbrev pub is_start : Start → Bool
is_start WorkingDirectory = true
is_start (AtDescriptor d) = is_word d

-- a valid call: its numbers and texts are in range
abbrev pub is_call : Call → Bool
is_call (Exit code) = is_word code
is_call GetPid = true
is_call GetPpid = true
is_call Fork = true
is_call Wait = true
is_call (Pledge promises execpromises) = is_text_or_none promises && is_text_or_none execpromises
is_call (Unveil path permissions) = is_text_or_none path && is_text_or_none permissions
is_call (Execve path) = is_text path
is_call (Open path flags) = is_text path
is_call (OpenAt start path flags) = is_start start && is_text path
is_call (Close d) = is_word d
is_call (Dup d) = is_word d
is_call (Dup2 d e) = is_word d && is_word e
is_call (Read d n) = is_word d && is_word n
is_call (Write d n) = is_word d && is_word n
is_call (Lseek d by whence) = is_word d && is_word by
is_call (Fstat d) = is_word d
is_call (Ftruncate d n) = is_word d && is_word n
is_call (Getdents d) = is_word d
is_call (Fchdir d) = is_word d
is_call (Chdir path) = is_text path
is_call (Stat path) = is_text path
is_call (Lstat path) = is_text path
is_call (Readlink path) = is_text path
is_call (Mkdir path) = is_text path
is_call (Symlink text path) = is_text text && is_text path
is_call (Link path new) = is_text path && is_text new
is_call (Unlink path) = is_text path
is_call (Rmdir path) = is_text path
is_call (Rename path new) = is_text path && is_text new

-- ---- trees, open files, processes

pub record IsTree (t : Tree) : Type 0 where
  pub well_formed : IsWellFormed t
  pub bytes : AllBytes t

abbrev pub is_listed_name : Version → Option Bytes → Bool
is_listed_name v None = true
is_listed_name v (Some name) = is_name v name && are_bytes name

-- an open file is on an existing file or directory, and a directory is open only for reading
pub record IsOpenFile (t : Tree) (f : OpenFile) : Type 0 where
  pub node : IsTrue (is_file (node_at t f.node) || is_directory_at t f.node)
  pub directory : IsTrue (is_directory_at t f.node) → IsFalse (writes f.mode)
  pub offset : f.offset ≤ OFFSET
  pub listed : IsTrue (is_listed_name t.version f.listed)

pub record AreFiles (t : Tree) (files : Numbered OpenFile) : Type 0 where
  pub count : length files ≡ OPEN_FILES
  pub each : (k : ℕ) (f : OpenFile) → at_number files k ≡ Some f → IsOpenFile t f

-- the directory of a target exists
abbrev pub is_target : Tree → Target → Bool
is_target t (of_directory d) = is_directory_at t d
is_target t (of_name d name) = is_directory_at t d && (is_name t.version name && are_bytes name)

-- the result of a walk: a directory without a name, or a place in a directory that is not removed, with the node that
-- the name has there
abbrev pub IsFinePlace : Tree → Place → Type 0
IsFinePlace t (Unnamed d) = is_directory_at t d ≡ true
IsFinePlace t (At d name n) = (is_directory_at t d ≡ true) × (is_removed t d ≡ false) × (find_entry t d name ≡ n) × (is_name t.version name ≡ true) × (are_bytes name ≡ true)

-- a table has at most 64 entries
abbrev pub is_table : Tree → Option Table → Bool
is_table t None = true
is_table t (Some table) = nat_le (length table) UNVEILS && list_all (λ e. is_target t e.0) table

-- the private part of a process: its program and line, registers and buffer
pub record IsRunning (p : Process) : Type 0 where
  pub program : IsTrue (is_program_in_bounds p.program)
  pub line : (1 ≤ p.line) × (p.line ≤ suc (length p.program))
  pub registers : (length p.registers ≡ REGISTERS) × IsTrue (list_all is_word p.registers)
  pub buffer : (length p.buffer ≡ BUFFER) × IsTrue (are_bytes p.buffer)

-- the references of a process are valid: its directory, the open files of its descriptors, its targets
pub record IsPlaced (t : Tree) (files : Numbered OpenFile) (p : Process) : Type 0 where
  pub directory : IsTrue (is_directory_at t p.directory)
  pub descriptors : length p.descriptors ≡ DESCRIPTORS
  pub opens : (d : ℕ) (descriptor : Descriptor) → at_number p.descriptors d ≡ Some descriptor → IsTrue (is_some (at_number files descriptor.file))
  pub table : IsTrue (is_table t p.table)

abbrev pub is_process_number : ℕ → ℕ → Bool
is_process_number last pid = nat_le 1 pid && nat_le pid last

-- the process table: at most 32 records in ascending order, and each child has a live parent or parent 0
pub record AreProcesses (s : State) : Type 0 where
  pub ascending : IsTrue (is_sorted nat_cmp s.processes)
  pub numbers : IsTrue (list_all (λ r. is_process_number s.last_process r.0) s.processes)
  pub count : length s.processes ≤ PROCESSES
  pub last : (1 ≤ s.last_process) × (s.last_process ≤ LAST_PROCESS)
  pub running : (pid : ℕ) (p : Process) → process_at s pid ≡ Some p → IsRunning p
  pub placed : (pid : ℕ) (p : Process) → process_at s pid ≡ Some p → IsPlaced s.tree s.files p
  pub first : (p : Process) → process_at s 1 ≡ Some p → p.parent ≡ 0
  pub parents : (pid : ℕ) (r : ProcessRecord) → find nat_cmp pid s.processes ≡ Some r → parent_of r ≢ 0 → IsTrue (is_some (process_at s (parent_of r)))
  pub ended : (pid parent status : ℕ) → find nat_cmp pid s.processes ≡ Some (ended_record parent status) → (parent ≢ 0) × (status ≤ 65535)

-- the invariant of a state before unreferenced nodes and files are collected
pub record IsSolid (s : State) : Type 0 where
  pub tree : IsTree s.tree
  pub files : AreFiles s.tree s.files
  pub processes : AreProcesses s

-- the invariant of every state of a run
pub record IsValid (s : State) : Type 0 where
  pub tree : IsTree s.tree
  pub files : AreFiles s.tree s.files
  pub processes : AreProcesses s
  pub collected : collect s ≡ s
  pub fits : IsTrue (fits s.tree)
  pub not_too_long : IsFalse (is_too_long s.tree)

-- ---- the laws

-- a tree that the machine may start with
pub record IsFirstTree (t : Tree) : Type 0 where
  pub tree : IsTree t
  pub named : EachIsNamed t
  pub fits : IsTrue (fits t)
  pub not_too_long : IsFalse (is_too_long t)

abbrev pub FirstIsValid : Type 0
FirstIsValid = (t : Tree) (program : Program) → IsFirstTree t → IsTrue (is_program_in_bounds program) → IsValid (first_state t program)

abbrev pub CallPreservesValidity : Type 0
CallPreservesValidity =
    (program_of : Bytes → Option Program) → EncodesPrograms program_of → (s : State) (pid : ℕ) (call : Call) → IsTrue (is_call call)
    → IsValid s → IsValid (answer program_of s pid call).after

abbrev pub StepPreservesValidity : Type 0
StepPreservesValidity =
    (program_of : Bytes → Option Program) → EncodesPrograms program_of → (s : State) (pid : ℕ) → IsValid s → IsValid (step program_of s pid).after

abbrev pub RunPreservesValidity : Type 0
RunPreservesValidity =
    (program_of : Bytes → Option Program) → EncodesPrograms program_of → (pids : List ℕ) (s : State) → IsValid s → IsValid (run program_of pids s).final
