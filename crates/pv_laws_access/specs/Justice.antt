-- Laws of complete mediation: the justification of each touch of a step.
use Rattle.std.specs.Prelude.{◌≡◌, ℕ, Bool, true, false, IsTrue, Option, None, Some}
use Rattle.pv_model.specs.declared.call.Call.{Call}
use Rattle.pv_model.specs.declared.call.Call.TheVariants.{Execve, Open, OpenAt, Read, Write, Lseek, Fstat, Ftruncate, Stat, Lstat}
use Rattle.pv_model.specs.declared.call.Whence.TheVariants.{End}
use Rattle.pv_model.specs.declared.open_flags.Mode.{Mode}
use Rattle.pv_model.specs.Machine.{Bytes, needs, calls_for, next, missing_promise, Program, Process, State, process_at, read_file, change_file, report_node, gain_descriptor, Touches, Justifies}
use Rattle.pv_model.specs.Touch.{Touch, change_entry, IsJustified}
use Rattle.pv_laws_states.specs.States.{IsValid}

-- a touch is justified by the call of its process, whose promises are held
abbrev pub IsExplained : State → ℕ → Touch → Type 0
IsExplained s pid touch =
    (p : Process) × (call : Call) × (process_at s pid ≡ Some p) × (next p ≡ calls_for call)
    × (missing_promise p.promises (needs call) ≡ None) × Justifies s p call touch

-- the calls that read the bytes of a file, that may change them, and that ask for the size of a node
abbrev pub reads_bytes : Call → Bool
reads_bytes (Read d n) = true
reads_bytes (Execve path) = true
reads_bytes call = false

abbrev pub changes_bytes : Call → Bool
changes_bytes (Write d n) = true
changes_bytes (Ftruncate d n) = true
changes_bytes (Open path flags) = true
changes_bytes (OpenAt start path flags) = true
changes_bytes call = false

abbrev pub asks_size : Call → Bool
asks_size (Stat path) = true
asks_size (Lstat path) = true
asks_size (Fstat d) = true
asks_size (Lseek d by End) = true
asks_size call = false

-- a call reads the bytes of a file, changes them, or asks for their number, with a justification
abbrev pub ReadsBytes : State → Process → Call → ℕ → Type 0
ReadsBytes s p call f = IsTrue (reads_bytes call) × Justifies s p call (read_file f)

abbrev pub ChangesBytes : State → Process → Call → ℕ → Type 0
ChangesBytes s p call f = IsTrue (changes_bytes call) × Justifies s p call (change_file f)

abbrev pub AsksSize : State → Process → Call → ℕ → Type 0
AsksSize s p call f = IsTrue (asks_size call) × Justifies s p call (report_node f)

-- the next call of a process does so, and its promises are held
abbrev pub HasEffectNext : (State → Process → Call → ℕ → Type 0) → State → ℕ → ℕ → Type 0
HasEffectNext HasEffect s pid f =
    (p : Process) × (call : Call) × (process_at s pid ≡ Some p) × (next p ≡ calls_for call)
    × (missing_promise p.promises (needs call) ≡ None) × HasEffect s p call f

-- an entry changes only if the call has a place at that entry that is allowed for c
abbrev pub EntriesAreJustified : Type 0
EntriesAreJustified =
    (program_of : Bytes → Option Program) (s : State) (pid : ℕ) (d : ℕ) (name : Bytes) → IsValid s
    → Touches program_of s pid (change_entry d name) → IsExplained s pid (change_entry d name)

-- the bytes of a file change only by a descriptor that is open for writing, or by an open that truncates the file and
-- is allowed for its permissions
abbrev pub FilesAreJustified : Type 0
FilesAreJustified =
    (program_of : Bytes → Option Program) (s : State) (pid : ℕ) (f : ℕ) → IsValid s
    → Touches program_of s pid (change_file f) → IsExplained s pid (change_file f)

-- a node is reported only by a descriptor on it, or by a place that is allowed for r
abbrev pub ReportingIsJustified : Type 0
ReportingIsJustified =
    (program_of : Bytes → Option Program) (s : State) (pid : ℕ) (n : ℕ) → IsValid s
    → Touches program_of s pid (report_node n) → IsExplained s pid (report_node n)

-- a descriptor in a new mode on a node is gained only by an open whose place is allowed for its permissions
abbrev pub GainsAreJustified : Type 0
GainsAreJustified =
    (program_of : Bytes → Option Program) (s : State) (pid : ℕ) (n : ℕ) (mode : Mode) → IsValid s
    → Touches program_of s pid (gain_descriptor n mode) → IsExplained s pid (gain_descriptor n mode)

-- the outcome and the next state depend on the bytes of a file only if the call reads by a descriptor on it, or
-- executes it at a place that is allowed for x
abbrev pub ReadsAreJustified : Type 0
ReadsAreJustified =
    (program_of : Bytes → Option Program) (s : State) (pid : ℕ) (f : ℕ)
    → Touches program_of s pid (read_file f) → IsExplained s pid (read_file f)

-- each touch of each step in a valid state is justified
abbrev pub TouchesAreJustified : Type 0
TouchesAreJustified = (program_of : Bytes → Option Program) (s : State) (pid : ℕ) → IsValid s → IsJustified program_of s pid
