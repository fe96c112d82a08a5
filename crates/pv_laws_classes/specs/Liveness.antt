-- Live variables of programs, and states that are equal up to dead variables.
use Rattle.std.specs.Prelude.{◌≡◌, ℕ, zero, suc, ◌-◌, ◌≤◌, ℤ, pos, negsuc, Bool, true, false, not, ◌&&◌, ◌||◌, ◌==◌, if◌then◌else◌, IsTrue, IsFalse, nat_lt, min, max, List, [], ◌∷◌, map, length, slice_get, slice_index, slice_index_or, Option, Some}
use Rattle.std.specs.List.{list_any}
use Rattle.pv_model.specs.declared.instruction.Instruction.{Instruction}
use Rattle.pv_model.specs.declared.instruction.Instruction.TheVariants.{Set, Add, Put, Peek, Jump, JumpIfZero, JumpIfNotZero, JumpIfNegative, Exit, Close, Dup, Dup2, Read, Write, Lseek, Fstat, Ftruncate, Getdents, Fchdir, OpenAt}
use Rattle.pv_model.specs.declared.instruction.Operand.{Operand}
use Rattle.pv_model.specs.declared.instruction.Operand.TheVariants.{Number, Register}
use Rattle.pv_model.specs.declared.instruction.Origin.{Origin}
use Rattle.pv_model.specs.declared.instruction.Origin.TheVariants.{WorkingDirectory, Descriptor}
use Rattle.pv_model.specs.declared.limits.TheConstants.{BUFFER}
use Rattle.pv_model.specs.Machine.{Bytes, Program, Process, ProcessRecord, live, ended_record, State, Stepped, Run, step, run}
use Rattle.pv_laws_states.specs.States.{is_program_in_bounds, IsValid}

-- ---- variables

-- a variable of a process: a register, or a byte of the buffer
pub data Variable : Type 0 where
  register_variable : (number : ℕ) → Variable
  byte_variable : (offset : ℕ) → Variable

abbrev pub value_in : List ℤ → Bytes → Variable → ℤ
value_in registers buffer (register_variable r) = slice_index_or registers r (pos 0)
value_in registers buffer (byte_variable k) = pos (slice_index buffer k)

abbrev pub is_register : ℕ → Variable → Bool
is_register r (register_variable q) = q == r
is_register r (byte_variable k) = false

abbrev pub is_byte_at : ℕ → Variable → Bool
is_byte_at k (register_variable r) = false
is_byte_at k (byte_variable j) = j == k

abbrev pub is_byte_below : ℕ → Variable → Bool
is_byte_below n (register_variable r) = false
is_byte_below n (byte_variable k) = nat_lt k n

-- the registers where a call returns its result
abbrev pub is_result : Variable → Bool
is_result v = is_register 0 v || is_register 1 v

-- ---- instructions

abbrev pub operand_reads : Operand → Variable → Bool
operand_reads (Number n) v = false
operand_reads (Register r) v = is_register r v

abbrev pub origin_reads : Origin → Variable → Bool
origin_reads WorkingDirectory v = false
origin_reads (Descriptor d) v = operand_reads d v

-- the number of bytes that a write may read from the buffer: all if the count is in a register
abbrev pub bytes_taken : Operand → ℕ
bytes_taken (Number (pos n)) = n
bytes_taken (Number (negsuc n)) = 0
bytes_taken (Register r) = BUFFER

-- whether an instruction may read a variable
abbrev pub reads_variable : Instruction → Variable → Bool
reads_variable (Add r n) v = is_register r v
reads_variable (Peek r k) v = is_byte_at k v
reads_variable (JumpIfZero r line) v = is_register r v
reads_variable (JumpIfNotZero r line) v = is_register r v
reads_variable (JumpIfNegative r line) v = is_register r v
reads_variable (Exit code) v = operand_reads code v
reads_variable (Close d) v = operand_reads d v
reads_variable (Dup d) v = operand_reads d v
reads_variable (Fstat d) v = operand_reads d v
reads_variable (Getdents d) v = operand_reads d v
reads_variable (Fchdir d) v = operand_reads d v
reads_variable (Dup2 d e) v = operand_reads d v || operand_reads e v
reads_variable (Read d n) v = operand_reads d v || operand_reads n v
reads_variable (Write d n) v = operand_reads d v || operand_reads n v || is_byte_below (bytes_taken n) v
reads_variable (Ftruncate d n) v = operand_reads d v || operand_reads n v
reads_variable (Lseek d by whence) v = operand_reads d v || operand_reads by v
reads_variable (OpenAt origin path flags) v = origin_reads origin v
reads_variable _ v = false

-- whether an instruction sets a variable whenever the process continues after it; a call may return no bytes
abbrev pub sets_variable : Instruction → Variable → Bool
sets_variable (Set r n) v = is_register r v
sets_variable (Add r n) v = is_register r v
sets_variable (Put bytes) v = is_byte_below (length bytes) v
sets_variable (Peek r k) v = is_register r v
sets_variable (Jump line) v = false
sets_variable (JumpIfZero r line) v = false
sets_variable (JumpIfNotZero r line) v = false
sets_variable (JumpIfNegative r line) v = false
sets_variable _ v = is_result v

abbrev pub line_after : Program → ℕ → ℕ
line_after program line = min (suc line) (suc (length program))

-- the lines where a program may continue after an instruction at a line. An execve continues at the first line of another
-- program, with all variables set
abbrev pub targets : Program → ℕ → Instruction → List ℕ
targets program line (Jump target) = target ∷ []
targets program line (JumpIfZero r target) = target ∷ line_after program line ∷ []
targets program line (JumpIfNotZero r target) = target ∷ line_after program line ∷ []
targets program line (JumpIfNegative r target) = target ∷ line_after program line ∷ []
targets program line (Exit code) = []
targets program line instruction = line_after program line ∷ []

abbrev pub may_continue : Program → ℕ → Instruction → ℕ → Bool
may_continue program line instruction next = list_any (λ target. target == next) (targets program line instruction)

-- ---- live variables

-- for each program and line, the variables that are considered live
abbrev pub Live : Type 1
Live = Program → ℕ → Variable → Type 0

-- every variable that a line reads is live there, and every variable that is live at a next line is live unless it is
-- set
pub record IsClosedTest (is_live : Live) : Type 0 where
  pub of_line : (program : Program) (line : ℕ) (i : Instruction) (v : Variable) → slice_get program (line - 1) ≡ Some i → IsTrue (reads_variable i v) → is_live program line v
  pub of_next : (program : Program) (line next : ℕ) (i : Instruction) (v : Variable) → slice_get program (line - 1) ≡ Some i → IsTrue (may_continue program line i next) → IsFalse (sets_variable i v)
      → is_live program next v → is_live program line v

-- some path of the program from a line reads the variable before setting it
pub data IsRead (program : Program) : ℕ → Variable → Type 0 where
  here : (line : ℕ) (i : Instruction) (v : Variable) → slice_get program (line - 1) ≡ Some i → IsTrue (reads_variable i v) → IsRead program line v
  later : (line next : ℕ) (i : Instruction) (v : Variable) → slice_get program (line - 1) ≡ Some i → IsTrue (may_continue program line i next) → IsFalse (sets_variable i v)
      → IsRead program next v → IsRead program line v

-- the variables that a test considers live
abbrev pub by_test : (Program → ℕ → Variable → Bool) → Live
by_test test program line v = IsTrue (test program line v)

-- ---- live variables by iteration

-- a table says of each line whether a variable is live there, the first line at index 0. Line 0 does not exist
abbrev pub has_line : List Bool → ℕ → Bool
has_line table zero = true
has_line table (suc k) = slice_index_or table k false

module _ (program : Program) (v : Variable) where
  -- whether a line needs the variable, if a table has the lines that need it later
  abbrev pub is_needed : List Bool → ℕ → Instruction → Bool
  is_needed table line i = reads_variable i v || (not (sets_variable i v) && list_any (has_line table) (targets program line i))

  abbrev pub next_table : List Bool → ℕ → List Instruction → List Bool
  next_table table line [] = []
  next_table table line (i ∷ rest) = is_needed table line i ∷ next_table table (suc line) rest

  -- the table after a number of rounds, which begin with a variable that is dead everywhere
  abbrev pub rounds : ℕ → List Bool
  rounds zero = map (λ i. false) program
  rounds (suc n) = next_table (rounds n) 1 program

-- whether a variable is live at a line: n rounds suffice for a program of n lines
abbrev pub is_live_at : Program → ℕ → Variable → Bool
is_live_at program line v = has_line (rounds program v (length program)) line

-- the bytes that an instruction may read are below this number
abbrev pub read_bound : Instruction → ℕ
read_bound (Peek r k) = suc k
read_bound (Write d n) = bytes_taken n
read_bound i = 0

abbrev pub bound_if : (ℕ → Bool) → ℕ → ℕ
bound_if test zero = 0
bound_if test (suc k) = if test k then suc k else 0

-- the greatest of the bounds whose last byte passes a test
abbrev pub greatest_bound : (ℕ → Bool) → List Instruction → ℕ
greatest_bound test [] = 0
greatest_bound test (i ∷ rest) = max (bound_if test (read_bound i)) (greatest_bound test rest)

-- the bytes that are live at a line are below this number
abbrev pub live_bytes : Program → ℕ → ℕ
live_bytes program line = greatest_bound (λ k. is_live_at program line (byte_variable k)) program

-- a coarser test: a set of registers and a bound of bytes for each line
abbrev pub is_live_below : Program → ℕ → Variable → Bool
is_live_below program line (register_variable r) = is_live_at program line (register_variable r)
is_live_below program line (byte_variable k) = nat_lt k (live_bytes program line)

-- ---- states that are equal up to dead variables

-- a process with other registers and another buffer
abbrev pub with_values : List ℤ → Bytes → Process → Process
with_values registers buffer p = record p { registers = registers; buffer = buffer }

-- registers and a buffer that agree with those of a process in all variables that are live at its line
pub record AgreeOnLive (is_live : Live) (p : Process) (registers : List ℤ) (buffer : Bytes) : Type 0 where
  pub registers_count : length registers ≡ length p.registers
  pub buffer_length : length buffer ≡ length p.buffer
  pub values : (v : Variable) → is_live p.program p.line v → value_in registers buffer v ≡ value_in p.registers p.buffer v

-- the same records in the same order, except for registers and buffers that are related by `Agree`
pub data SameExceptValues (Agree : ℕ → Process → List ℤ → Bytes → Type 0) : List (ℕ × ProcessRecord) → List (ℕ × ProcessRecord) → Type 0 where
  none : SameExceptValues Agree [] []
  both_live : (number : ℕ) (p : Process) (registers : List ℤ) (buffer : Bytes) (rs ts : List (ℕ × ProcessRecord)) → Agree number p registers buffer → SameExceptValues Agree rs ts
      → SameExceptValues Agree ((number, live p) ∷ rs) ((number, live (with_values registers buffer p)) ∷ ts)
  both_ended : (number parent status : ℕ) (rs ts : List (ℕ × ProcessRecord)) → SameExceptValues Agree rs ts
      → SameExceptValues Agree ((number, ended_record parent status) ∷ rs) ((number, ended_record parent status) ∷ ts)

-- state t is state s up to variables of processes that are dead at their lines
pub record EqualUpToDead (is_live : Live) (s t : State) : Type 0 where
  pub tree : t.tree ≡ s.tree
  pub files : t.files ≡ s.files
  pub last_process : t.last_process ≡ s.last_process
  pub processes : SameExceptValues (λ number. AgreeOnLive is_live) s.processes t.processes

-- ---- dead variables set to zero

-- a list with zero in place of the values whose indices, counted from k, a test rejects
abbrev pub cleared_from : {X : Type 0} → (ℕ → Bool) → X → ℕ → List X → List X
cleared_from test nothing k [] = []
cleared_from test nothing k (x ∷ xs) = (if test k then x else nothing) ∷ cleared_from test nothing (suc k) xs

module _ (test : Program → ℕ → Variable → Bool) where
  abbrev pub cleared_registers : Program → ℕ → List ℤ → List ℤ
  cleared_registers program line registers = cleared_from (λ r. test program line (register_variable r)) (pos 0) 0 registers

  abbrev pub cleared_buffer : Program → ℕ → Bytes → Bytes
  cleared_buffer program line buffer = cleared_from (λ k. test program line (byte_variable k)) 0 0 buffer

  abbrev pub cleared_record : ProcessRecord → ProcessRecord
  cleared_record (live p) = live (with_values (cleared_registers p.program p.line p.registers) (cleared_buffer p.program p.line p.buffer) p)
  cleared_record (ended_record parent status) = ended_record parent status

  -- the state with zero in the variables that the test rejects
  abbrev pub cleared : State → State
  cleared s = record s { processes = map (λ r. (r.0, cleared_record r.1)) s.processes }

-- ---- the laws

-- the variables that some path reads before setting them are closed
abbrev pub ReadIsClosed : Type 0
ReadIsClosed = IsClosedTest IsRead

-- a test that is closed accepts all of them
abbrev pub ClosedTestsAcceptRead : Type 0
ClosedTestsAcceptRead = (test : Program → ℕ → Variable → Bool) → IsClosedTest (by_test test) → (program : Program) (line : ℕ) (v : Variable) → IsRead program line v → IsTrue (test program line v)

-- both computed tests are closed
abbrev pub ComputedIsClosed : Type 0
ComputedIsClosed = IsClosedTest (by_test is_live_at) × IsClosedTest (by_test is_live_below)

-- the iteration is exact: in a valid program, its test accepts no other variables than those that some path reads before
-- setting them
abbrev pub ComputedIsRead : Type 0
ComputedIsRead = (program : Program) → IsTrue (is_program_in_bounds program) → (line : ℕ) (v : Variable) → 1 ≤ line → IsTrue (is_live_at program line v) → IsRead program line v

-- states that are equal up to dead variables form classes
pub record EqualUpToDeadIsEquivalence (is_live : Live) : Type 0 where
  pub reflexive : (s : State) → EqualUpToDead is_live s s
  pub symmetric : (s t : State) → EqualUpToDead is_live s t → EqualUpToDead is_live t s
  pub transitive : (s t u : State) → EqualUpToDead is_live s t → EqualUpToDead is_live t u → EqualUpToDead is_live s u

abbrev pub EqualStatesFormClasses : Type 0
EqualStatesFormClasses = EqualUpToDeadIsEquivalence IsRead × ((test : Program → ℕ → Variable → Bool) → EqualUpToDeadIsEquivalence (by_test test))

-- the state with zero in dead variables represents its class
pub record ClearedRepresents (test : Program → ℕ → Variable → Bool) : Type 0 where
  pub alike : (s : State) → EqualUpToDead (by_test test) s (cleared test s)
  pub same : (s t : State) → EqualUpToDead (by_test test) s t → cleared test t ≡ cleared test s
  pub only : (s t : State) → cleared test t ≡ cleared test s → EqualUpToDead (by_test test) s t

abbrev pub ClearedStatesRepresent : Type 0
ClearedStatesRepresent = (test : Program → ℕ → Variable → Bool) → ClearedRepresents test

-- two steps have the same outcome and lines, and the next states are equal up to dead variables
pub record StepsAreEqualUpToDead (is_live : Live) (a b : Stepped) : Type 0 where
  pub outcome : b.outcome ≡ a.outcome
  pub lines : b.lines ≡ a.lines
  pub after : EqualUpToDead is_live a.after b.after

-- the steps of a process from a valid state, and from a state that is equal to it but for dead variables, are alike
abbrev pub StepsIgnoreDead : Live → Type 0
StepsIgnoreDead is_live =
    (program_of : Bytes → Option Program) (s t : State) (pid : ℕ) → IsValid s → EqualUpToDead is_live s t → StepsAreEqualUpToDead is_live (step program_of s pid) (step program_of t pid)

-- two runs have the same lines, and the final states are equal up to dead variables
pub record RunsAreEqualUpToDead (is_live : Live) (a b : Run) : Type 0 where
  pub lines : b.lines ≡ a.lines
  pub final : EqualUpToDead is_live a.final b.final

-- the runs of one schedule from two such states are alike
abbrev pub RunsIgnoreDead : Live → Type 0
RunsIgnoreDead is_live =
    (program_of : Bytes → Option Program) (s t : State) (pids : List ℕ) → IsValid s → EqualUpToDead is_live s t → RunsAreEqualUpToDead is_live (run program_of pids s) (run program_of pids t)

-- this holds if the dead variables are those that no path reads before setting them
abbrev pub UnreadVariablesAreDead : Type 0
UnreadVariablesAreDead = StepsIgnoreDead IsRead × RunsIgnoreDead IsRead

-- and if they are those that a closed test rejects
abbrev pub RejectedVariablesAreDead : Type 0
RejectedVariablesAreDead = (test : Program → ℕ → Variable → Bool) → IsClosedTest (by_test test) → StepsIgnoreDead (by_test test) × RunsIgnoreDead (by_test test)
