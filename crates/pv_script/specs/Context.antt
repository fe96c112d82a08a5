-- The context of a process: its next line, its registers and its buffer.
use Rattle.std.specs.Prelude.{◌≡◌, ℕ, ◌-◌, ℤ, Bool, true, false, List, IsTrue, slice_get, Option, None, Some}
use Rattle.pv_model.specs.declared.call_ref.CallRef.{CallRef}
use Rattle.pv_model.specs.declared.instruction.Instruction.{Instruction}
use Rattle.pv_model.specs.declared.instruction.Instruction.TheVariants.{Set, Add, Put, Peek, Jump, JumpIfZero, JumpIfNotZero, JumpIfNegative, Fork, Wait, GetPid, GetPpid, Exit, Close, Dup, Fstat, Getdents, Fchdir, Dup2, Read, Write, Ftruncate, Lseek}
use Rattle.pv_model.specs.Machine.{Bytes, call_of, calls_for, next, Program, Process}
use Rattle.pv_model.specs.State.{no_registers, no_bytes}

pub record Context : Type 0 where
  pub line : ℕ
  pub registers : List ℤ
  pub buffer : Bytes

-- the context of a process before its first step
unfoldable pub first_context : Context
first_context = record { line = 1; registers = no_registers; buffer = no_bytes }

abbrev pub context_at_line : ℕ → Context → Context
context_at_line line c = record c { line = line }

-- a process with a program and a context
abbrev pub in_context : Process → Program → Context → Process
in_context p program c = record p { program = program; line = c.line; registers = c.registers; buffer = c.buffer }

-- a function on processes changes only the context of a process with this program
abbrev pub Changes : (Process → Process) → Program → Context → Context → Type 0
Changes change program old new = (p : Process) → in_context p program new ≡ change (in_context p program old)

-- whether an instruction is one on registers or a jump, not a call
abbrev pub is_on_registers : Instruction → Bool
is_on_registers (Set r n) = true
is_on_registers (Add r n) = true
is_on_registers (Put bytes) = true
is_on_registers (Peek r k) = true
is_on_registers (Jump line) = true
is_on_registers (JumpIfZero r line) = true
is_on_registers (JumpIfNotZero r line) = true
is_on_registers (JumpIfNegative r line) = true
is_on_registers _ = false

-- whether an instruction is a call without texts
abbrev pub is_without_texts : Instruction → Bool
is_without_texts Fork = true
is_without_texts Wait = true
is_without_texts GetPid = true
is_without_texts GetPpid = true
is_without_texts (Exit code) = true
is_without_texts (Close d) = true
is_without_texts (Dup d) = true
is_without_texts (Fstat d) = true
is_without_texts (Getdents d) = true
is_without_texts (Fchdir d) = true
is_without_texts (Dup2 d e) = true
is_without_texts (Read d n) = true
is_without_texts (Write d n) = true
is_without_texts (Ftruncate d n) = true
is_without_texts (Lseek d by whence) = true
is_without_texts _ = false

abbrev pub is_some_on_registers : Option Instruction → Bool
is_some_on_registers None = false
is_some_on_registers (Some instruction) = is_on_registers instruction

-- whether the next instruction is one on registers or a jump
abbrev pub is_inside : Program → Context → Bool
is_inside program c = is_some_on_registers (slice_get program (c.line - 1))

-- the next call of each process with this program and context, or None if the next instruction is one on registers or a
-- jump
abbrev pub IsNext : Program → Context → Option CallRef → Type 0
IsNext program c None = IsTrue (is_inside program c)
IsNext program c (Some call) = (p : Process) → next (in_context p program c) ≡ calls_for (call_of call)
