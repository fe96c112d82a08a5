-- The instruction that a line parses as.
use Rattle.std.specs.Prelude.{ℕ, ℤ, pos, negsuc, ◌&&◌, if◌then◌else◌, nat_le, nat_lt, codes, bytes_eq, Option, None, Some, option_map, Result, Ok, Err}
use Rattle.pv_model.specs.declared.fault.What.{What}
use Rattle.pv_model.specs.declared.fault.What.TheVariants.{Word, Argument, Target}
use Rattle.pv_model.specs.declared.instruction.Instruction.{Instruction}
use Rattle.pv_model.specs.declared.instruction.Instruction.TheVariants.{Set, Add, Put, Peek, Jump, JumpIfZero, JumpIfNotZero, JumpIfNegative, Exit, GetPid, GetPpid, Fork, Wait, Pledge, Unveil, Execve, Open, OpenAt, Close, Dup, Dup2, Read, Write, Lseek, Fstat, Ftruncate, Getdents, Fchdir, Chdir, Stat, Lstat, Readlink, Mkdir, Symlink, Link, Unlink, Rmdir, Rename}
use Rattle.pv_model.specs.declared.limits.TheConstants.{BUFFER}
use Rattle.pv_model.specs.Bytes.{Bytes}
use Rattle.pv_model.specs.Grammar.Lines.{word_of, after_word}
use Rattle.pv_model.specs.Grammar.Arguments.{text_at, text_or_null_at, operand_at, register_at, number_at, whence_at, origin_at, flags_at, no_argument, one_argument, two_arguments, three_arguments}

-- the instruction, or an error if the arguments do not parse
abbrev pub or_argument : Option Instruction → Result Instruction What
or_argument None = Err Argument
or_argument (Some i) = Ok i

-- an offset in the buffer
abbrev pub buffer_place : ℤ → Option ℕ
buffer_place (pos n) = if nat_lt n BUFFER then Some n else None
buffer_place (negsuc n) = None

-- the number of a line of the program, which has `lines` lines
abbrev pub line_within : ℕ → ℤ → Option ℕ
line_within lines (pos n) = if nat_le 1 n && nat_le n lines then Some n else None
line_within lines (negsuc n) = None

abbrev pub or_target : (ℕ → Instruction) → Option ℕ → Result Instruction What
or_target jump None = Err Target
or_target jump (Some line) = Ok (jump line)

-- a jump, or an error in its arguments or its target
abbrev pub jump_by : ℕ → Option ℤ → Result Instruction What
jump_by lines None = Err Argument
jump_by lines (Some n) = or_target Jump (line_within lines n)

abbrev pub jump_if_by : ℕ → (ℕ → ℕ → Instruction) → Option (ℕ × ℤ) → Result Instruction What
jump_if_by lines jump None = Err Argument
jump_if_by lines jump (Some p) = or_target (jump p.0) (line_within lines p.1)

abbrev pub peek_by : Option (ℕ × ℤ) → Option Instruction
peek_by None = None
peek_by (Some p) = option_map (Peek p.0) (buffer_place p.1)

-- instructions on registers, and jumps
abbrev pub on_registers : ℕ → Bytes → Bytes → Result Instruction What → Result Instruction What
on_registers lines word rest other =
    if bytes_eq word (codes "set") then or_argument (option_map (λ p. Set p.0 p.1) (two_arguments register_at number_at rest))
    else if bytes_eq word (codes "add") then or_argument (option_map (λ p. Add p.0 p.1) (two_arguments register_at number_at rest))
    else if bytes_eq word (codes "put") then or_argument (option_map Put (one_argument text_at rest))
    else if bytes_eq word (codes "peek") then or_argument (peek_by (two_arguments register_at number_at rest))
    else if bytes_eq word (codes "jmp") then jump_by lines (one_argument number_at rest)
    else if bytes_eq word (codes "jz") then jump_if_by lines JumpIfZero (two_arguments register_at number_at rest)
    else if bytes_eq word (codes "jnz") then jump_if_by lines JumpIfNotZero (two_arguments register_at number_at rest)
    else if bytes_eq word (codes "jneg") then jump_if_by lines JumpIfNegative (two_arguments register_at number_at rest)
    else other

-- calls on processes, promises and unveil tables
abbrev pub on_processes : Bytes → Bytes → Result Instruction What → Result Instruction What
on_processes word rest other =
    if bytes_eq word (codes "fork") then or_argument (option_map (λ _. Fork) (no_argument rest))
    else if bytes_eq word (codes "wait") then or_argument (option_map (λ _. Wait) (no_argument rest))
    else if bytes_eq word (codes "getpid") then or_argument (option_map (λ _. GetPid) (no_argument rest))
    else if bytes_eq word (codes "getppid") then or_argument (option_map (λ _. GetPpid) (no_argument rest))
    else if bytes_eq word (codes "exit") then or_argument (option_map Exit (one_argument operand_at rest))
    else if bytes_eq word (codes "pledge") then or_argument (option_map (λ p. Pledge p.0 p.1) (two_arguments text_or_null_at text_or_null_at rest))
    else if bytes_eq word (codes "unveil") then or_argument (option_map (λ p. Unveil p.0 p.1) (two_arguments text_or_null_at text_or_null_at rest))
    else if bytes_eq word (codes "execve") then or_argument (option_map Execve (one_argument text_at rest))
    else other

abbrev pub on_descriptors : Bytes → Bytes → Result Instruction What → Result Instruction What
on_descriptors word rest other =
    if bytes_eq word (codes "open") then or_argument (option_map (λ p. Open p.0 p.1) (two_arguments text_at flags_at rest))
    else if bytes_eq word (codes "openat") then or_argument (option_map (λ p. OpenAt p.0 p.1 p.2) (three_arguments origin_at text_at flags_at rest))
    else if bytes_eq word (codes "close") then or_argument (option_map Close (one_argument operand_at rest))
    else if bytes_eq word (codes "dup") then or_argument (option_map Dup (one_argument operand_at rest))
    else if bytes_eq word (codes "dup2") then or_argument (option_map (λ p. Dup2 p.0 p.1) (two_arguments operand_at operand_at rest))
    else if bytes_eq word (codes "read") then or_argument (option_map (λ p. Read p.0 p.1) (two_arguments operand_at operand_at rest))
    else if bytes_eq word (codes "write") then or_argument (option_map (λ p. Write p.0 p.1) (two_arguments operand_at operand_at rest))
    else if bytes_eq word (codes "lseek") then or_argument (option_map (λ p. Lseek p.0 p.1 p.2) (three_arguments operand_at operand_at whence_at rest))
    else if bytes_eq word (codes "fstat") then or_argument (option_map Fstat (one_argument operand_at rest))
    else if bytes_eq word (codes "ftruncate") then or_argument (option_map (λ p. Ftruncate p.0 p.1) (two_arguments operand_at operand_at rest))
    else if bytes_eq word (codes "getdents") then or_argument (option_map Getdents (one_argument operand_at rest))
    else if bytes_eq word (codes "fchdir") then or_argument (option_map Fchdir (one_argument operand_at rest))
    else other

abbrev pub on_paths : Bytes → Bytes → Result Instruction What → Result Instruction What
on_paths word rest other =
    if bytes_eq word (codes "chdir") then or_argument (option_map Chdir (one_argument text_at rest))
    else if bytes_eq word (codes "stat") then or_argument (option_map Stat (one_argument text_at rest))
    else if bytes_eq word (codes "lstat") then or_argument (option_map Lstat (one_argument text_at rest))
    else if bytes_eq word (codes "readlink") then or_argument (option_map Readlink (one_argument text_at rest))
    else if bytes_eq word (codes "unlink") then or_argument (option_map Unlink (one_argument text_at rest))
    else if bytes_eq word (codes "mkdir") then or_argument (option_map Mkdir (one_argument text_at rest))
    else if bytes_eq word (codes "rmdir") then or_argument (option_map Rmdir (one_argument text_at rest))
    else if bytes_eq word (codes "rename") then or_argument (option_map (λ p. Rename p.0 p.1) (two_arguments text_at text_at rest))
    else if bytes_eq word (codes "link") then or_argument (option_map (λ p. Link p.0 p.1) (two_arguments text_at text_at rest))
    else if bytes_eq word (codes "symlink") then or_argument (option_map (λ p. Symlink p.0 p.1) (two_arguments text_at text_at rest))
    else other

-- the instruction that a word and the bytes after it parse as, in a program with `lines` lines
unfoldable pub instruction_by : ℕ → Bytes → Bytes → Result Instruction What
instruction_by lines word rest = on_registers lines word rest (on_processes word rest (on_descriptors word rest (on_paths word rest (Err Word))))

abbrev pub instruction_of : ℕ → Bytes → Result Instruction What
instruction_of lines line = instruction_by lines (word_of line) (after_word line)
