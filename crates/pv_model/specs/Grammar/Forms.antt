-- The lines of programs as relations: the form of each instruction, the lines that encode it, and the error of a line
-- that encodes none.
use Rattle.std.specs.Prelude.{◌≡◌, ℕ, ◌<◌, ◌≤◌, ℤ, pos, List, [], ◌∷◌, ◌++◌, codes, Option}
use Rattle.pv_model.specs.declared.call.Whence.{Whence}
use Rattle.pv_model.specs.declared.fault.What.{What}
use Rattle.pv_model.specs.declared.fault.What.TheVariants.{Word, Argument as BadArgument, Target, TooMany}
use Rattle.pv_model.specs.declared.instruction.Instruction.{Instruction}
use Rattle.pv_model.specs.declared.instruction.Instruction.TheVariants.{Set, Add, Put, Peek, Jump, JumpIfZero, JumpIfNotZero, JumpIfNegative, Exit, GetPid, GetPpid, Fork, Wait, Pledge, Unveil, Execve, Open, OpenAt, Close, Dup, Dup2, Read, Write, Lseek, Fstat, Ftruncate, Getdents, Fchdir, Chdir, Stat, Lstat, Readlink, Mkdir, Symlink, Link, Unlink, Rmdir, Rename}
use Rattle.pv_model.specs.declared.instruction.Operand.{Operand}
use Rattle.pv_model.specs.declared.instruction.Origin.{Origin}
use Rattle.pv_model.specs.declared.limits.TheConstants.{BUFFER}
use Rattle.pv_model.specs.declared.open_flags.OpenFlags.{OpenFlags}
use Rattle.pv_model.specs.Bytes.{Bytes}
use Rattle.pv_model.specs.Grammar.Encoding.{EncodesNumber, EncodesRegister, EncodesOperand, EncodesText, EncodesTextOrNull, EncodesFlags, EncodesWhence, EncodesOrigin}

pub data Argument : Type 0 where
  operand : (value : Operand) → Argument
  register : (value : ℕ) → Argument
  number : (value : ℤ) → Argument
  -- the number of a line of the program
  line : (value : ℕ) → Argument
  -- an offset in the buffer
  place : (value : ℕ) → Argument
  text : (value : Bytes) → Argument
  text_or_null : (value : Option Bytes) → Argument
  flags : (value : OpenFlags) → Argument
  whence : (value : Whence) → Argument
  origin : (value : Origin) → Argument

-- the name of an instruction, and its arguments
abbrev pub Form : Type 0
Form = Bytes × List Argument

abbrev pub form_of : Instruction → Form
form_of (Set r n) = (codes "set", register r ∷ number n ∷ [])
form_of (Add r n) = (codes "add", register r ∷ number n ∷ [])
form_of (Put value) = (codes "put", text value ∷ [])
form_of (Peek r k) = (codes "peek", register r ∷ place k ∷ [])
form_of (Jump n) = (codes "jmp", line n ∷ [])
form_of (JumpIfZero r n) = (codes "jz", register r ∷ line n ∷ [])
form_of (JumpIfNotZero r n) = (codes "jnz", register r ∷ line n ∷ [])
form_of (JumpIfNegative r n) = (codes "jneg", register r ∷ line n ∷ [])
form_of Fork = (codes "fork", [])
form_of Wait = (codes "wait", [])
form_of GetPid = (codes "getpid", [])
form_of GetPpid = (codes "getppid", [])
form_of (Exit code) = (codes "exit", operand code ∷ [])
form_of (Close d) = (codes "close", operand d ∷ [])
form_of (Dup d) = (codes "dup", operand d ∷ [])
form_of (Fstat d) = (codes "fstat", operand d ∷ [])
form_of (Getdents d) = (codes "getdents", operand d ∷ [])
form_of (Fchdir d) = (codes "fchdir", operand d ∷ [])
form_of (Dup2 d e) = (codes "dup2", operand d ∷ operand e ∷ [])
form_of (Read d n) = (codes "read", operand d ∷ operand n ∷ [])
form_of (Write d n) = (codes "write", operand d ∷ operand n ∷ [])
form_of (Ftruncate d n) = (codes "ftruncate", operand d ∷ operand n ∷ [])
form_of (Lseek d by from) = (codes "lseek", operand d ∷ operand by ∷ whence from ∷ [])
form_of (Pledge promises execpromises) = (codes "pledge", text_or_null promises ∷ text_or_null execpromises ∷ [])
form_of (Unveil path permissions) = (codes "unveil", text_or_null path ∷ text_or_null permissions ∷ [])
form_of (Execve path) = (codes "execve", text path ∷ [])
form_of (Chdir path) = (codes "chdir", text path ∷ [])
form_of (Stat path) = (codes "stat", text path ∷ [])
form_of (Lstat path) = (codes "lstat", text path ∷ [])
form_of (Readlink path) = (codes "readlink", text path ∷ [])
form_of (Unlink path) = (codes "unlink", text path ∷ [])
form_of (Mkdir path) = (codes "mkdir", text path ∷ [])
form_of (Rmdir path) = (codes "rmdir", text path ∷ [])
form_of (Open path how) = (codes "open", text path ∷ flags how ∷ [])
form_of (OpenAt start path how) = (codes "openat", origin start ∷ text path ∷ flags how ∷ [])
form_of (Rename path new) = (codes "rename", text path ∷ text new ∷ [])
form_of (Link path new) = (codes "link", text path ∷ text new ∷ [])
form_of (Symlink value path) = (codes "symlink", text value ∷ text path ∷ [])

-- a word encodes an argument, in a program with a number of lines
abbrev pub Encodes : ℕ → Argument → Bytes → Type 0
Encodes lines (operand value) word = EncodesOperand value word
Encodes lines (register value) word = EncodesRegister value word
Encodes lines (number value) word = EncodesNumber value word
Encodes lines (line value) word = (1 ≤ value) × (value ≤ lines) × EncodesNumber (pos value) word
Encodes lines (place value) word = (value < BUFFER) × EncodesNumber (pos value) word
Encodes lines (text value) word = EncodesText value word
Encodes lines (text_or_null value) word = EncodesTextOrNull value word
Encodes lines (flags value) word = EncodesFlags value word
Encodes lines (whence value) word = EncodesWhence value word
Encodes lines (origin value) word = EncodesOrigin value word

-- bytes encode arguments, with one space before each
abbrev pub EncodesArguments : ℕ → List Argument → Bytes → Type 0
EncodesArguments lines [] bytes = bytes ≡ []
EncodesArguments lines (a ∷ others) bytes = (word rest : Bytes) × Encodes lines a word × EncodesArguments lines others rest × (bytes ≡ 32 ∷ word ++ rest)

-- bytes encode a form
abbrev pub EncodesForm : ℕ → Form → Bytes → Type 0
EncodesForm lines form bytes = (rest : Bytes) × EncodesArguments lines form.1 rest × (bytes ≡ form.0 ++ rest)

-- a line encodes an instruction, in a program with a number of lines
abbrev pub EncodesLine : ℕ → Bytes → Instruction → Type 0
EncodesLine lines bytes i = EncodesForm lines (form_of i) bytes

-- the bytes that may follow a word: none, or a space and more
abbrev pub IsAfterWord : Bytes → Type 0
IsAfterWord [] = Unit {0}
IsAfterWord (b ∷ bs) = b ≡ 32

-- a line has this first word
abbrev pub BeginsWith : Bytes → Bytes → Type 0
BeginsWith word bytes = (rest : Bytes) × IsAfterWord rest × (bytes ≡ word ++ rest)

-- the form of a jump, with any number as its target
pub data Jumping : Type 0 where
  always : Jumping
  if_zero if_not_zero if_negative : (r : ℕ) → Jumping

abbrev pub jump_form : Jumping → ℤ → Form
jump_form always n = (codes "jmp", number n ∷ [])
jump_form (if_zero r) n = (codes "jz", register r ∷ number n ∷ [])
jump_form (if_not_zero r) n = (codes "jnz", register r ∷ number n ∷ [])
jump_form (if_negative r) n = (codes "jneg", register r ∷ number n ∷ [])

-- a number is that of a line of the program
abbrev pub IsLineOf : ℕ → ℤ → Type 0
IsLineOf lines n = (k : ℕ) × (1 ≤ k) × (k ≤ lines) × (n ≡ pos k)

-- the first word is not the name of an instruction
abbrev pub HasNoName : Bytes → Type 0
HasNoName bytes = (i : Instruction) → BeginsWith (form_of i).0 bytes → ⊥

-- the line is a jump to a line that the program does not have
abbrev pub JumpsOut : ℕ → Bytes → Type 0
JumpsOut lines bytes = (j : Jumping) × (n : ℤ) × ¬ (IsLineOf lines n) × EncodesForm lines (jump_form j n) bytes

-- the error of a line: in its word, its target, or else its arguments
abbrev pub IsInvalid : ℕ → Bytes → What → Type 0
IsInvalid lines bytes Word = HasNoName bytes
IsInvalid lines bytes Target = JumpsOut lines bytes
IsInvalid lines bytes BadArgument = ¬ (HasNoName bytes) × ¬ (JumpsOut lines bytes) × ((i : Instruction) → EncodesLine lines bytes i → ⊥)
IsInvalid lines bytes TooMany = ⊥
