-- Two states that differ in a dead register and a dead byte, and states that differ in live variables: a byte that only
-- a write reads, a register that is read after a jump, and a byte if the count of a write is in a register. They show
-- that the law is not vacuous and that its conditions matter.
use Rattle.std.specs.Prelude.{◌≡◌, ◌≢◌, ℕ, true, false, List, [], ◌∷◌, codes, pos, slice_set}
use Rattle.pv_model.specs.declared.call.Call.TheVariants as TheCall
use Rattle.pv_model.specs.declared.errno.Errno.TheVariants.{EBADF}
use Rattle.pv_model.specs.declared.instruction.Instruction.TheVariants.{Set, Put, Jump, Open, Close, Write}
use Rattle.pv_model.specs.declared.instruction.Operand.TheVariants.{Number, Register}
use Rattle.pv_model.specs.declared.limits.TheConstants.{BUFFER}
use Rattle.pv_model.specs.declared.open_flags.Mode.TheVariants.{ReadWrite}
use Rattle.pv_model.specs.declared.outcome.Cause.TheVariants.{Plain}
use Rattle.pv_model.specs.declared.outcome.Outcome.TheVariants.{Value, Failed}
use Rattle.pv_model.specs.Machine.{update, Program, State, step, run, call_word, gio_word, ret_word, Line, line}
use Rattle.pv_model.specs.State.{no_registers, no_bytes}
use Rattle.pv_model.specs.Trace.{took, value_of}
use Rattle.pv_laws_states.specs.ExampleStates.{no_programs, state_after, flags}
use Rattle.pv_laws_classes.specs.Liveness.{register_variable, byte_variable, by_test, is_live_at, live_bytes, with_values, EqualUpToDead}

-- ---- a dead register and a dead byte

-- a process creates and opens a file, stores a text and a count, and writes
abbrev pub setting : Program
setting =
    Open (codes "/x") (flags ReadWrite true)
    ∷ Put (codes "hello")
    ∷ Set 3 (pos 2)
    ∷ Write (Number (pos 0)) (Register 3)
    ∷ []

-- after the open; then the text and the count are not stored yet
abbrev pub opened : State
opened = state_after setting (1 ∷ [])

-- the same state with another value of register 3, and another byte at offset 2
abbrev pub opened_otherwise : State
opened_otherwise = update opened 1 (with_values (slice_set no_registers 3 (pos 9)) (slice_set no_bytes 2 7))

abbrev pub lines_of_write : List Line
lines_of_write =
    line 1 (call_word (TheCall.Write (pos 0) (pos 2)))
    ∷ line 1 (gio_word took (codes "he"))
    ∷ line 1 (ret_word (TheCall.Write (pos 0) (pos 2)) (value_of 2))
    ∷ []

pub record DeadExamples : Type 0 where
  pub different : opened_otherwise ≢ opened
  pub alike : EqualUpToDead (by_test is_live_at) opened opened_otherwise
  pub lines_of_one : (run no_programs (1 ∷ 1 ∷ 1 ∷ []) opened).lines ≡ lines_of_write
  pub lines_of_other : (run no_programs (1 ∷ 1 ∷ 1 ∷ []) opened_otherwise).lines ≡ lines_of_write

-- ---- live variables

-- a write of three bytes, which nothing else reads
abbrev pub writing : Program
writing = Open (codes "/x") (flags ReadWrite true) ∷ Write (Number (pos 0)) (Number (pos 3)) ∷ []

abbrev pub before_write : State
before_write = state_after writing (1 ∷ [])

abbrev pub lines_with : ℕ → List Line
lines_with byte =
    line 1 (call_word (TheCall.Write (pos 0) (pos 3)))
    ∷ line 1 (gio_word took (0 ∷ byte ∷ 0 ∷ []))
    ∷ line 1 (ret_word (TheCall.Write (pos 0) (pos 3)) (value_of 3))
    ∷ []

-- a jump over the line that would set the register
abbrev pub jumping : Program
jumping = Open (codes "/x") (flags ReadWrite true) ∷ Jump 4 ∷ Set 3 (pos 0) ∷ Close (Register 3) ∷ []

abbrev pub before_jump : State
before_jump = state_after jumping (1 ∷ [])

-- a write whose count is in a register
abbrev pub writing_by_register : Program
writing_by_register = Write (Number (pos 0)) (Register 2) ∷ []

pub record LiveExamples : Type 0 where
  -- the bytes that a write reads are live before it, and no others
  pub byte_read : is_live_at writing 2 (byte_variable 1) ≡ true
  pub byte_unread : is_live_at writing 2 (byte_variable 3) ≡ false
  pub zero_written : (step no_programs before_write 1).lines ≡ lines_with 0
  pub seven_written : (step no_programs (update before_write 1 (with_values no_registers (slice_set no_bytes 1 7))) 1).lines ≡ lines_with 7
  -- a register that the next line sets is live if a jump leads past that line
  pub register_jumped : is_live_at jumping 2 (register_variable 3) ≡ true
  pub register_set : is_live_at jumping 3 (register_variable 3) ≡ false
  pub first_closed : (step no_programs (step no_programs before_jump 1).after 1).outcome ≡ Value 0
  pub none_closed : (step no_programs (step no_programs (update before_jump 1 (with_values (slice_set no_registers 3 (pos 9)) no_bytes)) 1).after 1).outcome ≡ Failed EBADF Plain
  -- all bytes are live before a write whose count is in a register
  pub last_byte_read : is_live_at writing_by_register 1 (byte_variable 4095) ≡ true
  pub bound_of_three : live_bytes writing 2 ≡ 3
  pub bound_of_all : live_bytes writing_by_register 1 ≡ BUFFER
