-- Two states that are equal up to a renumbering of open files, and two that are not because the renumbering is not
-- injective. They show that the law is not vacuous and that this premise matters.
use Rattle.std.specs.Prelude.{◌≡◌, ◌≢◌, ℕ, zero, suc, true, false, List, [], ◌∷◌, codes, pos}
use Rattle.pv_model.specs.declared.call.Call.TheVariants as TheCall
use Rattle.pv_model.specs.declared.call.Whence.TheVariants.{Set}
use Rattle.pv_model.specs.declared.instruction.Instruction.TheVariants.{Put, JumpIfZero, Fork, Exit, Open, Read, Write, Lseek, Getdents}
use Rattle.pv_model.specs.declared.instruction.Operand.TheVariants.{Number}
use Rattle.pv_model.specs.declared.open_flags.Mode.TheVariants.{Read as Reading, ReadWrite}
use Rattle.pv_model.specs.declared.outcome.Outcome.TheVariants.{Text}
use Rattle.pv_model.specs.Machine.{at_number, without_number, Program, State, step, run, call_word, gio_word, ret_word, gave, Line, line}
use Rattle.pv_model.specs.Trace.{value_of}
use Rattle.pv_laws_states.specs.ExampleStates.{no_programs, state_after, flags}
use Rattle.pv_laws_classes.specs.Renumbering.{renumbered_processes, IsInUse, Renumbered}

-- ---- a swap of two open files

-- a process creates and opens a file and forks; then it opens the root and lists it, and the child opens the file and
-- reads it
abbrev pub opening_apart : Program
opening_apart =
    Open (codes "/x") (flags ReadWrite true)
    ∷ Fork
    ∷ JumpIfZero 0 7
    ∷ Open (codes "/") (flags Reading false)
    ∷ Getdents (Number (pos 1))
    ∷ Exit (Number (pos 0))
    ∷ Open (codes "/x") (flags Reading false)
    ∷ Read (Number (pos 1)) (Number (pos 5))
    ∷ []

-- the process opens before the child, and after it
abbrev pub parent_first : State
parent_first = state_after opening_apart (1 ∷ 1 ∷ 1 ∷ 2 ∷ 1 ∷ 2 ∷ [])

abbrev pub child_first : State
child_first = state_after opening_apart (1 ∷ 1 ∷ 1 ∷ 2 ∷ 2 ∷ 1 ∷ [])

-- the open files 1 and 2 are swapped
abbrev pub swap : ℕ → ℕ
swap zero = 0
swap (suc zero) = 2
swap (suc (suc zero)) = 1
swap (suc (suc (suc n))) = suc (suc (suc n))

-- the listing and the read
abbrev pub list_and_read : List ℕ
list_and_read = 1 ∷ 2 ∷ []

abbrev pub lines_of_following : List Line
lines_of_following =
    line 1 (call_word (TheCall.Getdents (pos 1)))
    ∷ line 1 (gio_word gave (codes "x"))
    ∷ line 1 (ret_word (TheCall.Getdents (pos 1)) (value_of 1))
    ∷ line 2 (call_word (TheCall.Read (pos 1) (pos 5)))
    ∷ line 2 (gio_word gave [])
    ∷ line 2 (ret_word (TheCall.Read (pos 1) (pos 5)) (value_of 0))
    ∷ []

pub record SwapExamples : Type 0 where
  pub different : at_number parent_first.files 1 ≢ at_number child_first.files 1
  pub renumbered : Renumbered swap parent_first child_first
  pub lines_of_one : (run no_programs list_and_read parent_first).lines ≡ lines_of_following
  pub lines_of_other : (run no_programs list_and_read child_first).lines ≡ lines_of_following

-- ---- two open files that become one

-- a process creates a file of one byte, opens it twice, and reads a byte from each descriptor
abbrev pub reading_twice : Program
reading_twice =
    Open (codes "/x") (flags ReadWrite true)
    ∷ Put (codes "a")
    ∷ Write (Number (pos 0)) (Number (pos 1))
    ∷ Lseek (Number (pos 0)) (Number (pos 0)) Set
    ∷ Open (codes "/x") (flags ReadWrite false)
    ∷ Read (Number (pos 0)) (Number (pos 1))
    ∷ Read (Number (pos 1)) (Number (pos 1))
    ∷ []

-- before the reads: two open files at the start of the file
abbrev pub two_open_files : State
two_open_files = state_after reading_twice (1 ∷ 1 ∷ 1 ∷ 1 ∷ 1 ∷ [])

abbrev pub to_first : ℕ → ℕ
to_first n = 0

-- the same state, but both descriptors share one open file
abbrev pub one_open_file : State
one_open_file = record two_open_files { files = without_number two_open_files.files 1; processes = renumbered_processes to_first two_open_files.processes }

pub record MergeExamples : Type 0 where
  -- the two states satisfy each clause of a renumbering other than injectivity
  pub tree : one_open_file.tree ≡ two_open_files.tree
  pub last_process : one_open_file.last_process ≡ two_open_files.last_process
  pub processes : one_open_file.processes ≡ renumbered_processes to_first two_open_files.processes
  pub files : (n : ℕ) → IsInUse two_open_files n → at_number one_open_file.files (to_first n) ≡ at_number two_open_files.files n
  pub no_others : (m : ℕ) → IsInUse one_open_file m → (n : ℕ) × IsInUse two_open_files n × (to_first n ≡ m)
  pub first : IsInUse two_open_files 0
  pub second : IsInUse two_open_files 1
  -- the first read returns one byte in both; the second read is at the end of the file if the open file is shared
  pub first_of_two : (step no_programs two_open_files 1).outcome ≡ Text (record { value = 1; len = 1 })
  pub first_of_one : (step no_programs one_open_file 1).outcome ≡ Text (record { value = 1; len = 1 })
  pub second_of_two : (step no_programs (step no_programs two_open_files 1).after 1).outcome ≡ Text (record { value = 1; len = 1 })
  pub second_of_one : (step no_programs (step no_programs one_open_file 1).after 1).outcome ≡ Text (record { value = 0; len = 0 })
