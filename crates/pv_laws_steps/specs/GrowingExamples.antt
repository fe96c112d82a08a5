-- Writes and truncations within the blocks of a file, others that are not, and steps that depend on them: one for each
-- clause of their laws.
use Rattle.std.specs.Prelude.{◌≡◌, ℕ, false, true, List, [], ◌∷◌, ◌++◌, replicate, codes, pos, Some}
use Rattle.pv_model.specs.declared.call.Call.TheVariants as TheCall
use Rattle.pv_model.specs.declared.call.Whence.TheVariants.{Current, End}
use Rattle.pv_model.specs.declared.errno.Errno.TheVariants.{ENOSPC}
use Rattle.pv_model.specs.declared.instruction.Instruction.TheVariants.{Put, JumpIfZero, Fork, Exit, Open, Read, Write, Lseek, Ftruncate, Unlink}
use Rattle.pv_model.specs.declared.instruction.Instruction.{Instruction}
use Rattle.pv_model.specs.declared.instruction.Operand.TheVariants.{Number}
use Rattle.pv_model.specs.declared.open_flags.Mode.TheVariants.{Read as Reading, ReadWrite}
use Rattle.pv_model.specs.declared.outcome.Cause.TheVariants.{Plain}
use Rattle.pv_model.specs.declared.outcome.Outcome.{Outcome}
use Rattle.pv_model.specs.declared.outcome.Outcome.TheVariants.{Value, Text, Failed}
use Rattle.pv_model.specs.Machine.{manifest_tree, calls_for, next, Program, Process, State, first_state, process_at, step, run}
use Rattle.pv_laws_states.specs.ExampleStates.{no_programs, state_after, flags}
use Rattle.pv_laws_steps.specs.Growing.{EndsInBlocks, LeavesGrowing, KeepsBlocks, LeavesCut}

-- a process creates a file of five bytes, which is node 2, and forks; then it changes the file, and the child does
-- something else
abbrev pub five_bytes : Instruction → List Instruction → Program
five_bytes changes others =
    Open (codes "/x") (flags ReadWrite true)
    ∷ Put (codes "hello")
    ∷ Write (Number (pos 0)) (Number (pos 5))
    ∷ Fork
    ∷ JumpIfZero 0 8
    ∷ changes
    ∷ Exit (Number (pos 0))
    ∷ others

-- two more bytes, and three fewer: the file keeps its block
abbrev pub grows : Instruction
grows = Write (Number (pos 0)) (Number (pos 2))

abbrev pub shrinks : Instruction
shrinks = Ftruncate (Number (pos 0)) (Number (pos 2))

-- both processes are before these calls; the child may be before its second call
abbrev pub before : List ℕ
before = replicate 5 1 ++ 2 ∷ []

abbrev pub before_second : List ℕ
before_second = before ++ 2 ∷ []

-- the child removes the file's name
abbrev pub growing_unlinked : State
growing_unlinked = state_after (five_bytes grows (Unlink (codes "/x") ∷ [])) before

-- the child asks for the offset of the shared open file
abbrev pub to_ask_where : List Instruction
to_ask_where = Lseek (Number (pos 0)) (Number (pos 0)) Current ∷ []

abbrev pub shrinking_and_other : State
shrinking_and_other = state_after (five_bytes shrinks to_ask_where) before

-- the child reads the file, or seeks to its end, through an open file of its own
abbrev pub to_its_end : List Instruction
to_its_end = Open (codes "/x") (flags Reading false) ∷ Lseek (Number (pos 1)) (Number (pos 0)) End ∷ []

abbrev pub to_read : List Instruction
to_read = Open (codes "/x") (flags Reading false) ∷ Read (Number (pos 1)) (Number (pos 9)) ∷ []

-- the outcome of the child's second call, before and after the change
abbrev pub outcome_before_change : Instruction → List Instruction → Outcome
outcome_before_change changes others = (step no_programs (state_after (five_bytes changes others) before_second) 2).outcome

abbrev pub outcome_after_change : Instruction → List Instruction → Outcome
outcome_after_change changes others = (step no_programs (state_after (five_bytes changes others) (before_second ++ 1 ∷ [])) 2).outcome

abbrev pub growing_shared : Program
growing_shared = five_bytes grows to_ask_where

-- an image with a number of data blocks, one of which contains the names
abbrev pub state_within : ℕ → Program → List ℕ → State
state_within blocks program pids = (run no_programs pids (first_state (manifest_tree blocks 16 []) program)).final

-- a process creates two files, optionally writes a byte to the first, and forks; the child writes a byte to the second
abbrev pub writing_two_files : List Instruction → ℕ → Instruction → Program
writing_two_files first line changes =
    Open (codes "/x") (flags ReadWrite true)
    ∷ Open (codes "/y") (flags ReadWrite true)
    ∷ first
    ++ Fork
    ∷ JumpIfZero 0 line
    ∷ changes
    ∷ Exit (Number (pos 0))
    ∷ Write (Number (pos 1)) (Number (pos 1))
    ∷ []

-- both files need the last free block
abbrev pub both_grow : Program
both_grow = writing_two_files [] 7 (Write (Number (pos 0)) (Number (pos 1)))

-- a truncation to length 0 frees the block of the first file
abbrev pub one_frees : Program
one_frees = writing_two_files (Write (Number (pos 0)) (Number (pos 1)) ∷ []) 8 (Ftruncate (Number (pos 0)) (Number (pos 0)))

pub record GrowingExamples : Type 0 where
  -- a write that extends its file within its block and an unlink of the file satisfy the premises of the law
  pub writer : Process
  pub there : process_at growing_unlinked 1 ≡ Some writer
  pub next_is : next writer ≡ calls_for (TheCall.Write (pos 0) (pos 2))
  pub ends : EndsInBlocks growing_unlinked 1 writer (pos 0) (pos 2)
  pub leaves : LeavesGrowing growing_unlinked writer (pos 0) 2
  -- a read and a seek to the end observe the extended file
  pub read_five : outcome_before_change grows to_read ≡ Text (record { value = 5; len = 5 })
  pub read_seven : outcome_after_change grows to_read ≡ Text (record { value = 7; len = 7 })
  pub end_at_five : outcome_before_change grows to_its_end ≡ Value 5
  pub end_at_seven : outcome_after_change grows to_its_end ≡ Value 7
  -- a call through the shared open file observes the new offset
  pub appears_at_five : (step no_programs (state_after growing_shared before) 2).outcome ≡ Value 5
  pub appears_at_seven : (step no_programs (state_after growing_shared (before ++ 1 ∷ [])) 2).outcome ≡ Value 7
  -- of two writes that need the last block, the first gets it
  pub gets_it : (step no_programs (state_within 2 both_grow (replicate 4 1 ++ 2 ∷ [])) 1).outcome ≡ Value 1
  pub finds_none : (step no_programs (state_within 2 both_grow (replicate 4 1 ++ 2 ∷ 2 ∷ [])) 1).outcome ≡ Failed ENOSPC Plain

pub record CutExamples : Type 0 where
  -- a truncation within a block and a call through the same open file satisfy the premises of the law
  pub cutter : Process
  pub there : process_at shrinking_and_other 1 ≡ Some cutter
  pub next_is : next cutter ≡ calls_for (TheCall.Ftruncate (pos 0) (pos 2))
  pub keeps : KeepsBlocks shrinking_and_other cutter (pos 0) (pos 2)
  pub leaves : LeavesCut shrinking_and_other cutter (pos 0) 2
  pub seeks : (step no_programs shrinking_and_other 2).outcome ≡ Value 5
  -- a read and a seek to the end observe the truncated file
  pub read_five : outcome_before_change shrinks to_read ≡ Text (record { value = 5; len = 5 })
  pub read_two : outcome_after_change shrinks to_read ≡ Text (record { value = 2; len = 2 })
  pub end_at_five : outcome_before_change shrinks to_its_end ≡ Value 5
  pub end_at_two : outcome_after_change shrinks to_its_end ≡ Value 2
  -- a truncation that frees a block provides it for the other process's write
  pub finds_none : (step no_programs (state_within 2 one_frees (replicate 5 1 ++ 2 ∷ [])) 2).outcome ≡ Failed ENOSPC Plain
  pub gets_it : (step no_programs (state_within 2 one_frees (replicate 5 1 ++ 2 ∷ 1 ∷ [])) 2).outcome ≡ Value 1
