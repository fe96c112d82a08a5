-- Processes whose next steps commute, and processes whose next steps do not, one for each clause of a law. They show
-- that the laws are not vacuous and that their premises matter.
use Rattle.std.specs.Prelude.{◌≡◌, true, false, IsTrue, List, [], ◌∷◌, ◌++◌, replicate, codes, pos, None, Some, is_some}
use Rattle.pv_model.specs.declared.call.Call.TheVariants as TheCall
use Rattle.pv_model.specs.declared.call.Whence.TheVariants.{Set, Current, End}
use Rattle.pv_model.specs.declared.instruction.Instruction.TheVariants.{Put, JumpIfZero, Fork, GetPid, Exit, Open, Read, Write, Lseek, Getdents, Stat, Mkdir, Unlink}
use Rattle.pv_model.specs.declared.instruction.Instruction.{Instruction}
use Rattle.pv_model.specs.declared.instruction.Operand.TheVariants.{Number}
use Rattle.pv_model.specs.declared.open_flags.Mode.TheVariants.{Read as Reading, Write as Writing, ReadWrite}
use Rattle.pv_model.specs.declared.outcome.Outcome.TheVariants.{Value, Text}
use Rattle.pv_model.specs.Machine.{calls_for, next, Program, Process, State, process_at, step, run, file_bytes, at_number, root, find_entry}
use Rattle.pv_laws_steps.specs.Commuting.{IsOwnStepAlone}
use Rattle.pv_model.specs.declared.instruction.Instruction.TheVariants.{Close}
use Rattle.pv_model.specs.declared.errno.Errno.TheVariants.{ENOENT}
use Rattle.pv_model.specs.declared.instruction.Instruction.TheVariants.{Chdir, Fchdir, Rmdir}
use Rattle.pv_model.specs.declared.outcome.Cause.TheVariants.{Plain}
use Rattle.pv_model.specs.declared.outcome.Outcome.TheVariants.{Failed}
use Rattle.pv_laws_states.specs.ExampleStates.{no_programs, state_after, flags, making}
use Rattle.pv_laws_steps.specs.Holding.{LeavesOpenFiles, LeavesTree, LeavesDestination}
use Rattle.pv_laws_steps.specs.Offsets.{LeavesOpenFile}
use Rattle.pv_laws_steps.specs.Writes.{LeavesWrite, StaysWithin}

-- a process forks, and both processes call getpid
abbrev pub apart : Program
apart = Fork ∷ GetPid ∷ []

-- a process creates and opens a file and forks, and both processes seek one byte forward in the shared open file
abbrev pub sharing : Program
sharing = Open (codes "/x") making ∷ Fork ∷ Lseek (Number (pos 0)) (Number (pos 1)) Current ∷ []

pub record OrderExamples : Type 0 where
  pub process : Process
  pub there : process_at (state_after apart (1 ∷ [])) 1 ≡ Some process
  pub lone : IsOwnStepAlone process (next process)
  pub other : IsTrue (is_some (process_at (state_after apart (1 ∷ [])) 2))
  pub first : (step no_programs (state_after sharing (1 ∷ 1 ∷ [])) 1).outcome ≡ Value 1
  pub second : (step no_programs (state_after sharing (1 ∷ 1 ∷ 2 ∷ [])) 1).outcome ≡ Value 2

-- ---- offsets of open files

-- a process creates and opens a file and forks; then it reads, and the child does something else
abbrev pub reading_and_other : List Instruction → Program
reading_and_other others = Open (codes "/x") (flags ReadWrite true) ∷ Fork ∷ JumpIfZero 0 6 ∷ Read (Number (pos 0)) (Number (pos 5)) ∷ Exit (Number (pos 0)) ∷ others

-- the child removes the file's name
abbrev pub unlinking : State
unlinking = state_after (reading_and_other (Unlink (codes "/x") ∷ [])) (replicate 3 1 ++ 2 ∷ [])

-- the child writes to the file, which is node 2, through an open file of its own
abbrev pub writing_there : Program
writing_there = reading_and_other (Open (codes "/x") (flags Writing false) ∷ Write (Number (pos 1)) (Number (pos 5)) ∷ [])

-- a process lists a directory, and its child creates a name there
abbrev pub making_a_name : Program
making_a_name = Open (codes "/") (flags Reading false) ∷ Fork ∷ JumpIfZero 0 6 ∷ Getdents (Number (pos 0)) ∷ Exit (Number (pos 0)) ∷ Mkdir (codes "/d") ∷ []

pub record OffsetExamples : Type 0 where
  -- a read and an unlink of the file satisfy the premises of the law
  pub process : Process
  pub there : process_at unlinking 1 ≡ Some process
  pub next_is : next process ≡ calls_for (TheCall.Read (pos 0) (pos 5))
  pub leaves : LeavesOpenFile no_programs unlinking process (TheCall.Read (pos 0) (pos 5)) 2
  pub unlinks : (step no_programs unlinking 2).outcome ≡ Value 0
  -- a read after a write to the file returns the bytes written
  pub none_written : (step no_programs (state_after writing_there (replicate 3 1 ++ 2 ∷ 2 ∷ [])) 1).outcome ≡ Text (record { value = 0; len = 0 })
  pub five_written : (step no_programs (state_after writing_there (replicate 3 1 ++ 2 ∷ 2 ∷ 2 ∷ [])) 1).outcome ≡ Text (record { value = 5; len = 5 })
  -- a listing after the creation of a name returns the name
  pub none_named : (step no_programs (state_after making_a_name (replicate 3 1 ++ 2 ∷ [])) 1).outcome ≡ Text (record { value = 0; len = 0 })
  pub one_named : (step no_programs (state_after making_a_name (replicate 3 1 ++ 2 ∷ 2 ∷ [])) 1).outcome ≡ Text (record { value = 1; len = 1 })

-- ---- descriptors

-- a process creates and opens a file and forks; then it closes its descriptor, and the child does something else
abbrev pub closing_and_other : List Instruction → Program
closing_and_other others = Open (codes "/x") (flags ReadWrite true) ∷ Fork ∷ JumpIfZero 0 6 ∷ Close (Number (pos 0)) ∷ Exit (Number (pos 0)) ∷ others

-- the child closes its descriptor for the open file too
abbrev pub closing_both : State
closing_both = state_after (closing_and_other (Close (Number (pos 0)) ∷ [])) (replicate 3 1 ++ 2 ∷ [])

-- after a fork, a process closes the only descriptor for an open file, and its child opens another file
abbrev pub closing_and_opening : Program
closing_and_opening = Fork ∷ JumpIfZero 0 6 ∷ Open (codes "/x") making ∷ Close (Number (pos 0)) ∷ Exit (Number (pos 0)) ∷ Open (codes "/y") making ∷ []

pub record DescriptorExamples : Type 0 where
  -- two closes of one open file satisfy the premises of the law, and remove the open file
  pub process : Process
  pub there : process_at closing_both 1 ≡ Some process
  pub next_is : next process ≡ calls_for (TheCall.Close (pos 0))
  pub leaves : LeavesOpenFiles no_programs closing_both 1
  pub closes : (step no_programs closing_both 2).outcome ≡ Value 0
  pub ended : at_number (run no_programs (1 ∷ 2 ∷ []) closing_both).final.files 0 ≡ None
  -- an open after a close that removes an open file reuses its number
  pub reused : is_some (at_number (state_after closing_and_opening (replicate 3 1 ++ 2 ∷ 1 ∷ 2 ∷ [])).files 0) ≡ true
  pub not_reused : at_number (state_after closing_and_opening (replicate 3 1 ++ 2 ∷ 2 ∷ 1 ∷ [])).files 0 ≡ None

-- ---- directories

-- a process creates and opens a directory and forks; then it enters the directory, by the descriptor or by the name,
-- and the child removes the directory's name
abbrev pub entering : Instruction → Program
entering way =
    Mkdir (codes "/d")
    ∷ Open (codes "/d") (flags Reading false)
    ∷ Fork
    ∷ JumpIfZero 0 7
    ∷ way
    ∷ Exit (Number (pos 0))
    ∷ Rmdir (codes "/d")
    ∷ []

abbrev pub entering_open : State
entering_open = state_after (entering (Fchdir (Number (pos 0)))) (replicate 4 1 ++ 2 ∷ [])

-- after a fork, a process is in a directory without a name and leaves it; the child creates a directory
abbrev pub leaving : Program
leaving =
    Fork
    ∷ JumpIfZero 0 8
    ∷ Mkdir (codes "/d")
    ∷ Chdir (codes "/d")
    ∷ Rmdir (codes "/d")
    ∷ Chdir (codes "/")
    ∷ Exit (Number (pos 0))
    ∷ Mkdir (codes "/e")
    ∷ []

pub record DirectoryExamples : Type 0 where
  -- an fchdir and the rmdir of the directory satisfy the premises of the law
  pub process : Process
  pub there : process_at entering_open 1 ≡ Some process
  pub next_is : next process ≡ calls_for (TheCall.Fchdir (pos 0))
  pub leaves : LeavesTree no_programs entering_open 1
  pub way : LeavesDestination no_programs entering_open process (TheCall.Fchdir (pos 0)) 2
  pub removes : (step no_programs entering_open 2).outcome ≡ Value 0
  -- a chdir after the rmdir does not find the name
  pub entered : (step no_programs (state_after (entering (Chdir (codes "/d"))) (replicate 4 1 ++ 2 ∷ [])) 1).outcome ≡ Value 0
  pub gone : (step no_programs (state_after (entering (Chdir (codes "/d"))) (replicate 4 1 ++ 2 ∷ 2 ∷ [])) 1).outcome ≡ Failed ENOENT Plain
  -- a mkdir after a chdir that releases a directory reuses its number
  pub reused : find_entry (state_after leaving (replicate 5 1 ++ 2 ∷ 1 ∷ 2 ∷ [])).tree root (codes "e") ≡ Some 2
  pub not_reused : find_entry (state_after leaving (replicate 5 1 ++ 2 ∷ 2 ∷ 1 ∷ [])).tree root (codes "e") ≡ Some 3

-- ---- writes

-- a process creates a file of five bytes and forks; then it overwrites the first of them, and the child does something
-- else
abbrev pub writing_and_other : List Instruction → Program
writing_and_other others =
    Open (codes "/x") (flags ReadWrite true)
    ∷ Put (codes "hello")
    ∷ Write (Number (pos 0)) (Number (pos 5))
    ∷ Lseek (Number (pos 0)) (Number (pos 0)) Set
    ∷ Fork
    ∷ JumpIfZero 0 9
    ∷ Write (Number (pos 0)) (Number (pos 2))
    ∷ Exit (Number (pos 0))
    ∷ others

-- the child asks for the file's size
abbrev pub asking_size : State
asking_size = state_after (writing_and_other (Stat (codes "/x") ∷ [])) (replicate 6 1 ++ 2 ∷ [])

-- the child writes to the same bytes, through an open file of its own
abbrev pub writing_both : Program
writing_both = writing_and_other (Open (codes "/x") (flags Writing false) ∷ Put (codes "HE") ∷ Write (Number (pos 1)) (Number (pos 2)) ∷ [])

-- a write that extends its file, and a child that seeks to the file's end through an open file of its own
abbrev pub growing : Program
growing =
    Open (codes "/x") (flags ReadWrite true)
    ∷ Fork
    ∷ JumpIfZero 0 6
    ∷ Write (Number (pos 0)) (Number (pos 5))
    ∷ Exit (Number (pos 0))
    ∷ Open (codes "/x") (flags Reading false)
    ∷ Lseek (Number (pos 1)) (Number (pos 0)) End
    ∷ []

pub record WriteExamples : Type 0 where
  -- a write within the file and a stat of it satisfy the premises of the law
  pub process : Process
  pub there : process_at asking_size 1 ≡ Some process
  pub next_is : next process ≡ calls_for (TheCall.Write (pos 0) (pos 2))
  pub within : StaysWithin asking_size 1 process (pos 0) (pos 2)
  pub leaves : LeavesWrite asking_size process (pos 0) 2
  -- the later of two writes to the same bytes prevails
  pub theirs : file_bytes (state_after writing_both (replicate 6 1 ++ 2 ∷ 2 ∷ 2 ∷ 1 ∷ 2 ∷ [])) 2 ≡ codes "HEllo"
  pub its : file_bytes (state_after writing_both (replicate 6 1 ++ 2 ∷ 2 ∷ 2 ∷ 2 ∷ 1 ∷ [])) 2 ≡ codes "hello"
  -- a seek to the end after a write that extends the file returns the new length
  pub short : (step no_programs (state_after growing (replicate 3 1 ++ 2 ∷ 2 ∷ [])) 2).outcome ≡ Value 0
  pub long : (step no_programs (state_after growing (replicate 3 1 ++ 2 ∷ 2 ∷ 1 ∷ [])) 2).outcome ≡ Value 5
