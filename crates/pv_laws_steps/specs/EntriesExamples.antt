-- Calls that change entries and calls on descriptors, and calls that query a node or a parent: pairs that commute, and
-- pairs that do not.
use Rattle.std.specs.Prelude.{◌≡◌, ℕ, false, true, List, [], ◌∷◌, ◌++◌, replicate, take, codes, pos, Some}
use Rattle.pv_model.specs.declared.call.Call.TheVariants as TheCall
use Rattle.pv_model.specs.declared.errno.Errno.TheVariants.{ENOSPC}
use Rattle.pv_model.specs.declared.instruction.Instruction.TheVariants.{JumpIfZero, Fork, GetPpid, Exit, Open, Write, Fstat, Getdents, Mkdir, Symlink, Rename}
use Rattle.pv_model.specs.declared.instruction.Operand.TheVariants.{Number}
use Rattle.pv_model.specs.declared.open_flags.Mode.TheVariants.{Read as Reading, ReadWrite}
use Rattle.pv_model.specs.declared.outcome.Cause.TheVariants.{Plain}
use Rattle.pv_model.specs.declared.outcome.Outcome.TheVariants.{Value, Text, Failed}
use Rattle.pv_model.specs.Machine.{Bytes, calls_for, next, Program, Process, State, process_at, step, buffer_of}
use Rattle.pv_laws_states.specs.ExampleStates.{no_programs, state_after, flags}
use Rattle.pv_laws_steps.specs.Entries.{IsIndependent}
use Rattle.pv_laws_steps.specs.GrowingExamples.{state_within, five_bytes, grows, before}

-- a process creates a directory, node 2, opens it and its parent, and forks; then it renames the directory, and the
-- child lists one of the two
abbrev pub renaming : ℕ → Program
renaming d =
    Mkdir (codes "/d")
    ∷ Open (codes "/d") (flags Reading false)
    ∷ Open (codes "/") (flags Reading false)
    ∷ Fork
    ∷ JumpIfZero 0 8
    ∷ Rename (codes "/d") (codes "/dd")
    ∷ Exit (Number (pos 0))
    ∷ Getdents (Number (pos d))
    ∷ []

abbrev pub both_before : List ℕ
both_before = replicate 5 1 ++ 2 ∷ []

-- the child lists the directory itself
abbrev pub listing_renamed : State
listing_renamed = state_after (renaming 0) both_before

-- a process creates a file and forks; then it creates a link, and the child writes a byte to the file
abbrev pub linking_and_writing : Program
linking_and_writing =
    Open (codes "/x") (flags ReadWrite true)
    ∷ Fork
    ∷ JumpIfZero 0 6
    ∷ Symlink (codes "x") (codes "/l")
    ∷ Exit (Number (pos 0))
    ∷ Write (Number (pos 0)) (Number (pos 1))
    ∷ []

-- a child asks for the size of a file through the shared open file
abbrev pub sizes : Program
sizes = five_bytes grows (Fstat (Number (pos 0)) ∷ [])

abbrev pub reported_size : List ℕ → Bytes
reported_size pids = take 5 (buffer_of (process_at (state_after sizes pids) 2))

-- a process forks, its child forks too and ends; the grandchild asks for its parent
abbrev pub orphaned : Program
orphaned = Fork ∷ JumpIfZero 0 4 ∷ Exit (Number (pos 0)) ∷ Fork ∷ JumpIfZero 0 7 ∷ Exit (Number (pos 0)) ∷ GetPpid ∷ []

abbrev pub asks_for_parent : List ℕ
asks_for_parent = 1 ∷ 2 ∷ 2 ∷ 2 ∷ 3 ∷ []

pub record EntryExamples : Type 0 where
  -- a listing of a directory and its rename satisfy the premises of the law
  pub process : Process
  pub there : process_at listing_renamed 2 ≡ Some process
  pub next_is : next process ≡ calls_for (TheCall.Getdents (pos 0))
  pub appears : IsIndependent no_programs listing_renamed 1 2 process (TheCall.Getdents (pos 0))
  pub renames : (step no_programs listing_renamed 1).outcome ≡ Value 0
  -- a listing of the parent after the rename returns the new name, which is longer
  pub old_name : (step no_programs (state_after (renaming 1) both_before) 2).outcome ≡ Text (record { value = 1; len = 1 })
  pub new_name : (step no_programs (state_after (renaming 1) (both_before ++ 1 ∷ [])) 2).outcome ≡ Text (record { value = 2; len = 2 })
  -- a write after the creation of a link finds no free block
  pub gets_it : (step no_programs (state_within 2 linking_and_writing (replicate 3 1 ++ 2 ∷ [])) 2).outcome ≡ Value 1
  pub finds_none : (step no_programs (state_within 2 linking_and_writing (replicate 3 1 ++ 2 ∷ 1 ∷ [])) 2).outcome ≡ Failed ENOSPC Plain
  -- an fstat after a write that extends the file reports seven bytes instead of five, for node 2
  pub five : reported_size (before ++ 2 ∷ []) ≡ 2 ∷ 0 ∷ 2 ∷ 0 ∷ 5 ∷ []
  pub seven : reported_size (before ++ 1 ∷ 2 ∷ []) ≡ 2 ∷ 0 ∷ 2 ∷ 0 ∷ 7 ∷ []
  -- a getppid after the end of the parent returns the adopter
  pub parent : (step no_programs (state_after orphaned asks_for_parent) 3).outcome ≡ Value 2
  pub adopter : (step no_programs (state_after orphaned (asks_for_parent ++ 2 ∷ [])) 3).outcome ≡ Value 1
