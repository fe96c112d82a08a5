-- An unveil of a path, an execve, a chdir in a full image, and steps of another process: pairs that commute, and pairs
-- that do not.
use Rattle.std.specs.Prelude.{◌≡◌, ℕ, true, false, List, [], ◌∷◌, ◌++◌, replicate, codes, pos, Option, None, Some, is_some, option_and_then}
use Rattle.pv_model.specs.declared.call.Call.TheVariants as TheCall
use Rattle.pv_model.specs.declared.errno.Errno.TheVariants.{ENOENT, ENOSPC}
use Rattle.pv_model.specs.declared.instruction.Instruction.{Instruction}
use Rattle.pv_model.specs.declared.instruction.Instruction.TheVariants.{JumpIfZero, Fork, GetPid, Exit, Unveil, Execve, Open, Close, Chdir, Mkdir, Rmdir, Unlink, Rename}
use Rattle.pv_model.specs.declared.instruction.Operand.TheVariants.{Number}
use Rattle.pv_model.specs.declared.open_flags.Mode.TheVariants.{Read as Reading}
use Rattle.pv_model.specs.declared.open_flags.OpenFlags.{OpenFlags}
use Rattle.pv_model.specs.declared.outcome.Cause.TheVariants.{Plain}
use Rattle.pv_model.specs.declared.outcome.Outcome.TheVariants.{Value, Failed}
use Rattle.pv_model.specs.declared.target.Target.TheVariants.{Directory, Name}
use Rattle.pv_model.specs.Machine.{Bytes, make, manifest_tree, at_number, permission_r, calls_for, next, Program, Process, State, first_state, process_at, step, run, file_node, root, find_entry, Table}
use Rattle.pv_laws_states.specs.ExampleStates.{no_programs, state_after, flags}
use Rattle.pv_laws_steps.specs.CommuteExamples.{leaving}
use Rattle.pv_laws_steps.specs.Holding.{LeavesOpenFiles, LeavesTree}

-- ---- unveil(2)

-- a process creates a directory, node 2, and forks; then it unveils the directory, and the child does something else
abbrev pub unveiling : Instruction → Program
unveiling other =
    Mkdir (codes "/d")
    ∷ Fork
    ∷ JumpIfZero 0 6
    ∷ Unveil (Some (codes "/d")) (Some (codes "r"))
    ∷ Exit (Number (pos 0))
    ∷ other
    ∷ []

abbrev pub both_there : List ℕ
both_there = replicate 3 1 ++ 2 ∷ []

-- the child opens the directory
abbrev pub unveiling_open : State
unveiling_open = state_after (unveiling (Open (codes "/d") (flags Reading false))) both_there

-- the child renames the directory
abbrev pub table_after : List ℕ → Option Table
table_after pids = option_and_then (λ p. p.table) (process_at (state_after (unveiling (Rename (codes "/d") (codes "/e"))) (both_there ++ pids)) 1)

pub record UnveilExamples : Type 0 where
  -- an unveil of a directory and an open of it satisfy the premises of the law
  pub process : Process
  pub there : process_at unveiling_open 1 ≡ Some process
  pub next_is : next process ≡ calls_for (TheCall.Unveil (Some (codes "/d")) (Some (codes "r")))
  pub way : LeavesTree no_programs unveiling_open 2
  pub unveils : (step no_programs unveiling_open 1).outcome ≡ Value 0
  pub opens : (step no_programs unveiling_open 2).outcome ≡ Value 0
  -- an unveil after a rename of the directory adds an entry for the free name instead of the directory
  pub of_directory : table_after (1 ∷ 2 ∷ []) ≡ Some ((Directory 2, permission_r) ∷ [])
  pub of_name : table_after (2 ∷ 1 ∷ []) ≡ Some ((Name root (codes "d"), permission_r) ∷ [])

-- ---- execve(2)

-- each executable file parses as this program
abbrev pub one_program : Bytes → Option Program
one_program bytes = Some (GetPid ∷ [])

-- the state after steps from a tree with such a file, node 2
abbrev pub state_with_program : Program → List ℕ → State
state_with_program program pids = (run one_program pids (first_state (manifest_tree 14 16 (make (codes "/p") (file_node true (codes "getpid")) ∷ [])) program)).final

-- an open whose descriptor an execve closes
abbrev pub marked : OpenFlags
marked = record (flags Reading false) { close_on_exec = true }

-- a process opens the file with these flags and forks; then it executes the file, and the child does something else
abbrev pub executing : Instruction → Program
executing other =
    Open (codes "/p") marked
    ∷ Fork
    ∷ JumpIfZero 0 6
    ∷ Execve (codes "/p")
    ∷ Exit (Number (pos 0))
    ∷ other
    ∷ []

-- the child closes its descriptor for the open file
abbrev pub executing_both : State
executing_both = state_with_program (executing (Close (Number (pos 0)))) both_there

-- after a fork, a process has the only descriptor for an open file, which an execve closes; the child opens the file
-- too
abbrev pub ending_by_execve : Program
ending_by_execve =
    Fork
    ∷ JumpIfZero 0 6
    ∷ Open (codes "/p") marked
    ∷ Execve (codes "/p")
    ∷ Exit (Number (pos 0))
    ∷ Open (codes "/p") (flags Reading false)
    ∷ []

-- after a fork, a process has an entry for a directory without a name, and executes a file without the table; the child
-- creates a directory
abbrev pub leaving_by_execve : Program
leaving_by_execve =
    Fork
    ∷ JumpIfZero 0 9
    ∷ Mkdir (codes "/d")
    ∷ Unveil (Some (codes "/")) (Some (codes "rwxc"))
    ∷ Unveil (Some (codes "/d")) (Some (codes "rwxc"))
    ∷ Rmdir (codes "/d")
    ∷ Execve (codes "/p")
    ∷ Exit (Number (pos 0))
    ∷ Mkdir (codes "/e")
    ∷ []

pub record ExecveExamples : Type 0 where
  -- an execve that closes a descriptor and a close of the other one satisfy the premises of the law, and remove the
  -- open file
  pub process : Process
  pub there : process_at executing_both 1 ≡ Some process
  pub next_is : next process ≡ calls_for (TheCall.Execve (codes "/p"))
  pub leaves : LeavesTree one_program executing_both 1
  pub files : LeavesOpenFiles one_program executing_both 1
  pub way : LeavesTree one_program executing_both 2
  pub executes : (step one_program executing_both 1).outcome ≡ Value 0
  pub closes : (step one_program executing_both 2).outcome ≡ Value 0
  pub ended : at_number (run one_program (1 ∷ 2 ∷ []) executing_both).final.files 0 ≡ None
  -- an execve after an unlink of the file does not find the name
  pub executed : (step one_program (state_with_program (executing (Unlink (codes "/p"))) both_there) 1).outcome ≡ Value 0
  pub gone : (step one_program (state_with_program (executing (Unlink (codes "/p"))) (both_there ++ 2 ∷ [])) 1).outcome ≡ Failed ENOENT Plain
  -- an open after an execve that removes an open file reuses its number
  pub reused : is_some (at_number (state_with_program ending_by_execve (both_there ++ 1 ∷ 2 ∷ [])).files 0) ≡ true
  pub not_reused : at_number (state_with_program ending_by_execve (both_there ++ 2 ∷ 1 ∷ [])).files 0 ≡ None
  -- a mkdir after an execve that releases a directory with the table reuses its number
  pub freed : find_entry (state_with_program leaving_by_execve (replicate 6 1 ++ 2 ∷ 1 ∷ 2 ∷ [])).tree root (codes "e") ≡ Some 3
  pub not_freed : find_entry (state_with_program leaving_by_execve (replicate 6 1 ++ 2 ∷ 2 ∷ 1 ∷ [])).tree root (codes "e") ≡ Some 4

-- ---- chdir(2) in a full image

-- the state after steps in an image with two inodes, one of which is the root's
abbrev pub state_of_two : Program → List ℕ → State
state_of_two program pids = (run no_programs pids (first_state (manifest_tree 14 2 []) program)).final

-- a process in a directory without a name forks; then it leaves the directory, which its child keeps as working
-- directory, and the child creates another
abbrev pub leaving_both : Program
leaving_both =
    Mkdir (codes "/d")
    ∷ Chdir (codes "/d")
    ∷ Rmdir (codes "/d")
    ∷ Fork
    ∷ JumpIfZero 0 8
    ∷ Chdir (codes "/")
    ∷ Exit (Number (pos 0))
    ∷ Mkdir (codes "/e")
    ∷ []

-- both processes are before these calls
abbrev pub at_calls : List ℕ
at_calls = replicate 5 1 ++ 2 ∷ []

abbrev pub leaving_full : State
leaving_full = state_of_two leaving_both at_calls

pub record FullImageExamples : Type 0 where
  -- a chdir that frees no node, and a mkdir for which there is no inode, satisfy the premises of the law; their
  -- outcomes in either order
  pub process : Process
  pub there : process_at leaving_full 1 ≡ Some process
  pub next_is : next process ≡ calls_for (TheCall.Chdir (codes "/"))
  pub leaves : LeavesTree no_programs leaving_full 1
  pub way : LeavesTree no_programs leaving_full 2
  pub enters : (step no_programs leaving_full 1).outcome ≡ Value 0
  pub refused : (step no_programs (state_of_two leaving_both (at_calls ++ 1 ∷ [])) 2).outcome ≡ Failed ENOSPC Plain
  pub refused_first : (step no_programs leaving_full 2).outcome ≡ Failed ENOSPC Plain
  pub enters_after : (step no_programs (state_of_two leaving_both (at_calls ++ 2 ∷ [])) 1).outcome ≡ Value 0
  -- a chdir that releases its old directory provides an inode
  pub full : (step no_programs (state_of_two leaving at_calls) 2).outcome ≡ Failed ENOSPC Plain
  pub freed : (step no_programs (state_of_two leaving (at_calls ++ 1 ∷ [])) 2).outcome ≡ Value 0
